use Rattle.std.proofs.Common.{◌≡◌, ◌+◌, ◌-◌, ◌++◌, ℕ, length, take, drop, replicate, true, sym, ap, subst, ◌∙◌, arith, length-append}
use Rattle.std.proofs.Math.Seq.{drop-append_seam}
use Rattle.git_objects.specs.Paths.{Bytes}
use Rattle.object_store.specs.Places.{Intake, AreBelow, HoldsIntake, placed_objects}
use Rattle.object_store.proofs.Pieces.{all-below, filled, holds-longer, objects-longer}
use Rattle.object_store.proofs.incoming.Incoming.begin.Goals as goal

module _ (c : goal.After-self-2-1) where
  abbrev arena : Bytes
  arena = c.self.inside.arena.items

  at_end : c.len-from.result ≡ length arena
  at_end = c.len-from.ensures ∙ c.self.inside.arena.ok.0

  reserved : c.try_reserve.new.self.items ≡ arena
  reserved = c.in_ok-try_reserve.ensures.items

  after : c.resize.new.self.items ≡ arena ++ replicate c.args.size 0
  after =
      c.in_ok-resize.ensures.items
      ∙ (λ i. take (c.len-from.result + c.args.size) (reserved i) ++ replicate ((c.len-from.result + c.args.size) - c.try_reserve.new.self.len) 0)
      ∙ filled arena c.args.size c.len-from.result c.try_reserve.new.self.len at_end (c.try_reserve.new.self.ok.0 ∙ ap length reserved)

pub invariant_of-self-2 : goal.invariant_of-self-2
invariant_of-self-2 c =
    let inv = c.self.invariant in
    let more = replicate c.args.size 0 in
    let end = at_end c in
    subst (λ (a : Bytes). HoldsIntake a c.self.inside.places.entries c.len-from.result true) (sym (after c))
    (record {
      store = holds-longer (arena c) more c.self.inside.places.entries inv.store;
      within = omega (arith, length-append (arena c) more, end);
      below = λ _. subst (λ (n : ℕ). AreBelow n c.self.inside.places.entries) (sym end) (all-below _ _ inv.store.placed);
    })

pub returns-clause-ok : goal.returns-clause-ok
returns-clause-ok c =
    let es = c.self.inside.places.entries in
    let more = replicate c.args.size 0 in
    let piece : drop c.len-from.result c.resize.new.self.items ≡ more =
    ap (drop c.len-from.result) (after c) ∙ ap (λ (n : ℕ). drop n (arena c ++ more)) (at_end c) ∙ drop-append_seam (arena c) more in
    let objects : placed_objects c.resize.new.self.items es ≡ c.args.self.now.objects =
    ap (λ (a : Bytes). placed_objects a es) (after c) ∙ objects-longer (arena c) more es c.self.invariant.store ∙ ap (λ (s : Intake). s.objects) c.self.view_is in
    λ i. record { objects = objects i; piece = piece i; is_open = true }
