use Rattle.std.proofs.Common.{◌≡◌, ◌-◌, true, drop, refl, sym, ap, subst, ◌∙◌, arith, length-drop}
use Rattle.std.specs.List.{slice_range}
use Rattle.std.proofs.lemmas.List.{take_all}
use Rattle.std.specs.Vec.{with_items_from}
use Rattle.git_objects.specs.Paths.{Bytes}
use Rattle.object_store.specs.Filling.{with_piece, written}
use Rattle.object_store.specs.Places.{Intake, HoldsIntake, placed_objects}
use Rattle.object_store.proofs.Pieces.{holds-written, objects-written, piece-written, refilled, written-within}
use Rattle.object_store.proofs.incoming.Incoming.piece_mut.Goals as goal

pub invariant_of-self-lent : goal.invariant_of-self-lent
invariant_of-self-lent c w =
    let inv = c.self.invariant in
    let a = c.self.inside.arena.items in
    let n = c.self.inside.from in
    let opened : c.self.inside.is_open ≡ true = ap (λ (s : Intake). s.is_open) c.self.view_is ∙ c.requires in
    subst (λ (a : Bytes). HoldsIntake a c.self.inside.places.entries c.self.inside.from c.self.inside.is_open) (sym (refilled a n inv.within c.self.inside.arena.len c.self.inside.arena.ok.0 w))
    (record {
      store = holds-written a n inv.within (written (drop n a) w) c.self.inside.places.entries (inv.below opened) inv.store;
      within = written-within a n inv.within w;
      below = inv.below;
    })

pub returns : goal.returns
returns c =
    let inv = c.self.invariant in
    let es = c.self.inside.places.entries in
    let a = c.self.inside.arena.items in
    let n = c.self.inside.from in
    let opened : c.self.inside.is_open ≡ true = ap (λ (s : Intake). s.is_open) c.self.view_is ∙ c.requires in
    let whole : (w : Bytes) → (record { objects = placed_objects (with_items_from c.self.inside.arena c.self.inside.from w).items es; piece = drop c.self.inside.from (with_items_from c.self.inside.arena c.self.inside.from w).items; is_open = c.self.inside.is_open })
    ≡ with_piece c.args.self.now w = λ w.
    let more = written (drop n a) w in
    (λ i. record {
      objects = (ap (λ (b : Bytes). placed_objects b es) (refilled a n inv.within c.self.inside.arena.len c.self.inside.arena.ok.0 w) ∙ objects-written a n inv.within more es (inv.below opened) inv.store) i;
      piece = (ap (drop n) (refilled a n inv.within c.self.inside.arena.len c.self.inside.arena.ok.0 w) ∙ piece-written a n inv.within more) i;
      is_open = c.self.inside.is_open;
    }) ∙ ap (λ (s : Intake). with_piece s w) c.self.view_is in
    let tail : slice_range a n c.self.inside.arena.len ≡ drop n a = take_all (c.self.inside.arena.len - n) (drop n a) (let k = c.self.inside.arena.ok.0 in omega (arith, length-drop n a, k)) in
    ((refl, whole), record { lends = tt; piece = c.slice_mut.ensures.value ∙ tail ∙ ap (λ (s : Intake). s.piece) c.self.view_is })
