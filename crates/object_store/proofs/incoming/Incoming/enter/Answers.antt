use Rattle.std.proofs.Common.{◌≡◌, ◌+◌, ◌≤◌, ◌++◌, ◌∷◌, [], ℕ, length, take, drop, Bool, true, false, List, None, sym, ap, subst, ◌∙◌, arith, length-drop}
use Rattle.std.specs.List.{slice_range}
use Rattle.indexmap.proofs.CallerLemmas.{insert_entry-new}
use Rattle.git_objects.specs.Paths.{Bytes, same_bytes}
use Rattle.git_objects.specs.Names.{name}
use Rattle.git_objects.specs.declared.name.Name.{Name}
use Rattle.object_store.specs.Objects.{Object, find_named, is_body}
use Rattle.object_store.specs.Places.{Intake, HoldsStore, placed_objects}
use Rattle.object_store.specs.Sizes.{sizes}
use Rattle.object_store.specs.Unfolding.{body_flat}
use Rattle.object_store.specs.declared.shelf.Place.{Place}
use Rattle.object_store.proofs.Adding.{from_ok}
use Rattle.object_store.proofs.Finding.{nothing-placed}
use Rattle.object_store.proofs.Pieces.{holds-entered, objects-entered, part-of-piece, place as place_at}
use Rattle.object_store.proofs.incoming.Incoming.enter.Goals as goal

abbrev same : Name → Name → Bool
same x y = same_bytes x.0 y.0

module _ (c : goal.Else-is_err) where
  abbrev arena : Bytes
  arena = c.self.inside.arena.items

  abbrev places : List (Name × Place)
  places = c.self.inside.places.entries

  abbrev at : ℕ
  at = c.self.inside.from + c.args.at

  abbrev old : List Object
  old = placed_objects arena places

  abbrev body : Bytes
  body = slice_range arena at (at + c.args.len)

  old_is : old ≡ c.args.self.now.objects
  old_is = ap (λ (s : Intake). s.objects) c.self.view_is

  body_is : body ≡ take c.args.len (drop c.args.at c.args.self.now.piece)
  body_is = part-of-piece arena c.self.inside.from c.args.at c.args.len ∙ ap (λ (s : Intake). take c.args.len (drop c.args.at s.piece)) c.self.view_is

  named : c.args.key.0 ≡ name c.args.kind body
  named = c.requires.key ∙ ap (name c.args.kind) (sym body_is)

  not_held : find_named old c.args.key.0 ≡ None
  not_held = ap (λ (S : List Object). find_named S c.args.key.0) old_is ∙ c.requires.new

  whole : is_body old c.args.kind body ≡ true
  whole = (λ i. is_body (old_is i) c.args.kind (body_is i)) ∙ c.requires.body

  within : at + c.args.len ≤ length arena
  within =
      let w : c.args.at + c.args.len ≤ length (drop c.self.inside.from arena) = subst (λ (s : Intake). c.args.at + c.args.len ≤ length s.piece) (sym c.self.view_is) c.requires.within in
      let f : c.self.inside.from ≤ length arena = c.self.invariant.within in
      omega (arith, length-drop c.self.inside.from arena)

  after : c.insert.new.self.entries ≡ places ++ (c.args.key, place_at c.args.kind c.args.key arena at c.args.len c.args.stats places) ∷ []
  after =
      from_ok c.insert.result c.if-is_err.ensures.value c.insert.ensures.entries
      ∙ insert_entry-new same c.self.inside.places c.args.key (place_at c.args.kind c.args.key arena at c.args.len c.args.stats places) (nothing-placed arena places c.args.key c.self.invariant.store not_held)

  held : HoldsStore arena c.insert.new.self.entries
  held = subst (λ (es : List (Name × Place)). HoldsStore arena es) (sym after)
      (holds-entered c.args.kind c.args.key arena at c.args.len c.args.stats places within c.self.invariant.store named not_held whole
      (c.requires.stats ∙ (λ i. sizes (body_flat (sym old_is i) c.args.kind (sym body_is i)))))

  none_open : {X : Type 0} → false ≡ true → X
  none_open h = cc

pub invariant_of-self-2 : goal.invariant_of-self-2
invariant_of-self-2 c = record { store = held c; within = c.self.invariant.within; below = λ e. none_open c e }

pub returns-clause-ok : goal.returns-clause-ok
returns-clause-ok c =
    ap (λ (es : List (Name × Place)). placed_objects (arena c) es) (after c)
    ∙ objects-entered c.args.kind c.args.key (arena c) (at c) c.args.len c.args.stats (places c)
    ∙ (λ i. record { kind = c.args.kind; body = body_is c i } ∷ old_is c i)

pub returns-clause-store : goal.returns-clause-store
returns-clause-store c = (held c).store
