use Rattle.std.proofs.Common.{◌≡◌, Bool, true, false, not, List, [], ◌∷◌, ◌++◌, Option, Some, None, refl, sym, ap, ◌∙◌}
use Rattle.std.specs.Prelude.{slice_get}
use Rattle.std.specs.Option.{option_map, is_none, is_some}
use Rattle.git_objects.specs.Paths.{is_nil}
use Rattle.git_objects.specs.Trees.{Flat, rests}
use Rattle.git_objects.specs.Views.{entry_value}
use Rattle.git_objects.specs.declared.entry.Entry.{Entry}
use Rattle.object_store.specs.Objects.{Object, IsStore}
use Rattle.object_store.specs.Unfolding.{below}
use Rattle.object_store.proofs.Unfolding.{IsFull, AreHeld, node}
use Rattle.path_trees.proofs.Grown.{joined_in}
use Rattle.path_trees.proofs.Walks.{listed_good}
use Rattle.path_trees.proofs.Apart.{rests_full}
use Rattle.path_trees.proofs.join.is_empty.Goals as goal

full_front : (c : List Rattle.std.proofs.Common.ℕ) (t s : Flat) → IsFull t → is_nil (below c t ++ s) ≡ false
full_front c [] s h = absurd h
full_front c (e ∷ t) s h = refl

no_path : (S : List Object) (s : IsStore S) (es : List Entry) → AreHeld S es → is_none (slice_get es 0) ≡ is_nil (joined_in S es)
no_path S s [] h = refl
no_path S s (e ∷ es) h = sym (full_front e.component (rests (node S e.mode e.name.0)) (joined_in S es) (rests_full S s e.mode e.name.0 h.0.child))

told : {A : Type 0} (o : Option A) (r : Bool) → is_some o ≡ not r → r ≡ is_none o
told None true h = refl
told None false h = h
told (Some x) true h = h
told (Some x) false h = refl

unmapped : {A B : Type 0} (f : A → B) (o : Option A) → is_none o ≡ is_none (option_map f o)
unmapped f None = refl
unmapped f (Some x) = refl

pub returns-clause-empty : goal.returns-clause-empty
returns-clause-empty c =
    let S = c.args.store.now in
    let g = listed_good S c.args.name.now.0 c.entries_at.result c.entries_at.ensures.store c.requires c.entries_at.ensures.listed in
    told c.next.result c.is_none.result c.is_none.ensures ∙ unmapped entry_value c.next.result ∙ ap is_none c.next.ensures.entry ∙ no_path S c.entries_at.ensures.store c.entries_at.result g.0.held ∙ ap is_nil (sym g.1)
