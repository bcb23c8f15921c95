-- Two listings without a clash: where both have a component, it is a directory in both.
use Rattle.std.proofs.Common.{◌≡◌, true, false, cond, List, [], ◌∷◌, refl, sym, ap, subst, ◌∙◌, Option, Some, None}
use Rattle.std.specs.Option.{option_map, option_or}
use Rattle.std.specs.Cmp.Lexicographic.{bytes_decides}
use Rattle.git_objects.specs.Paths.{Bytes, Path, same_bytes, comparable}
use Rattle.git_objects.specs.Trees.{Leaf, Flat, rests}
use Rattle.git_objects.specs.Entries.{is_dir, Before, entry_component, entry_dir, AreEntries}
use Rattle.git_objects.specs.declared.entry.Entry.{Entry}
use Rattle.git_objects.specs.declared.mode.Mode.{Mode}
use Rattle.git_objects.specs.declared.kind.Kind.TheVariants.{Blob}
use Rattle.git_objects.proofs.Basics.{same_bytes-back, same_bytes-self}
use Rattle.git_objects.specs.Lists.{Each}
use Rattle.object_store.specs.Objects.{Object, has_child, body_of, IsStore}
use Rattle.object_store.specs.Unfolding.{flat}
use Rattle.object_store.proofs.Unfolding.{node, IsFull, IsHeld, AreHeld, flat_good}
use Rattle.path_trees.specs.Clashes.{clash}
use Rattle.path_trees.specs.Listed.{entry_at, found, found_at}
use Rattle.path_trees.specs.Walked.{leaf_of}
use Rattle.path_trees.proofs.Grown.{joined_in}
use Rattle.path_trees.proofs.Levels.{rests_of}
use Rattle.path_trees.proofs.Trees.{AreGood}
use Rattle.path_trees.proofs.Walks.{leaf_rests, dir_rests, held_dir}
use Rattle.path_trees.proofs.Clashing.{behind, clash-joined}

-- entries of one component are directories without a clash
abbrev pub IsPair : List Object → Entry → Entry → Type 0
IsPair S e f = same_bytes e.component f.component ≡ true → (is_dir e.mode ≡ true) × (is_dir f.mode ≡ true) × (clash (flat S e.name.0) (flat S f.name.0) ≡ None)

abbrev pub ArePairs : List Object → List Entry → List Entry → Type 0
ArePairs S es fs = Each (λ e. Each (λ f. IsPair S e f) fs) es

-- ---- what has no clash

pub neither : {A : Type 0} (x y : Option A) → option_or x y ≡ None → (x ≡ None) × (y ≡ None)
neither None y h = (refl, h)
neither (Some x) y h = cc

pub unmapped : {A B : Type 0} (f : A → B) (x : Option A) → option_map f x ≡ None → x ≡ None
unmapped f None h = refl
unmapped f (Some x) h = cc

-- a path is comparable with the empty one
pub with_empty : (p : Path) → comparable p [] ≡ true
with_empty [] = refl
with_empty (c ∷ p) = refl

some_none : {A : Type 0} {x : A} → Some x ≡ None → ⊥
some_none h = cc

leaf_first : (x : Leaf) (t : Flat) → IsFull t → clash (([], x) ∷ []) t ≡ None → ⊥
leaf_first x [] f h = f
leaf_first x (d ∷ t) f h = cc

leaf_second : (x : Leaf) (t : Flat) → IsFull t → clash t (([], x) ∷ []) ≡ None → ⊥
leaf_second x [] f h = f
leaf_second x (d ∷ t) f h = some_none (sym (ap (λ b. option_or (option_map {U = Path × Path} (λ q. (d.0, q)) (cond b (Some []) None)) (clash t (([], x) ∷ []))) (with_empty d.0)) ∙ h)

module _ (S : List Object) (s : IsStore S) where
  pub rests_full : (m : Mode) (n : Bytes) → has_child S m n ≡ true → IsFull (rests (node S m n))
  rests_full m n h = elim (is_dir m) as (λ b. is_dir m ≡ b → IsFull (rests (node S m n))) [
    | true ↦ λ d. let held = held_dir S m n d h in subst IsFull (sym (dir_rests S m n d)) ((flat_good S s n held.0).full held.1)
    | false ↦ λ d. subst IsFull (sym (leaf_rests S m n d)) tt
  ] refl

  both_directories : (m k : Mode) (n l : Bytes) → has_child S m n ≡ true → has_child S k l ≡ true → clash (rests (node S m n)) (rests (node S k l)) ≡ None →
      (is_dir m ≡ true) × (is_dir k ≡ true) × (clash (flat S n) (flat S l) ≡ None)
  both_directories m k n l h g c = elim (is_dir m) as (λ b. is_dir m ≡ b → (is_dir m ≡ true) × (is_dir k ≡ true) × (clash (flat S n) (flat S l) ≡ None)) [
    | true ↦ λ d. elim (is_dir k) as (λ b. is_dir k ≡ b → (is_dir m ≡ true) × (is_dir k ≡ true) × (clash (flat S n) (flat S l) ≡ None)) [
      | true ↦ λ e. (d, e, (λ i. clash (sym (dir_rests S m n d) i) (sym (dir_rests S k l e) i)) ∙ c)
      | false ↦ λ e. absurd (leaf_second (leaf_of (body_of Blob S) k l) (rests (node S m n)) (rests_full m n h) (ap (clash (rests (node S m n))) (sym (leaf_rests S k l e)) ∙ c))
    ] refl
    | false ↦ λ d. absurd (leaf_first (leaf_of (body_of Blob S) m n) (rests (node S k l)) (rests_full k l g) (ap (λ (t : Flat). clash t (rests (node S k l))) (sym (leaf_rests S m n d)) ∙ c))
  ] refl

  -- ---- entry by entry

  each_clear : (es fs : List Entry) → AreEntries fs → clash (joined_in S es) (joined_in S fs) ≡ None → Each (λ e. clash (rests (node S e.mode e.name.0)) (rests_of S (found_at e.component fs)) ≡ None) es
  each_clear [] fs h c = tt
  each_clear (e ∷ es) fs h c =
      let own = clash (rests (node S e.mode e.name.0)) (rests_of S (found_at e.component fs)) in
      let r = neither (option_map (behind e.component) own) (clash (joined_in S es) (joined_in S fs)) (sym (clash-joined S e es fs h) ∙ c) in
      (unmapped (behind e.component) own r.0, each_clear es fs h r.1)

  later_found : (d : Entry) (fs gs : List Entry) → Before entry_component entry_dir d gs → Each (λ f. found_at f.component fs ≡ Some (found f)) gs → Each (λ f. found_at f.component (d ∷ fs) ≡ Some (found f)) gs
  later_found d fs [] h g = tt
  later_found d fs (f ∷ gs) h g =
      (ap (λ b. option_map found (cond b (Some d) (entry_at f.component fs))) (same_bytes-back f.component d.component ∙ h.1) ∙ g.0, later_found d fs gs h.2 g.1)

  pub each_found : (fs : List Entry) → AreEntries fs → Each (λ f. found_at f.component fs ≡ Some (found f)) fs
  each_found [] h = tt
  each_found (f ∷ fs) h = (ap (λ b. option_map found (cond b (Some f) (entry_at f.component fs))) (same_bytes-self f.component), later_found f fs fs h.1 (each_found fs h.2))

  pair_row : (e : Entry) (fs gs : List Entry) → IsHeld S e → AreHeld S gs → clash (rests (node S e.mode e.name.0)) (rests_of S (found_at e.component fs)) ≡ None → Each (λ f. found_at f.component fs ≡ Some (found f)) gs → Each (λ f. IsPair S e f) gs
  pair_row e fs [] h g c k = tt
  pair_row e fs (f ∷ gs) h g c k = (
    (λ same. both_directories e.mode f.mode e.name.0 f.name.0 h.child g.0.child
        (ap (λ o. clash (rests (node S e.mode e.name.0)) (rests_of S o)) (sym (ap (λ x. found_at x fs) ((bytes_decides e.component f.component).0 same) ∙ k.0)) ∙ c)),
    pair_row e fs gs h g.1 c k.1,
  )

  pair_rows : (es fs : List Entry) → AreHeld S es → AreHeld S fs → Each (λ e. clash (rests (node S e.mode e.name.0)) (rests_of S (found_at e.component fs)) ≡ None) es → Each (λ f. found_at f.component fs ≡ Some (found f)) fs → ArePairs S es fs
  pair_rows [] fs h g c k = tt
  pair_rows (e ∷ es) fs h g c k = (pair_row e fs fs h.0 g c.0 k, pair_rows es fs h.1 g c.1 k)

  pub are_pairs : (es fs : List Entry) → AreGood S es → AreGood S fs → clash (joined_in S es) (joined_in S fs) ≡ None → ArePairs S es fs
  are_pairs es fs h g c = pair_rows es fs h.held g.held (each_clear es fs g.entries c) (each_found fs g.entries)
