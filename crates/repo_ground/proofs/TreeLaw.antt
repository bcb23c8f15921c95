-- The objects of a stored tree are those of its flat map.
use Rattle.std.proofs.Common.{◌≡◌, ℕ, zero, suc, ◌≤◌, true, false, cond, ◌||◌, List, [], ◌∷◌, ◌++◌, Option, Some, refl, sym, ap, subst, ◌∙◌, true≢false, arith, le_refl}
use Rattle.std.specs.List.{flat_map}
use Rattle.std.specs.Option.{unwrap_or}
use Rattle.std.specs.Cmp.{first_so, second_so}
use Rattle.std.proofs.lemmas.Bool.{not-true}
use Rattle.git_objects.specs.Paths.{Bytes}
use Rattle.git_objects.specs.Trees.{Leaf, Flat, rests}
use Rattle.git_objects.specs.Names.{body, depth}
use Rattle.git_objects.specs.declared.entry.Entry.{Entry}
use Rattle.git_objects.specs.declared.kind.Kind.TheVariants.{Blob, Tree}
use Rattle.git_objects.specs.declared.mode.Mode.{Mode}
use Rattle.git_objects.specs.declared.mode.Mode.TheVariants.{File, Exec, Link, Module, Dir}
use Rattle.git_objects.proofs.TreeReading.{tree_law}
use Rattle.git_objects.proofs.SharedFronts.{listed}
use Rattle.object_store.specs.Objects.{Object, is_named, has, has_child, body_of, is_body, IsStore, HasChildren}
use Rattle.object_store.specs.Unfolding.{below, joined, flat}
use Rattle.object_store.proofs.Listings.{AreItems, join}
use Rattle.object_store.proofs.Bodies.{leaf_of, tree_of, tops_each}
use Rattle.object_store.proofs.Held.{named_kind, tree_held}
use Rattle.object_store.proofs.Unfolding.{IsFull, entries_held, flat_good, items, items_good, joined-join, node}
use Rattle.repo_ground.specs.StoredObjects.{child_steps, entries_steps, itself, stored_objects, tree_steps}
use Rattle.object_store.specs.TreeObjects.{objects_at, objects_within, tree_objects}
use Rattle.object_store.proofs.Children.{children-held}

-- ---- depths

deep : (c : Bytes) (t s : Flat) (k : ℕ) → IsFull t → depth (below c t ++ s) ≤ k → suc (depth t) ≤ k
deep c [] s k f h = absurd f
deep c (e ∷ []) s k f h = omega arith
deep c (e ∷ d ∷ t) s k f h =
    let l : depth (below c (d ∷ t) ++ s) ≤ k = omega arith in
    let r = deep c (d ∷ t) s k tt l in
    omega (arith, r)

rest-deep : (c : Bytes) (t s : Flat) (k : ℕ) → depth (below c t ++ s) ≤ k → depth s ≤ k
rest-deep c [] s k h = h
rest-deep c (e ∷ t) s k h = rest-deep c t s k (omega arith)

-- ---- entries

abbrev part : ℕ → Option Leaf → Flat → List Object
part k x t = objects_at x (objects_within k t)

module _ (S : List Object) (full : (n : Bytes) → has_child S Dir n ≡ true → IsFull (flat S n))
    (law : (n : Bytes) (k : ℕ) → has Tree S n ≡ true → suc (depth (flat S n)) ≤ k → objects_within k (flat S n) ≡ stored_objects S n) where
  abbrev objects : Mode → Bytes → List Object
  objects m n = child_steps itself [] (body_of Blob S) (stored_objects S) m n

  part-law : (k : ℕ) (c : Bytes) (m : Mode) (n : Bytes) (s : Flat) → has_child S m n ≡ true → depth (below c (rests (node S m n)) ++ s) ≤ k →
      part k (leaf_of (Some (node S m n))) (tree_of (Some (node S m n))) ≡ objects m n
  part-law k c File n s h d = refl
  part-law k c Exec n s h d = refl
  part-law k c Link n s h d = refl
  part-law k c Module n s h d = refl
  part-law k c Dir n s h d = law n k (first_so _ _ h) (deep c (flat S n) s k (full n h) d)

  parts-law : (k : ℕ) (es : List Entry) → HasChildren S es → depth (join (items S es)) ≤ k →
      flat_map (λ i. part k (leaf_of (Some i.1)) (tree_of (Some i.1))) (items S es) ≡ entries_steps itself [] S es
  parts-law k [] h d = refl
  parts-law k (e ∷ es) h d =
      λ i. part-law k e.component e.mode e.name.0 (join (items S es)) h.0 d i
      ++ parts-law k es h.1 (rest-deep e.component (rests (node S e.mode e.name.0)) (join (items S es)) k d) i

  body-law : (k : ℕ) (es : List Entry) (b : Bytes) → AreItems (items S es) → HasChildren S es → suc (depth (joined (body_of Blob S) (flat S) es)) ≤ k → body (joined (body_of Blob S) (flat S) es) ≡ b →
      objects_within k (joined (body_of Blob S) (flat S) es) ≡ entries_steps itself [] S es ++ record { kind = Tree; body = b } ∷ []
  body-law zero es b g h d e = absurd (omega arith)
  body-law (suc k) es b g h d e =
      let j = joined-join (body_of Blob S) (flat S) es in
      let l : depth (joined (body_of Blob S) (flat S) es) ≤ k = omega arith in
      (λ i. objects_within (suc k) (j i))
      ∙ (λ i. tops_each (part k) (items S es) g i ++ record { kind = Tree; body = (ap body (sym j) ∙ e) i } ∷ [])
      ∙ ap (λ (t : List Object). t ++ record { kind = Tree; body = b } ∷ []) (parts-law k es h (subst (λ (t : Flat). depth t ≤ k) j l))

full-dir : (S : List Object) → IsStore S → (n : Bytes) → has_child S Dir n ≡ true → IsFull (flat S n)
full-dir S s n h = (flat_good S s n (first_so _ _ h)).full (not-true _ (second_so _ _ h))

body-flat : (S : List Object) (n : Bytes) → IsStore S → has Tree S n ≡ true → body (flat S n) ≡ body_of Tree S n
unfolding body
body-flat S n s h = (flat_good S s n h).bodied (depth (flat S n)) (le_refl _)

within-law : (S : List Object) → IsStore S → (n : Bytes) (k : ℕ) → has Tree S n ≡ true → suc (depth (flat S n)) ≤ k → objects_within k (flat S n) ≡ stored_objects S n
unfolding flat has tree_steps body_of
within-law [] s n k h d = absurd (true≢false (sym h))
within-law (o ∷ S) s n k h d =
    elim (is_named Tree o n) as (λ t. is_named Tree o n ≡ t → (t || has Tree S n) ≡ true →
    suc (depth (cond t (joined (body_of Blob S) (flat S) (listed o.body)) (flat S n))) ≤ k →
    body (cond t (joined (body_of Blob S) (flat S) (listed o.body)) (flat S n)) ≡ cond t o.body (body_of Tree S n) →
    objects_within k (cond t (joined (body_of Blob S) (flat S) (listed o.body)) (flat S n))
    ≡ cond t (entries_steps itself [] S (listed o.body) ++ record { kind = Tree; body = o.body } ∷ []) (stored_objects S n)) [
      | true ↦ λ e g l b.
          let t = tree_held S o.body (ap (λ k. is_body S k o.body) (sym (named_kind Tree o n e)) ∙ s.0) in
          let r = (tree_law o.body t.entries t.bytes).0 t.read in
          let same : listed o.body ≡ t.entries = ap (λ q. unwrap_or q []) t.read in
          body-law S (full-dir S s.2) (within-law S s.2) k (listed o.body) o.body
          (subst (λ (es : List Entry). AreItems (items S es)) (sym same) (items_good S s.2 (flat_good S s.2) t.entries r.entries (entries_held S t.entries t.held r.names)))
          (subst (λ (es : List Entry). HasChildren S es) (sym same) (children-held S t.entries t.held)) l b
      | false ↦ λ e g l b. within-law S s.2 n k g l
    ] refl h d (body-flat (o ∷ S) n s h)

pub tree_law-stored : (S : List Object) (n : Bytes) → IsStore S → has Tree S n ≡ true → tree_objects (flat S n) ≡ stored_objects S n
unfolding tree_objects
tree_law-stored S n s h = within-law S s n (suc (depth (flat S n))) h (le_refl _)
