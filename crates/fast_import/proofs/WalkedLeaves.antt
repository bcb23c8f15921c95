-- A walk that goes over a stored tree.
use Rattle.std.proofs.Common.{◌≡◌, true, false, ◌∷◌, ◌++◌, [], List, Bool, Option, Some, None, refl, sym, ap, subst, ◌∙◌, append_assoc, append-nil}
use Rattle.std.specs.Option.{option_map}
use Rattle.git_objects.specs.Paths.{Bytes, Path}
use Rattle.git_objects.specs.Trees.{Leaf, Flat}
use Rattle.git_objects.specs.Names.{leaf_mode, leaf_name}
use Rattle.git_objects.specs.declared.kind.Kind.TheVariants.{Blob, Tree}
use Rattle.object_store.specs.Objects.{Object, IsStore, body_of, has, has_child}
use Rattle.object_store.specs.Unfolding.{flat}
use Rattle.path_trees.specs.Walked.{Walked, IsStep, leaf_of}
use Rattle.path_trees.specs.declared.found.Leaf.{Leaf as FoundLeaf}
use Rattle.fast_import.proofs.StoredLeaves.{IsStoredLeaf, AreStoredLeaves, stored_leaves}

-- these leaves are passed, and the others are left
pub record IsPassed (S : List Object) (t done left : Flat) : Type 0 where
  pub parts : done ++ left ≡ t
  pub stored : AreStoredLeaves S left

pub none_passed : (S : List Object) (n : Bytes) (w : Walked) → IsStore S → has Tree S n ≡ true → w ≡ record { current = None; left = flat S n } → IsPassed S (flat S n) [] w.left
none_passed S n w s h e = subst (IsPassed S (flat S n) []) (sym (ap (λ (v : Walked). v.left) e)) (record { parts = refl; stored = stored_leaves S s n h })

-- a step that answers true comes to a leaf
pub stepped : (S : List Object) (t done before : Flat) (more : Bool) (w : Walked) → IsPassed S t done before → IsStep before more w → more ≡ true → (e : Path × Leaf) × (w.current ≡ Some e) × IsPassed S t (done ++ e ∷ []) w.left × IsStoredLeaf S e.1
stepped S t done [] more w p s h = absurd cc
stepped S t done (e ∷ rest) more w p s h =
    (e, ap (λ (v : Walked). v.current) s.1, subst (IsPassed S t (done ++ e ∷ [])) (sym (ap (λ (v : Walked). v.left) s.1)) (record { parts = append_assoc done (e ∷ []) rest ∙ p.parts; stored = p.stored.1 }), p.stored.0)

-- and one that answers false has passed all
pub all_passed : (S : List Object) (t done before : Flat) (more : Bool) (w : Walked) → IsPassed S t done before → IsStep before more w → more ≡ false → done ≡ t
all_passed S t done [] more w p s h = sym (append-nil done) ∙ p.parts
all_passed S t done (e ∷ rest) more w p s h = absurd cc

-- a leaf that the walk tells
pub leaf_here : (S : List Object) (o : Option (Path × Leaf)) (e : Path × Leaf) (leaf : FoundLeaf) → o ≡ Some e → option_map (λ (e : Path × Leaf). leaf_mode e.1) o ≡ Some leaf.mode → option_map (λ (e : Path × Leaf). leaf_name e.1) o ≡ Some leaf.name.0
    → IsStoredLeaf S e.1 → (has_child S leaf.mode leaf.name.0 ≡ true) × (leaf_of (body_of Blob S) leaf.mode leaf.name.0 ≡ e.1)
leaf_here S o e leaf at m n h =
    let mode : leaf_mode e.1 ≡ leaf.mode = let f : Some (leaf_mode e.1) ≡ Some leaf.mode = sym (ap (option_map (λ (e : Path × Leaf). leaf_mode e.1)) at) ∙ m in cc in
    let name : leaf_name e.1 ≡ leaf.name.0 = let f : Some (leaf_name e.1) ≡ Some leaf.name.0 = sym (ap (option_map (λ (e : Path × Leaf). leaf_name e.1)) at) ∙ n in cc in
    ((λ i. has_child S (sym mode i) (sym name i)) ∙ h.0, (λ i. leaf_of (body_of Blob S) (sym mode i) (sym name i)) ∙ h.1)
