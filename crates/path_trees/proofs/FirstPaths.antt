-- The first paths of two trees, of which one is a leaf.
use Rattle.std.proofs.Common.{◌≡◌, Bool, true, false, cond, ◌&&◌, List, [], ◌∷◌, ◌++◌, Some, None, refl, sym, ap, subst, ◌∙◌, true≢false}
use Rattle.std.specs.Option.{option_map, option_or}
use Rattle.git_objects.specs.Paths.{Path}
use Rattle.git_objects.specs.Trees.{Leaf, Flat, rests}
use Rattle.git_objects.specs.Entries.{is_dir}
use Rattle.git_objects.specs.declared.kind.Kind.TheVariants.{Blob}
use Rattle.object_store.specs.Objects.{Object, IsStore, has_child, body_of}
use Rattle.object_store.proofs.Unfolding.{IsFull}
use Rattle.path_trees.specs.Clashes.{clash}
use Rattle.path_trees.specs.Paired.{first_behind, pair_behind}
use Rattle.path_trees.specs.Standing.{node}
use Rattle.path_trees.specs.Walked.{Walked, IsStep, behind, leaf_of}
use Rattle.path_trees.specs.declared.found.Found.{Found}
use Rattle.path_trees.proofs.Apart.{with_empty, rests_full}
use Rattle.path_trees.proofs.Walks.{leaf_rests}

same_paths : {x y : Path × Leaf} → Some x ≡ Some y → x ≡ y
same_paths h = cc

-- the path of the first step
pub step_path : (p : Path) (t l : Flat) (x : Path × Leaf) (more : Bool) (v : Walked) → l ≡ behind p t ++ [] → v.current ≡ Some x → IsStep l more v → Some x.0 ≡ first_behind p t
step_path p [] l x more v e h k = let i = (subst (λ (m : Flat). IsStep m more v) e k).1 in let none : None ≡ Some x = ap (λ (w : Walked). w.current) (sym i) ∙ h in cc
step_path p (d ∷ t) l x more v e h k =
    let i = (subst (λ (m : Flat). IsStep m more v) e k).1 in
    ap (λ (y : Path × Leaf). Some y.0) (sym (same_paths (ap (λ (w : Walked). w.current) (sym i) ∙ h)))

-- there is a first step
pub some_step : (p : Path) (t l : Flat) (v : Walked) → l ≡ behind p t ++ [] → IsFull t → IsStep l false v → ⊥
some_step p [] l v e f k = f
some_step p (d ∷ t) l v e f k = true≢false (sym (subst (λ (m : Flat). IsStep m false v) e k).0)

leaf_left : (p : Path) (x : Leaf) (t : Flat) (own by : Path) → IsFull t → Some own ≡ first_behind p (([], x) ∷ []) → Some by ≡ first_behind p t → Some (own, by) ≡ option_map (pair_behind p) (clash (([], x) ∷ []) t)
leaf_left p x [] own by f h g = absurd f
leaf_left p x (d ∷ t) own by f h g = let i : own ≡ p ++ [] = cc in let j : by ≡ p ++ d.0 = cc in λ k. Some (i k, j k)

leaf_right : (p : Path) (x : Leaf) (t : Flat) (own by : Path) → IsFull t → Some own ≡ first_behind p t → Some by ≡ first_behind p (([], x) ∷ []) → Some (own, by) ≡ option_map (pair_behind p) (clash t (([], x) ∷ []))
leaf_right p x [] own by f h g = absurd f
leaf_right p x (d ∷ t) own by f h g =
    let i : own ≡ p ++ d.0 = cc in let j : by ≡ p ++ [] = cc in
    (λ k. Some (i k, j k))
    ∙ ap (λ b. option_map (pair_behind p) (option_or (option_map {U = Path × Path} (λ q. (d.0, q)) (cond b (Some []) None)) (clash t (([], x) ∷ [])))) (sym (with_empty d.0))

not_both : (b : Bool) → (true && b) ≡ false → b ≡ false
not_both b h = h

pub first_paths : (S : List Object) (s : IsStore S) (p : Path) (l r : Found) (own by : Path) → has_child S l.mode l.name.0 ≡ true → has_child S r.mode r.name.0 ≡ true → (is_dir l.mode && is_dir r.mode) ≡ false →
    Some own ≡ first_behind p (rests (node S l)) → Some by ≡ first_behind p (rests (node S r)) → Some (own, by) ≡ option_map (pair_behind p) (clash (rests (node S l)) (rests (node S r)))
first_paths S s p l r own by h g c i j = elim (is_dir l.mode) as (λ b. is_dir l.mode ≡ b → (b && is_dir r.mode) ≡ false → Some (own, by) ≡ option_map (pair_behind p) (clash (rests (node S l)) (rests (node S r)))) [
  | true ↦ λ d k.
      let e = leaf_rests S r.mode r.name.0 k in
      leaf_right p (leaf_of (body_of Blob S) r.mode r.name.0) (rests (node S l)) own by (rests_full S s l.mode l.name.0 h) i (j ∙ ap (first_behind p) e) ∙ ap (λ (t : Flat). option_map (pair_behind p) (clash (rests (node S l)) t)) (sym e)
  | false ↦ λ d k.
      let e = leaf_rests S l.mode l.name.0 d in
      leaf_left p (leaf_of (body_of Blob S) l.mode l.name.0) (rests (node S r)) own by (rests_full S s r.mode r.name.0 g) (i ∙ ap (first_behind p) e) j ∙ ap (λ (t : Flat). option_map (pair_behind p) (clash t (rests (node S r)))) (sym e)
] refl c
