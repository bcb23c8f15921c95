-- The filter `:/a` is a lens, and shows what lies below a.
use Rattle.std.proofs.Common.{◌≡◌, Bool, true, false, cond, not, T, [], ◌∷◌, ◌++◌, refl, sym, ap, subst, ◌∙◌, Option, Some, None, true≢false}
use Rattle.std.specs.List.{list_all, cons_option}
use Rattle.std.specs.Cmp.Lexicographic.{bytes_decides}
use Rattle.std.specs.FinMap.{is_sorted}
use Rattle.git_objects.specs.Paths.{Bytes, Path, same_bytes, is_component, is_path, comparable, path_cmp}
use Rattle.git_objects.specs.Trees.{Leaf, FileLeaf, is_leaf, Flat, IsTree, rest_below, moved, under}
use Rattle.git_objects.proofs.Basics.{both, first, second, same_bytes-self, list_all-append}
use Rattle.git_objects.proofs.Pointwise.{from-T}
use Rattle.git_objects.proofs.Under.{under-tree, comparable_below}
use Rattle.filter_routes.specs.Lenses.{IsLens, entered, seen_through}
use Rattle.filter_unapply.specs.Laying.{below}
use Rattle.filter_routes.proofs.Carried.{put_front}

pub rest_is : (a p q : Path) → rest_below a p ≡ Some q → p ≡ a ++ q
rest_is [] [] q e = cc
rest_is [] (d ∷ p) q e = cc
rest_is (c ∷ a) [] q e = cc
rest_is (c ∷ a) (d ∷ p) q e =
    elim (same_bytes c d) as (λ b. same_bytes c d ≡ b → cond b (rest_below a p) None ≡ Some q → d ∷ p ≡ c ∷ a ++ q) [
      | true ↦ λ k g. λ i. sym ((bytes_decides c d).0 k) i ∷ rest_is a p q g i
      | false ↦ λ k g. cc
    ] refl e

pub rest_behind : (a : Path) (d : Bytes) (q : Path) → rest_below a (a ++ d ∷ q) ≡ Some (d ∷ q)
rest_behind [] d q = refl
rest_behind (c ∷ a) d q = ap (λ b. cond b (rest_below a (a ++ d ∷ q)) None) (same_bytes-self c) ∙ rest_behind a d q

pub rest_of_path : (a q : Path) → is_path q ≡ true → rest_below a (a ++ q) ≡ Some q
rest_of_path a [] h = absurd (true≢false (sym h))
rest_of_path a (d ∷ q) h = rest_behind a d q

pub path_behind : (a q : Path) → T (is_path a) → T (is_path q) → T (is_path (a ++ q))
path_behind [] q h g = absurd h
path_behind (c ∷ a) [] h g = absurd g
path_behind (c ∷ a) (d ∷ q) h g = list_all-append is_component (c ∷ a) (d ∷ q) h g

-- a rest is a path, as those of a tree's paths are
alone : (p : Path) → T (is_path p) → IsTree ((p, FileLeaf []) ∷ [])
alone p h = record { sorted = tt; paths = both (is_path p) true h tt; leaves = tt; apart = tt }

rest_path : (a p q : Path) → T (is_path p) → rest_below a p ≡ Some q → T (is_path q)
rest_path a p q h e =
    first (is_path q) true (subst (λ (o : Option Path). T (list_all (λ (e : Path × Leaf). is_path e.0) (cons_option (moved o (FileLeaf [])) []))) e (under-tree ((p, FileLeaf []) ∷ []) a (alone p h)).paths)

valid : (b : Bool) → b ≡ true → T b
valid b h = subst T (sym h) tt

pub below-lens : (a : Path) → is_path a ≡ true → IsLens (below a)
below-lens a h = record {
  image_path = λ p q v e. from-T (is_path q) (rest_path a p q (valid (is_path p) v) e);
  image_origin = λ p q v e. ap Some (sym (rest_is a p q e));
  origin_path = λ p q v e. let same : a ++ q ≡ p = cc in ap is_path (sym same) ∙ from-T (is_path (a ++ q)) (path_behind a q (valid (is_path a) h) (valid (is_path q) v));
  origin_image = λ p q v e. let same : a ++ q ≡ p = cc in ap (rest_below a) (sym same) ∙ rest_of_path a q v;
  apart = λ p r q s v w e g k. comparable_below a p r q s e g ∙ k;
}

-- ---- what is shown

pub tree-tail : (e : Path × Leaf) (t : Flat) → IsTree (e ∷ t) → IsTree t
tree-tail e t h = record {
  sorted = second _ _ h.sorted;
  paths = second (is_path e.0) _ h.paths;
  leaves = second (is_leaf e.1) _ h.leaves;
  apart = second (list_all (λ d. not (comparable e.0 d.0)) t) _ h.apart;
}

pub shows-under : (a : Path) (t : Flat) → IsTree t → seen_through (below a) t ≡ under t a
shows-under a [] h = refl
shows-under a (e ∷ t) h = ap (entered (rest_below a e.0) e.1) (shows-under a t (tree-tail e t h)) ∙ by (rest_below a e.0) (under-tree (e ∷ t) a h).sorted
  where
    by : (o : Option Path) → T (is_sorted path_cmp (cons_option (moved o e.1) (under t a))) → entered o e.1 (under t a) ≡ cons_option (moved o e.1) (under t a)
    by None k = refl
    by (Some r) k = put_front r e.1 (under t a) (first _ _ k)
