-- The entries of a tree, and the order of their paths.
use Rattle.std.proofs.Common.{◌≡◌, true, false, cond, T, [], ◌∷◌, refl, sym, ap, ◌∙◌, Some}
use Rattle.std.specs.List.{list_all}
use Rattle.std.specs.Ordering.{is_lt, ordering_reverse}
use Rattle.std.specs.Cmp.{tied_itself}
use Rattle.std.specs.FinMap.{is_sorted}
use Rattle.std.specs.FinMap.Entries.{below_all}
use Rattle.git_objects.specs.Lists.{Each}
use Rattle.git_objects.specs.Paths.{Path, same_path, path_cmp}
use Rattle.git_objects.specs.Trees.{Leaf, Flat, at}
use Rattle.git_objects.proofs.Basics.{both, first, second}
use Rattle.git_objects.proofs.Order.{path_cmp-total, path_decides}
use Rattle.git_objects.proofs.Pointwise.{all_at, each_at}
use Rattle.filter_routes.proofs.Carried.{is_less}

each_from : (P : Path × Leaf → Type 0) (t s : Flat) → Each (λ d. at t d.0 ≡ Some d.1) s → ((d : Path × Leaf) → at t d.0 ≡ Some d.1 → P d) → Each P s
each_from P t [] g is = tt
each_from P t (d ∷ s) g is = (is d g.0, each_from P t s g.1 is)

-- of each entry of a tree
pub each_entry : (P : Path × Leaf → Type 0) (t : Flat) → T (is_sorted path_cmp t) → ((d : Path × Leaf) → at t d.0 ≡ Some d.1 → P d) → Each P t
each_entry P t h is = each_from P t t (each_at t h) is

pub below_path : (p q : Path) (y : Leaf) (t : Flat) → T (below_all path_cmp p t) → at t q ≡ Some y → T (is_lt (path_cmp p q))
below_path p q y t h e = all_at (λ r. is_lt (path_cmp p r)) t q y (as_list t h) e
  where
    as_list : (s : Flat) → T (below_all path_cmp p s) → T (list_all (λ d. is_lt (path_cmp p d.0)) s)
    as_list [] g = tt
    as_list (d ∷ s) g = both (is_lt (path_cmp p d.0)) _ (first (is_lt (path_cmp p d.0)) _ g) (as_list s (second (is_lt (path_cmp p d.0)) _ g))

pub not_before_itself : (p q : Path) → p ≡ q → is_lt (path_cmp p q) ≡ false
not_before_itself p q e = ap is_lt (ap (path_cmp p) (sym e) ∙ tied_itself path_cmp-total p)

-- no path of a tree stands in front of its first
pub not_before : (d : Path × Leaf) (t : Flat) → T (below_all path_cmp d.0 t) → (p : Path) (y : Leaf) → at (d ∷ t) p ≡ Some y → is_lt (path_cmp p d.0) ≡ false
not_before d t h p y e =
    elim (same_path p d.0) as (λ b. same_path p d.0 ≡ b → cond b (Some d.1) (at t p) ≡ Some y → is_lt (path_cmp p d.0) ≡ false) [
      | true ↦ λ i _. not_before_itself p d.0 ((path_decides p d.0).0 i)
      | false ↦ λ i g. ap is_lt (path_cmp-total.antisymm p d.0 ∙ ap ordering_reverse (is_less (path_cmp d.0 p) (below_path d.0 p y t h g)))
    ] refl e
