-- The path order is total, ties only equal paths, and is the order of the texts.
use Rattle.std.proofs.Common.{◌≡◌, [], ◌∷◌, ◌++◌, refl, sym, ap, subst, ◌∙◌}
use Rattle.std.specs.declared.cmp.Ordering.TheVariants.{Equal}
use Rattle.std.specs.Ordering.{eq_by_cmp, is_eq}
use Rattle.std.specs.Cmp.{IsTotalOrder, tied_itself, Equal-is, on_total}
use Rattle.std.specs.Cmp.Lexicographic.{lists_total, nat_list_cmp_total, bytes_decides, pointwise_decides}
use Rattle.std.specs.FinMap.{IsAntisymmetric, slice_cmp-IsAntisymmetric, nat_cmp-IsAntisymmetric}
use Rattle.std.specs.Bool.{Decides, one_answer}
use Rattle.git_objects.specs.Paths.{Bytes, Path, same_path, key, keys, path_cmp}

pub path_cmp-total : IsTotalOrder path_cmp
path_cmp-total = on_total keys (lists_total nat_list_cmp_total)

pub front : (c d : Bytes) → c ++ 47 ∷ [] ≡ d ++ 47 ∷ [] → c ≡ d
front [] [] e = refl
front [] (y ∷ []) e = cc
front [] (y ∷ z ∷ ys) e = cc
front (x ∷ []) [] e = cc
front (x ∷ z ∷ xs) [] e = cc
front (x ∷ xs) (y ∷ ys) e = let t : xs ++ 47 ∷ [] ≡ ys ++ 47 ∷ [] = cc in let u = front xs ys t in cc

key-same : (c d : Bytes) (p : Path) → key c p ≡ key d p → c ≡ d
key-same c d [] e = e
key-same c d (_ ∷ p) e = front c d e

keys-same : (p q : Path) → keys p ≡ keys q → p ≡ q
keys-same [] [] e = refl
keys-same [] (d ∷ q) e = cc
keys-same (c ∷ p) [] e = cc
keys-same (c ∷ p) (d ∷ q) e =
    let t : keys p ≡ keys q = cc in
    let h : key c p ≡ key d q = cc in
    let rest = keys-same p q t in
    let first = key-same c d p (h ∙ ap (key d) (sym rest)) in
    λ i. first i ∷ rest i

pub path_cmp-antisymmetric : IsAntisymmetric path_cmp
path_cmp-antisymmetric p q e = keys-same p q (slice_cmp-IsAntisymmetric (slice_cmp-IsAntisymmetric nat_cmp-IsAntisymmetric) (keys p) (keys q) e)

pub path_decides : (p q : Path) → Decides (same_path p q) (p ≡ q)
path_decides = pointwise_decides bytes_decides

pub path_ties : (p q : Path) → eq_by_cmp path_cmp p q ≡ same_path p q
path_ties p q =
    one_answer (eq_by_cmp path_cmp p q) (same_path p q)
    (λ e. path_cmp-antisymmetric p q ((Equal-is (path_cmp p q)).0 e), λ e. ap is_eq (subst (λ r. path_cmp p r ≡ Equal) e (tied_itself path_cmp-total p)))
    (path_decides p q)
