-- A leaf that is put, as an insertion into the list of the pairs.
use Rattle.std.proofs.Common.{◌≡◌, ℕ, suc, ◌+◌, true, false, cond, not, ◌&&◌, ◌||◌, T, [], ◌∷◌, ◌++◌, take, drop, refl, sym, ap, subst, ◌∙◌, arith}
use Rattle.std.specs.List.{list_all, position_or_len}
use Rattle.std.specs.declared.cmp.Ordering.TheVariants.{Less, Equal, Greater}
use Rattle.std.specs.Ordering.{is_lt}
use Rattle.std.specs.FinMap.{put as put_entry}
use Rattle.std.specs.FinMap.Entries.{by_order}
use Rattle.git_objects.specs.Paths.{Path, is_path, before, comparable, is_prefix, path_cmp}
use Rattle.git_objects.specs.Trees.{Leaf, Flat, LeafNode, without, put}
use Rattle.git_objects.proofs.Basics.{both, first, second, same_bytes-self}
use Rattle.git_objects.proofs.Maps.{put-leaf}
use Rattle.git_objects.proofs.Order.{path_cmp-antisymmetric}
use Rattle.git_objects.proofs.Texts.{text_order}

-- the first pair whose path stands behind p
abbrev pub place : Path → Flat → ℕ
place p t = position_or_len (λ e. before p e.0) t

comparable-self : (p : Path) → comparable p p ≡ true
comparable-self [] = refl
comparable-self (c ∷ p) = ap (λ b. (b && is_prefix p p) || (b && is_prefix p p)) (same_bytes-self c) ∙ comparable-self p

one_more : (n : ℕ) → suc n ≡ 1 + n
one_more n = omega arith

-- among paths that aren't comparable with p
pub put_entry-place : (p : Path) (x : Leaf) (t : Flat) → T (is_path p) → T (list_all (λ e. is_path e.0) t) → T (list_all (λ e. not (comparable p e.0)) t) →
    put_entry path_cmp p x t ≡ take (place p t) t ++ (p, x) ∷ drop (place p t) t
put_entry-place p x [] v h a = refl
put_entry-place p x (e ∷ t) v h a =
    let rest = put_entry-place p x t v (second (is_path e.0) _ h) (second (not (comparable p e.0)) _ a) in
    let texts : before p e.0 ≡ is_lt (path_cmp p e.0) = ap is_lt (text_order p e.0 v (first (is_path e.0) _ h)) in
    elim (path_cmp p e.0) as (λ o. path_cmp p e.0 ≡ o → by_order o ((p, x) ∷ e ∷ t) ((e.0, x) ∷ t) (e ∷ put_entry path_cmp p x t) ≡ take (place p (e ∷ t)) (e ∷ t) ++ (p, x) ∷ drop (place p (e ∷ t)) (e ∷ t)) [
      | Less ↦ λ k. let z : place p (e ∷ t) ≡ 0 = ap (λ b. cond (not b) (1 + place p t) 0) (texts ∙ ap is_lt k) in
          sym (ap (λ n. take n (e ∷ t) ++ (p, x) ∷ drop n (e ∷ t)) z)
      | Equal ↦ λ k. absurd (subst (λ b. T (not b)) (sym (ap (comparable p) (path_cmp-antisymmetric p e.0 k)) ∙ comparable-self p) (first (not (comparable p e.0)) _ a))
      | Greater ↦ λ k. let z : place p (e ∷ t) ≡ suc (place p t) = ap (λ b. cond (not b) (1 + place p t) 0) (texts ∙ ap is_lt k) ∙ sym (one_more (place p t)) in
          ap (λ (l : Flat). e ∷ l) rest ∙ sym (ap (λ n. take n (e ∷ t) ++ (p, x) ∷ drop n (e ∷ t)) z)
    ] refl

pub without-apart : (t : Flat) (p : Path) → T (list_all (λ e. not (comparable p e.0)) (without t p))
without-apart [] p = tt
without-apart (e ∷ t) p =
    let rest = without-apart t p in
    elim (comparable p e.0) as (λ b. comparable p e.0 ≡ b → T (list_all (λ d. not (comparable p d.0)) (cond (not b) (e ∷ without t p) (without t p)))) [
      | true ↦ λ k. rest
      | false ↦ λ k. both (not (comparable p e.0)) _ (subst (λ b. T (not b)) (sym k) tt) rest
    ] refl

pub without-paths : (t : Flat) (p : Path) → T (list_all (λ e. is_path e.0) t) → T (list_all (λ e. is_path e.0) (without t p))
without-paths [] p h = tt
without-paths (e ∷ t) p h =
    let rest = without-paths t p (second (is_path e.0) _ h) in
    elim (comparable p e.0) as (λ b. T (list_all (λ d. is_path d.0) (cond (not b) (e ∷ without t p) (without t p)))) [
      | true ↦ rest
      | false ↦ both (is_path e.0) _ (first (is_path e.0) _ h) rest
    ]

-- a leaf that is put into a tree
pub put-place : (t : Flat) (p : Path) (x : Leaf) → T (is_path p) → T (list_all (λ e. is_path e.0) t) → put t p (LeafNode x) ≡ take (place p (without t p)) (without t p) ++ (p, x) ∷ drop (place p (without t p)) (without t p)
put-place t p x v h = put-leaf t p x ∙ put_entry-place p x (without t p) v (without-paths t p h) (without-apart t p)
