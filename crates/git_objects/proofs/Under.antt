-- What lies below a path is a tree.
use Rattle.std.proofs.Common.{◌≡◌, true, false, cond, not, ◌&&◌, ◌||◌, T, [], ◌∷◌, ◌++◌, refl, sym, ap, subst, ◌∙◌, Option, Some, None, ◌<◌, ◌≤◌, length, drop, arith, true≢false}
use Rattle.std.specs.List.{list_all, cons_option}
use Rattle.std.specs.Ordering.{nat_cmp, is_lt, ordering_then}
use Rattle.std.specs.Cmp.{tied_itself}
use Rattle.std.specs.Cmp.Lexicographic.{slice_cmp, nat_list_cmp_total, bytes_decides}
use Rattle.std.specs.FinMap.{is_sorted}
use Rattle.std.specs.FinMap.Entries.{below_all}
use Rattle.git_objects.specs.Paths.{Bytes, Path, same_bytes, same_path, is_component, is_path, is_prefix, comparable, key, path_cmp}
use Rattle.git_objects.specs.Trees.{Leaf, is_leaf, Flat, at, IsTree, no_comparable, rest_below, moved, under}
use Rattle.git_objects.proofs.Basics.{both, first, second, same_bytes-self, same_bytes-back}

-- ---- what stands below a path

at_moved : (p q : Path) (x : Leaf) (s : Flat) (d : Bytes) (r : Path) → at (cons_option (moved (rest_below p q) x) s) (d ∷ r) ≡ cond (same_path (p ++ d ∷ r) q) (Some x) (at s (d ∷ r))
at_moved [] [] x s d r = refl
at_moved [] (f ∷ q) x s d r = refl
at_moved (c ∷ p) [] x s d r = refl
at_moved (c ∷ p) (f ∷ q) x s d r =
    elim (same_bytes c f) as (λ b. at (cons_option (moved (cond b (rest_below p q) None) x) s) (d ∷ r) ≡ cond (b && same_path (p ++ d ∷ r) q) (Some x) (at s (d ∷ r))) [
      | true ↦ at_moved p q x s d r
      | false ↦ refl
    ]

-- the leaf at a rest is the leaf at the whole path
pub at-under : (t : Flat) (p : Path) (d : Bytes) (r : Path) → at (under t p) (d ∷ r) ≡ at t (p ++ d ∷ r)
at-under [] p d r = refl
at-under (e ∷ t) p d r = at_moved p e.0 e.1 (under t p) d r ∙ ap (cond (same_path (p ++ d ∷ r) e.0) (Some e.1)) (at-under t p d r)

no_rest : (p q : Path) (x : Leaf) (s : Flat) → at (cons_option (moved (rest_below p q) x) s) [] ≡ at s []
no_rest [] [] x s = refl
no_rest [] (f ∷ q) x s = refl
no_rest (c ∷ p) [] x s = refl
no_rest (c ∷ p) (f ∷ q) x s =
    elim (same_bytes c f) as (λ b. at (cons_option (moved (cond b (rest_below p q) None) x) s) [] ≡ at s []) [
      | true ↦ no_rest p q x s
      | false ↦ refl
    ]

-- no rest is empty
pub at-under_nil : (t : Flat) (p : Path) → at (under t p) [] ≡ None
at-under_nil [] p = refl
at-under_nil (e ∷ t) p = no_rest p e.0 e.1 (under t p) ∙ at-under_nil t p

-- what lies below two paths in a row
pub under_cons : (t : Flat) (c : Bytes) (p : Path) → under t (c ∷ p) ≡ under (under t (c ∷ [])) p
under_cons [] c p = refl
under_cons (([], x) ∷ t) c p = under_cons t c p
under_cons ((d ∷ [], x) ∷ t) c p =
    elim (same_bytes c d) as (λ b. cons_option (moved (cond b (rest_below p []) None) x) (under t (c ∷ p)) ≡ under (cons_option (moved (cond b None None) x) (under t (c ∷ []))) p) [
      | true ↦ ap (λ o. cons_option (moved o x) (under t (c ∷ p))) (nothing p) ∙ under_cons t c p
      | false ↦ under_cons t c p
    ]
  where
    nothing : (p : Path) → rest_below p [] ≡ None
    nothing [] = refl
    nothing (f ∷ p) = refl
under_cons ((d ∷ f ∷ q, x) ∷ t) c p =
    elim (same_bytes c d) as (λ b. cons_option (moved (cond b (rest_below p (f ∷ q)) None) x) (under t (c ∷ p)) ≡ under (cons_option (moved (cond b (Some (f ∷ q)) None) x) (under t (c ∷ []))) p) [
      | true ↦ ap (cons_option (moved (rest_below p (f ∷ q)) x)) (under_cons t c p)
      | false ↦ under_cons t c p
    ]

pub under-append : (t s : Flat) (p : Path) → under (t ++ s) p ≡ under t p ++ under s p
under-append [] s p = refl
under-append (e ∷ t) s p =
    elim (moved (rest_below p e.0) e.1) as (λ o. cons_option o (under (t ++ s) p) ≡ cons_option o (under t p) ++ under s p) [
      | None ↦ under-append t s p
      | Some d ↦ ap (λ (l : Flat). d ∷ l) (under-append t s p)
    ]

-- ---- it is a tree

key_more : (c : Bytes) (p q r : Path) → rest_below p q ≡ Some r → key c q ≡ c ++ 47 ∷ []
key_more c [] [] r e = cc
key_more c (d ∷ p) [] r e = cc
key_more c p (f ∷ q) r e = refl

same_head : (c d f : Bytes) (p q s r u : Path) → c ≡ d → c ≡ f → rest_below p q ≡ Some r → rest_below p s ≡ Some u → path_cmp (d ∷ q) (f ∷ s) ≡ path_cmp q s
same_head c d f p q s r u i j e g =
    let one : key d q ≡ key f s = key_more d p q r e ∙ ap (λ (x : Bytes). x ++ 47 ∷ []) (sym i ∙ j) ∙ sym (key_more f p s u g) in
    ap (λ o. ordering_then o (path_cmp q s)) (ap (λ x. slice_cmp nat_cmp x (key f s)) one ∙ tied_itself nat_list_cmp_total (key f s))

pub cmp_rests : (p q s r u : Path) → rest_below p q ≡ Some r → rest_below p s ≡ Some u → path_cmp q s ≡ path_cmp r u
cmp_rests [] [] s r u e g = cc
cmp_rests [] (d ∷ q) [] r u e g = cc
cmp_rests [] (d ∷ q) (f ∷ s) r u e g = let i : d ∷ q ≡ r = cc in let j : f ∷ s ≡ u = cc in λ k. path_cmp (i k) (j k)
cmp_rests (c ∷ p) [] s r u e g = cc
cmp_rests (c ∷ p) (d ∷ q) [] r u e g = cc
cmp_rests (c ∷ p) (d ∷ q) (f ∷ s) r u e g =
    elim (same_bytes c d) as (λ b. same_bytes c d ≡ b → cond b (rest_below p q) None ≡ Some r → path_cmp (d ∷ q) (f ∷ s) ≡ path_cmp r u) [
      | true ↦ λ i x. elim (same_bytes c f) as (λ b. same_bytes c f ≡ b → cond b (rest_below p s) None ≡ Some u → path_cmp (d ∷ q) (f ∷ s) ≡ path_cmp r u) [
        | true ↦ λ j y. same_head c d f p q s r u ((bytes_decides c d).0 i) ((bytes_decides c f).0 j) x y ∙ cmp_rests p q s r u x y
        | false ↦ λ j y. cc
      ] refl g
      | false ↦ λ i x. cc
    ] refl e

pub comparable_below : (p q s r u : Path) → rest_below p q ≡ Some r → rest_below p s ≡ Some u → comparable q s ≡ comparable r u
comparable_below [] [] s r u e g = cc
comparable_below [] (d ∷ q) [] r u e g = cc
comparable_below [] (d ∷ q) (f ∷ s) r u e g = let i : d ∷ q ≡ r = cc in let j : f ∷ s ≡ u = cc in λ k. comparable (i k) (j k)
comparable_below (c ∷ p) [] s r u e g = cc
comparable_below (c ∷ p) (d ∷ q) [] r u e g = cc
comparable_below (c ∷ p) (d ∷ q) (f ∷ s) r u e g =
    elim (same_bytes c d) as (λ b. same_bytes c d ≡ b → cond b (rest_below p q) None ≡ Some r → comparable (d ∷ q) (f ∷ s) ≡ comparable r u) [
      | true ↦ λ i x. elim (same_bytes c f) as (λ b. same_bytes c f ≡ b → cond b (rest_below p s) None ≡ Some u → comparable (d ∷ q) (f ∷ s) ≡ comparable r u) [
        | true ↦ λ j y.
            (λ k. (same_bytes (sym ((bytes_decides c d).0 i) k) (sym ((bytes_decides c f).0 j) k) && is_prefix q s) || (same_bytes (sym ((bytes_decides c f).0 j) k) (sym ((bytes_decides c d).0 i) k) && is_prefix s q))
            ∙ ap (λ b. (b && is_prefix q s) || (b && is_prefix s q)) (same_bytes-self c)
            ∙ comparable_below p q s r u x y
        | false ↦ λ j y. cc
      ] refl g
      | false ↦ λ i x. cc
    ] refl e

valid_rest : (p q r : Path) → rest_below p q ≡ Some r → T (list_all is_component q) → T (is_path r)
valid_rest [] [] r e h = cc
valid_rest [] (d ∷ q) r e h = let i : d ∷ q ≡ r = cc in subst (λ x. T (is_path x)) i h
valid_rest (c ∷ p) [] r e h = cc
valid_rest (c ∷ p) (d ∷ q) r e h =
    elim (same_bytes c d) as (λ b. cond b (rest_below p q) None ≡ Some r → T (is_path r)) [
      | true ↦ λ x. valid_rest p q r x (second (is_component d) _ h)
      | false ↦ λ x. cc
    ] e

components : (q : Path) → T (is_path q) → T (list_all is_component q)
components [] h = tt
components (c ∷ q) h = h

below_rests : (p q r : Path) (t : Flat) → rest_below p q ≡ Some r → T (below_all path_cmp q t) → T (below_all path_cmp r (under t p))
below_rests p q r [] e h = tt
below_rests p q r (d ∷ t) e h = by (rest_below p d.0) refl (below_rests p q r t e (second _ _ h))
  where
    by : (o : Option Path) → rest_below p d.0 ≡ o → T (below_all path_cmp r (under t p)) → T (below_all path_cmp r (cons_option (moved o d.1) (under t p)))
    by None g k = k
    by (Some u) g k = both _ _ (subst (λ o. T (is_lt o)) (cmp_rests p q d.0 r u e g) (first _ _ h)) k

sorted-under : (t : Flat) (p : Path) → T (is_sorted path_cmp t) → T (is_sorted path_cmp (under t p))
sorted-under [] p h = tt
sorted-under (d ∷ t) p h = by (rest_below p d.0) refl (sorted-under t p (second _ _ h))
  where
    by : (o : Option Path) → rest_below p d.0 ≡ o → T (is_sorted path_cmp (under t p)) → T (is_sorted path_cmp (cons_option (moved o d.1) (under t p)))
    by None g k = k
    by (Some r) g k = both _ _ (below_rests p d.0 r t g (first _ _ h)) k

apart_rests : (p q r : Path) (t : Flat) → rest_below p q ≡ Some r → T (list_all (λ d. not (comparable q d.0)) t) → T (list_all (λ d. not (comparable r d.0)) (under t p))
apart_rests p q r [] e h = tt
apart_rests p q r (d ∷ t) e h = by (rest_below p d.0) refl (apart_rests p q r t e (second _ _ h))
  where
    by : (o : Option Path) → rest_below p d.0 ≡ o → T (list_all (λ d. not (comparable r d.0)) (under t p)) → T (list_all (λ d. not (comparable r d.0)) (cons_option (moved o d.1) (under t p)))
    by None g k = k
    by (Some u) g k = both _ _ (subst (λ b. T (not b)) (comparable_below p q d.0 r u e g) (first _ _ h)) k

apart-under : (t : Flat) (p : Path) → T (no_comparable t) → T (no_comparable (under t p))
apart-under [] p h = tt
apart-under (d ∷ t) p h = by (rest_below p d.0) refl (apart-under t p (second _ _ h))
  where
    by : (o : Option Path) → rest_below p d.0 ≡ o → T (no_comparable (under t p)) → T (no_comparable (cons_option (moved o d.1) (under t p)))
    by None g k = k
    by (Some r) g k = both _ _ (apart_rests p d.0 r t g (first _ _ h)) k

paths-under : (t : Flat) (p : Path) → T (list_all (λ e. is_path e.0) t) → T (list_all (λ e. is_path e.0) (under t p))
paths-under [] p h = tt
paths-under (d ∷ t) p h = by (rest_below p d.0) refl (paths-under t p (second _ _ h))
  where
    by : (o : Option Path) → rest_below p d.0 ≡ o → T (list_all (λ e. is_path e.0) (under t p)) → T (list_all (λ e. is_path e.0) (cons_option (moved o d.1) (under t p)))
    by None g k = k
    by (Some r) g k = both _ _ (valid_rest p d.0 r g (components d.0 (first _ _ h))) k

leaves-under : (t : Flat) (p : Path) → T (list_all (λ e. is_leaf e.1) t) → T (list_all (λ e. is_leaf e.1) (under t p))
leaves-under [] p h = tt
leaves-under (d ∷ t) p h = by (rest_below p d.0) (leaves-under t p (second _ _ h))
  where
    by : (o : Option Path) → T (list_all (λ e. is_leaf e.1) (under t p)) → T (list_all (λ e. is_leaf e.1) (cons_option (moved o d.1) (under t p)))
    by None k = k
    by (Some r) k = both _ _ (first _ _ h) k

pub under-tree : (t : Flat) (p : Path) → IsTree t → IsTree (under t p)
under-tree t p h =
    record { sorted = sorted-under t p h.sorted; paths = paths-under t p h.paths; leaves = leaves-under t p h.leaves; apart = apart-under t p h.apart }

-- ---- the rest by the number of components

pub rest_short : (p q : Path) → length q ≤ length p → rest_below p q ≡ None
rest_short [] [] h = refl
rest_short [] (d ∷ q) h = absurd (omega arith)
rest_short (c ∷ p) [] h = refl
rest_short (c ∷ p) (d ∷ q) h =
    let rest = rest_short p q (omega arith) in
    elim (same_bytes c d) as (λ b. cond b (rest_below p q) None ≡ None) [ true ↦ rest | false ↦ refl ]

pub rest_apart : (p q : Path) → comparable p q ≡ false → rest_below p q ≡ None
rest_apart [] q h = absurd (true≢false h)
rest_apart (c ∷ p) [] h = refl
rest_apart (c ∷ p) (d ∷ q) h =
    elim (same_bytes c d) as (λ b. (b && is_prefix p q) || (b && is_prefix q p) ≡ false → cond b (rest_below p q) None ≡ None) [
      | true ↦ λ g. rest_apart p q g
      | false ↦ λ g. refl
    ] (ap (λ b. (same_bytes c d && is_prefix p q) || (b && is_prefix q p)) (same_bytes-back c d) ∙ h)

pub rest_long : (p q : Path) → length p < length q → comparable p q ≡ true → rest_below p q ≡ Some (drop (length p) q)
rest_long [] [] h g = absurd (omega arith)
rest_long [] (d ∷ q) h g = refl
rest_long (c ∷ p) [] h g = absurd (omega arith)
rest_long (c ∷ p) (d ∷ q) h g =
    let shorter : length p < length q = omega arith in
    elim (same_bytes c d) as (λ b. (b && is_prefix p q) || (b && is_prefix q p) ≡ true → cond b (rest_below p q) None ≡ Some (drop (length p) q)) [
      | true ↦ λ k. rest_long p q shorter k
      | false ↦ λ k. absurd (true≢false (sym k))
    ] (ap (λ b. (same_bytes c d && is_prefix p q) || (b && is_prefix q p)) (same_bytes-back c d) ∙ g)
