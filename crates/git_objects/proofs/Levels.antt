-- One level of a tree in path order: the run of paths with one first component, and what comes after it.
use Rattle.std.proofs.Common.{◌≡◌, ℕ, zero, suc, ◌+◌, Bool, true, false, cond, not, ◌&&◌, ◌||◌, T, List, [], ◌∷◌, ◌++◌, take, drop, refl, sym, ap, subst, ◌∙◌, Some, None, arith, true≢false}
use Rattle.std.specs.List.{list_all, cons_option, flat_map, prefix_len}
use Rattle.std.specs.declared.cmp.Ordering.{Ordering}
use Rattle.std.specs.declared.cmp.Ordering.TheVariants.{Less, Equal, Greater}
use Rattle.std.specs.Ordering.{nat_cmp, is_lt, ordering_then, ordering_reverse}
use Rattle.std.specs.Cmp.Lexicographic.{slice_cmp, nat_list_cmp_total, bytes_decides}
use Rattle.std.specs.FinMap.{is_sorted, slice_cmp-IsAntisymmetric, nat_cmp-IsAntisymmetric}
use Rattle.std.specs.FinMap.Entries.{below_all}
use Rattle.git_objects.specs.Paths.{Bytes, Path, same_bytes, same_path, is_component, is_path, is_prefix, comparable, key, path_cmp}
use Rattle.git_objects.specs.Trees.{Leaf, Flat, at, IsTree, rest_below, moved, under}
use Rattle.git_objects.specs.Names.{tops, add_top, name, line_of, body_within}
use Rattle.git_objects.specs.declared.kind.Kind.TheVariants.{Tree}
use Rattle.git_objects.proofs.Basics.{both, first, second, same_bytes-self, same_bytes-back, no_slash}
use Rattle.git_objects.specs.Lists.{Each}
use Rattle.git_objects.proofs.Order.{front}
use Rattle.git_objects.proofs.Under.{under-append}

-- whether a path begins with the component
abbrev pub begins : Bytes → Path → Bool
begins c [] = false
begins c (d ∷ p) = same_bytes c d

abbrev pub AllBegin : Bytes → Flat → Type 0
AllBegin c t = T (list_all (λ e. begins c e.0) t)

abbrev pub NoneBegins : Bytes → Flat → Type 0
NoneBegins c t = T (list_all (λ e. not (begins c e.0)) t)

abbrev pub ArePaths : Flat → Type 0
ArePaths t = T (list_all (λ e. is_path e.0) t)

-- how many paths from the front on begin with the component
abbrev pub run : Bytes → Flat → ℕ
run c t = prefix_len (λ e. begins c e.0) t

-- ---- lists

pub list_all-drop : {A : Type 0} (p : A → Bool) (k : ℕ) (xs : List A) → T (list_all p xs) → T (list_all p (drop k xs))
list_all-drop p zero xs h = h
list_all-drop p (suc k) [] h = h
list_all-drop p (suc k) (x ∷ xs) h = list_all-drop p k xs (second (p x) _ h)

pub all_run : {A : Type 0} (p : A → Bool) (xs : List A) → T (list_all p (take (prefix_len p xs) xs))
all_run p [] = tt
all_run p (x ∷ xs) = elim (p x) as (λ b. p x ≡ b → T (list_all p (take (cond b (1 + prefix_len p xs) 0) (x ∷ xs)))) [
  | true ↦ λ e. let n : 1 + prefix_len p xs ≡ suc (prefix_len p xs) = omega arith in
      subst (λ k. T (list_all p (take k (x ∷ xs)))) (sym n) (both (p x) _ (subst T (sym e) tt) (all_run p xs))
  | false ↦ λ e. tt
] refl

from-T : (b : Bool) → T b → b ≡ true
from-T true h = refl
from-T false h = absurd h

one_more : (n : ℕ) → suc n ≡ 1 + n
one_more n = omega arith

pub head_run : (c : Bytes) (q : Path) (x : Leaf) (t : Flat) → run c ((c ∷ q, x) ∷ t) ≡ suc (run c t)
head_run c q x t = ap (λ b. cond b (1 + run c t) 0) (same_bytes-self c) ∙ sym (one_more (run c t))

-- ---- at and under

pub at_none : (c : Bytes) (r : Path) (s : Flat) → NoneBegins c s → at s (c ∷ r) ≡ None
at_none c r [] h = refl
at_none c r (([], x) ∷ s) h = at_none c r s h
at_none c r ((d ∷ q, x) ∷ s) h =
    elim (same_bytes c d) as (λ b. T (not b && list_all (λ e. not (begins c e.0)) s) → at s (c ∷ r) ≡ None → cond (b && same_path r q) (Some x) (at s (c ∷ r)) ≡ None) [
      | true ↦ λ g _. absurd g
      | false ↦ λ g k. k
    ] h (at_none c r s (second (not (same_bytes c d)) _ h))

at_other : (c d : Bytes) (r : Path) (g s : Flat) → same_bytes c d ≡ false → AllBegin c g → at (g ++ s) (d ∷ r) ≡ at s (d ∷ r)
at_other c d r [] s e h = refl
at_other c d r (([], x) ∷ g) s e h = absurd h
at_other c d r ((f ∷ q, x) ∷ g) s e h =
    let same : c ≡ f = (bytes_decides c f).0 (from-T (same_bytes c f) (first (same_bytes c f) _ h)) in
    ap (λ b. cond (b && same_path r q) (Some x) (at (g ++ s) (d ∷ r))) (ap (same_bytes d) (sym same) ∙ same_bytes-back d c ∙ e)
    ∙ at_other c d r g s e (second (same_bytes c f) _ h)

pub at_front : (p : Path) (g s : Flat) → at s p ≡ None → at (g ++ s) p ≡ at g p
at_front p [] s e = e
at_front p (d ∷ g) s e = ap (cond (same_path p d.0) (Some d.1)) (at_front p g s e)

pub under_none : (c : Bytes) (s : Flat) → NoneBegins c s → under s (c ∷ []) ≡ []
under_none c [] h = refl
under_none c (([], x) ∷ s) h = under_none c s h
under_none c ((d ∷ q, x) ∷ s) h =
    elim (same_bytes c d) as (λ b. T (not b && list_all (λ e. not (begins c e.0)) s) → under s (c ∷ []) ≡ [] → cons_option (moved (cond b (rest_below [] q) None) x) (under s (c ∷ [])) ≡ []) [
      | true ↦ λ g _. absurd g
      | false ↦ λ g k. k
    ] h (under_none c s (second (not (same_bytes c d)) _ h))

under_other : (c d : Bytes) (g : Flat) → same_bytes c d ≡ false → AllBegin c g → under g (d ∷ []) ≡ []
under_other c d [] e h = refl
under_other c d (([], x) ∷ g) e h = absurd h
under_other c d ((f ∷ q, x) ∷ g) e h =
    let same : c ≡ f = (bytes_decides c f).0 (from-T (same_bytes c f) (first (same_bytes c f) _ h)) in
    ap (λ b. cons_option (moved (cond b (rest_below [] q) None) x) (under g (d ∷ []))) (ap (same_bytes d) (sym same) ∙ same_bytes-back d c ∙ e)
    ∙ under_other c d g e (second (same_bytes c f) _ h)

-- ---- first components

fresh_head : (c d : Bytes) (ds : List Bytes) → same_bytes c d ≡ false → add_top c (add_top d ds) ≡ c ∷ add_top d ds
fresh_head c d [] e = ap (λ b. cond b (d ∷ []) (c ∷ d ∷ [])) e
fresh_head c d (f ∷ fs) e =
    elim (same_bytes d f) as (λ b. same_bytes d f ≡ b → add_top c (cond b (f ∷ fs) (d ∷ f ∷ fs)) ≡ c ∷ cond b (f ∷ fs) (d ∷ f ∷ fs)) [
      | true ↦ λ k. ap (λ b. cond b (f ∷ fs) (c ∷ f ∷ fs)) (ap (same_bytes c) (sym ((bytes_decides d f).0 k)) ∙ e)
      | false ↦ λ k. ap (λ b. cond b (d ∷ f ∷ fs) (c ∷ d ∷ f ∷ fs)) e
    ] refl

other_first : (c d : Bytes) (s : Bool) → T (not (same_bytes c d) && s) → same_bytes c d ≡ false
other_first c d s h = elim (same_bytes c d) as (λ b. T (not b && s) → b ≡ false) [ true ↦ λ g. absurd g | false ↦ λ g. refl ] h

fresh : (c : Bytes) (s : Flat) → NoneBegins c s → ArePaths s → add_top c (tops s) ≡ c ∷ tops s
fresh c [] h g = refl
fresh c (([], x) ∷ s) h g = absurd g
fresh c ((d ∷ q, x) ∷ s) h g = fresh_head c d (tops s) (other_first c d _ h)

tops_run : (c : Bytes) (e : Path × Leaf) (g s : Flat) → AllBegin c (e ∷ g) → NoneBegins c s → ArePaths s → tops ((e ∷ g) ++ s) ≡ c ∷ tops s
tops_run c ([], x) g s h k z = absurd h
tops_run c (f ∷ q, x) [] s h k z =
    ap (λ d. add_top d (tops s)) (sym ((bytes_decides c f).0 (from-T (same_bytes c f) (first (same_bytes c f) _ h)))) ∙ fresh c s k z
tops_run c (f ∷ q, x) (e ∷ g) s h k z =
    ap (add_top f) (tops_run c e g s (second (same_bytes c f) _ h) k z)
    ∙ ap (λ b. cond b (c ∷ tops s) (f ∷ c ∷ tops s)) (same_bytes-back f c ∙ from-T (same_bytes c f) (first (same_bytes c f) _ h))

each_top : (c d : Bytes) (ds : List Bytes) → same_bytes c d ≡ false → Each (λ f. same_bytes c f ≡ false) ds → Each (λ f. same_bytes c f ≡ false) (add_top d ds)
each_top c d [] e h = (e, tt)
each_top c d (f ∷ fs) e h = elim (same_bytes d f) as (λ b. Each (λ g. same_bytes c g ≡ false) (cond b (f ∷ fs) (d ∷ f ∷ fs))) [ true ↦ h | false ↦ (e, h) ]

tops_other : (c : Bytes) (s : Flat) → NoneBegins c s → Each (λ d. same_bytes c d ≡ false) (tops s)
tops_other c [] h = tt
tops_other c (([], x) ∷ s) h = tops_other c s h
tops_other c ((d ∷ q, x) ∷ s) h = each_top c d (tops s) (other_first c d _ h) (tops_other c s (second (not (same_bytes c d)) _ h))

-- ---- the body

-- the entry of a component
abbrev pub entry_at : ℕ → Flat → Bytes → Bytes
entry_at n t c = line_of c (at t (c ∷ [])) (name Tree (body_within n (under t (c ∷ []))))

entries_other : (n : ℕ) (c : Bytes) (g s : Flat) (ds : List Bytes) → AllBegin c g → Each (λ d. same_bytes c d ≡ false) ds → flat_map (entry_at n (g ++ s)) ds ≡ flat_map (entry_at n s) ds
entries_other n c g s [] h k = refl
entries_other n c g s (d ∷ ds) h k =
    λ i. line_of d (at_other c d [] g s k.0 h i) (name Tree (body_within n ((under-append g s (d ∷ []) ∙ ap (λ (t : Flat). t ++ under s (d ∷ [])) (under_other c d g k.0 h)) i))) ++ entries_other n c g s ds h k.1 i

-- the entry of the run, and then the body of the rest
pub body_run : (n : ℕ) (c : Bytes) (e : Path × Leaf) (g s : Flat) → AllBegin c (e ∷ g) → NoneBegins c s → ArePaths s → body_within (suc n) ((e ∷ g) ++ s) ≡ entry_at n ((e ∷ g) ++ s) c ++ body_within (suc n) s
body_run n c e g s h k z =
    ap (flat_map (entry_at n ((e ∷ g) ++ s))) (tops_run c e g s h k z)
    ∙ ap (λ (b : Bytes). entry_at n ((e ∷ g) ++ s) c ++ b) (entries_other n c (e ∷ g) s (tops s) h (tops_other c s k))

-- ---- where a run ends

no_less : (x y : Bytes) (o p : Ordering) → (x ≡ y → ⊥) → T (is_lt (ordering_then (slice_cmp nat_cmp x y) o)) → T (is_lt (ordering_then (slice_cmp nat_cmp y x) p)) → ⊥
no_less x y o p ne h g =
    elim (slice_cmp nat_cmp x y) as (λ r. slice_cmp nat_cmp x y ≡ r → T (is_lt (ordering_then r o)) → ⊥) [
      | Less ↦ λ e _. subst (λ r. T (is_lt (ordering_then r p))) (nat_list_cmp_total.antisymm y x ∙ ap ordering_reverse e) g
      | Equal ↦ λ e _. ne (slice_cmp-IsAntisymmetric nat_cmp-IsAntisymmetric x y e)
      | Greater ↦ λ e k. k
    ] refl h

other_key : (c d : Bytes) (r : Path) → same_bytes c d ≡ false → is_component d ≡ true → c ++ 47 ∷ [] ≡ key d r → ⊥
other_key c d [] e h k = no_slash d c h (sym k)
other_key c d (f ∷ r) e h k = true≢false (sym ((bytes_decides c d).1 (front c d k)) ∙ e)

pub same_later : (c d : Bytes) (q : Path) → same_bytes c d ≡ true → T (not (comparable (c ∷ q) (d ∷ []))) → ⊥
same_later c d q e h =
    let same : c ≡ d = (bytes_decides c d).0 e in
    by (same_bytes c d && is_prefix q []) (subst (λ b. T (not ((same_bytes c d && is_prefix q []) || (b && true)))) (same_bytes-back d c ∙ e) h)
  where
    by : (b : Bool) → T (not (b || true)) → ⊥
    by true h = h
    by false h = h

no_return : (c f : Bytes) (q : Path) (d : Bytes) (r : Path) → same_bytes c d ≡ false → is_component d ≡ true → T (is_lt (path_cmp (c ∷ f ∷ q) (d ∷ r))) → (s : Flat) → T (below_all path_cmp (d ∷ r) s) →
    T (list_all (λ e. not (comparable (c ∷ f ∷ q) e.0)) s) → NoneBegins c s
no_return c f q d r e v lt [] b a = tt
no_return c f q d r e v lt (([], x) ∷ s) b a = no_return c f q d r e v lt s (second (is_lt (path_cmp (d ∷ r) [])) _ b) (second (not (comparable (c ∷ f ∷ q) [])) _ a)
no_return c f q d r e v lt ((g ∷ u, x) ∷ s) b a =
    let later = no_return c f q d r e v lt s (second (is_lt (path_cmp (d ∷ r) (g ∷ u))) _ b) (second (not (comparable (c ∷ f ∷ q) (g ∷ u))) _ a) in
    elim (same_bytes c g) as (λ w. same_bytes c g ≡ w → T (not w && list_all (λ e. not (begins c e.0)) s)) [
      | true ↦ λ k. absurd (again u k (first (is_lt (path_cmp (d ∷ r) (g ∷ u))) _ b) (first (not (comparable (c ∷ f ∷ q) (g ∷ u))) _ a))
      | false ↦ λ k. later
    ] refl
  where
    again : (u : Path) → same_bytes c g ≡ true → T (is_lt (path_cmp (d ∷ r) (g ∷ u))) → T (not (comparable (c ∷ f ∷ q) (g ∷ u))) → ⊥
    again [] k l m = same_later c g (f ∷ q) k m
    again (w ∷ u) k l m =
        no_less (c ++ 47 ∷ []) (key d r) (path_cmp (f ∷ q) r) (path_cmp r (w ∷ u)) (other_key c d r e v) lt
        (subst (λ z. T (is_lt (ordering_then (slice_cmp nat_cmp (key d r) (z ++ 47 ∷ [])) (path_cmp r (w ∷ u))))) (sym ((bytes_decides c g).0 k)) l)

gap : (c f : Bytes) (q : Path) (t : Flat) → T (below_all path_cmp (c ∷ f ∷ q) t) → T (is_sorted path_cmp t) → ArePaths t → T (list_all (λ e. not (comparable (c ∷ f ∷ q) e.0)) t) → NoneBegins c (drop (run c t) t)
gap c f q [] b h z a = tt
gap c f q (([], x) ∷ t) b h z a = absurd z
gap c f q ((d ∷ r, x) ∷ t) b h z a =
    elim (same_bytes c d) as (λ w. same_bytes c d ≡ w → NoneBegins c (drop (cond w (1 + run c t) 0) ((d ∷ r, x) ∷ t))) [
      | true ↦ λ e. subst (λ k. NoneBegins c (drop k ((d ∷ r, x) ∷ t))) (one_more (run c t))
          (gap c f q t (second (is_lt (path_cmp (c ∷ f ∷ q) (d ∷ r))) _ b) (second (below_all path_cmp (d ∷ r) t) _ h) (second (is_path (d ∷ r)) _ z) (second (not (comparable (c ∷ f ∷ q) (d ∷ r))) _ a))
      | false ↦ λ e. both (not (same_bytes c d)) _ (subst (λ w. T (not w)) (sym e) tt)
          (no_return c f q d r e (from-T (is_component d) (first (is_component d) _ (first (is_path (d ∷ r)) _ z))) (first (is_lt (path_cmp (c ∷ f ∷ q) (d ∷ r))) _ b) t (first (below_all path_cmp (d ∷ r) t) _ h) (second (not (comparable (c ∷ f ∷ q) (d ∷ r))) _ a))
    ] refl

pub alone : (c : Bytes) (t : Flat) → T (list_all (λ e. not (comparable (c ∷ []) e.0)) t) → NoneBegins c t
alone c [] h = tt
alone c (([], x) ∷ t) h = absurd h
alone c ((d ∷ r, x) ∷ t) h = both (not (same_bytes c d)) _ (by (same_bytes c d) _ (first (not (comparable (c ∷ []) (d ∷ r))) _ h)) (alone c t (second (not (comparable (c ∷ []) (d ∷ r))) _ h))
  where
    by : (b w : Bool) → T (not ((b && true) || w)) → T (not b)
    by true w h = h
    by false w h = tt

-- no path in front begins with it
pub run_none : (c : Bytes) (t : Flat) → NoneBegins c t → run c t ≡ 0
run_none c [] h = refl
run_none c (e ∷ t) h = elim (begins c e.0) as (λ b. T (not b && list_all (λ d. not (begins c d.0)) t) → cond b (1 + run c t) 0 ≡ 0) [ true ↦ λ g. absurd g | false ↦ λ g. refl ] h

-- no path behind the run begins with its component
pub run_rest : (c : Bytes) (q : Path) (x : Leaf) (t : Flat) → IsTree ((c ∷ q, x) ∷ t) → NoneBegins c (drop (run c ((c ∷ q, x) ∷ t)) ((c ∷ q, x) ∷ t))
run_rest c q x t h =
    subst (λ k. NoneBegins c (drop k ((c ∷ q, x) ∷ t))) (sym (head_run c q x t)) (by q h)
  where
    by : (q : Path) → IsTree ((c ∷ q, x) ∷ t) → NoneBegins c (drop (run c t) t)
    by [] h = list_all-drop (λ e. not (begins c e.0)) (run c t) t (alone c t (first _ _ h.apart))
    by (f ∷ q) h = gap c f q t (first _ _ h.sorted) (second _ _ h.sorted) (second (is_path (c ∷ f ∷ q)) _ h.paths) (first _ _ h.apart)
