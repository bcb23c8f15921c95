-- The parents of a commit from one on, and their origins.
use Rattle.std.proofs.Common.{◌≡◌, ◌≤◌, ◌+◌, ℕ, zero, suc, List, [], ◌∷◌, ◌++◌, length, drop, take, filter_map, slice_get, Option, Some, None, refl, sym, ap, ◌∙◌, arith, append-nil, append_assoc, take_all}
use Rattle.std.specs.Option.{option_to_list}
use Rattle.std.specs.List.{cons_option}
use Rattle.std.proofs.lemmas.Option.{none-some, same_Some}
use Rattle.git_objects.specs.Paths.{Bytes}
use Rattle.projection_laws.proofs.HistoryLemmas.{filter-append}

drop-front : {A : Type 0} (n : ℕ) (xs : List A) → drop n (take n xs) ≡ []
drop-front zero [] = refl
drop-front zero (x ∷ xs) = refl
drop-front (suc n) [] = refl
drop-front (suc n) (x ∷ xs) = drop-front n xs

drop-more : {A : Type 0} (n i : ℕ) (xs : List A) (x : A) → n ≤ i → slice_get xs i ≡ Some x → drop n (take (suc i) xs) ≡ drop n (take i xs) ++ x ∷ []
drop-more n i [] x l e = absurd (none-some x e)
drop-more zero zero (y ∷ xs) x l e = ap (λ z. z ∷ []) (same_Some y x e)
drop-more zero (suc i) (y ∷ xs) x l e = ap (λ zs. y ∷ zs) (drop-more zero i xs x (omega arith) e)
drop-more (suc n) zero (y ∷ xs) x l e = absurd (omega (arith, l))
drop-more (suc n) (suc i) (y ∷ xs) x l e = drop-more n i xs x (omega (arith, l)) e

one-origin : (F : Bytes → Option ℕ) (n : Bytes) → filter_map F (n ∷ []) ≡ option_to_list (F n)
one-origin F n = by (F n)
  where
    by : (o : Option ℕ) → cons_option o [] ≡ option_to_list o
    by None = refl
    by (Some p) = refl

module _ (F : Bytes → Option ℕ) (ns : List Bytes) (first : ℕ) (old : List ℕ) where
  -- the origins of the parents before a place
  abbrev pub so-far : ℕ → List ℕ
  so-far i = old ++ filter_map F (drop first (take i ns))

  pub origins-none : old ≡ so-far first
  origins-none = sym (append-nil old) ∙ ap (λ xs. old ++ filter_map F xs) (sym (drop-front first ns))

  pub origins-more : (i : ℕ) (n : Bytes) (now new : List ℕ) → first ≤ i → slice_get ns i ≡ Some n → now ≡ so-far i → new ≡ now ++ option_to_list (F n) → new ≡ so-far (i + 1)
  origins-more i n now new l e h k =
      let next : suc i ≡ i + 1 = omega arith in
      k ∙ ap (λ xs. xs ++ option_to_list (F n)) h
      ∙ append_assoc old (filter_map F (drop first (take i ns))) (option_to_list (F n))
      ∙ ap (λ xs. old ++ xs)
      (ap (λ xs. filter_map F (drop first (take i ns)) ++ xs) (sym (one-origin F n))
      ∙ sym (filter-append F (drop first (take i ns)) (n ∷ []))
      ∙ ap (filter_map F) (sym (drop-more first i ns n l e)))
      ∙ ap so-far next

  pub origins-all : (i : ℕ) → length ns ≤ i → so-far i ≡ old ++ filter_map F (drop first ns)
  origins-all i l = ap (λ xs. old ++ filter_map F (drop first xs)) (take_all i ns l)
