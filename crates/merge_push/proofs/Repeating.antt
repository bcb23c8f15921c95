-- Names of a commit's parents that come again.
use Rattle.std.proofs.Common.{◌≡◌, ◌<◌, ◌≤◌, ◌+◌, ℕ, zero, suc, Bool, true, false, not, ◌&&◌, ◌||◌, cond, List, [], ◌∷◌, ◌++◌, length, take, get_or, filter_map, Option, Some, None, refl, sym, ap, ap₂, ◌∙◌, arith, true≢false, append-nil, append_assoc, take_all}
use Rattle.std.specs.List.{cons_option, list_any}
use Rattle.std.specs.Option.{option_map_or, option_to_list}
use Rattle.git_objects.specs.Paths.{Bytes, same_bytes}
use Rattle.git_objects.proofs.Basics.{same_bytes-back}
use Rattle.projection_laws.proofs.HistoryLemmas.{any-append, filter-append}
use Rattle.merge_laws.specs.MergeReplays.{is_once}

-- ---- a name more

snoc-cases : (s a o : Bool) (b : Bool) → (not (a || (s || false)) && (o && not b)) ≡ ((not a && o) && not (s || b))
snoc-cases true true o b = refl
snoc-cases true false true b = refl
snoc-cases true false false b = refl
snoc-cases false true o b = refl
snoc-cases false false true b = refl
snoc-cases false false false b = refl

once-more : (xs : List Bytes) (n : Bytes) → is_once (xs ++ n ∷ []) ≡ (is_once xs && not (list_any (same_bytes n) xs))
once-more [] n = refl
once-more (x ∷ xs) n =
    ap₂ (λ a b. not a && b) (any-append (same_bytes x) xs (n ∷ []) ∙ ap (λ b. list_any (same_bytes x) xs || (b || false)) (same_bytes-back x n)) (once-more xs n)
    ∙ snoc-cases (same_bytes n x) (list_any (same_bytes x) xs) (is_once xs) (list_any (same_bytes n) xs)

-- what is in front is once where all is
front-once : (xs ys : List Bytes) → is_once xs ≡ false → is_once (xs ++ ys) ≡ false
front-once [] ys e = absurd (true≢false e)
front-once (x ∷ xs) ys e =
    by (list_any (same_bytes x) xs) (is_once xs) refl (any-append (same_bytes x) xs ys) (front-once xs ys) e
  where
    by : (a o : Bool) → is_once xs ≡ o → list_any (same_bytes x) (xs ++ ys) ≡ (a || list_any (same_bytes x) ys) → (is_once xs ≡ false → is_once (xs ++ ys) ≡ false) → (not a && o) ≡ false
        → (not (list_any (same_bytes x) (xs ++ ys)) && is_once (xs ++ ys)) ≡ false
    by true o q k r z = ap (λ b. not b && is_once (xs ++ ys)) k
    by false true q k r z = absurd (true≢false z)
    by false false q k r z = ap (λ b. not (list_any (same_bytes x) (xs ++ ys)) && b) (r q) ∙ none (list_any (same_bytes x) (xs ++ ys))
      where
        none : (b : Bool) → (not b && false) ≡ false
        none true = refl
        none false = refl

-- ---- lines

module _ {A : Type 0} (F : A → Option Bytes) (end : Option Bytes) where
  abbrev ends : List Bytes
  ends = option_to_list end

  abbrev pub again : List A → A → Bool
  again ms m = option_map_or (λ n. list_any (same_bytes n) (ends ++ filter_map F ms)) (F m) false

  abbrev pub names : List A → List Bytes
  names ms = ends ++ filter_map F ms

  pub start-once : is_once (names []) ≡ true
  start-once = by end
    where
      by : (o : Option Bytes) → is_once (option_to_list o ++ []) ≡ true
      by None = refl
      by (Some n) = refl

  one-line : (m : A) → filter_map F (m ∷ []) ≡ option_to_list (F m)
  one-line m = by (F m)
    where
      by : (o : Option Bytes) → cons_option o [] ≡ option_to_list o
      by None = refl
      by (Some n) = refl

  next-names : (ms : List A) (m : A) → names (ms ++ m ∷ []) ≡ names ms ++ option_to_list (F m)
  next-names ms m =
      ap (λ xs. ends ++ xs) (filter-append F ms (m ∷ []) ∙ ap (λ xs. filter_map F ms ++ xs) (one-line m))
      ∙ sym (append_assoc ends (filter_map F ms) (option_to_list (F m)))

  pub next-once : (ms : List A) (m : A) → is_once (names ms) ≡ true → (b : Bool) → b ≡ again ms m → is_once (names (ms ++ m ∷ [])) ≡ not b
  next-once ms m h b e = ap is_once (next-names ms m) ∙ by (F m) ∙ ap not (sym e)
    where
      both : (a c : Bool) → a ≡ true → (a && not c) ≡ not c
      both true c q = refl
      both false c q = absurd (true≢false (sym q))

      by : (o : Option Bytes) → is_once (names ms ++ option_to_list o) ≡ not (option_map_or (λ n. list_any (same_bytes n) (names ms)) o false)
      by None = ap is_once (append-nil (names ms)) ∙ h
      by (Some n) = once-more (names ms) n ∙ both (is_once (names ms)) (list_any (same_bytes n) (names ms)) h

  take-next : (ms : List A) (i : ℕ) (d : A) → i < length ms → take (suc i) ms ≡ take i ms ++ get_or ms i d ∷ []
  take-next [] i d l = absurd (omega (arith, l))
  take-next (m ∷ ms) zero d l = refl
  take-next (m ∷ ms) (suc i) d l = ap (λ xs. m ∷ xs) (take-next ms i d (omega (arith, l)))

  take-rest : (ms : List A) (i : ℕ) → (rest : List A) × (take i ms ++ rest ≡ ms)
  take-rest [] zero = ([], refl)
  take-rest [] (suc i) = ([], refl)
  take-rest (m ∷ ms) zero = (m ∷ ms, refl)
  take-rest (m ∷ ms) (suc i) = let r = take-rest ms i in (r.0, ap (λ xs. m ∷ xs) r.1)

  -- one line more
  pub line-more : (ms : List A) (i : ℕ) (d : A) → i < length ms → is_once (names (take i ms)) ≡ true → false ≡ again (take i ms) (get_or ms i d) → is_once (names (take (i + 1) ms)) ≡ true
  line-more ms i d l h e =
      let next : i + 1 ≡ suc i = omega arith in
      ap (λ n. is_once (names (take n ms))) next ∙ ap (λ xs. is_once (names xs)) (take-next ms i d l) ∙ next-once (take i ms) (get_or ms i d) h false e

  pub line-again : (ms : List A) (i : ℕ) (d : A) → i < length ms → is_once (names (take i ms)) ≡ true → true ≡ again (take i ms) (get_or ms i d) → true ≡ not (is_once (names ms))
  line-again ms i d l h e =
      let r = take-rest ms (suc i) in
      let front : is_once (names (take (suc i) ms)) ≡ false = ap (λ xs. is_once (names xs)) (take-next ms i d l) ∙ next-once (take i ms) (get_or ms i d) h true e in
      sym (ap not (ap (λ xs. is_once (names xs)) (sym r.1) ∙ ap (λ xs. is_once (ends ++ xs)) (filter-append F (take (suc i) ms) r.0)
      ∙ ap is_once (sym (append_assoc ends (filter_map F (take (suc i) ms)) (filter_map F r.0)))
      ∙ front-once (names (take (suc i) ms)) (filter_map F r.0) front))

  pub line-end : (ms : List A) (i : ℕ) → length ms ≤ i → is_once (names (take i ms)) ≡ true → false ≡ not (is_once (names ms))
  line-end ms i l h = sym (ap not (ap (λ xs. is_once (names xs)) (sym (take_all i ms l)) ∙ h))

  -- ---- one name

  pub given-none : (n : Bytes) → list_any (same_bytes n) (filter_map F []) ≡ false
  given-none n = refl

  one-any : (n : Bytes) (o : Option Bytes) → list_any (same_bytes n) (option_to_list o) ≡ option_map_or (same_bytes n) o false
  one-any n None = refl
  one-any n (Some m) = by (same_bytes n m)
    where
      by : (b : Bool) → (b || false) ≡ b
      by true = refl
      by false = refl

  given-next : (n : Bytes) (ms : List A) (m : A) → list_any (same_bytes n) (filter_map F (ms ++ m ∷ [])) ≡ (list_any (same_bytes n) (filter_map F ms) || option_map_or (same_bytes n) (F m) false)
  given-next n ms m =
      ap (list_any (same_bytes n)) (filter-append F ms (m ∷ []))
      ∙ any-append (same_bytes n) (filter_map F ms) (filter_map F (m ∷ []))
      ∙ ap (λ b. list_any (same_bytes n) (filter_map F ms) || b) (ap (list_any (same_bytes n)) (one-line m) ∙ one-any n (F m))

  pub given-more : (n : Bytes) (ms : List A) (i : ℕ) (d : A) → i < length ms → list_any (same_bytes n) (filter_map F (take i ms)) ≡ false → false ≡ option_map_or (same_bytes n) (F (get_or ms i d)) false
      → list_any (same_bytes n) (filter_map F (take (i + 1) ms)) ≡ false
  given-more n ms i d l h e =
      let next : i + 1 ≡ suc i = omega arith in
      ap (λ j. list_any (same_bytes n) (filter_map F (take j ms))) next
      ∙ ap (λ xs. list_any (same_bytes n) (filter_map F xs)) (take-next ms i d l) ∙ given-next n (take i ms) (get_or ms i d) ∙ ap₂ (λ a b. a || b) h (sym e)

  some-front : (n : Bytes) (ms rest : List A) → list_any (same_bytes n) (filter_map F ms) ≡ true → list_any (same_bytes n) (filter_map F (ms ++ rest)) ≡ true
  some-front n ms rest h = ap (list_any (same_bytes n)) (filter-append F ms rest) ∙ any-append (same_bytes n) (filter_map F ms) (filter_map F rest) ∙ ap (λ b. b || list_any (same_bytes n) (filter_map F rest)) h

  pub given-here : (n : Bytes) (ms : List A) (i : ℕ) (d : A) → i < length ms → true ≡ option_map_or (same_bytes n) (F (get_or ms i d)) false → true ≡ list_any (same_bytes n) (filter_map F ms)
  given-here n ms i d l e =
      let r = take-rest ms (suc i) in
      sym (ap (λ xs. list_any (same_bytes n) (filter_map F xs)) (sym r.1)
      ∙ some-front n (take (suc i) ms) r.0
      (ap (λ xs. list_any (same_bytes n) (filter_map F xs)) (take-next ms i d l) ∙ given-next n (take i ms) (get_or ms i d) ∙ ap (λ b. list_any (same_bytes n) (filter_map F (take i ms)) || b) (sym e) ∙ or-true (list_any (same_bytes n) (filter_map F (take i ms)))))
    where
      or-true : (b : Bool) → (b || true) ≡ true
      or-true true = refl
      or-true false = refl

  pub given-end : (n : Bytes) (ms : List A) (i : ℕ) → length ms ≤ i → list_any (same_bytes n) (filter_map F (take i ms)) ≡ false → false ≡ list_any (same_bytes n) (filter_map F ms)
  given-end n ms i l h = sym (ap (λ xs. list_any (same_bytes n) (filter_map F xs)) (sym (take_all i ms l)) ∙ h)
