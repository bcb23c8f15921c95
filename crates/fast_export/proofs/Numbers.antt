-- What digits say again.
use Rattle.std.proofs.Common.{◌≡◌, ℕ, zero, suc, ◌+◌, ◌-◌, ◌*◌, ◌/◌, ◌%◌, ◌^◌, ◌<◌, ◌≤◌, Bool, true, false, cond, not, le-leb, List, [], ◌∷◌, ◌++◌, length, Some, None, refl, ap, ◌∙◌, arith}
use Rattle.std.specs.Prelude.{codes, nat_eq}
use Rattle.std.specs.List.{list_all, starts_with}
use Rattle.std.specs.Fmt.{decimal}
use Rattle.std.specs.Option.{option_and_then}
use Rattle.std.specs.Cmp.{first_so, second_so}
use Rattle.std.proofs.lemmas.Bool.Decides.{nat_tests}
use Rattle.std.proofs.lemmas.Fmt.{decimal_by_steps, length-decimal-le, decimal_nonempty}
use Rattle.git_objects.specs.Paths.{Bytes}
use Rattle.git_objects.specs.Idents.{is_digit}
use Rattle.git_objects.proofs.Basics.{and_both}
use Rattle.stream_lex.specs.Spelling.{no_lf}
use Rattle.path_names.specs.Words.{number_from, number}
use Rattle.stream_reader.specs.Words.{not_zero, mark}

abbrev pub all_digits : Bytes → Bool
all_digits ds = list_all is_digit ds

pub all_front : {A : Type 0} (p : A → Bool) (xs ys : List A) → list_all p xs ≡ true → list_all p ys ≡ true → list_all p (xs ++ ys) ≡ true
all_front p [] ys h k = k
all_front p (x ∷ xs) ys h k = and_both (first_so _ _ h) (all_front p xs ys (second_so _ _ h) k)

pub all_so : {A : Type 0} (p q : A → Bool) → ((x : A) → p x ≡ true → q x ≡ true) → (xs : List A) → list_all p xs ≡ true → list_all q xs ≡ true
all_so p q h [] e = refl
all_so p q h (x ∷ xs) e = and_both (h x (first_so _ _ e)) (all_so p q h xs (second_so _ _ e))

one_digit : (d : ℕ) → d < 10 → is_digit (48 + d) ≡ true
one_digit d h = and_both (le-leb 48 (48 + d) (omega arith)) (le-leb (48 + d) 57 (omega arith))

number_append : (k : ℕ) (ds : Bytes) (x m : ℕ) → number_from k ds ≡ Some m → is_digit x ≡ true → number_from k (ds ++ x ∷ []) ≡ Some (10 * m + (x - 48))
number_append k [] x m e h =
    let same : k ≡ m = cc in
    ap (λ b. cond b (Some (10 * k + (x - 48))) None) h ∙ ap (λ n. Some (10 * n + (x - 48))) same
number_append k (d ∷ ds) x m e h =
    elim (is_digit d) as (λ b. cond b (number_from (10 * k + (d - 48)) ds) None ≡ Some m → cond b (number_from (10 * k + (d - 48)) (ds ++ x ∷ [])) None ≡ Some (10 * m + (x - 48))) [
      | true ↦ λ g. number_append (10 * k + (d - 48)) ds x m g h
      | false ↦ λ g. absurd cc
    ] e

abbrev Spelled : ℕ → List ℕ → Type 0
Spelled n ds = (all_digits ds ≡ true) × (number_from 0 ds ≡ Some n)

one : (n : ℕ) → n < 10 → Spelled n ((48 + n) ∷ [])
one n h =
    let d = one_digit n h in
    let e : 10 * 0 + (48 + n - 48) ≡ n = omega arith in
    (and_both d refl, ap (λ b. cond b (Some (10 * 0 + (48 + n - 48))) None) d ∙ ap Some e)

more : (n : ℕ) (ds : List ℕ) → 10 ≤ n → Spelled (n / 10) ds → Spelled n (ds ++ ((48 + n % 10) ∷ []))
more n ds h s =
    let d = one_digit (n % 10) (omega arith) in
    let e : 10 * (n / 10) + (48 + n % 10 - 48) ≡ n = omega arith in
    (all_front is_digit ds ((48 + n % 10) ∷ []) s.0 (and_both d refl), number_append 0 ds (48 + n % 10) (n / 10) s.1 d ∙ ap Some e)

spelled : (n : ℕ) → n < 2 ^ 64 → Spelled n (decimal n)
spelled n h = decimal_by_steps Spelled one more n h

pub digits_of_number : (n : ℕ) → n < 2 ^ 30 → all_digits (decimal n) ≡ true
digits_of_number n h = (spelled n (omega arith)).0

pub number_again : (n : ℕ) → n < 2 ^ 30 → number (decimal n) ≡ Some n
unfolding number
number_again n h =
    let some : 0 < length (decimal n) = decimal_nonempty n (omega arith) in
    let few : length (decimal n) ≤ 18 = length-decimal-le 18 n (omega arith) (omega arith) (omega arith) in
    ap (λ b. cond b (number_from 0 (decimal n)) None) (and_both (le-leb 1 (length (decimal n)) (omega arith)) (le-leb (length (decimal n)) 18 few))
    ∙ (spelled n (omega arith)).1

positive : (n : ℕ) → 1 ≤ n → not_zero n ≡ Some n
positive zero h = absurd (omega arith)
positive (suc n) h = refl

pub mark_again : (n : ℕ) → 1 ≤ n → n < 2 ^ 30 → mark (codes ":" ++ decimal n) ≡ Some n
unfolding mark
mark_again n l h = ap (λ o. option_and_then not_zero o) (number_again n h) ∙ positive n l

pub digit_plain : (x : ℕ) → is_digit x ≡ true → not (nat_eq x 10) ≡ true
digit_plain x h = grind (arith, nat_tests)

digit_other : (x : ℕ) → is_digit x ≡ true → nat_eq 60 x ≡ false
digit_other x h = grind (arith, nat_tests)

pub digits_plain : (n : ℕ) → n < 2 ^ 30 → no_lf (decimal n) ≡ true
digits_plain n h = all_so is_digit (λ x. not (nat_eq x 10)) digit_plain (decimal n) (digits_of_number n h)

no_delimiter : (ds : Bytes) → all_digits ds ≡ true → starts_with nat_eq (codes "data " ++ ds) (codes "data <<") ≡ false
no_delimiter [] h = refl
no_delimiter (d ∷ ds) h = let e : nat_eq 60 d ≡ false = digit_other d (first_so _ _ h) in rw e refl

pub sized_plain : (n : ℕ) → n < 2 ^ 30 → starts_with nat_eq (codes "data " ++ decimal n) (codes "data <<") ≡ false
sized_plain n h = no_delimiter (decimal n) (digits_of_number n h)
