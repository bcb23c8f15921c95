-- The name that 40 lower-case digits write, read digit by digit.
use Rattle.std.proofs.Common.{◌≡◌, ℕ, zero, suc, ◌+◌, ◌*◌, ◌/◌, ◌%◌, ◌<◌, true, false, [], ◌∷◌, ◌++◌, length, take, slice_index, slice_set, Option, Some, None, refl, sym, ap, ◌∙◌, true≢false, arith, append_assoc}
use Rattle.std.specs.List.{list_all}
use Rattle.std.specs.Cmp.{first_so, second_so}
use Rattle.std.proofs.lemmas.Bool.{ltb-true}
use Rattle.std.proofs.lemmas.List.{take_all, take_more, take_more_set}
use Rattle.std.proofs.lemmas.List.Folds.{list_all_at}
use Rattle.hex.specs.Hex.{encode_with, lower_digits}
use Rattle.git_objects.specs.Paths.{Bytes, is_bytes}
use Rattle.git_objects.specs.Bodies.{is_name}
use Rattle.git_objects.specs.Commits.{hex}
use Rattle.git_objects.specs.CommitBodies.{lower_name}
use Rattle.git_objects.specs.LowerDigits.{is_lower}
use Rattle.git_objects.proofs.Basics.{and_both}
use Rattle.git_objects.proofs.CommitReading.{digits-name, digits-read, lower-read, lower-spelled}

-- ---- one digit

pub decimal_digit : (k : ℕ) → k < 10 → slice_index lower_digits k ≡ 48 + k
decimal_digit zero p = refl
decimal_digit (suc zero) p = refl
decimal_digit (suc (suc zero)) p = refl
decimal_digit (suc (suc (suc zero))) p = refl
decimal_digit (suc (suc (suc (suc zero)))) p = refl
decimal_digit (suc (suc (suc (suc (suc zero))))) p = refl
decimal_digit (suc (suc (suc (suc (suc (suc zero)))))) p = refl
decimal_digit (suc (suc (suc (suc (suc (suc (suc zero))))))) p = refl
decimal_digit (suc (suc (suc (suc (suc (suc (suc (suc zero)))))))) p = refl
decimal_digit (suc (suc (suc (suc (suc (suc (suc (suc (suc zero))))))))) p = refl
decimal_digit (suc (suc (suc (suc (suc (suc (suc (suc (suc (suc k)))))))))) p = absurd (omega arith)

pub letter_digit : (k : ℕ) → k < 6 → slice_index lower_digits (10 + k) ≡ 97 + k
letter_digit zero p = refl
letter_digit (suc zero) p = refl
letter_digit (suc (suc zero)) p = refl
letter_digit (suc (suc (suc zero))) p = refl
letter_digit (suc (suc (suc (suc zero)))) p = refl
letter_digit (suc (suc (suc (suc (suc zero))))) p = refl
letter_digit (suc (suc (suc (suc (suc (suc k)))))) p = absurd (omega arith)

lower_each : (d : ℕ) → d < 16 → is_lower (slice_index lower_digits d) ≡ true
lower_each zero p = refl
lower_each (suc zero) p = refl
lower_each (suc (suc zero)) p = refl
lower_each (suc (suc (suc zero))) p = refl
lower_each (suc (suc (suc (suc zero)))) p = refl
lower_each (suc (suc (suc (suc (suc zero))))) p = refl
lower_each (suc (suc (suc (suc (suc (suc zero)))))) p = refl
lower_each (suc (suc (suc (suc (suc (suc (suc zero))))))) p = refl
lower_each (suc (suc (suc (suc (suc (suc (suc (suc zero)))))))) p = refl
lower_each (suc (suc (suc (suc (suc (suc (suc (suc (suc zero))))))))) p = refl
lower_each (suc (suc (suc (suc (suc (suc (suc (suc (suc (suc zero)))))))))) p = refl
lower_each (suc (suc (suc (suc (suc (suc (suc (suc (suc (suc (suc zero))))))))))) p = refl
lower_each (suc (suc (suc (suc (suc (suc (suc (suc (suc (suc (suc (suc zero)))))))))))) p = refl
lower_each (suc (suc (suc (suc (suc (suc (suc (suc (suc (suc (suc (suc (suc zero))))))))))))) p = refl
lower_each (suc (suc (suc (suc (suc (suc (suc (suc (suc (suc (suc (suc (suc (suc zero)))))))))))))) p = refl
lower_each (suc (suc (suc (suc (suc (suc (suc (suc (suc (suc (suc (suc (suc (suc (suc zero))))))))))))))) p = refl
lower_each (suc (suc (suc (suc (suc (suc (suc (suc (suc (suc (suc (suc (suc (suc (suc (suc k)))))))))))))))) p = absurd (omega arith)

-- ---- where no name is written

lower_all : (n : Bytes) → is_bytes n ≡ true → list_all is_lower (hex n) ≡ true
unfolding encode_with
lower_all [] h = refl
lower_all (x ∷ n) h =
    let small : x < 256 = ltb-true x 256 (first_so _ _ h) in
    let high : x / 16 < 16 = omega arith in
    let low : x % 16 < 16 = omega arith in
    and_both (lower_each (x / 16) high) (and_both (lower_each (x % 16) low) (lower_all n (second_so _ _ h)))

none_where : (o : Option Bytes) → ((n : Bytes) → o ≡ Some n → ⊥) → None ≡ o
none_where None h = refl
none_where (Some n) h = absurd (h n refl)

pub none_long : (t : Bytes) → (length t ≡ 40 → ⊥) → None ≡ lower_name t
none_long t h =
    none_where (lower_name t)
    (λ n e. let s = lower-spelled t n e in h (sym (ap (λ (u : Bytes). length u) s.0) ∙ (digits-name (hex n) n (digits-read n s.1)).0))

pub none_lower : (t : Bytes) (i : ℕ) → i < length t → is_lower (slice_index t i) ≡ false → None ≡ lower_name t
none_lower t i p h =
    none_where (lower_name t)
    (λ n e.
    let s = lower-spelled t n e in
    true≢false (sym (lower_all n (first_so _ _ s.1)) ∙ ap (list_all is_lower) s.0 ∙ list_all_at is_lower t i 0 p h))

-- ---- one byte more

encode_append : (t x y : Bytes) → encode_with t (x ++ y) ≡ encode_with t x ++ encode_with t y
unfolding encode_with
encode_append t [] y = refl
encode_append t (a ∷ x) y = ap (λ (s : Bytes). slice_index t (a / 16) ∷ slice_index t (a % 16) ∷ s) (encode_append t x y)

encode_one : (t : Bytes) (v : ℕ) → encode_with t (v ∷ []) ≡ slice_index t (v / 16) ∷ slice_index t (v % 16) ∷ []
unfolding encode_with
encode_one t v = refl

two_more : (x : Bytes) (i : ℕ) → 2 * i + 1 < length x → take (2 * (i + 1)) x ≡ take (2 * i) x ++ (slice_index x (2 * i) ∷ slice_index x (2 * i + 1) ∷ [])
two_more x i p =
    let two : 2 * (i + 1) ≡ 2 * i + 1 + 1 = omega arith in
    ap (λ (k : ℕ). take k x) two
    ∙ take_more x (2 * i + 1) 0 p
    ∙ ap (λ (s : Bytes). s ++ (slice_index x (2 * i + 1) ∷ [])) (take_more x (2 * i) 0 (omega arith))
    ∙ append_assoc (take (2 * i) x) (slice_index x (2 * i) ∷ []) (slice_index x (2 * i + 1) ∷ [])

pub digits_more : (b x : Bytes) (i h l : ℕ) → i < length b → 2 * i + 1 < length x → h < 16 → l < 16 → slice_index lower_digits h ≡ slice_index x (2 * i) → slice_index lower_digits l ≡ slice_index x (2 * i + 1)
    → hex (take i b) ≡ take (2 * i) x → hex (take (i + 1) (slice_set b i (h * 16 + l))) ≡ take (2 * (i + 1)) x
digits_more b x i h l p q high low eh el same =
    let first : (h * 16 + l) / 16 ≡ h = omega arith in
    let second : (h * 16 + l) % 16 ≡ l = omega arith in
    ap hex (take_more_set b i (h * 16 + l) p)
    ∙ encode_append lower_digits (take i b) ((h * 16 + l) ∷ [])
    ∙ (λ k. same k ++ (encode_one lower_digits (h * 16 + l) ∙ (λ j. slice_index lower_digits (first j) ∷ slice_index lower_digits (second j) ∷ []) ∙ (λ j. eh j ∷ el j ∷ [])) k)
    ∙ sym (two_more x i q)

pub all_digits : (b t : Bytes) (i : ℕ) → length t ≡ 40 → is_name b ≡ true → length b ≡ 20 → i ≡ 20 → hex (take i b) ≡ take (2 * i) t → Some b ≡ lower_name t
all_digits b t i l h k e same =
    let whole : hex b ≡ t = sym (ap hex (take_all i b (omega arith))) ∙ same ∙ take_all (2 * i) t (omega arith) in
    sym (lower-read b h) ∙ ap lower_name whole
