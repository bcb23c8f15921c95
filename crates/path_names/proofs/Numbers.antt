-- Numbers that texts say, digit by digit.
use Rattle.std.proofs.Common.{◌≡◌, ◌+◌, ◌-◌, ◌*◌, ◌<◌, ℕ, zero, suc, true, false, cond, [], ◌∷◌, length, drop, get_or, None, refl, arith}
use Rattle.git_objects.specs.Paths.{Bytes}
use Rattle.git_objects.specs.Idents.{is_digit}
use Rattle.path_names.specs.Words.{number_from}

-- a text with a byte that is no digit says no number
pub number_none : (n : ℕ) (text : Bytes) (k : ℕ) → k < length text → is_digit (get_or text k 0) ≡ false → number_from n text ≡ None
number_none n [] k h e = absurd (omega arith)
number_none n (x ∷ text) zero h e = rw e refl
number_none n (x ∷ text) (suc k) h e =
    elim (is_digit x) as (λ b. cond b (number_from (10 * n + (x - 48)) text) None ≡ None) [
      | true ↦ number_none (10 * n + (x - 48)) text k (omega arith) e
      | false ↦ refl
    ]

-- one more digit is read
pub number_more : (n : ℕ) (text : Bytes) (k : ℕ) → k < length text → is_digit (get_or text k 0) ≡ true → number_from n (drop k text) ≡ number_from (10 * n + (get_or text k 0 - 48)) (drop (k + 1) text)
number_more n [] k h e = absurd (omega arith)
number_more n (x ∷ text) zero h e = rw e refl
number_more n (x ∷ text) (suc k) h e = let s : suc k + 1 ≡ suc (k + 1) = omega arith in rw s (number_more n text k (omega arith) e)
