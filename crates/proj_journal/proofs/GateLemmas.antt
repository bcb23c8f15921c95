-- What the first five bytes tell of the rest.
use Rattle.std.proofs.Common.{◌≡◌, ◌≢◌, ◌<◌, ◌≤◌, ◌+◌, ◌^◌, [], ◌∷◌, ℕ, zero, suc, List, length, take, get_or, refl, sym, ap, ◌∙◌, arith}
use Rattle.std.specs.Int.{w32, from_be_bytes}
use Rattle.std.proofs.lemmas.Nat.{be_bytes_4}
use Rattle.proj_journal.specs.Spelled.{size_at-none}
use Rattle.proj_journal.specs.Gates.{OpensItem, EndsList, OpensNothing}

pub no_bytes : (head rest : List ℕ) → head ≡ take 5 rest → length head ≡ 0 → rest ≡ []
no_bytes head [] is none = refl
no_bytes head (x ∷ rest) is none = absurd (omega (arith, ap length is))

pub ends : (head rest : List ℕ) → head ≡ take 5 rest → 0 < length head → get_or head 0 0 ≢ 1 → EndsList rest
ends head [] is some shut = absurd (omega (arith, ap length is))
ends head (x ∷ rest) is some shut = record { gate = x; behind = rest; is = refl; shut = λ one. shut (ap (λ (l : List ℕ). get_or l 0 0) is ∙ one) }

first_is : (head : List ℕ) (x : ℕ) (rest : List ℕ) → head ≡ take 5 (x ∷ rest) → get_or head 0 0 ≡ 1 → x ≡ 1
first_is head x rest is one = sym (ap (λ (l : List ℕ). get_or l 0 0) is) ∙ one

pub cut_short : (number : ℕ) (head rest : List ℕ) → head ≡ take 5 rest → 0 < length head → length head < 5 → get_or head 0 0 ≡ 1 → OpensNothing number rest
cut_short number head [] is some short one = absurd (omega (arith, ap length is))
cut_short number head (x ∷ rest) is some short one = record {
  behind = rest;
  is = ap (λ (n : ℕ). n ∷ rest) (first_is head x rest is one);
  none = size_at-none number rest (λ a b c d e. too_short rest (omega (arith, ap length is, short)) b);
}
  where
    too_short : (l : List ℕ) → length (take 4 l) < 4 → 4 ≤ length l → ⊥
    too_short [] short le = omega arith
    too_short (a ∷ []) short le = omega arith
    too_short (a ∷ b ∷ []) short le = omega arith
    too_short (a ∷ b ∷ c ∷ []) short le = omega arith
    too_short (a ∷ b ∷ c ∷ d ∷ l) short le = omega arith

abbrev pub four : List ℕ → List ℕ
four head = get_or head 1 0 ∷ get_or head 2 0 ∷ get_or head 3 0 ∷ get_or head 4 0 ∷ []

four_are : (head rest : List ℕ) (x : ℕ) → head ≡ take 5 (x ∷ rest) → 5 ≤ length head → take 4 rest ≡ four head
four_are head [] x is long = absurd (omega (arith, ap length is))
four_are head (a ∷ []) x is long = absurd (omega (arith, ap length is))
four_are head (a ∷ b ∷ []) x is long = absurd (omega (arith, ap length is))
four_are head (a ∷ b ∷ c ∷ []) x is long = absurd (omega (arith, ap length is))
four_are head (a ∷ b ∷ c ∷ d ∷ rest) x is long = ap four (sym is)

pub not_open : (number room size : ℕ) (head rest : List ℕ) → head ≡ take 5 rest → room ≡ length rest → 5 ≤ length head → get_or head 0 0 ≡ 1 → size ≡ from_be_bytes w32 (four head)
    → ((number < 2 ^ 20) × (0 < size) × (size ≤ 2 ^ 29) × (5 + size ≤ room) → ⊥) → OpensNothing number rest
not_open number room size head [] is long five one of never = absurd (omega (arith, ap length is))
not_open number room size head (x ∷ rest) is long five one of never =
    let same : size ≡ from_be_bytes w32 (take 4 rest) = of ∙ ap (from_be_bytes w32) (sym (four_are head rest x is five)) in
    record {
      behind = rest;
      is = ap (λ (n : ℕ). n ∷ rest) (first_is head x rest is one);
      none = size_at-none number rest (λ a b c d e. from_size (from_be_bytes w32 (take 4 rest)) same a c d e);
    }
  where
    from_size : (n : ℕ) → size ≡ n → number < 2 ^ 20 → 1 ≤ n → n ≤ 2 ^ 29 → 4 + n ≤ length rest → ⊥
    from_size n same a c d e = never (a, omega (arith, same, c), omega (arith, same, d), omega (arith, same, e, long))

pub opens : (number room size : ℕ) (head rest : List ℕ) → head ≡ take 5 rest → room ≡ length rest → 5 ≤ length head → get_or head 0 0 ≡ 1 → ((i : ℕ) → get_or head i 0 < 256) → size ≡ from_be_bytes w32 (four head)
    → (number < 2 ^ 20) × (0 < size) × (size ≤ 2 ^ 29) × (5 + size ≤ room) → OpensItem number size rest
opens number room size head [] is long five one fits of all = absurd (omega (arith, ap length is))
opens number room size head (x ∷ rest) is long five one fits of all = record {
  behind = rest;
  is = ap (λ (n : ℕ). n ∷ rest) (first_is head x rest is one);
  bytes = four_are head rest x is five ∙ sym (be_bytes_4 (four head) size refl below of);
  few = all.0;
  some = all.1;
  small = all.2;
  room = omega (arith, all.3, long);
}
  where
    below : (i : ℕ) → get_or (four head) i 0 < 256
    below zero = fits 1
    below (suc zero) = fits 2
    below (suc (suc zero)) = fits 3
    below (suc (suc (suc zero))) = fits 4
    below (suc (suc (suc (suc i)))) = omega arith
