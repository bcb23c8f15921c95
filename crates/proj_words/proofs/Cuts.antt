-- Bytes on either side of the first one of a value.
use Rattle.std.proofs.Common.{◌≡◌, ◌+◌, ◌<◌, ℕ, zero, suc, false, [], ◌∷◌, length, take, drop, Some, None, refl, arith}
use Rattle.std.proofs.lemmas.Bool.{false_from_ne_true}
use Rattle.memchr.specs.Find.{Passes, is_byte}
use Rattle.git_objects.specs.Paths.{Bytes}
use Rattle.git_objects.specs.Idents.{cut_at}

module _ (c : ℕ) where
  abbrev Here : Bytes → ℕ → Type 0
  Here t k = Passes (is_byte c) t k

  no_head : (x : ℕ) (t : Bytes) → ¬ Here (x ∷ t) 0 → is_byte c x ≡ false
  no_head x t h = false_from_ne_true (is_byte c x) h

  pub cut_here : (t : Bytes) (n : ℕ) → n < length t → ((k : ℕ) → k < n → ¬ Here t k) → Here t n →
      cut_at c t ≡ Some (take n t, drop (n + 1) t)
  cut_here [] n h f e = absurd (omega arith)
  cut_here (x ∷ t) zero h f e = rw e refl
  cut_here (x ∷ t) (suc n) h f e =
      let k : suc n + 1 ≡ suc (n + 1) = omega arith in
      rw (k, no_head x t (f 0 (omega arith)), cut_here t n (omega arith) (λ k g. f (suc k) (omega arith)) e) refl

  pub cut_nowhere : (t : Bytes) → ((k : ℕ) → k < length t → ¬ Here t k) → cut_at c t ≡ None
  cut_nowhere [] f = refl
  cut_nowhere (x ∷ t) f =
      rw (no_head x t (f 0 (omega arith)), cut_nowhere t (λ k g. f (suc k) (omega arith))) refl
