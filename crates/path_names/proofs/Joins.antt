-- The text of a path that grows at its end.
use Rattle.std.proofs.Common.{◌≡◌, refl, sym, ap, ◌∙◌, ℕ, zero, suc, ◌+◌, ◌<◌, arith}
use Rattle.std.proofs.Common.{[], ◌∷◌, ◌++◌, length, get_or, take, append_assoc}
use Rattle.std.proofs.lemmas.List.{take_more}
use Rattle.git_objects.specs.Paths.{Bytes, Path, text}

-- one component behind others
text-push : (c : Bytes) (p : Path) (x : Bytes) → text ((c ∷ p) ++ x ∷ []) ≡ text (c ∷ p) ++ 47 ∷ x
text-push c [] x = refl
text-push c (d ∷ p) x =
    ap (λ t. c ++ (47 ∷ t)) (text-push d p x) ∙ sym (append_assoc c (47 ∷ text (d ∷ p)) (47 ∷ x))

text-take : (p : Path) (i : ℕ) (x : Bytes) → 0 < i → i < length p →
    text (take i p ++ x ∷ []) ≡ text (take i p) ++ 47 ∷ x
text-take [] i x h g = absurd (omega arith)
text-take (c ∷ p) zero x h g = absurd (omega arith)
text-take (c ∷ p) (suc i) x h g = text-push c (take i p) x

-- the first component, and one behind others, at a turn of a loop
pub text_first : (p : Path) (i : ℕ) (x so_far : Bytes) → i ≡ 0 → i < length p → x ≡ get_or p i x →
    so_far ≡ text (take i p) → so_far ++ x ≡ text (take (i + 1) p)
text_first p i x so_far z h e f =
    (λ j. (f ∙ (λ k. text (take (z k) p))) j ++ x)
    ∙ sym (ap text (take_more p i x h) ∙ (λ j. text (take (z j) p ++ sym e j ∷ [])))

pub text_next : (p : Path) (i : ℕ) (x so_far : Bytes) → 0 < i → i < length p → x ≡ get_or p i x →
    so_far ≡ text (take i p) → (so_far ++ 47 ∷ []) ++ x ≡ text (take (i + 1) p)
text_next p i x so_far z h e f =
    append_assoc so_far (47 ∷ []) x ∙ (λ j. f j ++ 47 ∷ x)
    ∙ sym (ap text (take_more p i x h) ∙ (λ j. text (take i p ++ sym e j ∷ [])) ∙ text-take p i x z h)
