-- Two bytes that stand next to each other, at a turn of a loop.
use Rattle.std.proofs.Common.{◌≡◌, refl, sym, ap, ◌∙◌, inl, inr, ℕ, suc, ◌+◌, ◌-◌, ◌<◌, ◌≤◌, arith}
use Rattle.std.proofs.Common.{Bool, true, false, ◌&&◌, ◌||◌, eqb, [], ◌∷◌, length, get_or, drop, drop-cons}
use Rattle.std.proofs.lemmas.Bool.Decides.{eqb_tells}
use Rattle.git_objects.specs.Paths.{Bytes}
use Rattle.path_names.specs.RefNames.{has_pair}

pair_at : (a b : ℕ) (t : Bytes) (i : ℕ) → suc i < length t →
    has_pair a b (drop i t) ≡ ((eqb (get_or t i 0) a && eqb (get_or t (suc i) 0) b) || has_pair a b (drop (suc i) t))
pair_at a b t i h =
    ap (has_pair a b) (drop-cons t i 0 (omega arith) ∙ ap (λ r. get_or t i 0 ∷ r) (drop-cons t (suc i) 0 h))
    ∙ ap (λ r. (eqb (get_or t i 0) a && eqb (get_or t (suc i) 0) b) || has_pair a b r) (sym (drop-cons t (suc i) 0 h))

-- the byte before i and the byte at i
pub pair_more : (a b : ℕ) (t : Bytes) (i : ℕ) → 1 ≤ i → i < length t →
    has_pair a b (drop (i - 1) t)
    ≡ ((eqb (get_or t (i - 1) 0) a && eqb (get_or t i 0) b) || has_pair a b (drop (i + 1 - 1) t))
pair_more a b t i h g =
    let e : suc (i - 1) ≡ i = omega arith in
    let f : i ≡ i + 1 - 1 = omega arith in
    pair_at a b t (i - 1) (omega arith)
    ∙ (λ j. (eqb (get_or t (i - 1) 0) a && eqb (get_or t (e j) 0) b) || has_pair a b (drop ((e ∙ f) j) t))

-- none at the last byte
pub pair_end : (a b : ℕ) (t : Bytes) → length t ≤ 1 → has_pair a b t ≡ false
pair_end a b [] h = refl
pair_end a b (x ∷ []) h = refl
pair_end a b (x ∷ y ∷ t) h = absurd (omega arith)

pub apart : (x a : ℕ) → (x ≡ a → ⊥) → eqb x a ≡ false
apart x a h =
    elim (eqb_tells x a) [ inl e ↦ absurd (h e.1) | inr e ↦ e.0 ]

pub second_apart : (p : Bool) (x a : ℕ) → (x ≡ a → ⊥) → (p && eqb x a) ≡ false
second_apart true x a h = apart x a h
second_apart false x a h = refl
