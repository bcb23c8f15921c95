-- The parts of a text between slashes.
use Rattle.std.proofs.Common.{◌≡◌, refl, sym, ap, ◌∙◌, ℕ, ◌+◌, ◌-◌, ◌≤◌, arith}
use Rattle.std.proofs.Common.{Bool, true, false, cond, ◌&&◌, not, eqb, ltb, [], ◌∷◌, length, take, drop, Some, None}
use borrow.Author.Tests.{ltb-true, ltb-false}
use Rattle.std.specs.List.{list_all, onto_first, position, position_or_len}
use Rattle.std.proofs.lemmas.List.{take_rest}
use Rattle.std.proofs.lemmas.List.Splits.{length-slice_split, slice_split-cons_no, slice_split_first}
use Rattle.std.proofs.lemmas.List.Sums.{count_by-le-length}
use Rattle.git_objects.specs.Paths.{Bytes, Path, is_nil, is_component, is_path}
use Rattle.path_names.specs.PathTexts.{parts}

-- there is at least one part
some_first : (x : ℕ) (ps : Path) → is_nil (onto_first x ps) ≡ false
some_first x [] = refl
some_first x (p ∷ ps) = refl

some_part : (t : Bytes) → is_nil (parts t) ≡ false
some_part [] = refl
some_part (x ∷ t) =
    elim (eqb x 47) as (λ b. is_nil (cond b ([] ∷ parts t) (onto_first x (parts t))) ≡ false)
    [ true ↦ refl | false ↦ some_first x (parts t) ]

pub is_path-parts : (t : Bytes) → list_all is_component (parts t) ≡ true → is_path (parts t) ≡ true
is_path-parts t h = λ i. not (some_part t i) && h i

abbrev slash : ℕ → Bool
slash x = eqb x 47

-- where the first slash is, or the text's length
abbrev end : Bytes → ℕ
end t = position_or_len slash t

end_at : (x : ℕ) (t : Bytes) (b : Bool) → slash x ≡ b → end (x ∷ t) ≡ cond (not b) (1 + end t) 0
end_at x t b e = λ i. cond (not (e i)) (1 + end t) 0

-- without a slash the text is the one part
only_part : (t : Bytes) → length t ≤ end t → parts t ≡ t ∷ []
only_part [] h = refl
only_part (x ∷ t) h =
    elim (slash x) as (λ b. slash x ≡ b → parts (x ∷ t) ≡ (x ∷ t) ∷ []) [
      | true ↦ λ e. let k = end_at x t true e in absurd (omega arith)
      | false ↦ λ e.
          let k = end_at x t false e in
          slice_split-cons_no slash x t e ∙ ap (onto_first x) (only_part t (omega arith))
    ]
    refl

position_at : (t : Bytes) (b : Bool) → ltb (end t) (length t) ≡ b → position slash t ≡ cond b (Some (end t)) None
position_at t b e = λ i. cond (e i) (Some (end t)) None

pub no_slash_part : (t : Bytes) → position slash t ≡ None → parts t ≡ t ∷ []
no_slash_part t h =
    elim (ltb (end t) (length t)) as (λ b. ltb (end t) (length t) ≡ b → parts t ≡ t ∷ []) [
      | true ↦ λ e. let k = position_at t true e in cc
      | false ↦ λ e. only_part t (ltb-false (end t) (length t) e)
    ]
    refl

pub first_part : (t : Bytes) (at : ℕ) → position slash t ≡ Some at →
    parts t ≡ take at t ∷ parts (take (length t - (at + 1)) (drop (at + 1) t))
first_part t at h =
    elim (ltb (end t) (length t)) as (λ b. ltb (end t) (length t) ≡ b →
    parts t ≡ take at t ∷ parts (take (length t - (at + 1)) (drop (at + 1) t))) [
      | true ↦ λ e.
          let k = position_at t true e in
          let same : end t ≡ at = cc in
          slice_split_first slash t 0 (ltb-true (end t) (length t) e)
          ∙ (λ i. take (same i) t ∷ parts (drop (same i + 1) t))
          ∙ (λ i. take at t ∷ parts (sym (take_rest t (at + 1)) i))
      | false ↦ λ e. let k = position_at t false e in cc
    ]
    refl

-- a text has few enough parts to be counted
pub few_parts : (t : Bytes) → length (parts t) ≤ length t + 1
few_parts t = omega (arith, length-slice_split slash t, count_by-le-length slash t)
