-- The components of entries as parts of the bytes that spell them.
use Rattle.std.proofs.Common.{◌≡◌, inl, inr, ℕ, ◌+◌, true, ◌==◌, List, [], ◌∷◌, ◌++◌, length, drop, Some, None, refl, sym, ap, ◌∙◌, arith, append_assoc, length-append, true≢false}
use Rattle.std.specs.Prelude.{slice_get, slice_range}
use Rattle.std.specs.List.{list_all}
use Rattle.std.specs.Cmp.{first_so, second_so}
use Rattle.std.proofs.lemmas.Bool.Decides.{eqb_tells}
use Rattle.git_objects.specs.Paths.{Bytes}
use Rattle.git_objects.specs.Bodies.{is_name}
use Rattle.git_objects.specs.Entries.{body_text, entry_line}
use Rattle.git_objects.specs.Names.{line, mode_text}
use Rattle.git_objects.specs.declared.entry.Entry.{Entry}
use Rattle.stage_nodes.proofs.Lists.{range_front}
use Rattle.stage_nodes.proofs.Pools.{range_pushed}

-- what is left begins with its first entry
pub first_is : (left rest : List Entry) (e : Entry) → Some e ≡ slice_get left 0 → rest ≡ drop 1 left → left ≡ e ∷ rest
first_is [] rest e h r = absurd (no_first h)
  where
    no_first : Some e ≡ None → ⊥
    no_first q = cc
first_is (x ∷ left) rest e h r = λ i. first i ∷ sym r i
  where
    first : x ≡ e
    first = cc

equal_20 : (n : ℕ) → (n == 20) ≡ true → n ≡ 20
equal_20 n h = elim (eqb_tells n 20) [ inl e ↦ e.1 | inr e ↦ absurd (true≢false (sym h ∙ e.0)) ]

pub long_name : (xs ys : List Entry) (e : Entry) → list_all (λ d. is_name d.name.0) (xs ++ e ∷ ys) ≡ true → length e.name.0 ≡ 20
long_name [] ys e h = equal_20 (length e.name.0) (second_so _ _ (first_so _ _ h))
long_name (x ∷ xs) ys e h = long_name xs ys e (second_so _ _ h)

pub record IsPart (names : Bytes) (e : Entry) (rest : List Entry) : Type 0 where
  pub before : ℕ
  pub long : before + length e.component + 21 + length (body_text rest) ≡ length names
  pub part : slice_range names before (before + length e.component) ≡ e.component
  pub front : Bytes
  pub left : names ≡ front ++ body_text rest

module _ (names front : Bytes) (e : Entry) (rest : List Entry) (whole : names ≡ front ++ body_text (e ∷ rest)) (name : length e.name.0 ≡ 20) where
  abbrev digits : Bytes
  digits = mode_text e.mode ++ 32 ∷ []

  abbrev behind : Bytes
  behind = (0 ∷ e.name.0) ++ body_text rest

  cut_line : front ++ (entry_line e ++ body_text rest) ≡ ((front ++ digits) ++ e.component) ++ behind
  unfolding line
  cut_line =
      ap (λ (t : Bytes). front ++ t) (append_assoc (mode_text e.mode ++ (32 ∷ e.component)) (0 ∷ e.name.0) (body_text rest))
      ∙ sym (append_assoc front (mode_text e.mode ++ (32 ∷ e.component)) behind)
      ∙ ap (λ (t : Bytes). t ++ behind) (ap (λ (t : Bytes). front ++ t) (sym (append_assoc (mode_text e.mode) (32 ∷ []) e.component)) ∙ sym (append_assoc front digits e.component))

  cut : names ≡ ((front ++ digits) ++ e.component) ++ behind
  cut = whole ∙ cut_line

  pub part_of : IsPart names e rest
  part_of = record {
    before = length (front ++ digits);
    long = omega (arith, ap length cut, length-append ((front ++ digits) ++ e.component) behind, length-append (front ++ digits) e.component, length-append (0 ∷ e.name.0) (body_text rest), name);
    part =
        ap (λ (b : Bytes). slice_range b (length (front ++ digits)) (length (front ++ digits) + length e.component)) cut
        ∙ range_front ((front ++ digits) ++ e.component) behind (length (front ++ digits)) (length e.component) (omega (arith, length-append (front ++ digits) e.component))
        ∙ range_pushed (front ++ digits) e.component (length (front ++ digits)) (length e.component) refl refl;
    front = front ++ entry_line e;
    left = whole ∙ sym (append_assoc front (entry_line e) (body_text rest));
  }
