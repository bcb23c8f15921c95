-- The lines of parents, one by one.
use Rattle.std.proofs.Common.{◌≡◌, ℕ, Bool, false, zero, suc, ◌+◌, ◌≤◌, List, [], ◌∷◌, ◌++◌, map, drop, length, Some, refl, sym, ap, ◌∙◌, append_assoc, append-nil, arith}
use Rattle.std.specs.Prelude.{codes, flat_map, slice_get, unwrap_or, if◌then◌else◌, ◌==◌}
use Rattle.std.proofs.lemmas.Bool.Decides.{nat_tests}
use Rattle.std.specs.Map.{lookup}
use Rattle.git_objects.specs.Paths.{Bytes}
use Rattle.git_objects.specs.declared.name.Name.{Name}
use Rattle.fast_export.specs.ExportTexts.{mark_line, mark_of, parent_lines}
use Rattle.fast_export.specs.Given.{commit_mark, is_named, parent_word, parents_from}
use Rattle.fast_export.proofs.Lookups.{commit_number}

drop_some : (ps : List Bytes) (i : ℕ) (p : Bytes) → Some p ≡ slice_get ps i → drop i ps ≡ p ∷ drop (suc i) ps
drop_some [] zero p e = absurd cc
drop_some [] (suc i) p e = absurd cc
drop_some (q ∷ ps) zero p e = let same : q ≡ p = cc in ap (λ (x : Bytes). x ∷ ps) same
drop_some (q ∷ ps) (suc i) p e = drop_some ps i p e

next_lines : (es : List (Name × ℕ)) (i : ℕ) (ps : List Bytes) (n : Name) → Some n.0 ≡ slice_get ps i
    → mark_line (parent_word i) (unwrap_or (lookup (is_named n) es) 0) ++ parents_from (map commit_mark es) (i + 1) (drop (i + 1) ps) ≡ parents_from (map commit_mark es) i (drop i ps)
next_lines es i ps n e =
    let more : suc i ≡ i + 1 = omega arith in
    (λ j. mark_line (parent_word i) (sym (commit_number n es) j) ++ parents_from (map commit_mark es) (i + 1) (drop (sym more j) ps))
    ∙ sym (ap (parents_from (map commit_mark es) i) (drop_some ps i n.0 e))

-- a line was added, and the others are left
pub parent_added : (es : List (Name × ℕ)) (i : ℕ) (ps : List Bytes) (n : Name) (out old all : Bytes) → Some n.0 ≡ slice_get ps i → old ++ parents_from (map commit_mark es) i (drop i ps) ≡ all
    → out ≡ old ++ mark_line (parent_word i) (unwrap_or (lookup (is_named n) es) 0) → out ++ parents_from (map commit_mark es) (i + 1) (drop (i + 1) ps) ≡ all
parent_added es i ps n out old all e h o =
    ap (λ (t : Bytes). t ++ parents_from (map commit_mark es) (i + 1) (drop (i + 1) ps)) o
    ∙ append_assoc old _ _
    ∙ ap (λ (t : Bytes). old ++ t) (next_lines es i ps n e)
    ∙ h

drop_all : (ps : List Bytes) (i : ℕ) → length ps ≤ i → drop i ps ≡ []
drop_all [] zero h = refl
drop_all [] (suc i) h = refl
drop_all (p ∷ ps) zero h = absurd (omega arith)
drop_all (p ∷ ps) (suc i) h = drop_all ps i (omega arith)

-- none is left
pub parents_added : (es : List (Name × ℕ)) (i : ℕ) (ps : List Bytes) (out all : Bytes) → length ps ≤ i → out ++ parents_from (map commit_mark es) i (drop i ps) ≡ all → out ≡ all
parents_added es i ps out all h e = sym (append-nil out) ∙ sym (ap (λ (l : List Bytes). out ++ parents_from (map commit_mark es) i l) (drop_all ps i h)) ∙ e

later_word : (i : ℕ) → parent_word (suc i) ≡ codes "merge "
later_word i = ap (λ (b : Bool). if b then codes "from " else codes "merge ") (not_first i)
  where
    not_first : (i : ℕ) → (suc i == 0) ≡ false
    not_first i = grind (arith, nat_tests)

further_lines : (marks : List (ℕ × Bytes)) (i : ℕ) (ps : List Bytes) → parents_from marks (suc i) ps ≡ flat_map (λ q. mark_line (codes "merge ") (mark_of q marks)) ps
further_lines marks i [] = refl
further_lines marks i (p ∷ ps) =
    let more : suc i + 1 ≡ suc (suc i) = omega arith in
    (λ j. mark_line (later_word i j) (mark_of p marks) ++ parents_from marks (suc i + 1) ps)
    ∙ ap (λ (t : Bytes). mark_line (codes "merge ") (mark_of p marks) ++ t) (ap (λ k. parents_from marks k ps) more ∙ further_lines marks (suc i) ps)

-- `from` for the first, and `merge` for each further one
pub all_parents : (marks : List (ℕ × Bytes)) (ps : List Bytes) → parents_from marks 0 ps ≡ parent_lines marks ps
all_parents marks [] = refl
all_parents marks (p ∷ ps) =
    let one : 0 + 1 ≡ suc 0 = omega arith in
    ap (λ (t : Bytes). mark_line (codes "from ") (mark_of p marks) ++ t) (ap (λ k. parents_from marks k ps) one ∙ further_lines marks 0 ps)
