-- The lines of parents, one by one, each with its mark or its digits.
use Rattle.std.proofs.Common.{◌≡◌, ℕ, Bool, true, false, zero, suc, ◌+◌, ◌≤◌, ◌||◌, List, [], ◌∷◌, ◌++◌, map, drop, length, slice_get, Option, Some, None, refl, sym, ap, ◌∙◌, append_assoc, append-nil, arith}
use Rattle.std.specs.Prelude.{codes, decimal, flat_map, if◌then◌else◌, ◌==◌}
use Rattle.std.specs.Map.{lookup}
use Rattle.std.specs.Option.{is_some, unwrap_or}
use Rattle.std.proofs.lemmas.Bool.Decides.{nat_tests}
use Rattle.std.proofs.lemmas.List.{drop_all}
use Rattle.git_objects.specs.Paths.{Bytes, same_bytes}
use Rattle.git_objects.specs.Commits.{hex}
use Rattle.git_objects.specs.declared.name.Name.{Name}
use Rattle.fast_export.specs.ExportTexts.{is_among, line, mark_line, mark_of}
use Rattle.fast_export.specs.Given.{commit_mark, is_named, parent_word}
use Rattle.fast_export.proofs.Lookups.{commit_number}
use Rattle.incremental_export.specs.ChangeTexts.{commit_ref, parent_lines}

-- ---- what stands for a parent

some_test : (b : Bool) (k : ℕ) (o : Option ℕ) → is_some (if b then Some k else o) ≡ (b || is_some o)
some_test true k o = refl
some_test false k o = refl

-- whether a commit has a mark
commit_among : (n : Name) (es : List (Name × ℕ)) → is_among n.0 (map (λ m. m.1) (map commit_mark es)) ≡ is_some (lookup (is_named n) es)
commit_among n [] = refl
commit_among n (e ∷ es) = ap (λ b. same_bytes n.0 e.0.0 || b) (commit_among n es) ∙ sym (some_test (is_named n e.0) e.1 (lookup (is_named n) es))

pub marked_ref : (n : Name) (es : List (Name × ℕ)) (k : ℕ) (word : Bytes) → Some k ≡ lookup (is_named n) es → mark_line word k ≡ line word (commit_ref (map commit_mark es) n.0)
marked_ref n es k word e =
    let there : is_among n.0 (map (λ m. m.1) (map commit_mark es)) ≡ true = commit_among n es ∙ ap is_some (sym e) in
    let number : mark_of n.0 (map commit_mark es) ≡ k = commit_number n es ∙ ap (λ o. unwrap_or o 0) (sym e) in
    ap (λ (t : Bytes). t ++ 10 ∷ []) (append_assoc word (codes ":") (decimal k))
    ∙ (λ i. line word (if sym there i then codes ":" ++ decimal (sym number i) else hex n.0))

pub digits_ref : (n : Name) (es : List (Name × ℕ)) (word : Bytes) → None ≡ lookup (is_named n) es → line word (hex n.0) ≡ line word (commit_ref (map commit_mark es) n.0)
digits_ref n es word e =
    let none : is_among n.0 (map (λ m. m.1) (map commit_mark es)) ≡ false = commit_among n es ∙ ap is_some (sym e) in
    λ i. line word (if sym none i then codes ":" ++ decimal (mark_of n.0 (map commit_mark es)) else hex n.0)

-- ---- one line after another

-- the lines of the parents from the i-th on
abbrev pub refs_from : List (ℕ × Bytes) → ℕ → List Bytes → Bytes
refs_from marks i [] = []
refs_from marks i (p ∷ ps) = line (parent_word i) (commit_ref marks p) ++ refs_from marks (i + 1) ps

pub next_some : {A : Type 0} (xs : List A) (i : ℕ) (x : A) → Some x ≡ slice_get xs i → drop i xs ≡ x ∷ drop (i + 1) xs
next_some [] zero x e = absurd cc
next_some [] (suc i) x e = absurd cc
next_some (y ∷ xs) zero x e = let same : y ≡ x = cc in let one : 1 ≡ 0 + 1 = omega arith in ap (λ z. z ∷ xs) same ∙ ap (λ j. x ∷ drop j (y ∷ xs)) one
next_some (y ∷ xs) (suc i) x e = let more : suc (i + 1) ≡ suc i + 1 = omega arith in next_some xs i x e ∙ ap (λ j. x ∷ drop j (y ∷ xs)) more

-- a line was added, and the others are left
pub ref_added : (marks : List (ℕ × Bytes)) (i : ℕ) (ps : List Bytes) (p out old all : Bytes) → Some p ≡ slice_get ps i → old ++ refs_from marks i (drop i ps) ≡ all
    → out ≡ old ++ line (parent_word i) (commit_ref marks p) → out ++ refs_from marks (i + 1) (drop (i + 1) ps) ≡ all
ref_added marks i ps p out old all e h o =
    ap (λ (t : Bytes). t ++ refs_from marks (i + 1) (drop (i + 1) ps)) o
    ∙ append_assoc old _ _
    ∙ ap (λ (l : List Bytes). old ++ refs_from marks i l) (sym (next_some ps i p e))
    ∙ h

later_word : (i : ℕ) → parent_word (suc i) ≡ codes "merge "
later_word i = ap (λ (b : Bool). if b then codes "from " else codes "merge ") (not_first i)
  where
    not_first : (i : ℕ) → (suc i == 0) ≡ false
    not_first i = grind (arith, nat_tests)

further_refs : (marks : List (ℕ × Bytes)) (i : ℕ) (ps : List Bytes) → refs_from marks (suc i) ps ≡ flat_map (λ q. line (codes "merge ") (commit_ref marks q)) ps
further_refs marks i [] = refl
further_refs marks i (p ∷ ps) =
    let more : suc i + 1 ≡ suc (suc i) = omega arith in
    (λ j. line (later_word i j) (commit_ref marks p) ++ refs_from marks (more j) ps)
    ∙ ap (λ (t : Bytes). line (codes "merge ") (commit_ref marks p) ++ t) (further_refs marks (suc i) ps)

-- `from` for the first, and `merge` for each further one
all_refs : (marks : List (ℕ × Bytes)) (ps : List Bytes) → refs_from marks 0 ps ≡ parent_lines marks ps
all_refs marks [] = refl
all_refs marks (p ∷ ps) =
    let one : 0 + 1 ≡ suc 0 = omega arith in
    ap (λ (t : Bytes). line (codes "from ") (commit_ref marks p) ++ t) (ap (λ k. refs_from marks k ps) one ∙ further_refs marks 0 ps)

pub none_added : (marks : List (ℕ × Bytes)) (out : Bytes) (ps : List Bytes) → out ++ refs_from marks 0 (drop 0 ps) ≡ out ++ parent_lines marks ps
none_added marks out ps = ap (λ (t : Bytes). out ++ t) (all_refs marks ps)

-- none is left
pub refs_added : (marks : List (ℕ × Bytes)) (i : ℕ) (ps : List Bytes) (out all : Bytes) → length ps ≤ i → out ++ refs_from marks i (drop i ps) ≡ all → out ≡ all
refs_added marks i ps out all h e = sym (append-nil out) ∙ sym (ap (λ (l : List Bytes). out ++ refs_from marks i l) (drop_all i ps h)) ∙ e
