-- Lemmas on how bodies are put together, and on what is read from texts.
use Rattle.std.proofs.Common.{◌≡◌, ℕ, suc, ◌+◌, ◌-◌, ◌<◌, ◌≤◌, Bool, true, false, cond, not, ◌&&◌, List, [], ◌∷◌, ◌++◌, length, take, drop, get_or, map, Option, Some, None, refl, sym, ap, ◌∙◌, arith, nat_eq, append_assoc}
use Rattle.std.specs.Prelude.{codes, nat_lt}
use Rattle.std.specs.List.{position_or_len, position, list_all}
use Rattle.std.specs.Option.{option_map}
use Rattle.std.proofs.lemmas.Bool.{lt-ltb, le-leb}
use Rattle.std.proofs.lemmas.List.{take_rest, take_more, map-append}
use Rattle.std.proofs.lemmas.Bool.Decides.{nat_tests}
use Rattle.git_objects.specs.Paths.{Bytes}
use Rattle.git_objects.specs.Idents.{cut_at, ends_in_space, is_number, is_digit}
use Rattle.git_objects.specs.Parts.{name_bytes}
use Rattle.git_objects.specs.declared.name.Name.{Name}
use Rattle.git_objects.specs.Commits.{Letter, field, parent_lines, letter_text, commit_body, hex}

-- ---- a text is cut at the first place where a byte stands

abbrev place : ℕ → Bytes → ℕ
place b t = position_or_len (λ x. nat_eq x b) t

-- what the place k cuts, where it is within the text
abbrev cut_where : Bool → ℕ → Bytes → Option (Bytes × Bytes)
cut_where v k t = cond v (Some (take k t, drop (k + 1) t)) None

cut-more : (x : ℕ) (xs : Bytes) (v w : Bool) (k j : ℕ) → v ≡ w → j ≡ suc k → option_map (λ r. (x ∷ r.0, r.1)) (cut_where v k xs) ≡ cut_where w j (x ∷ xs)
cut-more x xs true w k j e f = rw (sym e, f) (let g : suc k + 1 ≡ suc (k + 1) = omega arith in rw g refl)
cut-more x xs false w k j e f = rw (sym e) refl

pub cut_at-place : (b : ℕ) (t : Bytes) → cut_at b t ≡ cut_where (nat_lt (place b t) (length t)) (place b t) t
cut_at-place b [] = refl
cut_at-place b (x ∷ xs) =
    elim (nat_eq x b) as (λ v. cond v (Some ([], xs)) (option_map (λ r. (x ∷ r.0, r.1)) (cut_at b xs)) ≡ cut_where (nat_lt (cond (not v) (1 + place b xs) 0) (length (x ∷ xs))) (cond (not v) (1 + place b xs) 0) (x ∷ xs)) [
      | true ↦ ap (λ v. cut_where v 0 (x ∷ xs)) (sym (lt-ltb 0 (length (x ∷ xs)) (omega arith)))
      | false ↦ ap (option_map (λ r. (x ∷ r.0, r.1))) (cut_at-place b xs)
          ∙ cut-more x xs _ _ (place b xs) (1 + place b xs) (grind (arith, nat_tests)) (omega arith)
    ]

by_none : (v : Bool) (k : ℕ) (t : Bytes) → None ≡ cond v (Some k) None → None ≡ cut_where v k t
by_none true k t e = cc
by_none false k t e = refl

by_some : (v : Bool) (j k : ℕ) (t : Bytes) → Some j ≡ cond v (Some k) None → Some (take j t, take (length t - (j + 1)) (drop (j + 1) t)) ≡ cut_where v k t
by_some true j k t e =
    let same : j ≡ k = cc in
    ap (λ (r : Bytes). Some (take j t, r)) (take_rest t (j + 1)) ∙ ap (λ (i : ℕ). Some (take i t, drop (i + 1) t)) same
by_some false j k t e = cc

-- what a search for the byte tells of the cut
pub cut_at_none : (b : ℕ) (t : Bytes) → None ≡ position (λ x. nat_eq x b) t → None ≡ cut_at b t
cut_at_none b t e = by_none (nat_lt (place b t) (length t)) (place b t) t e ∙ sym (cut_at-place b t)

pub cut_at_some : (b : ℕ) (t : Bytes) (j : ℕ) → Some j ≡ position (λ x. nat_eq x b) t → Some (take j t, take (length t - (j + 1)) (drop (j + 1) t)) ≡ cut_at b t
cut_at_some b t j e = by_some (nat_lt (place b t) (length t)) j (place b t) t e ∙ sym (cut_at-place b t)

pub not_empty : {A : Type 0} (t : List A) → false ≡ nat_eq (length t) 0 → 0 < length t
not_empty [] e = cc
not_empty (x ∷ t) e = omega arith

-- so many digits
pub number-within : (most : ℕ) (t : Bytes) → 0 < length t → length t ≤ most → is_number most t ≡ list_all is_digit t
number-within most t some few = λ i. le-leb 1 (length t) some i && le-leb (length t) most few i && list_all is_digit t

pub number-empty : (most : ℕ) (t : Bytes) → length t ≡ 0 → is_number most t ≡ false
number-empty most [] e = refl
number-empty most (x ∷ t) e = absurd (omega arith)

pub number-long : (most : ℕ) (t : Bytes) → most < length t → is_number most t ≡ false
number-long most t more = grind (arith, nat_tests)

-- the last byte
pub ends-last : (t : Bytes) (x : ℕ) → 0 < length t → x ≡ get_or t (length t - 1) x → nat_eq x 32 ≡ ends_in_space t
ends-last [] x h e = absurd (omega arith)
ends-last (y ∷ []) x h e = ap (λ z. nat_eq z 32) e
ends-last (y ∷ z ∷ t) x h e = ends-last (z ∷ t) x (omega arith) (let s : length (y ∷ z ∷ t) - 1 ≡ suc (length (z ∷ t) - 1) = omega arith in e ∙ ap (λ k. get_or (y ∷ z ∷ t) k x) s)

-- ---- fields

pub field-rest : (word value rest : Bytes) → field word value rest ≡ field word value [] ++ rest
field-rest word value rest =
    ap (λ (s : Bytes). word ++ 32 ∷ s) (sym (append_assoc value (10 ∷ []) rest))
    ∙ sym (append_assoc word (32 ∷ (value ++ (10 ∷ []))) rest)

pub parent_lines-rest : (ps : List Bytes) (rest : Bytes) → parent_lines ps rest ≡ parent_lines ps [] ++ rest
parent_lines-rest [] rest = refl
parent_lines-rest (p ∷ ps) rest =
    ap (field (codes "parent") (hex p)) (parent_lines-rest ps rest)
    ∙ field-rest (codes "parent") (hex p) (parent_lines ps [] ++ rest)
    ∙ sym (append_assoc (field (codes "parent") (hex p) []) (parent_lines ps []) rest)
    ∙ ap (λ (s : Bytes). s ++ rest) (sym (field-rest (codes "parent") (hex p) (parent_lines ps [])))

-- one more parent
pub parent_lines-more : (ps : List Bytes) (p : Bytes) → parent_lines (ps ++ p ∷ []) [] ≡ parent_lines ps [] ++ field (codes "parent") (hex p) []
parent_lines-more [] p = refl
parent_lines-more (q ∷ ps) p =
    ap (field (codes "parent") (hex q)) (parent_lines-more ps p)
    ∙ field-rest (codes "parent") (hex q) (parent_lines ps [] ++ field (codes "parent") (hex p) [])
    ∙ sym (append_assoc (field (codes "parent") (hex q) []) (parent_lines ps []) (field (codes "parent") (hex p) []))
    ∙ ap (λ (s : Bytes). s ++ field (codes "parent") (hex p) []) (sym (field-rest (codes "parent") (hex q) (parent_lines ps [])))

-- ---- a commit's body, line by line

pub letter_joined : (b b1 b2 b3 b4 a c m : Bytes) → b1 ≡ b ++ field (codes "author") a [] → b2 ≡ b1 ++ field (codes "committer") c [] → b3 ≡ b2 ++ 10 ∷ [] → b4 ≡ b3 ++ m
    → b4 ≡ b ++ letter_text (record { author = a; committer = c; message = m })
letter_joined b b1 b2 b3 b4 a c m p q r s =
    s
    ∙ ap (λ (x : Bytes). x ++ m) r
    ∙ append_assoc b2 (10 ∷ []) m
    ∙ ap (λ (x : Bytes). x ++ 10 ∷ m) q
    ∙ append_assoc b1 (field (codes "committer") c []) (10 ∷ m)
    ∙ ap (λ (x : Bytes). b1 ++ x) (sym (field-rest (codes "committer") c (10 ∷ m)))
    ∙ ap (λ (x : Bytes). x ++ field (codes "committer") c (10 ∷ m)) p
    ∙ append_assoc b (field (codes "author") a []) (field (codes "committer") c (10 ∷ m))
    ∙ ap (λ (x : Bytes). b ++ x) (sym (field-rest (codes "author") a (field (codes "committer") c (10 ∷ m))))

pub commit_joined : (b b1 b2 b3 t : Bytes) (ps : List Bytes) (l : Letter) → b ≡ [] → b1 ≡ b ++ field (codes "tree") (hex t) [] → b2 ≡ b1 ++ parent_lines ps [] → b3 ≡ b2 ++ letter_text l
    → b3 ≡ commit_body (record { tree = t; parents = ps; letter = l })
unfolding commit_body
commit_joined b b1 b2 b3 t ps l none p q r =
    r
    ∙ ap (λ (x : Bytes). x ++ letter_text l) q
    ∙ append_assoc b1 (parent_lines ps []) (letter_text l)
    ∙ ap (λ (x : Bytes). b1 ++ x) (sym (parent_lines-rest ps (letter_text l)))
    ∙ ap (λ (x : Bytes). x ++ parent_lines ps (letter_text l)) (p ∙ ap (λ (x : Bytes). x ++ field (codes "tree") (hex t) []) none)
    ∙ sym (field-rest (codes "tree") (hex t) (parent_lines ps (letter_text l)))

-- one more parent of a list
pub parents_more : (b b1 b2 : Bytes) (ps : List Name) (i : ℕ) (d : Name) (h : Bytes) → i < length ps → b1 ≡ b ++ parent_lines (map name_bytes (take i ps)) [] → b2 ≡ b1 ++ field (codes "parent") h [] → h ≡ hex (name_bytes (get_or ps i d))
    → b2 ≡ b ++ parent_lines (map name_bytes (take (i + 1) ps)) []
parents_more b b1 b2 ps i d h lt p q e =
    let before : List Bytes = map name_bytes (take i ps) in
    let last : Bytes = name_bytes (get_or ps i d) in
    let all : map name_bytes (take (i + 1) ps) ≡ before ++ last ∷ [] = ap (map name_bytes) (take_more ps i d lt) ∙ map-append name_bytes (take i ps) (get_or ps i d ∷ []) in
    q
    ∙ ap (λ (x : Bytes). x ++ field (codes "parent") h []) p
    ∙ append_assoc b (parent_lines before []) (field (codes "parent") h [])
    ∙ ap (λ (x : Bytes). b ++ (parent_lines before [] ++ field (codes "parent") x [])) e
    ∙ ap (λ (x : Bytes). b ++ x) (sym (parent_lines-more before last))
    ∙ ap (λ (x : List Bytes). b ++ parent_lines x []) (sym all)
