-- Bodies of commits that say the same.
use Rattle.std.proofs.Common.{◌≡◌, ℕ, zero, suc, ◌/◌, ◌%◌, true, not, List, [], ◌∷◌, refl, sym, ap, ◌∙◌, nat_eq, arith, slice_index}
use Rattle.std.specs.Prelude.{codes}
use Rattle.std.specs.Cmp.{first_so, second_so}
use Rattle.std.proofs.lemmas.Option.{same_Some}
use Rattle.hex.specs.Hex.{encode_with, lower_digits}
use Rattle.git_objects.specs.Paths.{Bytes}
use Rattle.git_objects.specs.Commits.{Commit, Letter, field, parent_lines, letter_text, commit_body, hex}
use Rattle.git_objects.specs.CommitBodies.{field_from}
use Rattle.git_objects.proofs.Basics.{and_both}
use Rattle.git_objects.proofs.CommitReading.{field-read}
use Rattle.git_objects.proofs.IdentSpelling.{avoids}

-- no digit ends a line, whatever it is of
digit-quiet : (xs : Bytes) → avoids 10 xs ≡ true → (d : ℕ) → not (nat_eq (slice_index xs d) 10) ≡ true
digit-quiet [] h d = refl
digit-quiet (x ∷ xs) h zero = first_so _ _ h
digit-quiet (x ∷ xs) h (suc d) = digit-quiet xs (second_so _ _ h) d

pub hex-quiet : (n : Bytes) → avoids 10 (hex n) ≡ true
unfolding encode_with
hex-quiet [] = refl
hex-quiet (x ∷ n) = and_both (digit-quiet lower_digits refl (x / 16)) (and_both (digit-quiet lower_digits refl (x % 16)) (hex-quiet n))

-- what follows a line
pub behind : (w v r u s : Bytes) → avoids 10 v ≡ true → avoids 10 u ≡ true → field w v r ≡ field w u s → r ≡ s
behind w v r u s h g e = ap (λ (p : Bytes × Bytes). p.1) (same_Some (v, r) (u, s) (sym (field-read w v r h) ∙ ap (field_from w) e ∙ field-read w u s g))

abbrev pub first : Bytes → ℕ
first [] = 0
first (x ∷ xs) = x

parents-behind : (ps qs : List Bytes) (l m : Letter) → parent_lines ps (letter_text l) ≡ parent_lines qs (letter_text m) → letter_text l ≡ letter_text m
parents-behind [] [] l m e = e
parents-behind [] (q ∷ qs) l m e = let h : 97 ≡ 112 = ap first e in absurd (omega (arith, h))
parents-behind (p ∷ ps) [] l m e = let h : 112 ≡ 97 = ap first e in absurd (omega (arith, h))
parents-behind (p ∷ ps) (q ∷ qs) l m e =
    parents-behind ps qs l m (behind (codes "parent") (hex p) (parent_lines ps (letter_text l)) (hex q) (parent_lines qs (letter_text m)) (hex-quiet p) (hex-quiet q) e)

-- commits of one body have letters of one text
pub letter-same : (c d : Commit) → commit_body c ≡ commit_body d → letter_text c.letter ≡ letter_text d.letter
unfolding commit_body
letter-same c d e =
    parents-behind c.parents d.parents c.letter d.letter
    (behind (codes "tree") (hex c.tree) (parent_lines c.parents (letter_text c.letter)) (hex d.tree) (parent_lines d.parents (letter_text d.letter)) (hex-quiet c.tree) (hex-quiet d.tree) e)

abbrev pub commit_with : Bytes → List Bytes → Letter → Commit
commit_with t ps l = record { tree = t; parents = ps; letter = l }

pub body-same : (t : Bytes) (ps : List Bytes) (l m : Letter) → letter_text l ≡ letter_text m → commit_body (commit_with t ps l) ≡ commit_body (commit_with t ps m)
unfolding commit_body
body-same t ps l m e = ap (λ x. field (codes "tree") (hex t) (parent_lines ps x)) e
