-- Bodies of commits: which bytes are one, and what it says.
use Rattle.std.specs.Prelude.{◌≡◌, ◌≤◌, ℕ, zero, suc, Bool, true, cond, ◌==◌, List, [], ◌∷◌, ◌++◌, length, codes, Option, Some, None}
use Rattle.std.specs.Option.{option_map, option_and_then, is_some}
use Rattle.std.specs.List.{list_all}
use Rattle.std.specs.Result.{result_ok}
use Rattle.hex.specs.Hex.{decode_sized}
use Rattle.git_objects.specs.Paths.{Bytes, same_bytes}
use Rattle.git_objects.specs.Idents.{cut_at, is_ident}
use Rattle.git_objects.specs.Bodies.{is_name}
use Rattle.git_objects.specs.Commits.{Commit, Letter, commit_body, hex}

-- These bytes are the body of this commit: at most 16 parents, idents, and names in lower-case digits.
pub record IsCommitBody (c : Commit) (b : Bytes) : Type 0 where
  pub tree : is_name c.tree ≡ true
  pub parents : list_all is_name c.parents ≡ true
  pub few : length c.parents ≤ 16
  pub author : is_ident c.letter.author ≡ true
  pub committer : is_ident c.letter.committer ≡ true
  pub spelled : commit_body c ≡ b

-- ---- reading

-- the bytes that 40 digits of either case name
abbrev pub digits_name : Bytes → Option Bytes
digits_name t = result_ok (decode_sized t 20)

-- the same of lower-case digits alone
abbrev pub lower_name : Bytes → Option Bytes
lower_name t = option_and_then (λ n. cond (same_bytes (hex n) t) (Some n) None) (digits_name t)

-- the text behind a word that stands first
abbrev pub strip : Bytes → Bytes → Option Bytes
strip [] text = Some text
strip (w ∷ word) [] = None
strip (w ∷ word) (x ∷ text) = cond (x == w) (strip word text) None

-- the value of a line that begins with a word and a space, and what follows the line
abbrev pub field_from : Bytes → Bytes → Option (Bytes × Bytes)
field_from word b = option_and_then (cut_at 10) (strip (word ++ 32 ∷ []) b)

-- a line's name, and what follows
abbrev pub name_field : Bytes → Bytes → Option (Bytes × Bytes)
name_field word b = option_and_then (λ r. option_map (λ n. (n, r.1)) (lower_name r.0)) (field_from word b)

-- a line's ident, and what follows
abbrev pub ident_field : Bytes → Bytes → Option (Bytes × Bytes)
ident_field word b = option_and_then (λ r. cond (is_ident r.0) (Some r) None) (field_from word b)

-- the author, the committer, an empty line and the message
abbrev pub letter_from : Bytes → Option Letter
letter_from b =
    option_and_then (λ a. option_and_then (λ c. option_map (λ m. record { author = a.0; committer = c.0; message = m }) (strip (10 ∷ []) c.1)) (ident_field (codes "committer") a.1))
    (ident_field (codes "author") b)

abbrev pub more_parent : Bytes → Option (List Bytes × Letter) → Option (List Bytes × Letter)
more_parent p o = option_map (λ r. (p ∷ r.0, r.1)) o

abbrev pub is_parent : Bytes → Bool
is_parent b = is_some (strip (codes "parent ") b)

abbrev pub without_parents : Bytes → Option (List Bytes × Letter)
without_parents b = option_map (λ l. ([], l)) (letter_from b)

-- at most n parents, and the letter
abbrev pub rest_from : ℕ → Bytes → Option (List Bytes × Letter)
rest_from zero b = without_parents b
rest_from (suc n) b = cond (is_parent b) (option_and_then (λ r. more_parent r.0 (rest_from n r.1)) (name_field (codes "parent") b)) (without_parents b)

-- what a commit's body says; None where the bytes are none
unfoldable pub commit_from : Bytes → Option Commit
commit_from b =
    option_and_then (λ t. option_map (λ r. record { tree = t.0; parents = r.0; letter = r.1 }) (rest_from 16 t.1)) (name_field (codes "tree") b)
