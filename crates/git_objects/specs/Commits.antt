-- Commits: their bodies and their names.
use Rattle.std.specs.Prelude.{List, [], ◌∷◌, ◌++◌, codes}
use Rattle.hex.specs.Hex.{encode_lower}
use Rattle.git_objects.specs.Paths.{Bytes}
use Rattle.git_objects.specs.Names.{name}
use Rattle.git_objects.specs.declared.kind.Kind.TheVariants.{Commit as CommitKind}

-- what a commit says beside its tree and its parents
pub record Letter : Type 0 where
  pub author : Bytes
  pub committer : Bytes
  pub message : Bytes

-- a commit: the names of its tree and of its parents, and its letter
pub record Commit : Type 0 where
  pub tree : Bytes
  pub parents : List Bytes
  pub letter : Letter

-- two lower-case digits a byte
abbrev pub hex : Bytes → Bytes
hex n = encode_lower n

-- a word, a space, a value, LF and what follows
abbrev pub field : Bytes → Bytes → Bytes → Bytes
field word value rest = word ++ (32 ∷ (value ++ (10 ∷ rest)))

abbrev pub parent_lines : List Bytes → Bytes → Bytes
parent_lines [] rest = rest
parent_lines (p ∷ ps) rest = field (codes "parent") (hex p) (parent_lines ps rest)

-- the lines of the author and of the committer, an empty line and the message
abbrev pub letter_text : Letter → Bytes
letter_text l = field (codes "author") l.author (field (codes "committer") l.committer (10 ∷ l.message))

-- the line of the tree, one for each parent, and the letter
unfoldable pub commit_body : Commit → Bytes
commit_body c = field (codes "tree") (hex c.tree) (parent_lines c.parents (letter_text c.letter))

unfoldable pub commit_name : Commit → Bytes
commit_name c = name CommitKind (commit_body c)
