-- Laws of the definitions.
use Rattle.std.specs.Prelude.{◌≡◌, ◌↔◌, true, List, Some}
use Rattle.git_objects.specs.Paths.{Bytes, is_bytes}
use Rattle.git_objects.specs.Commits.{Commit}
use Rattle.git_objects.specs.Bodies.{IsTreeBody, tree_entries}
use Rattle.git_objects.specs.CommitBodies.{IsCommitBody, commit_from}
use Rattle.git_objects.specs.declared.entry.Entry.{Entry}
use Rattle.git_objects.specs.Idents.{IsIdent, is_ident}

-- the test of idents tells exactly the texts that are spelled so
abbrev pub IdentLaw : Type 0
IdentLaw = (t : Bytes) → (is_ident t ≡ true) ↔ IsIdent t

-- what is read from a tree's body is what it spells, and each spelling is read
abbrev pub TreeBodyLaw : Type 0
TreeBodyLaw = (b : Bytes) (es : List Entry) → is_bytes b ≡ true → (tree_entries b ≡ Some es) ↔ IsTreeBody es b

-- the same of a commit's body
abbrev pub CommitBodyLaw : Type 0
CommitBodyLaw = (b : Bytes) (c : Commit) → is_bytes b ≡ true → (commit_from b ≡ Some c) ↔ IsCommitBody c b
