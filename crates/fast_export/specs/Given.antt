-- The marks that the code has given, by the names of blobs and commits.
use Rattle.std.specs.Prelude.{◌≡◌, ℕ, ◌+◌, Bool, true, if◌then◌else◌, ◌==◌, decimal, List, [], ◌∷◌, ◌++◌, length, map, codes, Some}
use Rattle.std.specs.Map.{lookup}
use Rattle.std.specs.Option.{unwrap_or}
use Rattle.git_objects.specs.Lists.{Each}
use Rattle.git_objects.specs.Paths.{Bytes, is_nil, same_bytes}
use Rattle.git_objects.specs.Trees.{Leaf, Flat}
use Rattle.git_objects.specs.Names.{mode_text}
use Rattle.git_objects.specs.Commits.{Commit, hex}
use Rattle.git_objects.specs.declared.kind.Kind.TheVariants.{Blob}
use Rattle.git_objects.specs.declared.mode.Mode.{Mode}
use Rattle.git_objects.specs.declared.mode.Mode.TheVariants.{File, Exec, Link, Module, Dir}
use Rattle.git_objects.specs.declared.name.Name.{Name}
use Rattle.object_store.specs.Objects.{Object, body_of, has}
use Rattle.object_store.specs.Unfolding.{flat}
use Rattle.path_names.specs.Quoting.{quote}
use Rattle.path_trees.specs.Walked.{leaf_of}
use Rattle.path_trees.specs.declared.found.Leaf.{Leaf as FoundLeaf}
use Rattle.object_store.specs.TreeObjects.{blob_of}
use Rattle.fast_export.specs.ExportTexts.{Marks, is_among, line, mark_line, mark_of, new_blobs}

-- with trees of which each blob has one
pub record Given : Type 0 where
  pub blobs : List (Name × ℕ)
  pub commits : List (Name × ℕ)
  pub trees : List Name

abbrev pub is_named : Name → Name → Bool
is_named n k = same_bytes n.0 k.0

-- no marks yet
abbrev pub no_given : Given
no_given = record { blobs = []; commits = []; trees = [] }

-- the next number: marks are numbered from 1
abbrev pub next_of : Given → ℕ
next_of g = length g.blobs + length g.commits + 1

-- a blob's bytes by its name, in a store
abbrev pub blob_mark : List Object → Name × ℕ → ℕ × Bytes
blob_mark S e = (e.1, body_of Blob S e.0.0)

abbrev pub commit_mark : Name × ℕ → ℕ × Bytes
commit_mark e = (e.1, e.0.0)

-- the marks that these are, over a store
abbrev pub marks_in : List Object → Given → Marks
marks_in S g = record { next = next_of g; blobs = map (blob_mark S) g.blobs; commits = map commit_mark g.commits }

-- the store has each of the blobs
abbrev pub AreHeldBlobs : List Object → Given → Type 0
AreHeldBlobs S g = Each (λ e. has Blob S e.0.0 ≡ true) g.blobs

-- a leaf's blob, where it has one, has a mark
abbrev pub HasMark : List (ℕ × Bytes) → Leaf → Type 0
HasMark blobs x = (b : Bytes) → blob_of x ≡ Some b → is_among b (map (λ m. m.1) blobs) ≡ true

-- and that of each leaf of a tree
abbrev pub HasMarks : List (ℕ × Bytes) → Flat → Type 0
HasMarks blobs t = Each (λ e. HasMark blobs e.1) t

-- the marks that were given are of blobs that the store has, and each blob of the trees has one
pub record AreGivenIn (S : List Object) (g : Given) : Type 0 where
  pub held : AreHeldBlobs S g
  pub trees : Each (λ n. HasMarks (marks_in S g).blobs (flat S n.0)) g.trees

-- the tree of one leaf, wherever it stands
abbrev pub one_leaf : List Object → FoundLeaf → Flat
one_leaf S leaf = ([], leaf_of (body_of Blob S) leaf.mode leaf.name.0) ∷ []

-- the commits that have marks
abbrev pub commit_names : Given → List Name
commit_names g = map (λ e. e.0) g.commits

-- ---- steps of the text

-- the marks behind a tree's new blobs
abbrev pub with_blobs : Marks → Flat → Marks
with_blobs m t = record { next = m.next + length (new_blobs m t); blobs = m.blobs ++ new_blobs m t; commits = m.commits }

-- what stands for a leaf: digits for a module, and a mark for a blob
abbrev pub data_ref : Mode → Bytes → ℕ → Bytes
data_ref Module n number = hex n
data_ref File n number = codes ":" ++ decimal number
data_ref Exec n number = codes ":" ++ decimal number
data_ref Link n number = codes ":" ++ decimal number
data_ref Dir n number = codes ":" ++ decimal number

abbrev pub modify_line : Mode → Bytes → Bytes → Bytes
modify_line mode ref place = line (codes "M " ++ mode_text mode ++ codes " " ++ ref ++ codes " ") (quote place)

-- the line of a leaf that stands at a place
abbrev pub leaf_text : Given → FoundLeaf → Bytes → Bytes
leaf_text g leaf place = modify_line leaf.mode (data_ref leaf.mode leaf.name.0 (unwrap_or (lookup (is_named leaf.name) g.blobs) 0)) place

-- the word in front of a parent: `from` for the first
abbrev pub parent_word : ℕ → Bytes
parent_word i = if i == 0 then codes "from " else codes "merge "

-- the lines of the parents from the i-th on
abbrev pub parents_from : List (ℕ × Bytes) → ℕ → List Bytes → Bytes
parents_from marks i [] = []
parents_from marks i (p ∷ ps) = mark_line (parent_word i) (mark_of p marks) ++ parents_from marks (i + 1) ps

-- a commit's lines in front of its message
abbrev pub head_text : Bytes → ℕ → Commit → Bytes
head_text refname number c =
    (if is_nil c.parents then line (codes "reset ") refname else [])
    ++ line (codes "commit ") refname ++ mark_line (codes "mark ") number ++ line (codes "author ") c.letter.author
    ++ line (codes "committer ") c.letter.committer ++ line (codes "data ") (decimal (length c.letter.message))

-- and those in front of the lines of its leaves
abbrev pub front_text : Bytes → ℕ → List (ℕ × Bytes) → Commit → Bytes
front_text refname number marks c = (((head_text refname number c ++ c.letter.message) ++ 10 ∷ []) ++ parents_from marks 0 c.parents) ++ codes "deleteall\n"
