-- The stream that an incremental export writes: commits with what each changes in the tree of its first parent, upon commits that are
-- there already.
use Rattle.std.specs.Prelude.{ℕ, ◌+◌, ◌-◌, if◌then◌else◌, List, [], ◌∷◌, ◌++◌, map, flat_map, codes, decimal}
use Rattle.git_objects.specs.Paths.{Bytes, Path, is_nil, text}
use Rattle.git_objects.specs.Trees.{Flat}
use Rattle.git_objects.specs.Commits.{hex}
use Rattle.git_objects.specs.Snapshots.{Snapshot, snapshot_name}
use Rattle.path_names.specs.Quoting.{quote}
use Rattle.fast_export.specs.ExportTexts.{Marks, no_marks, is_among, mark_of, new_blobs, blob_text, leaf_line, letter_lines, line, mark_line}
use Rattle.fast_export.specs.Given.{with_blobs}
use Rattle.incremental_export.specs.Changes.{changed, deleted}

-- ---- lines

-- what stands for a commit: its mark, or its digits where it has none
abbrev pub commit_ref : List (ℕ × Bytes) → Bytes → Bytes
commit_ref marks n = if is_among n (map (λ m. m.1) marks) then codes ":" ++ decimal (mark_of n marks) else hex n

-- `from` for the first parent, and `merge` for each further one
abbrev pub parent_lines : List (ℕ × Bytes) → List Bytes → Bytes
parent_lines marks [] = []
parent_lines marks (p ∷ ps) = line (codes "from ") (commit_ref marks p) ++ flat_map (λ q. line (codes "merge ") (commit_ref marks q)) ps

abbrev pub delete_line : Path → Bytes
delete_line p = line (codes "D ") (quote (text p))

-- ---- commits, by the trees that the names of commits stand for

-- the tree upon which a commit's changes stand: that of its first parent
abbrev pub tree_upon : (Bytes → Flat) → List Bytes → Flat
tree_upon tree_of [] = []
tree_upon tree_of (p ∷ ps) = tree_of p

abbrev pub gone : (Bytes → Flat) → Snapshot → List Path
gone tree_of c = deleted (tree_upon tree_of c.parents) c.tree

abbrev pub new : (Bytes → Flat) → Snapshot → Flat
new tree_of c = changed (tree_upon tree_of c.parents) c.tree

-- the marks with those of a commit's blobs, and then with the commit's own
abbrev pub with_commit : Marks → Snapshot → Marks
with_commit m c = record { next = m.next + 1; blobs = m.blobs; commits = m.commits ++ (m.next, snapshot_name c) ∷ [] }

abbrev pub marks_after : (Bytes → Flat) → Marks → Snapshot → Marks
marks_after tree_of m c = with_commit (with_blobs m (new tree_of c)) c

-- a commit, of which the blobs have marks, and to which the next one is given
abbrev pub commit_text : (Bytes → Flat) → Bytes → Marks → Snapshot → Bytes
commit_text tree_of refname m c =
    (if is_nil c.parents then line (codes "reset ") refname else [])
    ++ line (codes "commit ") refname ++ mark_line (codes "mark ") m.next ++ letter_lines c.letter ++ parent_lines m.commits c.parents
    ++ flat_map delete_line (gone tree_of c) ++ flat_map (leaf_line m.blobs) (new tree_of c) ++ 10 ∷ []

-- the blobs that are new and have no mark, and then the commit
abbrev pub one_text : (Bytes → Flat) → Bytes → Marks → Snapshot → Bytes
one_text tree_of refname m c = flat_map blob_text (new_blobs m (new tree_of c)) ++ commit_text tree_of refname (with_blobs m (new tree_of c)) c

abbrev pub commits_text : (Bytes → Flat) → Bytes → Marks → List Snapshot → Bytes
commits_text tree_of refname m [] = []
commits_text tree_of refname m (c ∷ cs) = one_text tree_of refname m c ++ commits_text tree_of refname (marks_after tree_of m c) cs

abbrev pub marks_behind : (Bytes → Flat) → Marks → List Snapshot → Marks
marks_behind tree_of m [] = m
marks_behind tree_of m (c ∷ cs) = marks_behind tree_of (marks_after tree_of m c) cs

-- The text for commits in order and a ref, which is at the last of them; nothing for no commits. A parent that isn't one of them before
-- the commit is there already.
unfoldable pub changes_text : (Bytes → Flat) → List Snapshot → Bytes → Bytes
changes_text tree_of [] refname = []
changes_text tree_of (c ∷ cs) refname =
    commits_text tree_of refname no_marks (c ∷ cs)
    ++ line (codes "reset ") refname ++ mark_line (codes "from ") ((marks_behind tree_of no_marks (c ∷ cs)).next - 1) ++ 10 ∷ []
