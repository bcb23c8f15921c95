-- Worked examples of the text.
use Rattle.std.specs.Prelude.{◌≡◌, [], ◌∷◌, replicate, codes, refl}
use Rattle.std.specs.Fmt.{digits}
use Rattle.hex.specs.Hex.{encode_with}
use Rattle.git_objects.specs.Paths.{Bytes}
use Rattle.git_objects.specs.Trees.{FileLeaf, ExecLeaf, LinkLeaf, ModuleLeaf}
use Rattle.git_objects.specs.Snapshots.{Snapshot}
use Rattle.path_names.specs.Quoting.{quote, quoted_byte}
use Rattle.fast_export.specs.ExportTexts.{commit_text, export_text, new_blobs, no_marks}

abbrev main : Bytes
main = codes "refs/heads/main"

abbrev person : Bytes
person = codes "A <a@x> 1700000000 +0000"

abbrev first : Snapshot
first = record {
  tree = (codes "f" ∷ [], FileLeaf (codes "hello\n")) ∷ [];
  parents = [];
  letter = record { author = person; committer = person; message = codes "init\n" };
}

-- no commits give an empty text
nothing : export_text [] main ≡ []
unfolding export_text
nothing = refl

-- one commit without a parent: its blob, a reset, the commit with its whole tree, and the ref at it
one : export_text (first ∷ []) main
    ≡ codes "blob\nmark :1\ndata 6\nhello\n\nreset refs/heads/main\ncommit refs/heads/main\nmark :2\nauthor A <a@x> 1700000000 +0000\ncommitter A <a@x> 1700000000 +0000\ndata 5\ninit\n\ndeleteall\nM 100644 :1 f\n\nreset refs/heads/main\nfrom :2\n\n"
unfolding export_text quote quoted_byte digits
one = refl

-- a blob that two files have is written once
once : new_blobs no_marks ((codes "a" ∷ [], FileLeaf (codes "x")) ∷ (codes "b" ∷ [], ExecLeaf (codes "x")) ∷ (codes "c" ∷ [], LinkLeaf (codes "y")) ∷ []) ≡ (1, codes "x") ∷ (2, codes "y") ∷ []
once = refl

-- and not at all where it has a mark already
before : new_blobs (record { next = 7; blobs = (3, codes "x") ∷ []; commits = [] }) ((codes "a" ∷ [], FileLeaf (codes "x")) ∷ []) ≡ []
before = refl

-- a module has no blob
module_none : new_blobs no_marks ((codes "m" ∷ [], ModuleLeaf (replicate 20 171)) ∷ []) ≡ []
module_none = refl

-- a merge: `from` for the first parent and `merge` for the second; paths that need it stand in quotes, and a module has its digits
merge : commit_text main 9 (record { next = 10; blobs = (4, codes "x") ∷ []; commits = (2, codes "p") ∷ (8, codes "q") ∷ [] })
    (record {
      tree = (codes "a\"" ∷ [], ExecLeaf (codes "x")) ∷ (codes "m" ∷ [], ModuleLeaf (replicate 20 171)) ∷ [];
      parents = codes "q" ∷ codes "p" ∷ [];
      letter = record { author = person; committer = person; message = [] };
    })
    ≡ codes "commit refs/heads/main\nmark :9\nauthor A <a@x> 1700000000 +0000\ncommitter A <a@x> 1700000000 +0000\ndata 0\n\nfrom :8\nmerge :2\ndeleteall\nM 100755 :4 \"a\\\"\"\nM 160000 abababababababababababababababababababab m\n\n"
unfolding quote quoted_byte digits encode_with
merge = refl
