-- How the code stands for what it writes of a commit.
use Rattle.std.specs.Prelude.{◌≡◌, ℕ, List, [], ◌∷◌, ◌++◌, codes, map, true}
use Rattle.git_objects.specs.Commits.{Commit}
use Rattle.git_objects.specs.Lists.{Each}
use Rattle.git_objects.specs.Paths.{Bytes}
use Rattle.git_objects.specs.Trees.{Leaf, Flat}
use Rattle.git_objects.specs.Names.{leaf_mode, mode_text}
use Rattle.git_objects.specs.declared.kind.Kind.TheVariants.{Blob, Commit as CommitKind}
use Rattle.object_store.specs.Objects.{Object, body_of, has}
use Rattle.object_store.specs.Unfolding.{flat}
use Rattle.path_trees.specs.Walked.{leaf_of}
use Rattle.path_names.specs.Quoting.{quote}
use Rattle.fast_export.specs.ExportTexts.{leaf_ref, line}
use Rattle.fast_export.specs.Given.{head_text}
use Rattle.incremental_export.specs.ChangeTexts.{parent_lines, tree_upon}
use Rattle.incremental_export.specs.Changes.{changed, deleted}
use Rattle.incremental_export.specs.Compared.{IsHeldLeaf, leaves_behind, placed_leaf, texts_behind}
use Rattle.incremental_export.specs.Histories.{tree_in}
use Rattle.incremental_export.specs.declared.compare.Changes.{Changes}
use Rattle.incremental_export.specs.declared.compare.Placed.{Placed}

-- the store has each parent
abbrev pub HasParentsIn : List Object → List Bytes → Type 0
HasParentsIn S ps = Each (λ p. has CommitKind S p ≡ true) ps

-- leaves that were found, wherever they are put
abbrev pub flat_of : List Object → List Placed → Flat
flat_of S ps = map (λ p. ([], leaf_of (body_of Blob S) p.leaf.mode p.leaf.name.0)) ps

-- a commit's lines in front of those of what it changes
abbrev pub front_text : Bytes → ℕ → List (ℕ × Bytes) → Commit → Bytes
front_text refname number marks c = ((head_text refname number c ++ c.letter.message) ++ 10 ∷ []) ++ parent_lines marks c.parents

-- the line that puts a leaf at the path of this text
abbrev pub line_at : List (ℕ × Bytes) → Bytes × Leaf → Bytes
line_at blobs e = line (codes "M " ++ mode_text (leaf_mode e.1) ++ codes " " ++ leaf_ref blobs e.1 ++ codes " ") (quote e.0)

-- these are what a commit changes in the tree of its first parent
pub record AreChangesOf (S : List Object) (c : Commit) (x : Changes) : Type 0 where
  pub deleted : map (λ t. t.items) x.deleted.items ≡ texts_behind [] (deleted (tree_upon (tree_in S) c.parents) (flat S c.tree))
  pub put : map (placed_leaf S) x.put.items ≡ leaves_behind [] (changed (tree_upon (tree_in S) c.parents) (flat S c.tree))
  pub held : Each (IsHeldLeaf S) x.put.items
