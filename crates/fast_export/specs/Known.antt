-- The lines of directories that were written.
use Rattle.std.specs.Prelude.{◌≡◌, ◌⊎◌, ℕ, List, [], ◌++◌, codes, flat_map, Option, cond}
use Rattle.std.specs.Map.{lookup}
use Rattle.std.specs.Option.{option_and_then}
use Rattle.std.specs.Prelude.{Some, None}
use Rattle.git_objects.specs.Lists.{Each}
use Rattle.git_objects.specs.Paths.{Bytes, Path, same_bytes, text}
use Rattle.git_objects.specs.Trees.{Leaf, Flat}
use Rattle.git_objects.specs.Names.{leaf_mode, mode_text}
use Rattle.git_objects.specs.declared.name.Name.{Name}
use Rattle.indexmap.specs.IndexMap.{insert_entry}
use Rattle.object_store.specs.Objects.{Object}
use Rattle.object_store.specs.Unfolding.{flat}
use Rattle.path_names.specs.Quoting.{quote}
use Rattle.fast_export.specs.ExportTexts.{leaf_ref, line}
use Rattle.fast_export.specs.Given.{Given, AreGivenIn, HasMarks, is_named, marks_in}
use Rattle.fast_export.specs.declared.known.Lines.{Lines}

-- the line of a leaf of a directory, in front of whose paths stand these bytes
abbrev pub line_behind : List (ℕ × Bytes) → Bytes → Path × Leaf → Bytes
line_behind blobs front e = line (codes "M " ++ mode_text (leaf_mode e.1) ++ codes " " ++ leaf_ref blobs e.1 ++ codes " ") (quote (front ++ text e.0))

abbrev pub lines_behind : List (ℕ × Bytes) → Bytes → Flat → Bytes
lines_behind blobs front t = flat_map (line_behind blobs front) t

-- a tree's lines behind a front, all of whose blobs have marks
pub record IsKnown (S : List Object) (blobs : List (ℕ × Bytes)) (e : Name × Lines) : Type 0 where
  pub marks : HasMarks blobs (flat S e.0.0)
  pub text : e.1.text.items ≡ lines_behind blobs e.1.front.items (flat S e.0.0)

abbrev pub AreKnown : List Object → List (ℕ × Bytes) → List (Name × Lines) → Type 0
AreKnown S blobs es = Each (IsKnown S blobs) es

-- all that is known of what was written
pub record AreWritten (S : List Object) (g : Given) (known : List (Name × Lines)) : Type 0 where
  pub given : AreGivenIn S g
  pub lines : AreKnown S (marks_in S g).blobs known

-- the lines of the tree of that name, where they are behind that front
abbrev pub found_lines : Name → Bytes → List (Name × Lines) → Option Bytes
found_lines n front es = option_and_then (λ l. cond (same_bytes l.front.items front) (Some l.text.items) None) (lookup (is_named n) es)

-- a tree's lines are put to what is known, or to nothing; or all are forgotten
abbrev pub IsAdded : Name → Bytes → Bytes → List (Name × Lines) → List (Name × Lines) → Type 0
IsAdded n front text old new =
    (new ≡ []) ⊎ ((l : Lines) × (l.front.items ≡ front) × (l.text.items ≡ text) × ((new ≡ insert_entry is_named old n l) ⊎ (new ≡ insert_entry is_named [] n l)))
