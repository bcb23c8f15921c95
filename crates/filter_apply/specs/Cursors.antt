-- Cursors: look-ups in a directory of a tree.
use Rattle.std.specs.Prelude.{◌≡◌, true, List, [], ◌∷◌, ◌++◌, Some}
use Rattle.std.specs.Option.{option_map}
use Rattle.git_objects.specs.Entries.{AreEntries}
use Rattle.git_objects.specs.Paths.{Bytes, Path}
use Rattle.git_objects.specs.Trees.{Flat, standing}
use Rattle.git_objects.specs.declared.entry.Entry.{Entry}
use Rattle.object_store.specs.Objects.{Object, has_child}
use Rattle.path_trees.specs.Listed.{found_at}
use Rattle.path_trees.specs.Standing.{node}
use Rattle.path_trees.specs.declared.found.Found.{Found}
use Rattle.filter_apply.specs.declared.cursor.Cursor.{Cursor}

-- these entries are what the directory at the path lists; none, where none is there
pub record IsListedAt (S : List Object) (t : Flat) (p : Path) (es : List Entry) : Type 0 where
  pub order : AreEntries es
  pub stands : (c : Bytes) → option_map (node S) (found_at c es) ≡ standing t (p ++ c ∷ [])
  pub held : (c : Bytes) (f : Found) → found_at c es ≡ Some f → has_child S f.mode f.name.0 ≡ true

-- a cursor in the directory at its path
pub record IsCursor (S : List Object) (t : Flat) (k : Cursor) : Type 0 where
  pub listed : IsListedAt S t k.parent.now k.finder
