-- Projections of commits, by their names.
use Rattle.std.specs.Prelude.{List, [], ◌∷◌, if◌then◌else◌, Option, Some, None, map}
use Rattle.std.specs.Option.{option_map}
use Rattle.git_objects.specs.Paths.{Bytes, same_bytes}
use Rattle.git_objects.specs.declared.name.Name.{Name}
use Rattle.commit_map.specs.declared.commit_map.Shown as declared

-- the names of a projected commit and of its tree
pub record Shown : Type 0 where
  pub commit : Bytes
  pub tree : Bytes

abbrev pub shown_value : declared.Shown → Shown
shown_value s = record { commit = s.commit.0; tree = s.tree.0 }

-- originals with their projections, or with none, in order of arrival
abbrev pub Entries : Type 0
Entries = List (Bytes × Option Shown)

-- what is kept of that commit
abbrev pub kept_at : Bytes → Entries → Option (Option Shown)
kept_at n [] = None
kept_at n (e ∷ es) = if same_bytes n e.0 then Some e.1 else kept_at n es

abbrev pub entry_value : Name × Option declared.Shown → Bytes × Option Shown
entry_value e = (e.0.0, option_map shown_value e.1)

abbrev pub entry_values : List (Name × Option declared.Shown) → Entries
entry_values es = map entry_value es
