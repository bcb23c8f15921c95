-- The text at the workspace place, as the code has it.
use Rattle.std.specs.Prelude.{◌≡◌, if◌then◌else◌, Option}
use Rattle.std.specs.Option.{option_map}
use Rattle.git_objects.specs.Trees.{Leaf, FileLeaf, ExecLeaf}
use Rattle.filter_text.specs.Filters.{Filter}
use Rattle.workspace.specs.Workspaces.{with_leaf}
use Rattle.proj_audit.specs.declared.showing.ItemsText.{ItemsText}

abbrev pub items_value : ItemsText → Leaf
items_value t = if t.executable then ExecLeaf t.bytes.now else FileLeaf t.bytes.now

-- each filter becomes the same for a tree with the one text at the workspace place and for one with the other
abbrev pub GiveSameItems : Option ItemsText → Option ItemsText → Type 0
GiveSameItems a b = (f : Filter) → with_leaf f (option_map items_value a) ≡ with_leaf f (option_map items_value b)
