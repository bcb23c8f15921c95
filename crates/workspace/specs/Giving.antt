-- What the leaf at a workspace place gives, told of somebody who looks for the cause where it gives no items.
use Rattle.std.specs.Prelude.{List, Option, None, Some, length}
use Rattle.git_objects.specs.Paths.{Bytes, Path}
use Rattle.git_objects.specs.Trees.{Leaf}
use Rattle.filter_text.specs.Items.{Item, items}
use Rattle.filter_routes.specs.FaultTests.{fault}
use Rattle.filter_routes.specs.declared.fault.RouteFault.{RouteFault}
use Rattle.workspace.specs.Workspaces.{listed, text_of}
use Rattle.workspace.specs.declared.giving.LeafGives.{LeafGives}
use Rattle.workspace.specs.declared.giving.LeafGives.TheVariants as gives

-- items that were read: so many, or the first fault of the list that they make with the workspace's own directory
abbrev pub list_gives : List Item → Option RouteFault → LeafGives
list_gives is None = gives.Items (length is)
list_gives is (Some e) = gives.Unsound e

abbrev pub items_give : Path → Option (List Item) → LeafGives
items_give w None = gives.Unreadable
items_give w (Some is) = list_gives is (fault (listed w is))

-- a text, which a link and a module have none of
abbrev pub text_gives : Path → Option Bytes → LeafGives
text_gives w None = gives.NoFile
text_gives w (Some t) = items_give w (items t)

-- the leaf in the directory w of a workspace, where there is one
abbrev pub leaf_gives : Path → Option Leaf → LeafGives
leaf_gives w None = gives.Absent
leaf_gives w (Some x) = text_gives w (text_of x)
