-- The nodes of a whole stage: a root, and what hangs at it.
use Rattle.std.specs.Prelude.{◌≡◌, ℕ, ◌+◌, ◌==◌, true, List, [], ◌∷◌, slice_get, Option, Some, None}
use Rattle.git_objects.specs.Paths.{Path}
use Rattle.git_objects.specs.Trees.{at}
use Rattle.git_objects.specs.declared.kind.Kind.TheVariants.{Tree}
use Rattle.git_objects.specs.declared.mode.Mode.TheVariants.{Dir}
use Rattle.git_objects.specs.declared.name.Name.{Name}
use Rattle.object_store.specs.Objects.{Object, has}
use Rattle.stage_nodes.specs.declared.nodes.Node.{Node}
use Rattle.stage_nodes.specs.declared.nodes.Nodes.{Nodes}
use Rattle.stage_nodes.specs.declared.nodes.Content.{Content}
use Rattle.stage_nodes.specs.declared.nodes.Content.TheVariants.{Held, Open}
use Rattle.stage_nodes.specs.Forests.{Forest, Nil, one, count, Reads, Sound}
use Rattle.stage_nodes.specs.Pools.{IsPool, inside, spare}
use Rattle.stage_nodes.specs.Directories.{any}
use Rattle.stage_nodes.specs.Leaves.{leaf_in}
use Rattle.stage_nodes.specs.Ways.{IsAlone, IsOpen, kids_of}
use Rattle.stage_nodes.specs.Items.{Items, items, items_at, tree_of, AreHeld}

abbrev pub root_items : Nodes → Option Node → Items
root_items s None = []
root_items s (Some n) = items_at n.content (items (kids_of s))

abbrev pub items_of : Nodes → Items
items_of s = root_items s (slice_get s.cells.items 0)

-- a root that no path has gone through has no children
abbrev pub IsRootOf : Content → Forest → Type 0
IsRootOf (Held f) K = K ≡ Nil
IsRootOf Open K = Unit

-- the walk from node 0 reaches each number at most once, and the free chain all others
pub record IsStage (s : Nodes) : Type 0 where
  pub alone : IsAlone s
  pub root : Node
  pub there : slice_get s.cells.items 0 ≡ Some root
  pub children : Reads s.names.items s.cells.items root.first (kids_of s)
  pub pool : IsPool s
  pub sound : Sound any (kids_of s)
  pub leafless : IsRootOf root.content (kids_of s)
  pub covers : (m : ℕ) → one (m == 0) + count m (kids_of s) + count m (spare s) ≡ inside s m

-- a root of that name, which no path has gone through, is the only node
abbrev pub root_of : Name → Node
root_of n = record { at = 0; len = 0; content = Held (record { mode = Dir; name = n }); first = None; next = None }

pub record IsOfRoot (s : Nodes) (n : Name) : Type 0 where
  pub cells : s.cells.items ≡ root_of n ∷ []
  pub free : s.free ≡ None

-- what the items name is held, a root that is the empty tree too
abbrev pub IsRooted : List Object → Items → Type 0
IsRooted S [] = Unit
IsRooted S (([], f) ∷ es) = (f.mode ≡ Dir) × (has Tree S f.name.0 ≡ true) × (es ≡ [])
IsRooted S ((c ∷ p, f) ∷ es) = AreHeld S ((c ∷ p, f) ∷ es)

-- the root's children are nodes, and stand for what the stage stood for
pub record IsOpened (S : List Object) (s s' : Nodes) : Type 0 where
  pub opened : IsOpen S s'
  pub leaves : (p : Path) → leaf_in S (kids_of s') p ≡ at (tree_of S (items_of s)) p

-- it is as it was but for free nodes
pub record IsUnopened (s s' : Nodes) : Type 0 where
  pub stage : IsStage s'
  pub items : items_of s' ≡ items_of s
