-- A leaf put at a path, seen node by node.
use Rattle.std.specs.Prelude.{◌≡◌, ℕ, Bool, false, not, List, length, slice_get, Option, Some, None, IfSome}
use Rattle.git_objects.specs.Paths.{Bytes, Path}
use Rattle.git_objects.specs.Trees.{at}
use Rattle.git_objects.specs.Entries.{is_dir}
use Rattle.object_store.specs.Objects.{Object}
use Rattle.path_trees.specs.declared.found.Found.{Found}
use Rattle.stage_nodes.specs.declared.nodes.Node.{Node}
use Rattle.stage_nodes.specs.declared.nodes.Nodes.{Nodes}
use Rattle.stage_nodes.specs.declared.nodes.Content.{Content}
use Rattle.stage_nodes.specs.declared.nodes.Content.TheVariants.{Held, Open}
use Rattle.stage_nodes.specs.declared.nodes.Link.{Link}
use Rattle.stage_tree.specs.declared.last.Last.{Last}
use Rattle.stage_nodes.specs.Forests.{Forest, Bin}
use Rattle.stage_nodes.specs.Frames.{Frame, dirs_of, plug, path_of}
use Rattle.stage_nodes.specs.Leaves.{leaf_in}
use Rattle.stage_nodes.specs.Ways.{IsOpen, IsWay, kids_of}
use Rattle.stage_nodes.specs.Branches.{stem, stem_content, after_named}
use Rattle.stage_nodes.specs.Items.{tree_of}
use Rattle.stage_nodes.specs.Roots.{IsStage, IsRooted, items_of}

abbrev pub is_leaf : Content → Bool
is_leaf (Held f) = not (is_dir f.mode)
is_leaf Open = false

abbrev pub is_leaf_node : Option Node → Bool
is_leaf_node None = false
is_leaf_node (Some n) = is_leaf n.content

-- whether a leaf has the number
abbrev pub is_leaf_at : List Node → Option ℕ → Bool
is_leaf_at ns None = false
is_leaf_at ns (Some k) = is_leaf_node (slice_get ns k)

-- what was found stands at the end of a way, in the place of the node there, under a node of this number
pub record IsPutAt (S : List Object) (s s' : Nodes) (p : Path) (level : ℕ) (link : Link) (child : Option ℕ) (f : Found) (k : ℕ) (w : IsWay S s s p level link child) : Type 0 where
  pub opened : IsOpen S s'
  pub below : List ℕ
  pub long : length below ≡ length w.behind
  pub whole : kids_of s' ≡ plug w.place.frames (Bin k w.component (stem_content w.behind f) (stem below w.behind f) (after_named w.component w.place.rest))

-- A node of this number stands in the directory of a path, and these are the numbers of the directories on the way to it.
pub record IsChildOf (s : Nodes) (q : Path) (ns : List ℕ) (k : ℕ) : Type 0 where
  pub frames : List Frame
  pub component : Bytes
  pub content : Content
  pub children : Forest
  pub siblings : Forest
  pub whole : plug frames (Bin k component content children siblings) ≡ kids_of s
  pub path : path_of frames ≡ q
  pub numbers : dirs_of frames ≡ ns

-- The nodes stand for what the stage stood for, and this is the way to the path, with the numbers of the directories on it.
pub record IsArrived (S : List Object) (s s' : Nodes) (p : Path) (ns : List ℕ) (level : ℕ) (link : Link) (child : Option ℕ) : Type 0 where
  pub leaves : (y : Path) → leaf_in S (kids_of s') y ≡ at (tree_of S (items_of s)) y
  pub way : IsWay S s' s' p level link child
  pub numbers : dirs_of way.place.frames ≡ ns

-- a stage that stands for what it stood for
pub record IsUnmoved (S : List Object) (s s' : Nodes) : Type 0 where
  pub stage : IsStage s'
  pub held : IsRooted S (items_of s')
  pub leaves : (y : Path) → at (tree_of S (items_of s')) y ≡ at (tree_of S (items_of s)) y

-- a stage, and the node that is known in it, if one is
pub record IsMarked (s : Nodes) (last : Last) : Type 0 where
  pub stage : IsStage s
  pub last_there : IfSome last.child (IsChildOf s last.directory.items last.numbers.items)
