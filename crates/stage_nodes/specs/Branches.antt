-- What is put at a path: directories that have one child each, and a leaf or a stored directory at the end.
use Rattle.std.specs.Prelude.{◌≡◌, ℕ, ◌+◌, Bool, false, cond, ◌==◌, List, [], ◌∷◌, length, slice_get, Option, Some, None}
use Rattle.git_objects.specs.Paths.{Bytes, Path, same_bytes}
use Rattle.git_objects.specs.Trees.{Flat, at, remove}
use Rattle.object_store.specs.Objects.{Object}
use Rattle.path_trees.specs.declared.found.Found.{Found}
use Rattle.stage_nodes.specs.declared.nodes.Node.{Node}
use Rattle.stage_nodes.specs.declared.nodes.Nodes.{Nodes}
use Rattle.stage_nodes.specs.declared.nodes.Content.{Content}
use Rattle.stage_nodes.specs.declared.nodes.Content.TheVariants.{Held, Open}
use Rattle.stage_nodes.specs.declared.nodes.Link.{Link}
use Rattle.stage_nodes.specs.Forests.{Forest, Nil, Bin, one, count, IsCell, Reads, Sound, IsSound, target}
use Rattle.stage_nodes.specs.Frames.{Frame, plug, Fills}
use Rattle.stage_nodes.specs.declared.ways.Way.{Way}
use Rattle.stage_nodes.specs.declared.nodes.Link.TheVariants.{First, Next}
use Rattle.std.specs.Option.{is_none}
use Rattle.stage_nodes.specs.Pools.{IsKept, IsPool, StayBut, inside, spare}
use Rattle.stage_nodes.specs.Leaves.{leaf_in, is_held}
use Rattle.stage_nodes.specs.Ways.{IsAlone, IsOpen, IsPlaceOf, kids_of}

abbrev pub stem_content : Path → Found → Content
stem_content [] f = Held f
stem_content (d ∷ p) f = Open

-- a node for each component
abbrev pub stem : List ℕ → Path → Found → Forest
stem ks [] f = Nil
stem [] (c ∷ p) f = Nil
stem (k ∷ ks) (c ∷ p) f = Bin k c (stem_content p f) (stem ks p f) Nil

-- they are there, and nothing reaches the first
pub record IsBranch (s s' : Nodes) (p : Path) (f : Found) (k : ℕ) : Type 0 where
  pub below : List ℕ
  pub long : length below + 1 ≡ length p
  pub reads : Reads s'.names.items s'.cells.items (Some k) (stem (k ∷ below) p f)
  pub pool : IsPool s'
  pub old_pool : IsPool s
  pub names : IsKept s.names.items s'.names.items
  pub counts : (m : ℕ) → count m (stem (k ∷ below) p f) + count m (spare s') + inside s m ≡ count m (spare s) + inside s' m
  pub stay : StayBut s s' (λ m. count m (spare s))

-- what stands behind the component
abbrev pub after_named : Bytes → Forest → Forest
after_named c Nil = Nil
after_named c (Bin k d x l r) = cond (same_bytes c d) r (Bin k d x l r)

-- a node that nothing reaches is to be put at a place
pub record HasSpot (s : Nodes) (link : Link) (child : Option ℕ) (k : ℕ) : Type 0 where
  pub rooted : IsAlone s
  pub objects : List Object
  pub path : Path
  pub component : Bytes
  pub place : IsPlaceOf objects s path component link child
  pub content : Content
  pub children : Forest
  pub node : Node
  pub there : slice_get s.cells.items k ≡ Some node
  pub cell : IsCell s.names.items node component content
  pub alone : node.next ≡ None
  pub reads : Reads s.names.items s.cells.items node.first children
  pub sound : IsSound (is_held objects) component content children
  pub sound_below : Sound (is_held objects) children
  pub pool : IsPool s
  pub covers : (m : ℕ) → one (m == 0) + count m (kids_of s) + one (m == k) + count m children + count m (spare s) ≡ inside s m

-- it stands there, in the place of the node that had its component
pub record IsReplaced (s s' : Nodes) (link : Link) (child : Option ℕ) (k : ℕ) (h : HasSpot s link child k) : Type 0 where
  pub opened : IsOpen h.objects s'
  pub whole : kids_of s' ≡ plug h.place.frames (Bin k h.component h.content h.children (after_named h.component h.place.rest))

-- ---- trees

-- the nodes stand for a flat tree
abbrev pub Stands : List Object → Nodes → Flat → Type 0
Stands S s t = (p : Path) → leaf_in S (kids_of s) p ≡ at t p

pub record IsRemoved (S : List Object) (s s' : Nodes) (p : Path) : Type 0 where
  pub opened : IsOpen S s'
  pub removes : (t : Flat) → Stands S s t → Stands S s' (remove t p)

-- what stands at a place may go: its directory keeps a child, or is the root
pub record CanCut (s : Nodes) (link : Link) (child : ℕ) : Type 0 where
  pub objects : List Object
  pub opened : IsOpen objects s
  pub path : Path
  pub component : Bytes
  pub place : IsPlaceOf objects s path component link (Some child)
  pub fills : Fills place.frames (after_named component place.rest)

pub record IsCut (s s' : Nodes) (link : Link) (child : ℕ) (h : CanCut s link child) : Type 0 where
  pub opened : IsOpen h.objects s'
  pub whole : kids_of s' ≡ plug h.place.frames (after_named h.component h.place.rest)

-- what stood at a path is removed, and what stands around its place is as it was
pub record IsCutAt (S : List Object) (s s' : Nodes) (p : Path) (around : List Frame) : Type 0 where
  pub removed : IsRemoved S s s' p
  pub rest : Forest
  pub whole : plug around rest ≡ kids_of s'

-- what is at the end of a way through so many components: nothing, unless a node has the last of them
abbrev pub reached : ℕ → Way → Option ℕ
reached n w = cond (w.level + 1 == n) w.spot.child None

-- whether a link is a directory's first, and the node there has no sibling behind it
abbrev pub is_alone : List Node → Link → ℕ → Bool
is_alone ns (First d) child = is_none (target ns (Next child))
is_alone ns (Next d) child = false
