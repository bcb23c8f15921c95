-- Directories stored, the deepest first: one whose children are leaves and stored directories is made a stored one.
use Rattle.std.specs.Prelude.{◌≡◌, ℕ, ◌+◌, Bool, true, List, [], ◌∷◌, ◌++◌, Some, ◌⊎◌, false}
use Rattle.git_objects.specs.Paths.{Bytes, Path, is_nil}
use Rattle.git_objects.specs.Trees.{Flat, IsTree, at, under}
use Rattle.git_objects.specs.Entries.{body_text}
use Rattle.git_objects.specs.declared.entry.Entry.{Entry}
use Rattle.git_objects.specs.declared.mode.Mode.TheVariants.{Dir}
use Rattle.git_objects.specs.declared.name.Name.{Name}
use Rattle.object_store.specs.Objects.{Object, IsStore}
use Rattle.object_store.specs.Unfolding.{flat}
use Rattle.path_trees.specs.Listed.{changed}
use Rattle.path_trees.specs.Made.{AreMade, IsTreeFault}
use Rattle.path_trees.specs.declared.found.TreeFault.{TreeFault}
use Rattle.stage_nodes.specs.declared.nodes.Content.{Content}
use Rattle.stage_nodes.specs.declared.nodes.Link.{Link}
use Rattle.stage_nodes.specs.declared.nodes.Link.TheVariants.{First}
use Rattle.stage_nodes.specs.declared.nodes.Nodes.{Nodes}
use Rattle.stage_nodes.specs.declared.nodes.Content.TheVariants.{Held, Open}
use Rattle.stage_nodes.specs.Forests.{Forest, Nil, Bin, Reads, Sound, is_link, target}
use Rattle.stage_nodes.specs.Frames.{Frame, Below, Behind, plug, link_of, ReadsUp, Fits, SoundUp}
use Rattle.stage_nodes.specs.Pools.{Walks, hanging}
use Rattle.stage_nodes.specs.Leaves.{leaf_in, is_held}
use Rattle.stage_nodes.specs.Ways.{IsOpen, kids_of}
use Rattle.stage_nodes.specs.Branches.{Stands}
use Rattle.git_objects.specs.Names.{body}

-- each sibling is a leaf or a stored directory
abbrev pub AreTips : Forest → Type 0
AreTips Nil = Unit
AreTips (Bin k c (Held f) l r) = AreTips r
AreTips (Bin k c Open l r) = ⊥

-- their entries, put one after another into Git's order
abbrev pub gathered : List Entry → Forest → List Entry
gathered es Nil = es
gathered es (Bin k c (Held f) l r) = gathered (changed c (Some f) es) r
gathered es (Bin k c Open l r) = es

-- the body of the directory with these children
abbrev pub children_body : Forest → Bytes
children_body K = body_text (gathered [] K)

-- the children of a directory are leaves and stored directories
pub record HasTips (p : Content → Bool) (s : Nodes) (d : ℕ) : Type 0 where
  pub link : is_link s.cells.items (First d) ≡ true
  pub walk : Walks s (target s.cells.items (First d))
  pub tips : AreTips (hanging s (First d))
  pub sound : Sound p (hanging s (First d))

-- the tree of that name is what a directory's children stand for
pub record CanClose (s : Nodes) (k : ℕ) (n : Name) : Type 0 where
  pub objects : List Object
  pub opened : IsOpen objects s
  pub frames : List Frame
  pub component : Bytes
  pub children : Forest
  pub siblings : Forest
  pub around : ReadsUp s.names.items s.cells.items 0 frames (Some k)
  pub reads : Reads s.names.items s.cells.items (Some k) (Bin k component Open children siblings)
  pub sound_up : SoundUp (is_held objects) frames
  pub sound : Sound (is_held objects) (Bin k component Open children siblings)
  pub fits : Fits frames component
  pub whole : plug frames (Bin k component Open children siblings) ≡ kids_of s
  pub held : is_held objects (Held (record { mode = Dir; name = n })) ≡ true
  pub leaves : (p : Path) → leaf_in objects children p ≡ at (flat objects n.0) p

pub record IsClosedAt (s s' : Nodes) (k : ℕ) (n : Name) (h : CanClose s k n) : Type 0 where
  pub opened : IsOpen h.objects s'
  pub whole : kids_of s' ≡ plug h.frames (Bin k h.component (Held (record { mode = Dir; name = n })) Nil h.siblings)
  pub leaves : (p : Path) → leaf_in h.objects (kids_of s') p ≡ leaf_in h.objects (kids_of s) p

-- ---- from one directory to the next

-- the directories on the way, each in the one before it
abbrev pub numbers_of : List Frame → List ℕ
numbers_of [] = []
numbers_of (Below k c r ∷ up) = numbers_of up ++ k ∷ []
numbers_of (Behind k c x l ∷ up) = numbers_of up

-- the siblings that were passed are leaves and stored directories
abbrev pub TipsUp : List Frame → Type 0
TipsUp [] = Unit
TipsUp (Below k c r ∷ up) = TipsUp up
TipsUp (Behind k c (Held f) l ∷ up) = TipsUp up
TipsUp (Behind k c Open l ∷ up) = ⊥

-- a place at which these directories were entered, and all that was passed is stored
pub record IsTurn (s : Nodes) (entered : List ℕ) (link : Link) : Type 0 where
  pub frames : List Frame
  pub rest : Forest
  pub whole : plug frames rest ≡ kids_of s
  pub link_is : link ≡ link_of 0 frames
  pub entered_are : entered ≡ numbers_of frames
  pub tips : TipsUp frames

-- nothing is left in the last of them
pub record IsTurned (s : Nodes) (entered : List ℕ) : Type 0 where
  pub link : Link
  pub turn : IsTurn s entered link
  pub end : turn.rest ≡ Nil

-- a directory of this number whose children are leaves and stored directories
pub record IsDeepest (s : Nodes) (k : ℕ) : Type 0 where
  pub frames : List Frame
  pub component : Bytes
  pub children : Forest
  pub siblings : Forest
  pub whole : plug frames (Bin k component Open children siblings) ≡ kids_of s
  pub tips : AreTips children

-- how many directories are open
abbrev pub opens : Forest → ℕ
opens Nil = 0
opens (Bin k c Open l r) = opens l + opens r + 1
opens (Bin k c (Held f) l r) = opens r

-- ---- what is stored

-- the body of a tree, or of a directory that it has
pub record HasDirectory (t : Flat) (b : Bytes) : Type 0 where
  pub path : Path
  pub there : (path ≡ []) ⊎ (is_nil (under t path) ≡ false)
  pub body : body (under t path) ≡ b

-- The store has grown by directories, and the nodes stand for what they stood for.
pub record IsStoring (S S' : List Object) (s s' : Nodes) : Type 0 where
  pub store : IsStore S'
  pub newer : List Object
  pub above : newer ++ S ≡ S'
  pub trees : (t : Flat) → IsTree t → Stands S s t → AreMade (HasDirectory t) newer
  pub opened : IsOpen S' s'
  pub leaves : (p : Path) → leaf_in S' (kids_of s') p ≡ leaf_in S (kids_of s) p

-- a fault of storing a directory
abbrev pub IsStoringFault : List Object → List Object → Nodes → TreeFault → Type 0
IsStoringFault S S' s e = (t : Flat) → IsTree t → Stands S s t → IsTreeFault (HasDirectory t) S' e

-- the directory is a stored one
pub record IsStoredAt (S S' : List Object) (s s' : Nodes) (k : ℕ) (h : IsDeepest s k) : Type 0 where
  pub storing : IsStoring S S' s s'
  pub name : Name
  pub whole : plug h.frames (Bin k h.component (Held (record { mode = Dir; name = name })) Nil h.siblings) ≡ kids_of s'
