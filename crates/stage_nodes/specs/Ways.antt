-- The way to a path, from the root down.
use Rattle.std.specs.Prelude.{◌≡◌, ℕ, ◌+◌, ◌⊎◌, Bool, false, cond, ◌==◌, List, [], ◌∷◌, ◌++◌, ◌<◌, length, take, get_or, Option, Some, None, slice_get}
use Rattle.std.specs.Ordering.{is_lt}
use Rattle.git_objects.specs.Paths.{Bytes, Path, same_bytes}
use Rattle.git_objects.specs.Entries.{is_dir}
use Rattle.object_store.specs.Objects.{Object}
use Rattle.stage_nodes.specs.declared.nodes.Node.{Node}
use Rattle.stage_nodes.specs.declared.nodes.Nodes.{Nodes}
use Rattle.stage_nodes.specs.declared.nodes.Content.{Content}
use Rattle.stage_nodes.specs.declared.nodes.Content.TheVariants.{Held, Open}
use Rattle.stage_nodes.specs.declared.nodes.Link.{Link}
use Rattle.stage_nodes.specs.declared.nodes.Link.TheVariants.{First}
use Rattle.stage_nodes.specs.Forests.{Forest, Nil, Bin, one, count, Reads, Sound, bytes_cmp}
use Rattle.stage_nodes.specs.Frames.{Frame, dirs_of, plug, link_of, path_of, ReadsUp, Fits, FitsTop, SoundUp}
use Rattle.stage_nodes.specs.Pools.{hanging, inside, spare}
use Rattle.stage_nodes.specs.Directories.{IsDirectory}
use Rattle.stage_nodes.specs.Leaves.{leaf_in, is_held}

-- what is read at a place
pub record IsHere (p : Content → Bool) (names : Bytes) (ns : List Node) (b : ℕ) (up : List Frame) (j : Option ℕ) (X : Forest) : Type 0 where
  pub reads_up : ReadsUp names ns b up j
  pub reads : Reads names ns j X
  pub sound_up : SoundUp p up
  pub sound : Sound p X
  pub fits : FitsTop up X

-- the first of what is left is not before the component
abbrev pub NotBefore : Bytes → Forest → Type 0
NotBefore c Nil = Unit
NotBefore c (Bin k d x l r) = is_lt (bytes_cmp d c) ≡ false

-- the number of the sibling that stands first, where it has the component
abbrev pub named_first : Bytes → Forest → Option ℕ
named_first c Nil = None
named_first c (Bin k d x l r) = cond (same_bytes c d) (Some k) None

-- the nodes of a whole stage, whose root's children are nodes
abbrev pub kids_of : Nodes → Forest
kids_of s = hanging s (First 0)

-- the root has no sibling
abbrev pub IsAlone : Nodes → Type 0
IsAlone s = (n : Node) → slice_get s.cells.items 0 ≡ Some n → n.next ≡ None

pub record IsOpen (S : List Object) (s : Nodes) : Type 0 where
  pub alone : IsAlone s
  pub directory : IsDirectory s 0 (kids_of s)
  pub sound : Sound (is_held S) (kids_of s)
  pub covers : (m : ℕ) → one (m == 0) + count m (kids_of s) + count m (spare s) ≡ inside s m

-- it stands for what it stood for
pub record IsStill (S : List Object) (s s' : Nodes) : Type 0 where
  pub opened : IsOpen S s'
  pub leaves : (p : Path) → leaf_in S (kids_of s') p ≡ leaf_in S (kids_of s) p

-- the way can't go on here
abbrev pub IsBlocked : Bytes → Forest → Type 0
IsBlocked c Nil = Unit
IsBlocked c (Bin k d Open l r) = same_bytes c d ≡ false
IsBlocked c (Bin k d (Held f) l r) = (same_bytes c d ≡ false) ⊎ (is_dir f.mode ≡ false)

-- a place where the component stands or would stand, in the directory of the path
pub record IsPlaceOf (S : List Object) (s : Nodes) (q : Path) (c : Bytes) (link : Link) (child : Option ℕ) : Type 0 where
  pub frames : List Frame
  pub number : Option ℕ
  pub rest : Forest
  pub here : IsHere (is_held S) s.names.items s.cells.items 0 frames number rest
  pub whole : plug frames rest ≡ kids_of s
  pub path : path_of frames ≡ q
  pub link_is : link ≡ link_of 0 frames
  pub fits : Fits frames c
  pub next : NotBefore c rest
  pub child_is : child ≡ named_first c rest

-- a directory of the path, whose children are nodes
pub record IsDirOf (S : List Object) (s : Nodes) (q : Path) (d : ℕ) : Type 0 where
  pub frames : List Frame
  pub number : Option ℕ
  pub kids : Forest
  pub here : IsHere (is_held S) s.names.items s.cells.items 0 frames number kids
  pub whole : plug frames kids ≡ kids_of s
  pub path : path_of frames ≡ q
  pub link_is : First d ≡ link_of 0 frames
  -- no sibling was passed there
  pub fits : (c : Bytes) → Fits frames c

-- what a call answers for the node that it was given, wherever that stands
pub record HasPlace (S : List Object) (s : Nodes) (child : Option ℕ) : Type 0 where
  pub path : Path
  pub component : Bytes
  pub link : Link
  pub place : IsPlaceOf S s path component link child

-- a directory of the path, with the numbers of the directories on the way to it, its own coming last
pub record IsInside (S : List Object) (s : Nodes) (q : Path) (ns : List ℕ) (d : ℕ) : Type 0 where
  pub directory : IsDirOf S s q d
  pub numbers : dirs_of directory.frames ≡ ns

-- the directory is entered
abbrev pub IsEntered : List Object → Nodes → Nodes → Option ℕ → Option ℕ → Type 0
IsEntered S s s' child None = (s' ≡ s) × ((q : Path) (c : Bytes) (link : Link) → (at : IsPlaceOf S s q c link child) → IsBlocked c at.rest)
IsEntered S s s' child (Some d) = IsStill S s s' × ((q : Path) (c : Bytes) (link : Link) → (at : IsPlaceOf S s q c link child) → IsInside S s' (q ++ c ∷ []) (dirs_of at.frames ++ d ∷ []) d)

-- how far the way to a path goes
pub record IsWay (S : List Object) (s s' : Nodes) (p : Path) (level : ℕ) (link : Link) (child : Option ℕ) : Type 0 where
  pub still : IsStill S s s'
  pub component : Bytes
  pub before : Path
  pub behind : Path
  pub path : before ++ component ∷ behind ≡ p
  pub level_is : length before ≡ level
  pub place : IsPlaceOf S s' before component link child
  pub ended : (behind ≡ []) ⊎ IsBlocked component place.rest

-- how far the way to a path goes, with the numbers of the directories on it
pub record IsWayBy (S : List Object) (s s' : Nodes) (p : Path) (ns : List ℕ) (level : ℕ) (link : Link) (child : Option ℕ) : Type 0 where
  pub way : IsWay S s s' p level link child
  pub numbers : dirs_of way.place.frames ≡ ns

-- A link in the directory of a path's first components, of which these are the numbers. The next component doesn't stand
-- before it.
pub record IsStart (S : List Object) (s : Nodes) (p : Path) (ns : List ℕ) (start : Link) : Type 0 where
  pub within : length ns < length p
  pub frames : List Frame
  pub number : Option ℕ
  pub rest : Forest
  pub here : IsHere (is_held S) s.names.items s.cells.items 0 frames number rest
  pub whole : plug frames rest ≡ kids_of s
  pub path : path_of frames ≡ take (length ns) p
  pub link_is : start ≡ link_of 0 frames
  pub fits : (c : Bytes) → c ≡ get_or p (length ns) c → Fits frames c
  pub numbers : dirs_of frames ≡ ns
