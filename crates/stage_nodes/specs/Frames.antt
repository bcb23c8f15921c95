-- A place in a forest, told by what stands around it: the way from a directory's children to it.
use Rattle.std.specs.Prelude.{◌≡◌, ℕ, ◌+◌, Bool, true, ◌==◌, List, [], ◌∷◌, ◌++◌, slice_get, slice_set, Option, Some, None}
use Rattle.std.specs.declared.cmp.Ordering.TheVariants.{Less}
use Rattle.git_objects.specs.Paths.{Bytes, Path, is_component}
use Rattle.stage_nodes.specs.declared.nodes.Node.{Node}
use Rattle.stage_nodes.specs.declared.nodes.Content.{Content}
use Rattle.stage_nodes.specs.declared.nodes.Content.TheVariants.{Open}
use Rattle.stage_nodes.specs.declared.nodes.Link.{Link}
use Rattle.stage_nodes.specs.declared.nodes.Link.TheVariants.{First, Next}
use Rattle.stage_nodes.specs.Forests.{Forest, Nil, Bin, one, count, IsCell, Reads, bytes_cmp, Beyond, IsSound, Sound}

-- inside a directory with these siblings behind it, or behind a sibling with these children
pub data Frame : Type 0 where
  Below : ℕ → Bytes → Forest → Frame
  Behind : ℕ → Bytes → Content → Forest → Frame

-- the children of the directory where the way began, the innermost frame coming first
abbrev pub plug : List Frame → Forest → Forest
plug [] X = X
plug (Below k c r ∷ up) X = plug up (Bin k c Open X r)
plug (Behind k c x l ∷ up) X = plug up (Bin k c x l X)

-- the link to the place, from the directory of number b on
abbrev pub link_of : ℕ → List Frame → Link
link_of b [] = First b
link_of b (Below k c r ∷ up) = First k
link_of b (Behind k c x l ∷ up) = Next k

-- the directories on the way
abbrev pub path_of : List Frame → Path
path_of [] = []
path_of (Below k c r ∷ up) = path_of up ++ c ∷ []
path_of (Behind k c x l ∷ up) = path_of up

-- the numbers of the directories on the way
abbrev pub dirs_of : List Frame → List ℕ
dirs_of [] = []
dirs_of (Below k c r ∷ up) = dirs_of up ++ k ∷ []
dirs_of (Behind k c x l ∷ up) = dirs_of up

-- no directory was entered
abbrev pub AreSiblings : List Frame → Type 0
AreSiblings [] = Unit
AreSiblings (Below k c r ∷ fs) = ⊥
AreSiblings (Behind k c x l ∷ fs) = AreSiblings fs

abbrev pub count_up : ℕ → List Frame → ℕ
count_up n [] = 0
count_up n (Below k c r ∷ up) = one (n == k) + count n r + count_up n up
count_up n (Behind k c x l ∷ up) = one (n == k) + count n l + count_up n up

-- ---- read from the vector, with the number at the place

pub record IsBase (ns : List Node) (b : ℕ) (j : Option ℕ) : Type 0 where
  pub node : Node
  pub there : slice_get ns b ≡ Some node
  pub opened : node.content ≡ Open
  pub first : node.first ≡ j

pub record IsBelow (names : Bytes) (ns : List Node) (k : ℕ) (c : Bytes) (r : Forest) (j : Option ℕ) (Up : Option ℕ → Type 0) : Type 0 where
  pub node : Node
  pub there : slice_get ns k ≡ Some node
  pub cell : IsCell names node c Open
  pub first : node.first ≡ j
  pub siblings : Reads names ns node.next r
  pub up : Up (Some k)

pub record IsBehind (names : Bytes) (ns : List Node) (k : ℕ) (c : Bytes) (x : Content) (l : Forest) (j : Option ℕ) (Up : Option ℕ → Type 0) : Type 0 where
  pub node : Node
  pub there : slice_get ns k ≡ Some node
  pub cell : IsCell names node c x
  pub children : Reads names ns node.first l
  pub next : node.next ≡ j
  pub up : Up (Some k)

abbrev pub ReadsUp : Bytes → List Node → ℕ → List Frame → Option ℕ → Type 0
ReadsUp names ns b [] j = IsBase ns b j
ReadsUp names ns b (Below k c r ∷ up) j = IsBelow names ns k c r j (λ i. ReadsUp names ns b up i)
ReadsUp names ns b (Behind k c x l ∷ up) j = IsBehind names ns k c x l j (λ i. ReadsUp names ns b up i)

-- ---- order and contents

-- the component stands behind the sibling that was passed last
abbrev pub Fits : List Frame → Bytes → Type 0
Fits [] c = Unit
Fits (Below k d r ∷ up) c = Unit
Fits (Behind k d x l ∷ up) c = bytes_cmp d c ≡ Less

abbrev pub FitsTop : List Frame → Forest → Type 0
FitsTop up Nil = Unit
FitsTop up (Bin k c x l r) = Fits up c

-- a directory on the way keeps a child
abbrev pub Fills : List Frame → Forest → Type 0
Fills up (Bin k c x l r) = Unit
Fills [] Nil = Unit
Fills (Below k d r ∷ up) Nil = ⊥
Fills (Behind k d x l ∷ up) Nil = Unit

module _ (p : Content → Bool) where
  abbrev pub SoundUp : List Frame → Type 0
  SoundUp [] = Unit
  SoundUp (Below k c r ∷ up) = (is_component c ≡ true) × (p Open ≡ true) × Beyond c r × Sound p r × Fits up c × SoundUp up
  SoundUp (Behind k c x l ∷ up) = IsSound p c x l × Sound p l × Fits up c × SoundUp up

-- ---- a link written

abbrev pub written : List Node → ℕ → (Node → Node) → Option Node → List Node
written ns k f None = ns
written ns k f (Some n) = slice_set ns k (f n)

abbrev pub pointed : List Node → Link → Option ℕ → List Node
pointed ns (First k) j = written ns k (λ n. record n { first = j }) (slice_get ns k)
pointed ns (Next k) j = written ns k (λ n. record n { next = j }) (slice_get ns k)
