-- The leaves of a tree, one after another.
use Rattle.std.specs.Prelude.{◌≡◌, Bool, true, false, drop, map, reverse, List, [], ◌∷◌, ◌++◌, Option, Some, None}
use Rattle.std.specs.Option.{is_none, option_map}
use Rattle.std.specs.List.{list_all}
use Rattle.git_objects.specs.Paths.{Bytes, Path}
use Rattle.git_objects.specs.Trees.{Leaf, FileLeaf, ExecLeaf, LinkLeaf, ModuleLeaf, Flat}
use Rattle.git_objects.specs.Entries.{AreEntries}
use Rattle.git_objects.specs.Bodies.{is_name}
use Rattle.git_objects.specs.declared.entry.Entry.{Entry}
use Rattle.git_objects.specs.declared.kind.Kind.TheVariants.{Blob}
use Rattle.git_objects.specs.declared.mode.Mode.{Mode}
use Rattle.git_objects.specs.declared.mode.Mode.TheVariants.{File, Exec, Link, Module, Dir}
use Rattle.object_store.specs.Objects.{Object, body_of, has_child, missing_entry}
use Rattle.object_store.specs.Unfolding.{flat, joined}
use Rattle.path_trees.specs.declared.found.Leaf.{Leaf as FoundLeaf}

-- the leaf where a walk stands, and the leaves that are left
pub record Walked : Type 0 where
  pub current : Option (Path × Leaf)
  pub left : Flat

-- what the next step answers, and where it goes
abbrev pub IsStep : Flat → Bool → Walked → Type 0
IsStep [] more v = (more ≡ false) × (v ≡ record { current = None; left = [] })
IsStep (e ∷ t) more v = (more ≡ true) × (v ≡ record { current = Some e; left = t })

-- ---- what the code keeps

-- the leaf of a mode and a name; a directory's is never asked for
abbrev pub leaf_of : (Bytes → Bytes) → Mode → Bytes → Leaf
leaf_of blob File n = FileLeaf (blob n)
leaf_of blob Exec n = ExecLeaf (blob n)
leaf_of blob Link n = LinkLeaf (blob n)
leaf_of blob Module n = ModuleLeaf n
leaf_of blob Dir n = ModuleLeaf n

abbrev pub placed_leaf : List Object → Path × FoundLeaf → Path × Leaf
placed_leaf S e = (e.0, leaf_of (body_of Blob S) e.1.mode e.1.name.0)

-- paths behind a path
abbrev pub behind : Path → Flat → Flat
behind p t = map (λ e. (p ++ e.0, e.1)) t

-- What is left of open directories, the deepest first, and of the components of its path, the last first.
abbrev pub left_in : List Object → List (List Entry) → Path → Flat
left_in S [] r = []
left_in S (es ∷ up) r = behind (reverse r) (joined (body_of Blob S) (flat S) es) ++ left_in S up (drop 1 r)

-- the components of the directory of a leaf, the last first
abbrev pub above_leaf : Option (Path × FoundLeaf) → Path
above_leaf None = []
above_leaf (Some e) = drop 1 (reverse e.0)

abbrev pub walked : List Object → List (List Entry) → Option (Path × FoundLeaf) → Walked
walked S levels current = record { current = option_map (placed_leaf S) current; left = left_in S (reverse levels) (above_leaf current) }

-- entries of a tree whose children are there
pub record AreStored (S : List Object) (es : List Entry) : Type 0 where
  pub entries : AreEntries es
  pub names : list_all (λ e. is_name e.name.0) es ≡ true
  pub children : is_none (missing_entry S es) ≡ true

abbrev pub AreLevels : List Object → List (List Entry) → Type 0
AreLevels S [] = Unit
AreLevels S (es ∷ levels) = AreStored S es × AreLevels S levels

abbrev pub IsHeldLeaf : List Object → Option (Path × FoundLeaf) → Type 0
IsHeldLeaf S None = Unit
IsHeldLeaf S (Some e) = has_child S e.1.mode e.1.name.0 ≡ true

pub record IsWalk (S : List Object) (levels : List (List Entry)) (current : Option (Path × FoundLeaf)) : Type 0 where
  pub open_levels : AreLevels S levels
  pub held_leaf : IsHeldLeaf S current
