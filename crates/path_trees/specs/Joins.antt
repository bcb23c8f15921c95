-- The directories that two trees both have a path in.
use Rattle.std.specs.Prelude.{◌≡◌, ℕ, ◌<◌, ◌≤◌, false, length, drop, slice_get, List, ◌++◌, Some, None}
use Rattle.git_objects.specs.Paths.{Path, is_nil}
use Rattle.git_objects.specs.Trees.{Flat, under}
use Rattle.object_store.specs.Objects.{Object}
use Rattle.path_trees.specs.Clashes.{IsShared, clash}
use Rattle.path_trees.specs.Listed.{listed_at}
use Rattle.path_trees.specs.Made.{IsCollision}
use Rattle.object_store.specs.Unfolding.{StandsFor}
use Rattle.path_trees.specs.Merged.{Side, merged, shared}
use Rattle.path_trees.specs.declared.join.JoinFault.{JoinFault}
use Rattle.path_trees.specs.declared.join.JoinFault.TheVariants.{Clash, Collision, OutOfMemory}
use Rattle.path_trees.specs.declared.join.Shared.{Shared}

-- why two trees are not joined; a clash leaves the store as it was
abbrev pub IsJoinFault : Flat → Flat → List Object → List Object → JoinFault → Type 0
IsJoinFault a b S S' (Clash path by) = (clash a b ≡ Some (path, by)) × (S' ≡ S)
IsJoinFault a b S S' (Collision n) = (clash a b ≡ None) × IsCollision (IsShared a b) S' n.0
IsJoinFault a b S S' OutOfMemory = Unit

-- what two directories list
abbrev pub listing_of : List Object → Shared → List Side
listing_of S d = merged (listed_at S (Some d.left.0)) (listed_at S (Some d.right.0))

-- the directories of one path, in which both have one
pub record IsPlaced (S : List Object) (a b : Flat) (d : Shared) : Type 0 where
  pub path : Path
  pub left : StandsFor S d.left.0 (under a path)
  pub right : StandsFor S d.right.0 (under b path)
  pub left_full : is_nil (under a path) ≡ false
  pub right_full : is_nil (under b path) ≡ false
  pub clear : clash (under a path) (under b path) ≡ None

-- those that both have in a directory stand side by side among all
pub record IsLinked (S : List Object) (all : List Shared) (k : ℕ) (d : Shared) (first : ℕ) : Type 0 where
  pub later : k < first
  pub within : first ≤ length all
  pub others : List Shared
  pub run : drop first all ≡ shared (listing_of S d) ++ others

pub record AreLinked (S : List Object) (a b : Flat) (root : Shared) (all : List Shared) (firsts : List ℕ) : Type 0 where
  pub count : length firsts ≡ length all
  pub first : slice_get all 0 ≡ Some root
  pub placed : (k : ℕ) (d : Shared) → slice_get all k ≡ Some d → IsPlaced S a b d
  pub linked : (k : ℕ) (d : Shared) (first : ℕ) → slice_get all k ≡ Some d → slice_get firsts k ≡ Some first → IsLinked S all k d first
