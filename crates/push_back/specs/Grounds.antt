-- What a pushed stream stands upon, by names that a store has.
use Rattle.std.specs.Prelude.{◌≡◌, true, List, [], ◌∷◌, filter_map, map, Option}
use Rattle.std.specs.Option.{option_map, option_to_list}
use Rattle.git_objects.specs.Lists.{Each}
use Rattle.git_objects.specs.Parts.{name_bytes}
use Rattle.git_objects.specs.Paths.{Bytes}
use Rattle.git_objects.specs.Refs.{Refs}
use Rattle.git_objects.specs.Trees.{Flat}
use Rattle.git_objects.specs.declared.kind.Kind.TheVariants.{Blob, Tree}
use Rattle.git_objects.specs.declared.mode.Mode.{Mode}
use Rattle.git_objects.specs.declared.mode.Mode.TheVariants.{Module}
use Rattle.git_objects.specs.declared.name.Name.{Name}
use Rattle.object_store.specs.Objects.{Object, body_of, has}
use Rattle.object_store.specs.Unfolding.{flat}
use Rattle.fast_import.specs.Bases.{IsBaseIn, base_in}
use Rattle.fast_import.specs.Replays.{Base}
use Rattle.object_store.specs.TreeObjects.{blob_of}
use Rattle.push_laws.specs.PushReplays.{push_base}

-- the ref; the projected commit, where there is one; the tree that is shown; and the names of its blobs in path order
pub record Ground : Type 0 where
  pub refname : Bytes
  pub from : Option Name
  pub shown : Name
  pub blobs : List Name

abbrev pub commits_of : Ground → List (Bytes × Bytes)
commits_of g = map (λ n. (n.0, g.shown.0)) (option_to_list g.from)

abbrev pub refs_of : Ground → Refs
refs_of g = map (λ n. (g.refname, n.0)) (option_to_list g.from)

abbrev pub blobs_of : Ground → List Bytes
blobs_of g = map name_bytes g.blobs

-- the name of the projected commit, where there is one
abbrev pub from_of : Ground → Option Bytes
from_of g = option_map name_bytes g.from

-- what these names stand for, and what a push stands upon by the definition
abbrev pub ground_in : List Object → Ground → Base
ground_in S g = base_in S (commits_of g) (refs_of g) (blobs_of g)

abbrev pub push_base_in : List Object → Ground → Base
push_base_in S g = push_base g.refname (from_of g) (flat S g.shown.0)

-- The store has all of it, and it is what a push stands upon.
pub record IsGroundIn (S : List Object) (g : Ground) : Type 0 where
  pub tree : has Tree S g.shown.0 ≡ true
  pub same : ground_in S g ≡ push_base_in S g
  pub there : IsBaseIn S (commits_of g) (refs_of g) (blobs_of g)

-- The store has these blobs, and they are those of a tree's leaves, in its order.
pub record AreBlobsOf (S : List Object) (t : Flat) (names : List Name) : Type 0 where
  pub bodies : map (body_of Blob S) (map name_bytes names) ≡ filter_map (λ e. blob_of e.1) t
  pub held : Each (λ n. has Blob S n ≡ true) (map name_bytes names)

-- the blob of a leaf of that mode and name; a module has none
abbrev pub blob_names : Mode → Name → List Name
blob_names Module n = []
blob_names m n = n ∷ []
