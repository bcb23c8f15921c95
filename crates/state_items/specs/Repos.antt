-- What is held, as a repository: known blobs, commits with their flat trees, and refs.
use Rattle.std.specs.Prelude.{◌≡◌, Bool, true, ◌&&◌, ℕ, List, All, Option, Ok}
use Rattle.std.specs.List.{list_all, list_any}
use Rattle.git_objects.specs.Paths.{Bytes, same_bytes}
use Rattle.git_objects.specs.Refs.{Refs}
use Rattle.git_objects.specs.Snapshots.{Snapshot}
use Rattle.git_objects.specs.declared.kind.Kind.{Kind}
use Rattle.git_objects.specs.declared.kind.Kind.TheVariants.{Blob, Tree, Commit}
use Rattle.object_store.specs.Objects.{Object, same_kind}
use Rattle.object_store.specs.TreeObjects.{tree_objects}
use Rattle.object_store.specs.StoredSnapshots.{snapshots_in, blobs_in}
use Rattle.commit_map.specs.Shown.{Shown}
use Rattle.state_items.specs.Items.{Held, read_items}

-- the bodies of the known blobs and the commits, from the newest to the oldest, and the refs
pub record Repo : Type 0 where
  pub blobs : List Bytes
  pub commits : List Snapshot
  pub refs : Refs

abbrev pub repo : Held → Repo
repo h = record { blobs = blobs_in h.objects; commits = snapshots_in h.objects; refs = h.refs }

-- ---- nothing beside the repository's own objects

-- whether this is a tree with that body
abbrev pub is_tree_of : Bytes → Object → Bool
is_tree_of b o = same_kind Tree o.kind && same_bytes b o.body

-- whether a tree with that body is among them
abbrev pub has_tree : Bytes → List Object → Bool
has_tree b os = list_any (is_tree_of b) os

abbrev pub is_used : List Snapshot → Kind → Bytes → Bool
is_used cs Blob b = true
is_used cs Tree b = list_any (λ c. has_tree b (tree_objects c.tree)) cs
is_used cs Commit b = true

-- Whether these are exactly known blobs, commits, and their trees with all subtrees: blobs and commits are by themselves, so each
-- tree has to be one of a commit.
abbrev pub are_used : List Object → Bool
are_used objects = list_all (λ o. is_used (snapshots_in objects) o.kind o.body) objects

-- ---- items that hold what they should

-- The items spell what is held; its objects are exactly the known blobs, the commits and their trees; and each kept projection is what
-- `project` gives for its rule, its filter's text and its original, from scratch over all commits.
pub record IsKept (project : ℕ → Bytes → List Snapshot → Bytes → Option Shown) (items : List Bytes) (h : Held) : Type 0 where
  pub spelled : read_items items ≡ Ok h
  pub objects : are_used h.objects ≡ true
  pub entries : All (λ e. e.result ≡ project e.rule e.filter (repo h).commits e.original) h.kept
