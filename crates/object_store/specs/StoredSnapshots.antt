-- What stored objects mean: blobs, and commits with their flat trees.
use Rattle.std.specs.Prelude.{List, [], ◌∷◌, ◌++◌, Option, ◌≡◌, true, Some}
use Rattle.std.specs.Option.{option_to_list, option_map}
use Rattle.git_objects.specs.Paths.{Bytes}
use Rattle.git_objects.specs.Commits.{Commit, commit_body}
use Rattle.git_objects.specs.CommitBodies.{commit_from}
use Rattle.git_objects.specs.declared.kind.Kind.{Kind}
use Rattle.git_objects.specs.declared.kind.Kind.TheVariants.{Blob, Tree, Commit as CommitKind}
use Rattle.object_store.specs.Objects.{Object, body_of, has}
use Rattle.object_store.specs.Unfolding.{flat}
use Rattle.git_objects.specs.Snapshots.{Snapshot, snapshot_commit}

abbrev pub snapshot_object : Snapshot → Object
snapshot_object c = record { kind = CommitKind; body = commit_body (snapshot_commit c) }

abbrev pub blob_in : Kind → Bytes → List Bytes
blob_in Blob b = b ∷ []
blob_in Tree b = []
blob_in CommitKind b = []

-- the commit of a body, where its tree is one of these objects
abbrev pub snapshot_of : List Object → Commit → Snapshot
snapshot_of S c = record { tree = flat S c.tree; parents = c.parents; letter = c.letter }

abbrev pub snapshot_in : List Object → Kind → Bytes → List Snapshot
snapshot_in S Blob b = []
snapshot_in S Tree b = []
snapshot_in S CommitKind b = option_to_list (option_map (snapshot_of S) (commit_from b))

abbrev pub blobs_in : List Object → List Bytes
blobs_in [] = []
blobs_in (o ∷ older) = blob_in o.kind o.body ++ blobs_in older

abbrev pub snapshots_in : List Object → List Snapshot
snapshots_in [] = []
snapshots_in (o ∷ older) = snapshot_in older o.kind o.body ++ snapshots_in older

abbrev pub commit_named : List Object → Bytes → Option Commit
commit_named S n = commit_from (body_of CommitKind S n)

-- a commit's tree, which is stored
pub record IsTreeOf (S : List Object) (n t : Bytes) : Type 0 where
  pub commit : Commit
  pub named : commit_named S n ≡ Some commit
  pub tree : t ≡ commit.tree
  pub held : has Tree S t ≡ true
