-- What is held of objects beside the objects: their names, the graph of commits, and the names of the blobs, in order of arrival.
use Rattle.std.specs.Prelude.{◌≡◌, ◌<◌, ◌^◌, ⊤, true, false, ℕ, ◌+◌, List, [], ◌∷◌, ◌++◌, map, length, reverse, Option, Some, None, if◌then◌else◌}
use Rattle.std.specs.List.{list_all, list_any}
use Rattle.std.specs.Option.{is_some, unwrap_or}
use Rattle.git_objects.specs.Paths.{Bytes, same_bytes}
use Rattle.git_objects.specs.Names.{name}
use Rattle.git_objects.specs.Commits.{Commit}
use Rattle.git_objects.specs.CommitBodies.{commit_from}
use Rattle.git_objects.specs.Parts.{name_bytes}
use Rattle.git_objects.specs.declared.kind.Kind.{Kind}
use Rattle.git_objects.specs.declared.kind.Kind.TheVariants.{Blob, Tree, Commit as CommitKind}
use Rattle.git_objects.specs.declared.name.Name.{Name}
use Rattle.object_store.specs.Objects.{Object, has_name, object_name, same_kind, IsStore}
use Rattle.object_store.specs.Puts.{refusal}
use Rattle.commit_graph.specs.Graphs.{Row, place_of}
use Rattle.state_items.specs.Items.{has_room}

-- ---- commits

-- the place of a commit that is there
abbrev pub place_in : List Row → Bytes → ℕ
place_in rows n = unwrap_or (place_of n rows) 0

-- a commit behind those rows, its parents by their places
abbrev pub commit_row : List Row → Bytes → Commit → Row
commit_row rows n c = record { name = n; tree = c.tree; parents = map (place_in rows) c.parents }

abbrev pub with_commit : List Row → Bytes → Option Commit → List Row
with_commit rows n None = rows
with_commit rows n (Some c) = rows ++ commit_row rows n c ∷ []

abbrev pub with_row : List Row → Kind → Bytes → List Row
with_row rows Blob b = rows
with_row rows Tree b = rows
with_row rows CommitKind b = with_commit rows (name CommitKind b) (commit_from b)

-- one row for each commit of these objects, in order of arrival
unfoldable pub rows_of : List Object → List Row
rows_of [] = []
rows_of (o ∷ older) = with_row (rows_of older) o.kind o.body

-- ---- blobs

abbrev pub with_blob_name : List Bytes → Kind → Bytes → List Bytes
with_blob_name names Blob b = names ++ name Blob b ∷ []
with_blob_name names Tree b = names
with_blob_name names CommitKind b = names

-- the names of the blobs among these objects, in order of arrival
unfoldable pub blobs_of : List Object → List Bytes
blobs_of [] = []
blobs_of (o ∷ older) = with_blob_name (blobs_of older) o.kind o.body

-- ---- all objects

-- the names are those of the objects, in order of arrival
abbrev pub AreNamed : List Object → List Name → Type 0
AreNamed S names = reverse (map name_bytes names) ≡ map object_name S

-- an object that may be taken in and isn't held arrives: the newest stands in front of the others
pub record IsAdded (S : List Object) (k : Kind) (b : Bytes) (T : List Object) : Type 0 where
  pub refusal : refusal S k b ≡ None
  pub fresh : has_name S (name k b) ≡ false
  pub objects : T ≡ record { kind = k; body = b } ∷ S

-- objects from the newest to the oldest, and what is held beside them
pub record AreHeld (S : List Object) (names : List Name) (rows : List Row) (blobs : List Name) : Type 0 where
  pub whole : IsStore S
  pub named : AreNamed S names
  pub graph : rows ≡ rows_of S
  pub known : map name_bytes blobs ≡ blobs_of S
  pub room : has_room S ≡ true

abbrev pub more_commits : ℕ → Kind → ℕ
more_commits n k = if same_kind CommitKind k then n + 1 else n

-- each parent has a row
abbrev pub HasParents : List Row → Option Commit → Type 0
HasParents rows None = ⊤
HasParents rows (Some c) = list_all (λ p. is_some (place_of p rows)) c.parents ≡ true

-- of an object that was taken in last, and isn't entered among commits or blobs yet
pub record HasArrived (rows : List Row) (blobs : List Bytes) (k : Kind) (b : Bytes) : Type 0 where
  pub parents : k ≡ CommitKind → HasParents rows (commit_from b)
  pub fresh : place_of (name k b) rows ≡ None
  pub unknown : list_any (same_bytes (name k b)) blobs ≡ false
  pub room : length rows < 2 ^ 30
