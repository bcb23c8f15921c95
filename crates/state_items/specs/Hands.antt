-- The objects that come up where blobs and commits are brought.
use Rattle.std.specs.Prelude.{◌≡◌, ◌≢◌, true, List, ◌++◌, Contains}
use Rattle.std.specs.List.{list_all}
use Rattle.git_objects.specs.Paths.{Bytes}
use Rattle.git_objects.specs.Snapshots.{Snapshot}
use Rattle.object_store.specs.Hands.{IsComponentOf, IsLeafOf, IsTreeMade}
use Rattle.object_store.specs.Objects.{Object, object_name}
use Rattle.object_store.specs.StoredSnapshots.{snapshot_object}
use Rattle.state_items.specs.Items.{Held}
use Rattle.state_items.specs.Repos.{repo}
use Rattle.state_items.specs.Changes.{blob_object, objects_of}
use Rattle.state_items.specs.Imported.{AreApart, AreWhole, has_leaves}

-- An object in hand is held, or one of the blobs or of the commits, or a tree of the leaves and components of a
-- commit's tree.
pub data IsInHand (h : Held) (blobs : List Bytes) (cs : List Snapshot) (o : Object) : Type 0 where
  HeldObject : Contains h.objects o → IsInHand h blobs cs o
  BlobRead : (b : Bytes) → Contains blobs b → o ≡ blob_object b → IsInHand h blobs cs o
  CommitMade : (c : Snapshot) → Contains cs c → o ≡ snapshot_object c → IsInHand h blobs cs o
  TreeMade : (c : Snapshot) → Contains cs c → IsTreeMade (IsLeafOf c.tree) (IsComponentOf c.tree) o
      → IsInHand h blobs cs o

-- two different objects of these have this name
pub record IsTwice (hand : Object → Type 0) (n : Bytes) : Type 0 where
  pub first : Object
  pub second : Object
  pub first_there : hand first
  pub second_there : hand second
  pub apart : first ≢ second
  pub first_named : object_name first ≡ n
  pub second_named : object_name second ≡ n

-- Whatever whole commits of known blobs bring is in hand; so where no two objects in hand have one name, no two of
-- these do.
pub record HandLaw : Type 0 where
  pub in_hand : (h : Held) (blobs : List Bytes) (cs : List Snapshot) → AreWhole (repo h).commits cs
      → list_all (λ c. has_leaves (blobs ++ (repo h).blobs) c.tree) cs ≡ true
      → (o : Object) → Contains (h.objects ++ objects_of blobs cs) o → IsInHand h blobs cs o
  pub apart : (h : Held) (blobs : List Bytes) (cs : List Snapshot) → AreWhole (repo h).commits cs
      → list_all (λ c. has_leaves (blobs ++ (repo h).blobs) c.tree) cs ≡ true
      → ((n : Bytes) → IsTwice (IsInHand h blobs cs) n → ⊥) → AreApart (h.objects ++ objects_of blobs cs)
