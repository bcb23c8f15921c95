-- Blobs and commits that a store has.
use Rattle.std.specs.Prelude.{◌≡◌, List, ◌++◌, Contains, Some}
use Rattle.git_objects.specs.Names.{name}
use Rattle.git_objects.specs.Paths.{Bytes}
use Rattle.git_objects.specs.Snapshots.{Snapshot, snapshot_name}
use Rattle.git_objects.specs.declared.kind.Kind.TheVariants.{Blob}
use Rattle.object_store.specs.Objects.{Object, IsStore, find_named, object_name}
use Rattle.object_store.specs.StoredSnapshots.{snapshot_object}
use Rattle.object_store.specs.Unfolding.{StandsFor}
use Rattle.state_items.specs.Items.{Held}
use Rattle.state_items.specs.Changes.{blob_object, objects_of}
use Rattle.state_items.specs.Imported.{AreApart}

-- A store has what is held, these blobs, and these commits, and a tree of it stands for each commit's tree.
pub record IsStoredIn (S : List Object) (h : Held) (blobs : List Bytes) (cs : List Snapshot) : Type 0 where
  pub store : IsStore S
  pub objects : (o : Object) → Contains h.objects o → find_named S (object_name o) ≡ Some o
  pub contents : (b : Bytes) → Contains blobs b → find_named S (name Blob b) ≡ Some (blob_object b)
  pub commits : (c : Snapshot) → Contains cs c → find_named S (snapshot_name c) ≡ Some (snapshot_object c)
  pub trees : (c : Snapshot) → Contains cs c → (n : Bytes) × StandsFor S n c.tree

-- So it has each object that they bring, and no two of these have one name.
pub record StoredLaw : Type 0 where
  pub found : (S : List Object) (h : Held) (blobs : List Bytes) (cs : List Snapshot) → IsStoredIn S h blobs cs
      → (o : Object) → Contains (h.objects ++ objects_of blobs cs) o → find_named S (object_name o) ≡ Some o
  pub apart : (S : List Object) (h : Held) (blobs : List Bytes) (cs : List Snapshot) → IsStoredIn S h blobs cs
      → AreApart (h.objects ++ objects_of blobs cs)
