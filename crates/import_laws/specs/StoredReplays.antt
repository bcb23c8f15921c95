-- What a replay has made in a store may be brought.
use Rattle.std.specs.Prelude.{◌≡◌, List, Contains, Some}
use Rattle.git_objects.specs.Paths.{Bytes}
use Rattle.git_objects.specs.Snapshots.{Snapshot}
use Rattle.git_objects.specs.declared.name.Name.{Name}
use Rattle.object_store.specs.Objects.{Object, IsStore, find_named, object_name}
use Rattle.fast_import.specs.Standing.{AreBlobsIn, AreCommitsIn}
use Rattle.fast_import.specs.declared.replayed.Made.{Made}
use Rattle.state_items.specs.Items.{Held}
use Rattle.state_items.specs.Stored.{IsStoredIn}

-- Where a store has what is held, and names of the code stand for these blobs and commits over it.
abbrev pub StoredReplayLaw : Type 0
StoredReplayLaw = (S : List Object) (h : Held) (ns : List Name) (blobs : List Bytes) (ms : List Made) (cs : List Snapshot)
    → IsStore S → ((o : Object) → Contains h.objects o → find_named S (object_name o) ≡ Some o)
    → AreBlobsIn S ns blobs → AreCommitsIn S ms cs → IsStoredIn S h blobs cs
