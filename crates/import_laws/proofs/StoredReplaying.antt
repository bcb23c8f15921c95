-- What the code's names stand for, blob by blob and commit by commit.
use Rattle.std.proofs.Common.{◌≡◌, List, [], ◌∷◌, Contains, Some, ap, ◌∙◌}
use Rattle.std.proofs.lemmas.List.Elements.{All-contains}
use Rattle.git_objects.specs.Lists.{Each}
use Rattle.git_objects.specs.Names.{name}
use Rattle.git_objects.specs.Paths.{Bytes}
use Rattle.git_objects.specs.Snapshots.{Snapshot, snapshot_name}
use Rattle.git_objects.specs.declared.kind.Kind.TheVariants.{Blob}
use Rattle.git_objects.specs.declared.name.Name.{Name}
use Rattle.object_store.specs.Objects.{Object, find_named}
use Rattle.object_store.specs.StoredSnapshots.{snapshot_object}
use Rattle.object_store.specs.Unfolding.{StandsFor}
use Rattle.object_store.proofs.Parts.{find-name}
use Rattle.fast_import.specs.Standing.{AreBlobsIn, AreCommitsIn}
use Rattle.fast_import.specs.declared.replayed.Made.{Made}
use Rattle.state_items.specs.Changes.{blob_object}
use Rattle.state_items.proofs.TreeParts.{all-each}
use Rattle.import_laws.specs.StoredReplays.{StoredReplayLaw}

abbrev HasBlob : List Object → Bytes → Type 0
HasBlob S b = find_named S (name Blob b) ≡ Some (blob_object b)

each-blob : (S : List Object) (ns : List Name) (bs : List Bytes) → AreBlobsIn S ns bs → Each (HasBlob S) bs
each-blob S [] [] h = tt
each-blob S [] (b ∷ bs) h = absurd h
each-blob S (n ∷ ns) [] h = tt
each-blob S (n ∷ ns) (b ∷ bs) h = (ap (find_named S) (find-name S n.0 (blob_object b) h.0) ∙ h.0, each-blob S ns bs h.1)

record HasCommit (S : List Object) (c : Snapshot) : Type 0 where
  found : find_named S (snapshot_name c) ≡ Some (snapshot_object c)
  tree : (n : Bytes) × StandsFor S n c.tree

each-commit : (S : List Object) (ms : List Made) (cs : List Snapshot) → AreCommitsIn S ms cs → Each (HasCommit S) cs
each-commit S [] [] h = tt
each-commit S [] (c ∷ cs) h = absurd h
each-commit S (m ∷ ms) [] h = tt
each-commit S (m ∷ ms) (c ∷ cs) h = (record { found = ap (find_named S) h.0.named ∙ h.0.held; tree = (m.tree.0, h.0.stands) }, each-commit S ms cs h.1)

pub stored-replay-law : StoredReplayLaw
stored-replay-law S h ns bs ms cs s held b c =
    let one : (d : Snapshot) → Contains cs d → HasCommit S d = λ d m. All-contains (HasCommit S) cs d (all-each (HasCommit S) cs (each-commit S ms cs c)) m in
    record {
      store = s;
      objects = held;
      contents = λ x m. All-contains (HasBlob S) bs x (all-each (HasBlob S) bs (each-blob S ns bs b)) m;
      commits = λ d m. (one d m).found;
      trees = λ d m. (one d m).tree;
    }
