-- What a batch brings may be taken in behind what a state has.
use Rattle.std.proofs.Common.{◌≡◌, List, [], ◌∷◌, ◌++◌, map, reverse, Contains, slice_get, Some, refl, sym, ap, subst, ◌∙◌}
use Rattle.std.specs.Option.{option_to_list}
use Rattle.git_objects.specs.Paths.{Bytes}
use Rattle.git_objects.specs.Parts.{name_bytes}
use Rattle.git_objects.specs.Refs.{Refs}
use Rattle.git_objects.specs.Snapshots.{Snapshot}
use Rattle.git_objects.specs.declared.name.Name.{Name}
use Rattle.object_store.specs.Objects.{Object, IsStore, find_named, object_name}
use Rattle.object_store.proofs.Parts.{AreIn}
use Rattle.state_items.specs.Appending.{AreNew, IsAddition}
use Rattle.state_items.specs.Arrivals.{AreNamed}
use Rattle.state_items.specs.Changes.{fresh, objects_of, plan_of}
use Rattle.state_items.specs.Items.{Held}
use Rattle.state_items.specs.Stored.{IsStoredIn}
use Rattle.state_items.specs.Writings.{objects_named as named}
use Rattle.state_items.proofs.Limits.{change-law}
use Rattle.state_items.proofs.TreesStored.{stored-law}
use Rattle.repo_ground.specs.Changes.{IsBatchOf, settings_of}
use Rattle.repo_ground.specs.Contents.{Contents, Spells}
use Rattle.repo_ground.specs.Growing.{AreFed, IsReady, held_of}
use Rattle.repo_ground.specs.declared.commit.Batch.{Batch}
use Rattle.repo_ground.proofs.Batches.{blob-stored, commit-stored, fed-from}
use Rattle.repo_ground.proofs.RowsGround.{are-in}
use Rattle.std.proofs.lemmas.List.{reverse-reverse}
use Rattle.std.proofs.lemmas.Option.{slice_get-get_or}
use Rattle.std.proofs.lemmas.List.Elements.{Contains-append_right}

at : {A : Type 0} (xs : List A) (x : A) (m : Contains xs x) → slice_get xs m.0 ≡ Some x
at xs x m = slice_get-get_or xs m.0 x m.1 ∙ ap Some m.2

-- the objects that are found under their own names
named-own : (S H : List Object) → AreIn S H → named S (map object_name H) ≡ H
named-own S [] i = refl
named-own S (o ∷ H) i = λ j. option_to_list (i.0 j) ++ named-own S H i.1 j

new-of-plan : (h : Held) (f : List Object) (m : Refs) → IsAddition h (plan_of f m) → AreNew h.objects f
new-of-plan h [] m a = tt
new-of-plan h (o ∷ f) m a = a.0

module _ (h : Held) (s : Contents) (names : List Name) (w : Spells h s) (own : s.names ≡ map name_bytes names) where
  pub held-named : AreNamed h.objects names
  held-named = ap reverse (sym own ∙ w.names) ∙ reverse-reverse (map object_name h.objects)

  pub held-own : held_of s.basis.store names ≡ h.objects
  held-own = ap (named s.basis.store) held-named ∙ named-own s.basis.store h.objects (are-in s.basis.store h.objects w.within)

module _ (h : Held) (s : Contents) (b : Batch) (blobs : List Bytes) (cs : List Snapshot) (w : IsBatchOf h s b blobs cs) (t : IsStore s.basis.store) where
  pub batch-stored : IsStoredIn s.basis.store h blobs cs
  batch-stored = record {
    store = t;
    objects = w.spells.within;
    contents = λ x m. blob-stored s.basis.store b.blobs.items blobs w.known x m.0 (at blobs x m);
    commits = λ c m. (commit-stored s.basis.store b.commits.items cs t w.named c m.0 (at cs c m)).found;
    trees = λ c m. let x = commit-stored s.basis.store b.commits.items cs t w.named c m.0 (at cs c m) in (x.tree, x.stands);
  }

  pub batch-new : AreNew h.objects (fresh h.objects (objects_of blobs cs))
  batch-new = new-of-plan h (fresh h.objects (objects_of blobs cs)) _ (change-law h blobs cs (settings_of b) w.brought w.small w.refs)

  pub batch-found : (o : Object) → Contains (objects_of blobs cs) o → find_named s.basis.store (object_name o) ≡ Some o
  batch-found o m = stored-law.found s.basis.store h blobs cs batch-stored o (Contains-append_right h.objects (objects_of blobs cs) o m)

  pub batch-ready : (names : List Name) → s.names ≡ map name_bytes names → IsReady s.basis.store names (objects_of blobs cs)
  batch-ready names own =
      let H = h.objects in
      let same : held_of s.basis.store names ≡ H = held-own h s names w.spells own in
      record {
        whole = t;
        holds = record {
          held = subst IsStore (sym same) w.spells.store;
          named = subst (λ (T : List Object). AreNamed T names) (sym same) (held-named h s names w.spells own);
        };
        fed = subst (λ (T : List Object). AreFed s.basis.store T (objects_of blobs cs)) (sym same)
            (fed-from s.basis.store H (objects_of blobs cs) w.spells.store batch-new batch-found);
      }
