-- What a batch brings, as it is taken in without an item.
use Rattle.std.proofs.Common.{◌≡◌, List, [], ◌++◌, map, reverse, None, Some, refl, sym, ap, ◌∙◌}
use Rattle.std.proofs.lemmas.List.{reverse-reverse}
use Rattle.std.proofs.lemmas.List.Elements.{All-contains}
use Rattle.git_objects.specs.Parts.{name_bytes}
use Rattle.git_objects.specs.Paths.{Bytes}
use Rattle.git_objects.specs.Snapshots.{Snapshot}
use Rattle.git_objects.specs.declared.name.Name.{Name}
use Rattle.commit_graph.specs.Graphs.{Row}
use Rattle.object_store.specs.Objects.{IsStore, Object, find_named, object_name}
use Rattle.projection_ground.specs.Grounds.{IsGround}
use Rattle.state_items.specs.Arrivals.{AreHeld}
use Rattle.state_items.specs.Changes.{fresh, objects_of, passed_by_objects}
use Rattle.state_items.specs.Items.{Held}
use Rattle.state_items.proofs.TreeParts.{all-each}
use Rattle.repo_ground.specs.Changes.{IsBatchOf}
use Rattle.repo_ground.specs.Contents.{Contents}
use Rattle.repo_ground.specs.Taking.{IsTaken}
use Rattle.repo_ground.specs.declared.commit.Batch.{Batch}
use Rattle.repo_ground.proofs.MovedRefs.{heads-after}
use Rattle.repo_ground.proofs.Prepared.{AreNews, ground-after}

module _ (h : Held) (s : Contents) (b : Batch) (blobs : List Bytes) (cs : List Snapshot) (w : IsBatchOf h s b blobs cs) (t : IsStore s.basis.store) where
  abbrev S : List Object
  S = s.basis.store

  abbrev fs : List Object
  fs = fresh h.objects (objects_of blobs cs)

  -- the state that has it, with the refs that it had
  pub taken-is : (names new known : List Name) (graph : List Row) → IsGround s.basis → AreNews h s fs names new → AreHeld (reverse fs ++ h.objects) new graph known
      → passed_by_objects (reverse fs ++ h.objects) None ≡ None
      → IsTaken h fs s (record s { basis = record s.basis { graph = graph }; blobs = map name_bytes known; names = map name_bytes new })
  taken-is names new known graph g n a fits =
      let u = w.spells in
      record {
        within = fits;
        spells = record {
          store = a.whole;
          room = a.room;
          within = λ o m. All-contains (λ x. find_named S (object_name x) ≡ Some x) (reverse fs ++ h.objects) o (all-each (λ x. find_named S (object_name x) ≡ Some x) (reverse fs ++ h.objects) n.within) m;
          names = sym (reverse-reverse (map name_bytes new)) ∙ ap reverse a.named;
          graph = a.graph;
          known = a.known;
          distinct = u.distinct;
          refs = u.refs;
          heads = heads-after h.objects (reverse fs) [] h.refs refl u.heads;
          entries = u.entries;
          few = u.few;
          rule = u.rule;
          tags = u.tags;
          rising = u.rising;
        };
        ground = ground-after h s b blobs cs w t names new known graph g n a;
        same = refl;
      }
