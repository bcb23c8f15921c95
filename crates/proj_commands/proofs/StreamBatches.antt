-- What a stream gives is a batch.
use Rattle.std.proofs.Common.{◌≡◌, true, T, List, [], ◌∷◌, map, All, Contains, Some, refl, sym, ap, subst, ◌∙◌}
use Rattle.std.specs.FinMap.{is_sorted}
use Rattle.std.specs.List.{list_all}
use Rattle.std.specs.Option.{option_map}
use Rattle.git_objects.specs.Commits.{commit_body}
use Rattle.git_objects.specs.CommitBodies.{commit_from}
use Rattle.git_objects.specs.Lists.{Each}
use Rattle.git_objects.specs.Names.{tree_name}
use Rattle.git_objects.specs.Paths.{Bytes, is_bytes}
use Rattle.git_objects.specs.Refs.{bytes_cmp}
use Rattle.git_objects.specs.Snapshots.{Snapshot, snapshot_commit, snapshot_name}
use Rattle.git_objects.specs.Trees.{Flat, IsTree}
use Rattle.git_objects.specs.declared.kind.Kind.TheVariants.{Commit as CommitKind}
use Rattle.git_objects.specs.declared.name.Name.{Name}
use Rattle.git_objects.proofs.CommitReading.{commit_law}
use Rattle.object_store.specs.Fits.{tree_fits}
use Rattle.object_store.specs.Objects.{IsStore, Object, find_named, object_name}
use Rattle.object_store.specs.StoredSnapshots.{snapshot_object, snapshot_of}
use Rattle.object_store.specs.Unfolding.{flat}
use Rattle.object_store.proofs.Parts.{found-has}
use Rattle.object_store.proofs.Unfolding.{unfolding_law}
use Rattle.stream_reader.specs.Verdicts.{tagged_start, verdict}
use Rattle.stream_reader.specs.declared.command.Placed.{Placed}
use Rattle.fast_import.specs.Replays.{Replay, given_by}
use Rattle.fast_import.specs.Standing.{AreBlobsIn, AreCommitsIn, IsCommitIn, IsReplayedOf}
use Rattle.fast_import.specs.declared.replayed.Made.{Made}
use Rattle.fast_import.specs.declared.replayed.Replayed.{Replayed as ReplayedNames}
use Rattle.projection_laws.specs.StoredGraphs.{snapshot_named}
use Rattle.state_items.specs.Imported.{AreRefsTo, AreSmall, AreWhole, IsBrought, IsWhole, with_commits}
use Rattle.state_items.specs.Items.{Held}
use Rattle.state_items.specs.Repos.{repo}
use Rattle.state_items.proofs.TreeParts.{all-each, each-all, each-map}
use Rattle.state_items.proofs.TreesStored.{stored-law}
use Rattle.import_laws.specs.Replayed.{IsReplayed}
use Rattle.import_laws.specs.SmallCommands.{IsRead, IsSmall}
use Rattle.import_laws.specs.SoundCommands.{IsSound}
use Rattle.import_laws.proofs.ReadCommands.{reader-law}
use Rattle.import_laws.proofs.Replaying.{replayed-law}
use Rattle.import_laws.proofs.SmallReplaying.{small-law}
use Rattle.import_laws.proofs.StoredReplaying.{stored-replay-law}
use Rattle.repo_ground.specs.Changes.{AreNamedIn, IsBatchOf, settings_of}
use Rattle.repo_ground.specs.Contents.{Contents, Spells}
use Rattle.import_laws.specs.Bases.{base_of}
use Rattle.repo_ground.specs.declared.commit.Batch.{Batch}
use Rattle.proj_commands.specs.Import.{tagged_ran}

-- ---- commits by their names

-- a whole commit of the store is read by its name
named-one : (S : List Object) (m : Made) (c : Snapshot) → IsStore S → IsWhole c → IsCommitIn S m c → snapshot_named S m.name.0 ≡ Some c
named-one S m c s w h =
    let b : Bytes = commit_body (snapshot_commit c) in
    let read : commit_from b ≡ Some (snapshot_commit c) = (commit_law b (snapshot_commit c) w.bytes).1 w.body in
    let tree : tree_name c.tree ≡ m.tree.0 = ap tree_name (sym h.stands.map) ∙ (unfolding_law S m.tree.0 s h.stands.held).named in
    let flat_is : flat S (tree_name c.tree) ≡ c.tree = ap (flat S) tree ∙ h.stands.map in
    ap (option_map (snapshot_of S)) (ap commit_from (found-has S CommitKind m.name.0 (snapshot_object c) h.held refl).1 ∙ read)
    ∙ ap (λ (t : Flat). Some (record { tree = t; parents = c.parents; letter = c.letter })) flat_is

pub named-made : (S : List Object) (known : List Snapshot) (ms : List Made) (cs : List Snapshot) → IsStore S → AreWhole known cs → AreCommitsIn S ms cs → AreNamedIn S (map (λ m. m.name) ms) cs
named-made S known [] [] s w h = tt
named-made S known [] (c ∷ cs) s w h = absurd h
named-made S known (m ∷ ms) [] s w h = absurd h
named-made S known (m ∷ ms) (c ∷ cs) s w h = (named-one S m c s w.0 h.0, h.0.held, named-made S (c ∷ known) ms cs s w.2 h.1)

-- the commit of a name is one
pub once-named : (S : List Object) (known : List Snapshot) (ms : List Made) (cs : List Snapshot) → IsStore S → AreWhole known cs → AreCommitsIn S ms cs
    → Each (λ c. snapshot_named S (snapshot_name c) ≡ Some c) cs
once-named S known [] [] s w h = tt
once-named S known [] (c ∷ cs) s w h = absurd h
once-named S known (m ∷ ms) [] s w h = tt
once-named S known (m ∷ ms) (c ∷ cs) s w h = (ap (snapshot_named S) h.0.named ∙ named-one S m c s w.0 h.0, once-named S (c ∷ known) ms cs s w.2 h.1)

pub whole-trees : (known cs : List Snapshot) → AreWhole known cs → Each (λ c. IsTree c.tree) cs
whole-trees known [] w = tt
whole-trees known (c ∷ cs) w = (w.0.tree, whole-trees (c ∷ known) cs w.2)

-- ---- a stream of bytes upon what is held

module _ (h : Held) (all : Bytes) (store : IsStore h.objects) (bytes : is_bytes all ≡ true) where
  abbrev ps : List Placed
  ps = (verdict tagged_start all).commands

  -- what it gives, up to its first fault or to its end
  abbrev pub given : Replay
  given = (tagged_ran (base_of h) all).state

  all-read : Each (λ p. IsRead p.command) ps
  all-read = each-all (λ p. IsRead p.command) ps (reader-law tagged_start all bytes)

  sound : All (λ p. IsSound p.command) ps
  sound = all-each (λ p. IsSound p.command) ps (each-map (λ p. IsRead p.command) (λ p. IsSound p.command) ps (λ p r. r.sound) all-read)

  small : All (λ p. IsSmall p.command) ps
  small = all-each (λ p. IsSmall p.command) ps (each-map (λ p. IsRead p.command) (λ p. IsSmall p.command) ps (λ p r. r.small) all-read)

  pub stream-replayed : IsReplayed h given
  stream-replayed = replayed-law h ps (verdict tagged_start all).fault store sound

  pub stream-small : list_all (λ c. tree_fits c.tree) (repo h).commits ≡ true → AreSmall given.blobs given.commits
  stream-small fits = small-law h ps (verdict tagged_start all).fault fits small

  -- In a store that has what is held, what it gives may be brought.
  pub stream-brought : (S : List Object) (g : ReplayedNames) → IsStore S → ((o : Object) → Contains h.objects o → find_named S (object_name o) ≡ Some o) → IsReplayedOf S g (given_by given)
      → IsBrought h given.blobs given.commits
  stream-brought S g s held r = record {
    store = store;
    apart = stored-law.apart S h given.blobs given.commits (stored-replay-law S h g.blobs.items given.blobs g.commits.items given.commits s held r.made_blobs r.made_commits);
    bytes = stream-replayed.bytes;
    commits = stream-replayed.commits;
    leaves = stream-replayed.leaves;
  }

  -- With refs in order that get commits which are there or brought, it is a batch.
  pub stream-batch : (s : Contents) (g : ReplayedNames) (b : Batch) → Spells h s → IsStore s.basis.store → list_all (λ c. tree_fits c.tree) (repo h).commits ≡ true
      → IsReplayedOf s.basis.store g (given_by given) → b.blobs.items ≡ g.blobs.items → b.commits.items ≡ map (λ m. m.name) g.commits.items → T (is_sorted bytes_cmp (settings_of b))
      → AreRefsTo (with_commits (repo h).commits given.commits) (settings_of b) → IsBatchOf h s b given.blobs given.commits
  stream-batch s g b w t fits r blobs commits sorted refs = record {
    spells = w;
    known = subst (λ (ns : List Name). AreBlobsIn s.basis.store ns given.blobs) (sym blobs) r.made_blobs;
    named =
        subst (λ (ns : List Name). AreNamedIn s.basis.store ns given.commits) (sym commits)
        (named-made s.basis.store (repo h).commits g.commits.items given.commits t stream-replayed.commits r.made_commits);
    brought = stream-brought s.basis.store g t w.within r;
    small = stream-small fits;
    sorted = sorted;
    refs = refs;
  }
