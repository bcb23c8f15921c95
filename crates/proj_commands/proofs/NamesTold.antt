-- A stream that is replayed upon a new state, and what is told of it.
use Rattle.std.proofs.Common.{◌≡◌, true, T, List, [], map, Contains, IsSome, Option, None, Some, Ok, Err, refl, sym, ap, subst, ◌∙◌, arith}
use Rattle.std.specs.FinMap.{find as find_entry, is_sorted}
use Rattle.git_objects.specs.Paths.{Bytes, is_bytes}
use Rattle.git_objects.specs.Refs.{Refs, bytes_cmp}
use Rattle.object_store.specs.Growth.{IsGrownBy}
use Rattle.object_store.specs.Objects.{Object}
use Rattle.filter_text.specs.Filters.{Filter}
use Rattle.fast_import.specs.Replays.{empty_base}
use Rattle.fast_import.specs.Replaying.{setting_value}
use Rattle.fast_import.specs.Whole.{IsMadeOfStreamIn, IsTaggedWhole}
use Rattle.fast_import.specs.declared.replayed.TaggedReplay.{TaggedReplay as TaggedNames}
use Rattle.projection_laws.specs.Projections.{projection_by}
use Rattle.projection_ground.specs.Grounds.{IsGround}
use Rattle.state_items.specs.Imported.{AreRefsTo, with_commits}
use Rattle.state_items.specs.Items.{nothing}
use Rattle.repo_ground.specs.Changes.{IsBatchOf, settings_of}
use Rattle.repo_ground.specs.Contents.{Contents, Spells}
use Rattle.repo_ground.specs.Loads.{IsEmpty}
use Rattle.repo_ground.specs.declared.commit.Batch.{Batch}
use Rattle.repo_ground.proofs.GrownLaws.{ground-grown}
use Rattle.git_objects.specs.Snapshots.{Snapshot}
use Rattle.commit_graph.specs.Graphs.{place_of}
use Rattle.commit_map.specs.Rules.{rule_number}
use Rattle.commit_map.specs.Shown.{Shown}
use Rattle.filter_apply.specs.Faults.{IsApplyFault}
use Rattle.filter_apply.specs.declared.fault.ApplyError.{ApplyError}
use Rattle.workspace.specs.Workspaces.{shown}
use Rattle.fast_import.specs.declared.whole.ReplayError.{ReplayError}
use Rattle.projection_ground.specs.Grounds.{IsShownOf, commits_of}
use Rattle.state_items.specs.Changes.{fresh, objects_of}
use Rattle.repo_ground.specs.Taking.{IsNotTaken, IsTaken}
use Rattle.repo_ground.specs.declared.commit.CommitError.{CommitError}
use Rattle.repo_ground.specs.declared.commit.CommitError.TheVariants as commits
use Rattle.proj_words.specs.declared.outcome.Outcome.TheVariants as outcomes
use Rattle.proj_commands.specs.Cases.{Case, NameCase}
use Rattle.proj_commands.specs.Lines.{name_line}
use Rattle.proj_commands.specs.Makes.{IsReportOf}
use Rattle.proj_commands.specs.Refusals.{apply_outcome, commit_outcome, replay_outcome}
use Rattle.proj_commands.proofs.NameCases.{ground-commits, head-placed, limit-refused, line-told, no-memory, projection-is, ref-refused, show-refused, stream-refused, with-from}
use Rattle.proj_commands.proofs.StreamBatches.{stream-batch}
use Rattle.proj_commands.proofs.StreamTags.{IsGivenNames, is-given}
use Rattle.proj_commands.specs.Import.{tagged_ran}
use Rattle.stream_reader.specs.Verdicts.{tagged_start}

-- the same state upon another store
abbrev pub with_store : Contents → List Object → Contents
with_store s S = record s { basis = record s.basis { store = S } }

module _ (all : Bytes) (s : Contents) (empty : IsEmpty s) (S : List Object) (grown : IsGrownBy (IsMadeOfStreamIn tagged_start empty_base all) s.basis.store S) where
  pub from-nothing : IsGrownBy (IsMadeOfStreamIn tagged_start empty_base all) [] S
  from-nothing = subst (λ (X : List Object). IsGrownBy (IsMadeOfStreamIn tagged_start empty_base all) X S) empty.store grown

  -- a state with nothing held has nothing held whatever is in its store
  pub store-spelled : Spells nothing (with_store s S)
  store-spelled =
      let w = empty.spells in
      record {
        store = w.store;
        room = w.room;
        within = λ o m. absurd (omega (arith, m.1));
        names = w.names;
        graph = w.graph;
        known = w.known;
        distinct = w.distinct;
        refs = w.refs;
        heads = w.heads;
        entries = w.entries;
        few = w.few;
        rule = w.rule;
        tags = w.tags;
        rising = w.rising;
      }

  pub store-ground : IsGround (with_store s S).basis
  store-ground = ground-grown s.basis grown.newer S empty.ground grown.store grown.above

  pub stored-batch : (g : TaggedNames) (b : Batch) → is_bytes all ≡ true → IsGivenNames empty_base all S g → b.blobs.items ≡ g.replayed.blobs.items → b.commits.items ≡ map (λ m. m.name) g.replayed.commits.items → b.refs.items ≡ []
      → IsBatchOf nothing (with_store s S) b (tagged_ran empty_base all).state.blobs (tagged_ran empty_base all).state.commits
  stored-batch g b bytes w blobs commits refs =
      let none : settings_of b ≡ [] = ap (map setting_value) refs in
      stream-batch nothing all tt bytes (with_store s S) g.replayed b store-spelled grown.store refl w.stand blobs commits (subst (λ (es : Refs). T (is_sorted bytes_cmp es)) (sym none) tt)
      (subst (λ (es : Refs). AreRefsTo (with_commits [] (tagged_ran empty_base all).state.commits) es) (sym none) (record { names = refl; heads = refl }))

-- ---- what is told

module _ (f : Filter) (refname all : Bytes) where
  abbrev k : Case
  k = NameCase f refname (tagged_ran empty_base all)

  abbrev fs : List Object
  fs = fresh [] (objects_of (tagged_ran empty_base all).state.blobs (tagged_ran empty_base all).state.commits)

  module _ (bytes : is_bytes all ≡ true) (s : Contents) (empty : IsEmpty s) (S : List Object) where
    -- why the stream isn't replayed
    pub replay-told : (e : ReplayError) → IsTaggedWhole empty_base s.basis.store S all (Err e) → IsReportOf (Ok k) (Err (replay_outcome e))
    replay-told e w = stream-refused f refname all bytes S (from-nothing all s empty S w.grown) e w.refused

    module _ (g : TaggedNames) (w : IsTaggedWhole empty_base s.basis.store S all (Ok g)) where
      abbrev given-names : IsGivenNames empty_base all S g
      given-names = is-given empty_base all S g w.given

      -- why it isn't taken in
      pub take-told : (e : CommitError) → IsNotTaken nothing fs e → IsReportOf (Ok k) (Err (commit_outcome e))
      take-told commits.StoreFault h = absurd h
      take-told (commits.Limit q) h = limit-refused f refname all given-names.given q h
      take-told commits.OutOfMemory h = no-memory f refname all (Err outcomes.OutOfMemory) refl

      module _ (after : Contents) (taken : IsTaken nothing fs (with_store s S) after) where
        -- the ref's commit, by the settings
        pub ref-told : find_entry bytes_cmp refname (map setting_value g.replayed.heads.items) ≡ None → IsReportOf (Ok k) (Err outcomes.UnknownRef)
        ref-told e = ref-refused f refname all given-names.given taken.within (ap (find_entry bytes_cmp refname) (sym given-names.stand.settings) ∙ e)

        pub head-told : (n : Bytes) → find_entry bytes_cmp refname (map setting_value g.replayed.heads.items) ≡ Some n → IsSome (place_of n after.basis.graph)
        head-told n e = head-placed f refname all bytes (with_store s S) after taken S g.replayed n w.grown.store given-names.stand (ap (find_entry bytes_cmp refname) (sym given-names.stand.settings) ∙ e)

        -- the projection's line
        pub projection-told : (n report : Bytes) (o : Option Shown) → find_entry bytes_cmp refname (map setting_value g.replayed.heads.items) ≡ Some n
            → o ≡ projection_by after.basis.rule (shown f) after.basis.map (commits_of after.basis) n → report ≡ name_line o → IsReportOf (Ok k) (Ok report)
        projection-told n report o e p q =
            let rule : rule_number after.basis.rule ≡ 1 = ap (λ (x : Contents). rule_number x.basis.rule) taken.same ∙ empty.spells.rule in
            let none : after.basis.map ≡ [] = ap (λ (x : Contents). x.basis.map) taken.same ∙ empty.map in
            line-told f refname all given-names.given taken.within n report (ap (find_entry bytes_cmp refname) (sym given-names.stand.settings) ∙ e)
            (ap name_line (sym (p ∙ projection-is f refname all bytes (with_store s S) after taken S g.replayed n w.grown.store given-names.stand rule none)) ∙ sym q)

        -- why nothing is shown
        pub show-told : (S' : List Object) (e : ApplyError) → IsGrownBy (IsShownOf f (commits_of after.basis)) after.basis.store S' → IsApplyFault (IsShownOf f (commits_of after.basis)) S' e
            → IsReportOf (Ok k) (Err (apply_outcome e))
        show-told S' e grown h =
            let from : (c : Snapshot) → Contains (commits_of after.basis) c → Contains (tagged_ran empty_base all).state.commits c =
            λ c m. with-from (tagged_ran empty_base all).state.commits c (subst (λ (cs : List Snapshot). Contains cs c) (ground-commits f refname all bytes (with_store s S) after taken S g.replayed w.grown.store given-names.stand) m) in
            let upon : IsGrownBy (IsShownOf f (commits_of after.basis)) S S' = subst (λ (X : List Object). IsGrownBy (IsShownOf f (commits_of after.basis)) X S') (ap (λ (x : Contents). x.basis.store) taken.same) grown in
            show-refused f refname all bytes S (from-nothing all s empty S w.grown) (commits_of after.basis) S' e from upon h
