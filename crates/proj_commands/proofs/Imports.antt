-- What becomes of an import.
use Rattle.std.proofs.Common.{◌≡◌, ◌∙◌, ℕ, Bool, true, false, T, List, [], ◌++◌, map, reverse, Contains, Option, None, Some, Result, Ok, Err, inl, inr, ⊎_elim, refl, sym, ap, subst}
use Rattle.std.specs.Prelude.{◌≢◌, ◌⊎◌}
use Rattle.std.specs.FinMap.{is_sorted}
use Rattle.std.specs.List.{flat_map}
use Rattle.std.proofs.lemmas.List.Quantifiers.{Any-push}
use Rattle.git_objects.specs.Paths.{Bytes, is_bytes}
use Rattle.git_objects.specs.Refs.{Refs, bytes_cmp}
use Rattle.git_objects.specs.Results.{◌>>=◌, refused_by}
use Rattle.git_objects.specs.Snapshots.{Snapshot}
use Rattle.object_store.specs.Growth.{IsClash, IsGrownBy}
use Rattle.object_store.specs.Objects.{Object}
use Rattle.object_store.proofs.Growth.{grown_as}
use Rattle.stream_reader.specs.Verdicts.{tagged_start, verdict}
use Rattle.stream_reader.specs.declared.fault.StreamFault.{StreamFault}
use Rattle.stream_reader.specs.declared.fault.StreamFault.TheVariants as streams
use Rattle.tag_objects.specs.TagLists.{first_taken}
use Rattle.tag_objects.specs.declared.tag.Tag.{Tag}
use Rattle.fast_import.specs.Made.{IsPutFault}
use Rattle.fast_import.specs.Replays.{Replay, Replayed, given_by, replay_in}
use Rattle.fast_import.specs.Replaying.{setting_value}
use Rattle.fast_import.specs.TagLaws.{ReplayedTagsLaw}
use Rattle.fast_import.specs.Whole.{IsMadeOfStreamIn, IsStreamErrorIn}
use Rattle.fast_import.specs.declared.replayed.TaggedReplay.{TaggedReplay as TaggedNames}
use Rattle.fast_import.specs.declared.whole.ReplayError.{ReplayError}
use Rattle.fast_import.specs.declared.whole.ReplayError.TheVariants as replays
use Rattle.projection_ground.specs.Grounds.{IsGround}
use Rattle.proj_io.specs.Stops.{IsPresent, OnlyAdds, adds_as}
use Rattle.proj_io.specs.Views.{KeeperView}
use Rattle.state_items.specs.Appending.{are_tags}
use Rattle.state_items.specs.Changes.{NoPlan, Plan, objects_of, tagged_plan}
use Rattle.state_items.specs.Hands.{IsTwice}
use Rattle.state_items.specs.Imported.{AreRefsTo, with_commits}
use Rattle.state_items.specs.Items.{Held}
use Rattle.state_items.specs.Repos.{repo}
use Rattle.state_items.proofs.Kepts.{kept-law}
use Rattle.state_items.proofs.ReadEntries.{read-law}
use Rattle.state_items.proofs.TagPlans.{tagged-change-law}
use Rattle.state_items.proofs.Twices.{clash-twice}
use Rattle.repo_ground.specs.Changes.{Appends, AreTagsOf, IsBatchOf, IsCommitted, IsRefusal as IsRefusedBy, IsRefused, IsStopOf, settings_of, tagged_batch_plan}
use Rattle.repo_ground.specs.Contents.{Contents, Spells, room_in}
use Rattle.import_laws.specs.Bases.{base_of}
use Rattle.repo_ground.specs.Moves.{Move, first_backward}
use Rattle.repo_ground.specs.declared.commit.Batch.{Batch}
use Rattle.repo_ground.specs.declared.commit.CommitError.{CommitError}
use Rattle.repo_ground.proofs.Stopping.{adds_none}
use Rattle.import_laws.proofs.SortedHeads.{sorted-heads}
use Rattle.proj_words.specs.Faults.{stream_outcome}
use Rattle.proj_words.specs.declared.outcome.Outcome.{Outcome}
use Rattle.proj_words.specs.declared.outcome.Outcome.TheVariants as outcomes
use Rattle.proj_commands.specs.Cases.{Case, ImportCase, Made, within}
use Rattle.proj_commands.specs.Import.{all_forward, all_free, import_plan, no_backward, no_taken, tagged_ran}
use Rattle.proj_commands.specs.Lines.{ref_line}
use Rattle.proj_commands.specs.Steps.{made, hand}
use Rattle.proj_commands.specs.Filters.{project_by}
use Rattle.proj_commands.specs.Hands.{IsInHand, IsInHands}
use Rattle.proj_commands.specs.Makes.{IsAtHand, IsMadeOf, IsRefusal, IsStateOf, hands_of}
use Rattle.proj_commands.specs.Refusals.{commit_outcome, replay_outcome}
use Rattle.proj_commands.specs.Replaying.{IsPrepared, IsReplayedUpon}
use Rattle.proj_commands.proofs.Committing.{IsCase, made-done, made-refused, made-untouched, made-without, planned_by, stop-as, stops-by}
use Rattle.proj_commands.proofs.StatesAfter.{passed-same}
use Rattle.proj_commands.proofs.Staying.{stay}
use Rattle.proj_commands.proofs.StreamBatches.{stream-batch, stream-replayed, whole-trees}
use Rattle.proj_commands.proofs.StreamHands.{stream-in-hand}
use Rattle.proj_commands.proofs.StreamTags.{IsGivenNames, batch-tags, given-tags, is-given, tags-beside}
use Rattle.proj_commands.proofs.InHands.{twice-as}

-- ---- results

no-fault : {A E : Type 0} (a : A) (e : E) → Ok a ≡ Err e → ⊥
no-fault a e q = cc

abbrev fault-or : {A E : Type 0} → E → Result A E → E
fault-or d (Ok a) = d
fault-or d (Err e) = e

-- ---- refs that don't move forward

moved-so : (P : Object → Type 0) (o : Option Move) (e : Outcome) (r : Result Made Outcome) → no_backward o ≡ Err e → r ≡ Err e → IsRefusal P e r
moved-so P None e r q i = absurd (no-fault {A = Unit {0}} {E = Outcome} tt e q)
moved-so P (Some m) e r q i =
    let n : Outcome = outcomes.NotForward m.refname (record { 0 = m.old }) (record { 0 = m.new }) in
    let same : n ≡ e = ap (fault-or {A = Unit {0}} {E = Outcome} e) q in
    subst (λ x. r ≡ Err x → IsRefusal P x r) same (λ w. w) i

backward-so : (P : Object → Type 0) (force : Bool) (cs : List Snapshot) (refs es : Refs) (e : Outcome) (r : Result Made Outcome)
    → all_forward force cs refs es ≡ Err e → r ≡ Err e → IsRefusal P e r
backward-so P true cs refs es e r q i = absurd (no-fault {A = Unit {0}} {E = Outcome} tt e q)
backward-so P false cs refs es e r q i = moved-so P (first_backward cs refs es) e r q i

-- ---- tags that are taken

taken-so : (P : Object → Type 0) (o : Option Bytes) (e : Outcome) (r : Result Made Outcome) → no_taken o ≡ Err e → r ≡ Err e → IsRefusal P e r
taken-so P None e r q i = absurd (no-fault {A = Unit {0}} {E = Outcome} tt e q)
taken-so P (Some n) e r q i =
    let same : outcomes.TagExists n ≡ e = ap (fault-or {A = Unit {0}} {E = Outcome} e) q in
    subst (λ x. r ≡ Err x → IsRefusal P x r) same (λ w. w) i

free-so : (P : Object → Type 0) (force : Bool) (tags ts : List Tag) (e : Outcome) (r : Result Made Outcome) → all_free force tags ts ≡ Err e → r ≡ Err e → IsRefusal P e r
free-so P true tags ts e r q i = absurd (no-fault {A = Unit {0}} {E = Outcome} tt e q)
free-so P false tags ts e r q i = taken-so P (first_taken tags ts) e r q i

module _ (items : List Bytes) (h : Held) (all : Bytes) (bytes : is_bytes all ≡ true) (force : Bool) (s : Contents) (st : IsStateOf items h s) where
  abbrev asked : Case
  asked = ImportCase force h (tagged_ran (base_of h) all)

  abbrev S : List Object
  S = s.basis.store

  abbrev Hand_here : Object → Type 0
  Hand_here o = IsAtHand S (Ok asked) o

  -- what the stream brings is in hand
  brought-in-hand : (o : Object) → IsMadeOfStreamIn tagged_start (base_of h) all o → IsInHands (hands_of (Ok asked)) o
  brought-in-hand o m =
      Any-push (λ k. IsInHand k o) [] (hand asked)
      (stream-in-hand h.objects (repo h).commits (base_of h) (verdict tagged_start all).commands (verdict tagged_start all).fault [] o
      (whole-trees (repo h).commits (tagged_ran (base_of h) all).state.commits (stream-replayed h all st.spells.store bytes).commits) m)

  store-grown : (T : List Object) → IsGrownBy (IsMadeOfStreamIn tagged_start (base_of h) all) S T → IsGrownBy (IsInHands (hands_of (Ok asked))) S T
  store-grown T g = grown_as (IsMadeOfStreamIn tagged_start (base_of h) all) (IsInHands (hands_of (Ok asked))) S T brought-in-hand g

  clashes : (T : List Object) (n : Bytes) → IsGrownBy (IsMadeOfStreamIn tagged_start (base_of h) all) S T → IsClash (IsMadeOfStreamIn tagged_start (base_of h) all) T n → IsTwice Hand_here n
  clashes T n g c =
      twice-as (λ o. Contains S o ⊎ IsMadeOfStreamIn tagged_start (base_of h) all o) Hand_here (λ o m. either o m) n (clash-twice (IsMadeOfStreamIn tagged_start (base_of h) all) S T n g c)
    where
      either : (o : Object) → Contains S o ⊎ IsMadeOfStreamIn tagged_start (base_of h) all o → Hand_here o
      either o (inl m) = inl m
      either o (inr m) = inr (brought-in-hand o m)

  -- what comes of what the stream gives
  abbrev rest : Replayed → Result Made Outcome
  rest r =
      all_forward force (reverse r.commits ++ (repo h).commits) h.refs r.heads
      >>= λ _. all_free force h.tags (tagged_ran (base_of h) all).state.tags
      >>= λ _. within (room_in s) h (flat_map ref_line r.heads) (import_plan h r (tagged_ran (base_of h) all).state.tags)

  -- a fault of the stream is the step's
  made-fault : (f : StreamFault) → replay_in tagged_start (base_of h) all ≡ Err f → made (room_in s) asked ≡ Err (stream_outcome f)
  made-fault f e = ap (λ (x : Result Replayed StreamFault). refused_by stream_outcome x >>= rest) e

  refused-by-stream : (f : StreamFault) → replay_in tagged_start (base_of h) all ≡ Err f → IsRefusal Hand_here (stream_outcome f) (made (room_in s) asked)
  refused-by-stream (streams.Syntax at) e = made-fault (streams.Syntax at) e
  refused-by-stream (streams.Unsupported at what) e = made-fault (streams.Unsupported at what) e
  refused-by-stream (streams.Unresolved at) e = made-fault (streams.Unresolved at) e
  refused-by-stream (streams.BadPath at) e = made-fault (streams.BadPath at) e
  refused-by-stream (streams.NoSource at) e = made-fault (streams.NoSource at) e
  refused-by-stream (streams.Limit at which) e = made-fault (streams.Limit at which) e
  refused-by-stream (streams.Collision n) e = inl (made-fault (streams.Collision n) e)
  refused-by-stream streams.OutOfMemory e = tt

  refused-by-put : (T : List Object) (f : StreamFault) → IsGrownBy (IsMadeOfStreamIn tagged_start (base_of h) all) S T → IsPutFault (IsMadeOfStreamIn tagged_start (base_of h) all) T f
      → IsRefusal Hand_here (stream_outcome f) (made (room_in s) asked)
  refused-by-put T f g (inl e) = subst (λ x. IsRefusal Hand_here (stream_outcome x) (made (room_in s) asked)) (sym e) tt
  refused-by-put T f g (inr (m, e, c)) = subst (λ x. IsRefusal Hand_here (stream_outcome x) (made (room_in s) asked)) (sym e) (inr (clashes T m.0 g c))

  -- why a stream isn't replayed is why there is no report
  replay-refused : (T : List Object) (f : ReplayError) → IsGrownBy (IsMadeOfStreamIn tagged_start (base_of h) all) S T → IsStreamErrorIn tagged_start (base_of h) T all f
      → IsRefusal Hand_here (replay_outcome f) (made (room_in s) asked)
  replay-refused T replays.ReadFault g i = tt
  replay-refused T (replays.Stream f) g (inl e) = refused-by-stream f e
  replay-refused T (replays.Stream f) g (inr p) = refused-by-put T f g p

  -- ---- what is said of an import

  abbrev pub IsImported : Contents → KeeperView → KeeperView → ℕ → ℕ → (ℕ → List Bytes → Type 0) → (ℕ → List Bytes → Type 0) → Result Bytes Outcome → Type 0
  IsImported after before now a b x y result =
      (p : Plan) × IsMadeOf (Ok asked) items h s after before now p result × OnlyAdds a b x y (IsStopOf h s p before.items)

  -- ---- the keeper is as it was

  module _ (before : KeeperView) (a : ℕ) (x : ℕ → List Bytes → Type 0) (s1 : Contents) where
    untouched : (e : Outcome) → IsRefusal Hand_here e (made (room_in s) asked) → e ≢ outcomes.StoreFault → IsStateOf items h s1 → IsGrownBy (IsMadeOfStreamIn tagged_start (base_of h) all) S s1.basis.store
        → IsImported s1 before before a a x x (Err e)
    untouched e i n t g = (
      NoPlan,
      made-untouched asked items h s s1 before e i n t (store-grown s1.basis.store g),
      adds_none a x (IsStopOf h s NoPlan before.items),
    )

    -- the stream isn't replayed
    pub unreplayed : (e : Outcome) (result : Result Bytes Outcome) → result ≡ Err e → IsReplayedUpon items h all s s1 (Err e) → e ≢ outcomes.StoreFault → IsImported s1 before before a a x x result
    unreplayed e result q u n =
        let why = u.refused in
        subst (IsImported s1 before before a a x x) (sym q)
        (untouched e (subst (λ (o : Outcome). IsRefusal Hand_here o (made (room_in s) asked)) (sym why.1) (replay-refused s1.basis.store why.0 u.grown why.2)) n u.state u.grown)

    -- there was no memory behind it
    pub no-memory : (g : TaggedNames) → IsReplayedUpon items h all s s1 (Ok g) → IsImported s1 before before a a x x (Err outcomes.OutOfMemory)
    no-memory g u = (NoPlan, made-without asked items h s s1 before (store-grown s1.basis.store u.grown), adds_none a x (IsStopOf h s NoPlan before.items))

  -- ---- a stream that was replayed

  module _ (s1 : Contents) (g : TaggedNames) (report : Bytes) (b : Batch) (u : IsReplayedUpon items h all s s1 (Ok g)) (p : IsPrepared g.replayed report b) where
    abbrev x : Replay
    x = (tagged_ran (base_of h) all).state

    abbrev r : Replayed
    r = given_by x

    abbrev ts : List Tag
    ts = g.tags.items

    names : IsGivenNames (base_of h) all s1.basis.store g
    names = is-given (base_of h) all s1.basis.store g u.given

    settings : settings_of b ≡ r.heads
    settings = ap (map setting_value) p.refs ∙ names.stand.settings

    batch : IsBatchOf h s1 b x.blobs x.commits
    batch =
        let w = stream-replayed h all st.spells.store bytes in
        stream-batch h all st.spells.store bytes s1 g.replayed b u.state.spells u.state.ground.graph.store (read-law.sound items h st.current.read).trees names.stand p.blobs p.commits
        (subst (λ (es : Refs). T (is_sorted bytes_cmp es)) (sym settings) (sorted-heads (base_of h) (verdict tagged_start all).commands (verdict tagged_start all).fault))
        (subst (λ (es : Refs). AreRefsTo (with_commits (repo h).commits x.commits) es) (sym settings) w.heads)

    pub is-batch : (k : Held) × (blobs : List Bytes) × (cs : List Snapshot) × IsBatchOf k s1 b blobs cs
    is-batch = (h, x.blobs, x.commits, batch)

    -- its tags may stand beside it
    pub are-tags : ReplayedTagsLaw → AreTagsOf s1 b ts
    are-tags law = λ k blobs cs y. batch-tags h k s1 b x.blobs blobs x.commits cs ts u.state.ground batch y (given-tags law (base_of h) all s1.basis.store g names)

    -- of each list of blobs and of commits that the batch brings
    abbrev pub ForBatch : (List Bytes → List Snapshot → Type 0) → Type 0
    ForBatch P = (blobs : List Bytes) (cs : List Snapshot) → IsBatchOf h s1 b blobs cs → P blobs cs

    same-room : room_in s1 ≡ room_in s
    same-room = ap room_in u.same

    abbrev plan : Plan
    plan = tagged_batch_plan h b x.blobs x.commits ts

    same-plan : plan ≡ import_plan h r x.tags
    same-plan = λ i. tagged_plan h (objects_of x.blobs x.commits) (settings i) (names.tags i)

    abbrev forward : Result (Unit {0}) Outcome
    forward = all_forward force (reverse x.commits ++ (repo h).commits) h.refs (settings_of b)

    abbrev free : Result (Unit {0}) Outcome
    free = all_free force h.tags ts

    abbrev ended : Result Made Outcome
    ended = within (room_in s) h (flat_map ref_line r.heads) plan

    abbrev onward : Result (Unit {0}) Outcome → Result Made Outcome
    onward y = y >>= λ _. free >>= λ _. ended

    abbrev freely : Result (Unit {0}) Outcome → Result Made Outcome
    freely y = y >>= λ _. ended

    -- what comes of it, by the refs and the tags
    made-so : made (room_in s) asked ≡ onward forward
    made-so =
        ap (λ (y : Result Replayed Outcome). y >>= rest) (ap (refused_by stream_outcome) names.given)
        ∙ (λ i. all_forward force (reverse x.commits ++ (repo h).commits) h.refs (sym settings i)
        >>= λ _. all_free force h.tags (sym names.tags i) >>= λ _. within (room_in s) h (flat_map ref_line r.heads) (sym same-plan i))

    -- a ref would not move forward
    backward-refusal : (e : Outcome) → forward ≡ Err e → IsRefusal Hand_here e (made (room_in s) asked)
    backward-refusal e f =
        backward-so Hand_here force (reverse x.commits ++ (repo h).commits) h.refs (settings_of b) e (made (room_in s) asked) f (made-so ∙ ap onward f)

    pub not-forward : (before : KeeperView) (a : ℕ) (y : ℕ → List Bytes → Type 0) (e : Outcome) (result : Result Bytes Outcome) → result ≡ Err e
        → ForBatch (λ blobs cs. (e ≡ outcomes.OutOfMemory) ⊎ (all_forward force (reverse cs ++ (repo h).commits) h.refs (settings_of b) ≡ Err e)) → e ≢ outcomes.StoreFault
        → IsImported s1 before before a a y y result
    not-forward before a y e result q f n =
        subst (IsImported s1 before before a a y y) (sym q) (⊎_elim
        (λ k. subst (λ (o : Outcome). IsImported s1 before before a a y y (Err o)) (sym k) (no-memory before a y s1 g u))
        (λ k. untouched before a y s1 e (backward-refusal e k) n u.state u.grown) (f x.blobs x.commits batch))

    -- all refs move forward
    abbrev pub AllForward : Type 0
    AllForward = ForBatch (λ blobs cs. all_forward force (reverse cs ++ (repo h).commits) h.refs (settings_of b) ≡ Ok tt)

    module _ (f : AllForward) where
      made-forward : made (room_in s) asked ≡ freely free
      made-forward = made-so ∙ ap onward (f x.blobs x.commits batch)

      -- a tag would be set anew
      pub not-free : (before : KeeperView) (a : ℕ) (y : ℕ → List Bytes → Type 0) (e : Outcome) (result : Result Bytes Outcome) → result ≡ Err e
          → ((k : Held) → Spells k s1 → (e ≡ outcomes.OutOfMemory) ⊎ (all_free force k.tags ts ≡ Err e)) → e ≢ outcomes.StoreFault → IsImported s1 before before a a y y result
      not-free before a y e result q t n =
          subst (IsImported s1 before before a a y y) (sym q) (⊎_elim
          (λ k. subst (λ (o : Outcome). IsImported s1 before before a a y y (Err o)) (sym k) (no-memory before a y s1 g u))
          (λ k. untouched before a y s1 e (free-so Hand_here force h.tags ts e (made (room_in s) asked) k (made-forward ∙ ap freely k)) n u.state u.grown) (t h u.state.spells))

      -- ---- what it brings is to be committed

      import-case : ReplayedTagsLaw → free ≡ Ok tt → IsCase asked items h s s1 (flat_map ref_line r.heads) plan
      import-case law t =
          let right : are_tags (objects_of x.blobs x.commits ++ h.objects) None ts ≡ true = tags-beside h st.spells.store x.blobs x.commits ts (given-tags law (base_of h) all s1.basis.store g names) in
          record {
            state = u.state;
            room = same-room;
            step = made-forward ∙ ap freely t;
            plan = λ e. refl;
            addition = tagged-change-law h x.blobs x.commits (settings_of b) ts batch.brought batch.small batch.refs right;
            kept = λ e k. (kept-law project_by).tags items h x.blobs x.commits (settings_of b) ts stay k batch.brought batch.small batch.refs right (passed-same items h plan s st.current e);
            grown = store-grown s1.basis.store u.grown;
          }

      module _ (law : ReplayedTagsLaw) (t : (k : Held) → Spells k s1 → all_free force k.tags ts ≡ Ok tt) (after : Contents) (before now : KeeperView) (a c : ℕ) (y z : ℕ → List Bytes → Type 0)
          (stops : ForBatch (λ blobs cs. OnlyAdds a c y z (IsStopOf h s1 (tagged_batch_plan h b blobs cs ts) before.items))) where
        of-case : IsCase asked items h s s1 (flat_map ref_line r.heads) plan
        of-case = import-case law (t h u.state.spells)

        -- a stop during the commit is one of the import
        stops-as : (q : Plan) → OnlyAdds a c y z (IsStopOf h s1 q before.items) → OnlyAdds a c y z (IsStopOf h s q before.items)
        stops-as q adds = adds_as a c y z (IsStopOf h s1 q before.items) (IsStopOf h s q before.items) (λ left k. stop-as h s s1 q before.items left same-room k) adds

        pub commit-refused : (e : CommitError) (o : Outcome) → o ≡ commit_outcome e → ForBatch (λ blobs cs. IsRefused h (tagged_batch_plan h b blobs cs ts) s1 after e) → after.basis.store ≡ s1.basis.store
            → ForBatch (λ blobs cs. Appends (tagged_batch_plan h b blobs cs ts) before now (Err e)) → (IsRefusedBy (Err e) → OnlyAdds a c y z (IsPresent before.items))
            → IsImported after before now a c y z (Err o)
        commit-refused e o q why same got refused =
            subst (λ (d : Outcome). IsImported after before now a c y z (Err d)) (sym q) (
              planned_by plan (Err e),
              made-refused asked items h s s1 (flat_map ref_line r.heads) plan of-case after before now e (why x.blobs x.commits batch) same (got x.blobs x.commits batch),
              stops-as (planned_by plan (Err e)) (stops-by h s1 plan before.items a c y z (Err e) (stops x.blobs x.commits batch) refused),
            )

        pub commit-done : (w : Unit {0}) → ForBatch (λ blobs cs. IsCommitted h (tagged_batch_plan h b blobs cs ts) s1 after × IsGround after.basis)
            → ForBatch (λ blobs cs. Appends (tagged_batch_plan h b blobs cs ts) before now (Ok w)) → IsImported after before now a c y z (Ok report)
        commit-done w done got = (
          plan,
          made-done asked items h s s1 (flat_map ref_line r.heads) plan of-case after w before now report (sym (p.line ∙ ap (flat_map ref_line) names.stand.settings))
              (done x.blobs x.commits batch).0.appended (done x.blobs x.commits batch).1 (got x.blobs x.commits batch),
          stops-as plan (stops x.blobs x.commits batch),
        )
