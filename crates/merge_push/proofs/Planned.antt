-- What a push with merges brings, and why it brings nothing.
use Rattle.std.proofs.Common.{◌≡◌, inl, inr, ℕ, ◌≤◌, true, List, [], ◌∷◌, ◌++◌, map, Option, Some, None, IsSome, Result, Ok, Err, IfOk, IfErr, OnOk, refl, sym, ap, subst, ◌∙◌}
use Rattle.std.specs.Option.{is_some, option_map, option_or}
use Rattle.std.specs.List.{list_all}
use Rattle.std.specs.Result.{result_err}
use Rattle.git_objects.specs.Lists.{Each}
use Rattle.git_objects.specs.Parts.{name_bytes}
use Rattle.git_objects.specs.Paths.{Bytes, is_bytes}
use Rattle.git_objects.specs.Snapshots.{Snapshot, Graph, tree_at}
use Rattle.git_objects.specs.Trees.{Flat, IsTree}
use Rattle.git_objects.specs.declared.kind.Kind.TheVariants.{Blob}
use Rattle.git_objects.specs.declared.name.Name.{Name}
use Rattle.object_store.specs.Objects.{Object, IsStore, body_of, has}
use Rattle.object_store.specs.StoredSnapshots.{IsTreeOf}
use Rattle.object_store.specs.Unfolding.{flat}
use Rattle.object_store.proofs.Growth.{grown_as}
use Rattle.object_store.proofs.Held.{body_bytes}
use Rattle.object_store.proofs.Unfolding.{unfolding_law}
use Rattle.git_objects.proofs.Basics.{and_both}
use Rattle.push_laws.specs.Given.{blobs_in}
use Rattle.merge_laws.specs.Given.{MergeGivenLaw}
use Rattle.merge_laws.specs.StreamLaws.{PushedJoinedLaw}
use Rattle.merge_push.proofs.ReadPushed.{all-again, head-named, start-named}
use Rattle.commit_graph.specs.Graphs.{Row, place_of}
use Rattle.commit_map.specs.Shown.{Entries, Shown}
use Rattle.commit_map.specs.declared.rule.Rule.{Rule}
use Rattle.filter_text.specs.Filters.{Filter}
use Rattle.filter_apply.specs.Faults.{IsApplyFault}
use Rattle.filter_apply.specs.declared.fault.ApplyError.{ApplyError}
use Rattle.workspace.specs.Workspaces.{shown}
use Rattle.projection_laws.specs.Projections.{projection, projections}
use Rattle.projection_laws.proofs.HistoryLemmas.{each-map}
use Rattle.projection_ground.specs.Grounds.{Extends, IsGround, IsShownOf, commits_of}
use Rattle.projection_ground.specs.declared.ground.Ground.{Ground}
use Rattle.projection_ground.proofs.Growing.{commits-same, extends-as, extends-then, tree-of-grown}
use Rattle.history_ground.specs.Origins.{AreFirsts, first_place}
use Rattle.history_ground.proofs.TakenTurns.{extends-store}
use Rattle.fast_import.specs.Made.{IsMadeBy}
use Rattle.fast_import.specs.Replays.{Base, Ran, given_by, nothing_yet, value_at}
use Rattle.fast_import.specs.Standing.{AreBlobsIn, IsReplayedOf}
use Rattle.fast_import.specs.declared.replayed.Replayed.{Replayed as ReplayedNames}
use Rattle.fast_import.proofs.Growing.{blobs-grown}
use Rattle.fast_import.proofs.Putting.{fault_as}
use Rattle.push_laws.specs.PushLaws.{commit_of}
use Rattle.push_laws.specs.PushReplays.{StreamRefusal}
use Rattle.push_laws.specs.Pushes.{Pushing, StreamRefused, refusal_of}
use Rattle.push_back.specs.Faults.{IsPushFault, of_apply, of_original, of_stream}
use Rattle.push_back.specs.Grounds.{blobs_of, from_of}
use Rattle.push_back.specs.Originals.{AreNamedIn}
use Rattle.push_back.specs.Planning.{IsPlanOf}
use Rattle.push_back.specs.Refusals.{IsRefusedBy}
use Rattle.push_back.specs.Replaying.{IsPushError}
use Rattle.push_back.specs.Replaying as replaying
use Rattle.push_back.specs.Waited.{IsTakenTo}
use Rattle.push_back.specs.declared.brought.Pair.{Pair}
use Rattle.push_back.specs.declared.brought.Plan.{Plan}
use Rattle.push_back.specs.declared.error.PushError.{PushError}
use Rattle.push_back.specs.declared.error.PushError.TheVariants as errors
use Rattle.push_back.specs.declared.fault.PushFault.{PushFault}
use Rattle.push_back.specs.declared.refusal.OriginalError.{OriginalError}
use Rattle.push_back.proofs.Planned.{IsReplayed, apply-fault, commit-names, err-taken, none-refused, original-fault, original-reads, plan-taken, pushed-names, quiet-fault, quiet-plan, stream-fault}
use Rattle.push_back.specs.declared.fault.PushFault.TheVariants as faults
use Rattle.merge_push.specs.declared.fault.MergeFault.{MergeFault}
use Rattle.merge_push.specs.declared.fault.MergeFault.TheVariants as merge-faults
use Rattle.merge_push.specs.Faults.{of_push}
use Rattle.proj_io.specs.Counts.{Counts}
use Rattle.std.specs.Prelude.{IsErrOf}
use Rattle.merge_laws.specs.MergeLaws.{AreJoined, projected_names}
use Rattle.merge_laws.specs.MergeReplays.{merge_base, merge_replay}
use Rattle.merge_laws.specs.MergeVerdicts.{begun, made_from, merge_verdict, verdict_from}
use Rattle.merge_laws.specs.Merges.{merging, shown_trees}
use Rattle.merge_laws.proofs.Bases.{names-law, tried-law}
use Rattle.merge_push.specs.Bringing.{AreBroughtBy, IsBaseObject, IsBroughtBy, IsMergeBaseOf}
use Rattle.merge_push.specs.Grounds as merges
use Rattle.merge_push.specs.Grounds.{projected_in}
use Rattle.merge_push.specs.Originals.{ArePushed, IsMadeFor, IsMadeOver, IsOriginalError, IsReadAgain}
use Rattle.merge_push.specs.Planning.{IsMadeByMerges, IsPlannedAs}
use Rattle.merge_push.specs.Replaying.{IsMadeOfMerges, IsMergedWhole}
use Rattle.merge_push.specs.Waited.{merge_waited, merges_waited}
use Rattle.merge_push.proofs.KnownNames.{same-names, waited-same}

-- ---- blobs of a store

blobs-bytes : (S : List Object) (ns : List Bytes) → IsStore S → Each (λ n. has Blob S n ≡ true) ns → list_all is_bytes (map (body_of Blob S) ns) ≡ true
blobs-bytes S [] s h = refl
blobs-bytes S (n ∷ ns) s h = and_both (body_bytes Blob S n s h.0) (blobs-bytes S ns s h.1)

-- ---- why a stream isn't taken, by more objects

free-as : (made more : Object → Type 0) (S : List Object) → ((o : Object) → made o → more o) → (e : PushError) → replaying.IsFreeFault made S e → replaying.IsFreeFault more S e
free-as made more S g errors.ReadFault h = h
free-as made more S g (errors.OtherRef at) h = h
free-as made more S g (errors.NotAtHead m n) h = h
free-as made more S g (errors.FurtherParents n) h = h
free-as made more S g (errors.Stream f) h = fault_as made more S f g h

push-as : (o : Option StreamRefusal) (made more : Object → Type 0) (S : List Object) → ((x : Object) → made x → more x) → (e : PushError) → replaying.IsPushFault o made S e → replaying.IsPushFault o more S e
push-as o made more S g e (inl t) = inl t
push-as o made more S g e (inr t) = inr (free-as made more S g e t)

error-as : (o : Option StreamRefusal) (made more : Object → Type 0) (S : List Object) → ((x : Object) → made x → more x) → (e : PushError) → IsPushError o made S e → IsPushError o more S e
error-as o made more S g errors.ReadFault h = h
error-as o made more S g (errors.OtherRef at) h = push-as o made more S g (errors.OtherRef at) h
error-as o made more S g (errors.NotAtHead m n) h = push-as o made more S g (errors.NotAtHead m n) h
error-as o made more S g (errors.FurtherParents n) h = push-as o made more S g (errors.FurtherParents n) h
error-as o made more S g (errors.Stream f) h = push-as o made more S g (errors.Stream f) h

module _ (f : Filter) (refname n : Bytes) (G : Ground) where
  abbrev ks : Entries
  ks = projections G.rule (shown f) [] (commits_of G)

  -- what it stands upon
  abbrev pub from : Option Bytes
  from = option_map (λ (p : Shown). p.commit) (projection G.rule (shown f) (commits_of G) n)

  abbrev pub seen : Flat
  seen = shown f (tree_at (commits_of G) n)

  abbrev pub theirs : List (Bytes × Flat)
  theirs = shown_trees f (commits_of G) ks

  module _ (h : Ground) (a : Extends (IsBaseObject f G n) G h) (m : h.map ≡ G.map) (w : IsGround G) where
    module _ (b : merges.Ground) (s : IsMergeBaseOf f refname n G h.store b) where
      abbrev ours : List (Bytes × Flat)
      ours = projected_in h.store b

      names : (k : Bytes) → is_some (value_at k ours) ≡ is_some (value_at k theirs)
      names = same-names f G h.store b.origins s.origins

      -- how much of the stream was taken
      pub upon-waited : (o p : Option Bytes) (r : Result ReplayedNames PushError) → IsTakenTo (merge_waited b.push.refname (from_of b.push) (flat h.store b.push.shown.0) (projected_in h.store b)) o p r
          → IsTakenTo (merges_waited f G refname n) o p r
      upon-waited o p r taken =
          subst (λ (x : Bytes → ℕ). IsTakenTo x o p r) (waited-same f G h.store b.origins s.origins refname from seen)
          (subst (λ (t : Flat). IsTakenTo (merge_waited refname from t ours) o p r) s.seen_is
          (subst (λ (k : Option Bytes). IsTakenTo (merge_waited refname k (flat h.store b.push.shown.0) ours) o p r) s.from_is
          (subst (λ (k : Bytes). IsTakenTo (merge_waited k (from_of b.push) (flat h.store b.push.shown.0) ours) o p r) s.refname_is taken)))

      module _ (all : Bytes) (bytes : is_bytes all ≡ true) where
        abbrev pub x : Pushing
        x = merging G.rule f (commits_of G) n refname all

        abbrev y : Ran StreamRefusal
        y = merge_replay refname from seen theirs all

        abbrev made : Object → Type 0
        made = IsMadeByMerges f G n x

        abbrev IsOfStream : Object → Type 0
        IsOfStream o = IsMadeBy (merge_base refname from seen theirs) nothing_yet y.tried o

        base-object : (o : Object) → IsBaseObject f G n o → made o
        base-object o (inl z) = inl z
        base-object o (inr z) = inr (inl z)

        stream-object : (o : Object) → IsOfStream o → made o
        stream-object o z = inr (inr (inl z))

        module _ (T : List Object) (r : Result ReplayedNames PushError) (whole : IsMergedWhole b.push.refname (from_of b.push) (flat h.store b.push.shown.0) (projected_in h.store b) h.store T all r) where
          moved : IsMergedWhole refname from seen ours h.store T all r
          moved =
              subst (λ (t : Flat). IsMergedWhole refname from t ours h.store T all r) s.seen_is
              (subst (λ (k : Option Bytes). IsMergedWhole refname k (flat h.store b.push.shown.0) ours h.store T all r) s.from_is
              (subst (λ (k : Bytes). IsMergedWhole k (from_of b.push) (flat h.store b.push.shown.0) ours h.store T all r) s.refname_is whole))

          same : merge_replay refname from seen ours all ≡ y
          same = names-law refname from seen ours theirs all names

          tried : (o : Object) → IsMadeOfMerges refname from seen ours all o → IsOfStream o
          tried o z = tried-law refname from seen ours theirs all names o z

          refused-of : (q : Result ReplayedNames PushError) → IfErr q (IsPushError (merge_replay refname from seen ours all).fault (IsMadeOfMerges refname from seen ours all) T) → IfErr q (IsPushError y.fault IsOfStream T)
          refused-of (Ok v) z = tt
          refused-of (Err e) z = subst (λ (u : Ran StreamRefusal). IsPushError u.fault IsOfStream T e) same (error-as (merge_replay refname from seen ours all).fault (IsMadeOfMerges refname from seen ours all) IsOfStream T tried e z)

          replayed : IsReplayed IsOfStream y h.store T r
          replayed = record {
            taken = subst (λ (z : Ran StreamRefusal). OnOk r (z.fault ≡ None)) same moved.taken;
            given = subst (λ (z : Ran StreamRefusal). IfOk r (λ v. IsReplayedOf T v (given_by z.state))) same moved.given;
            refused = refused-of r moved.refused;
            grown = grown_as (IsMadeOfMerges refname from seen ours all) IsOfStream h.store T tried moved.grown;
          }

          abbrev k : Ground
          k = record h { store = T }

          pub replayed-same : Extends made G k
          replayed-same =
              extends-then made G h k (extends-as (IsBaseObject f G n) made G h base-object a)
              (extends-as IsOfStream made h k stream-object (extends-store IsOfStream h T a.ground replayed.grown))

          same-commits : commits_of k ≡ commits_of G
          same-commits = commits-same made G k w replayed-same

          pub replayed-head : IsSome (place_of n G.graph) → IsSome (place_of n k.graph)
          replayed-head z = subst (λ (rows : List Row). IsSome (place_of n rows)) (sym replayed-same.graph) z

          pub not-replayed : (e : PushError) → r ≡ Err e → IsPlannedAs f refname n all G k (Err (of_stream e))
          not-replayed e q = record {
            ok = tt;
            err = stream-fault y.fault (refusal_of (merge_verdict G.rule f (commits_of G) n y.state.commits)) IsOfStream made T stream-object e
                (subst (λ (z : Result ReplayedNames PushError). IfErr z (IsPushError y.fault IsOfStream T)) q replayed.refused);
            same = replayed-same;
            map = m;
          }

          -- the projections are there still
          pub firsts-there : AreFirsts f k k.store b.origins
          firsts-there = record {
            first = λ z. s.origins.first z ∙ sym (λ i. first_place (projections (replayed-same.rule i) (shown f) [] (same-commits i)) z);
            there = each-map (λ e. IsTreeOf h.store e.0 e.1.tree) (λ e. IsTreeOf T e.0 e.1.tree) (λ e z. tree-of-grown h.store T e.0 e.1.tree replayed.grown z) b.origins s.origins.there;
          }

          module _ (v : ReplayedNames) (q : r ≡ Ok v) where
            given : IsReplayedOf T v (given_by y.state)
            given = subst (λ (z : Result ReplayedNames PushError). IfOk z (λ (u : ReplayedNames). IsReplayedOf T u (given_by y.state))) q replayed.given

            accepted : y.fault ≡ None
            accepted = subst (λ (z : Result ReplayedNames PushError). OnOk z (y.fault ≡ None)) q replayed.taken

            pub pushed-there : Each IsReadAgain y.state.commits → AreJoined (projected_names ks) (commit_of (projection G.rule (shown f) (commits_of G) n)) y.state.commits → ArePushed f k n v.commits.items y.state.commits
            pushed-there again joined = record {
              standing = given.made_commits;
              read_again = again;
              joined = subst (λ (z : Rule × Graph). AreJoined (projected_names (projections z.0 (shown f) [] z.1)) (commit_of (projection z.0 (shown f) z.1 n)) y.state.commits) (λ i. (sym replayed-same.rule i, sym same-commits i)) joined;
            }

            seen-tree : IsTree seen
            seen-tree = subst IsTree s.seen_is (unfolding_law h.store b.push.shown.0 a.ground.graph.store s.there.tree).tree

            seen-bytes : list_all is_bytes (blobs_in seen) ≡ true
            seen-bytes =
                ap (λ t. list_all is_bytes (blobs_in t)) (sym s.seen_is)
                ∙ ap (λ (z : Base). list_all is_bytes z.blobs) (sym s.there.same)
                ∙ blobs-bytes h.store (blobs_of b.push) a.ground.graph.store s.there.there.contents

            -- the commits are those of a push with merges
            pub pushed-by : MergeGivenLaw → PushedJoinedLaw → ArePushed f k n v.commits.items y.state.commits
            pushed-by law joins =
                let joined = joins G.rule f (commits_of G) n refname all in
                let good = law refname from seen theirs all seen-tree seen-bytes bytes in
                pushed-there
                (all-again T replayed-same.ground.graph.store (y.state.blobs ++ blobs_in seen) (projected_names ks) (commit_of (projection G.rule (shown f) (commits_of G) n)) v.commits.items y.state.commits
                (start-named G.rule (shown f) (commits_of G)) (head-named G.rule (shown f) (commits_of G) n) given.made_commits joined good.commits)
                joined

            module _ (l : Ground) (p : Result Plan PushFault) (o : IsBroughtBy f k n y.state.commits v l.store p) (e : Extends (IsMadeOver f k n y.state.commits) k l) (z : l.map ≡ k.map) where
              over : (c : Object) → IsMadeOver f k n y.state.commits c → made c
              over c (inl u) = inr (inl (inl (subst (λ (g : Graph). IsShownOf f g c) same-commits u)))
              over c (inr u) = inr (inr (inr (subst (λ (g : Rule × Graph). IsMadeFor g.0 f (begun g.0 f g.1 n) y.state.commits c) (λ i. (replayed-same.rule i, same-commits i)) u)))

              abbrev At : (Rule × Graph → Type 0) → Type 0
              At P = P (k.rule, commits_of k)

              to-G : (P : Rule × Graph → Type 0) → P (k.rule, commits_of k) → P (G.rule, commits_of G)
              to-G P u = subst P (λ i. (replayed-same.rule i, same-commits i)) u

              same-refusal : x.refusal ≡ refusal_of (merge_verdict G.rule f (commits_of G) n y.state.commits)
              same-refusal = ap (λ (c : Option StreamRefusal). option_or (option_map StreamRefused c) (refusal_of (merge_verdict G.rule f (commits_of G) n y.state.commits))) accepted

              ok-of : (c : Result Plan PushFault) → IfOk c (AreBroughtBy f k n y.state.commits v l.store) → IfOk c (λ d. IsPlanOf l.store d x)
              ok-of (Err d) u = tt
              ok-of (Ok d) u = record {
                accepted = same-refusal ∙ none-refused (merge_verdict G.rule f (commits_of G) n y.state.commits) (to-G (λ c. result_err (verdict_from c.0 f 1 (begun c.0 f c.1 n) y.state.commits) ≡ None) u.accepted);
                blobs = subst (λ (ns : List Name). AreBlobsIn l.store ns y.state.blobs) (sym u.blobs) (blobs-grown T l.store e.store v.blobs.items y.state.blobs given.made_blobs);
                pushed = pushed-names d.commits.items ∙ ap (λ (ns : List Name). map name_bytes ns) u.pushed ∙ commit-names T v.commits.items y.state.commits given.made_commits;
                originals = to-G (λ c. AreNamedIn l.store (map (λ (i : Pair). i.original) d.commits.items) (made_from c.0 f (begun c.0 f c.1 n) y.state.commits)) u.originals;
              }

              err-of : (c : Result Plan PushFault) → IfErr c (λ d. (i : OriginalError) × (d ≡ of_original i.n i.refusal) × IsOriginalError k.rule f (begun k.rule f (commits_of k) n) y.state.commits (IsMadeOver f k n y.state.commits) l.store i) → IfErr c (IsPushFault x.refusal made l.store)
              err-of (Ok d) u = tt
              err-of (Err d) u = subst (IsPushFault x.refusal made l.store) (sym u.1)
                  (original-fault x.refusal (merge_verdict G.rule f (commits_of G) n y.state.commits) same-refusal (IsMadeOver f k n y.state.commits) made l.store over u.0.n u.0.refusal
                  (to-G (λ c. IsRefusedBy (λ r. verdict_from c.0 f 1 (begun c.0 f c.1 n) y.state.commits ≡ Err (u.0.n, r)) (IsMadeOver f k n y.state.commits) l.store u.0.refusal) u.2))

              pub planned : IsPlannedAs f refname n all G l p
              planned = record {
                ok = ok-of p o.ok;
                err = err-of p o.err;
                same = extends-then made G k l replayed-same (extends-as (IsMadeOver f k n y.state.commits) made k l over e);
                map = z ∙ m;
              }

-- ---- there is no base

pub not-based : (f : Filter) (refname n : Bytes) (G h : Ground) → Extends (IsBaseObject f G n) G h → h.map ≡ G.map → (all : Bytes) (e : ApplyError) → IsApplyFault (IsBaseObject f G n) h.store e → IsPlannedAs f refname n all G h (Err (of_apply e))
not-based f refname n G h a m all e z =
    let x : Pushing = merging G.rule f (commits_of G) n refname all in
    record {
      ok = tt;
      err = apply-fault x.refusal (IsBaseObject f G n) (IsMadeByMerges f G n x) h.store (of-base x) e z;
      same = extends-as (IsBaseObject f G n) (IsMadeByMerges f G n x) G h (of-base x) a;
      map = m;
    }
  where
    of-base : (x : Pushing) (o : Object) → IsBaseObject f G n o → IsMadeByMerges f G n x o
    of-base x o (inl z) = inl z
    of-base x o (inr z) = inr (inl z)

-- ---- what the source says

pub later-taken : (waited : Bytes → ℕ) (o p : Option Bytes) (r : Result ReplayedNames PushError) → IsTakenTo waited o p r → (v : ReplayedNames) → r ≡ Ok v → (x : Result Plan PushFault) → IsTakenTo waited o p x
later-taken waited o p r k v q (Ok x) = plan-taken waited o p r k v q x
later-taken waited o p r k v q (Err e) = err-taken waited o p r k (Err e) e refl

pub brought-quiet : (i j : ℕ) → i ≤ j → (f : Filter) (g : Ground) (n : Bytes) (cs : List Snapshot) (v : ReplayedNames) (S : List Object) (p : Result Plan PushFault) → IsBroughtBy f g n cs v S p → Counts i j (IsErrOf p faults.ReadFault)
brought-quiet i j l f g n cs v S (Ok x) o = quiet-plan i j l x
brought-quiet i j l f g n cs v S (Err w) o = quiet-fault i j l (Err w) w (of_original o.err.0.n o.err.0.refusal) refl o.err.1 (original-reads o.err.0.n o.err.0.refusal)

-- ---- the faults of a push with merges

pub push-reads : (w : PushFault) → of_push w ≡ merge-faults.ReadFault → w ≡ faults.ReadFault
push-reads faults.ReadFault q = refl
push-reads (faults.Stream x) q = absurd cc
push-reads (faults.OtherRef at) q = absurd cc
push-reads (faults.NotAtHead a b) q = absurd cc
push-reads (faults.MergePushed n) q = absurd cc
push-reads (faults.NoChange n) q = absurd cc
push-reads (faults.BadWorkspace n) q = absurd cc
push-reads (faults.Unseen n a) q = absurd cc
push-reads (faults.NotHeld n a) q = absurd cc
push-reads (faults.Blocked n a b) q = absurd cc
push-reads (faults.TreeLimit n a) q = absurd cc
push-reads (faults.Collision n) q = absurd cc
push-reads faults.OutOfMemory q = absurd cc

error-is : {A E : Type 0} (r : Result A E) (d e : E) → r ≡ Err d → r ≡ Err e → d ≡ e
error-is r d e p q = cc

pub merge-cause : (i j : ℕ) (w : PushFault) (e : MergeFault) → e ≡ of_push w → Counts i j (IsErrOf {T = Plan} (Err w) faults.ReadFault) → Counts i j (IsErrOf {T = Plan} (Err e) merge-faults.ReadFault)
merge-cause i j w e q c = record { later = c.later; rose = λ z. c.rose (ap Err (push-reads w (sym q ∙ error-is (Err e) e merge-faults.ReadFault refl z))) }

pub plan-cause : (i j : ℕ) (p : Plan) → Counts i j (IsErrOf {E = PushFault} (Ok p) faults.ReadFault) → Counts i j (IsErrOf {E = MergeFault} (Ok p) merge-faults.ReadFault)
plan-cause i j p c = record { later = c.later; rose = λ z. absurd cc }

pub merge-taken : (waited : Bytes → ℕ) (o p : Option Bytes) (w : PushFault) (e : MergeFault) → IsTakenTo {A = Plan} waited o p (Err w) → IsTakenTo {A = Plan} waited o p (Err e)
merge-taken waited None p w e k = tt
merge-taken waited (Some all) p w e k = (k.0, k.1, k.2, tt)

pub merge-taken-whole : (waited : Bytes → ℕ) (o p : Option Bytes) (x : Plan) → IsTakenTo {E = PushFault} waited o p (Ok x) → IsTakenTo {E = MergeFault} waited o p (Ok x)
merge-taken-whole waited None p x k = tt
merge-taken-whole waited (Some all) p x k = (k.0, k.1, k.2, k.3)
