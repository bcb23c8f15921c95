-- What a push brings, and why it brings nothing.
use Rattle.std.proofs.Common.{◌≡◌, inl, inr, ℕ, suc, ◌+◌, ◌≤◌, true, List, [], ◌∷◌, length, map, Option, Some, None, Result, Ok, Err, IfSome, IfOk, IfErr, IsSome, refl, sym, ap, subst, ◌∙◌, arith}
use Rattle.std.specs.Prelude.{IsErrOf, OnOk}
use Rattle.std.specs.Option.{option_map, option_or, unwrap_or}
use Rattle.std.specs.Global.{Vec}
use Rattle.std.specs.Result.{result_err}
use Rattle.git_objects.specs.Parts.{name_bytes}
use Rattle.git_objects.specs.Paths.{Bytes, is_bytes}
use Rattle.git_objects.specs.Snapshots.{Snapshot, Graph, snapshot_name, tree_at}
use Rattle.git_objects.specs.Trees.{Flat}
use Rattle.git_objects.specs.declared.kind.Kind.TheVariants.{Tree}
use Rattle.git_objects.specs.declared.name.Name.{Name}
use Rattle.object_store.specs.Growth.{IsGrownBy}
use Rattle.object_store.specs.Objects.{Object, has}
use Rattle.object_store.specs.Unfolding.{StandsFor, flat}
use Rattle.object_store.proofs.Growth.{clash_as, flat-grown, has-grown}
use Rattle.commit_graph.specs.Graphs.{Row, place_of}
use Rattle.commit_map.specs.Shown.{Shown}
use Rattle.filter_text.specs.Filters.{Filter}
use Rattle.filter_apply.specs.Faults.{IsApplyFault}
use Rattle.filter_apply.specs.declared.fault.ApplyError.{ApplyError}
use Rattle.filter_apply.specs.declared.fault.ApplyError.TheVariants as apply
use Rattle.workspace.specs.Workspaces.{shown}
use Rattle.projection_laws.specs.Projections.{projection}
use Rattle.projection_ground.specs.Grounds.{IsGround, Extends, commits_of}
use Rattle.history_ground.specs.Heads.{IsSeen, IsSeenObject}
use Rattle.projection_ground.specs.declared.ground.Ground.{Ground}
use Rattle.history_ground.specs.declared.heads.Seen.{Seen}
use Rattle.projection_ground.proofs.Growing.{commits-same, extends-as, extends-then}
use Rattle.history_ground.proofs.TakenTurns.{extends-store}
use Rattle.proj_io.specs.Counts.{Counts}
use Rattle.fast_import.specs.Made.{IsMadeBy}
use Rattle.fast_import.specs.Replays.{Ran, given_by, nothing_yet}
use Rattle.fast_import.specs.Standing.{AreBlobsIn, AreCommitsIn, IsReplayedOf}
use Rattle.fast_import.specs.declared.replayed.Made.{Made}
use Rattle.fast_import.specs.declared.replayed.Replayed.{Replayed as ReplayedNames}
use Rattle.fast_import.proofs.Growing.{blobs-grown}
use Rattle.fast_import.proofs.Putting.{fault_as}
use Rattle.push_back.specs.Faults.{IsPushFault, of_apply, of_original, of_stream}
use Rattle.push_back.specs.Grounds.{Ground as Base, from_of}
use Rattle.push_back.specs.Originals.{AreNamedIn, AreOriginals, Grows, IsMadeFor, IsOriginalError}
use Rattle.push_back.specs.Planning.{IsMadeByPush, IsPlanned, IsPlanOf}
use Rattle.push_laws.specs.Pushes.{Pushing, PushRefusal, StreamRefused, made_from, made_upon, pushed, refusal_of}
use Rattle.push_laws.specs.PushReplays.{StreamRefusal, push_base, push_replay}
use Rattle.push_laws.specs.PushReplays as replays
use Rattle.push_laws.specs.PushVerdicts.{Refusal, Pair as PairOf, Verdict, original_of, original_tree, upon, verdict, verdict_from, with_pair}
use Rattle.push_back.specs.Refusals.{IsRefusedBy}
use Rattle.push_back.specs.Replaying.{IsPushError, IsPushedWhole, Tells, told}
use Rattle.push_back.specs.Waited.{IsTakenTo, plan_waited, push_waited}
use Rattle.push_back.specs.declared.error.PushError.{PushError}
use Rattle.push_back.specs.declared.error.PushError.TheVariants as errors
use Rattle.push_back.specs.declared.fault.PushFault.{PushFault}
use Rattle.push_back.specs.declared.fault.PushFault.TheVariants as faults
use Rattle.push_back.specs.declared.brought.Pair.{Pair}
use Rattle.push_back.specs.declared.brought.Plan.{Plan}
use Rattle.push_back.specs.declared.refusal.OriginalError.{OriginalError}
use Rattle.push_back.specs.declared.refusal.TreeRefusal.{TreeRefusal}
use Rattle.push_back.specs.declared.refusal.TreeRefusal.TheVariants as trees

-- ---- what a fault of a call tells

pub apply-fault : (refusal : Option PushRefusal) (made more : Object → Type 0) (S : List Object) → ((o : Object) → made o → more o) → (e : ApplyError) → IsApplyFault made S e → IsPushFault refusal more S (of_apply e)
apply-fault refusal made more S f (apply.Collision n) x = clash_as made more S n.0 f x
apply-fault refusal made more S f apply.OutOfMemory x = tt

module _ (fault : Option StreamRefusal) (later : Option PushRefusal) where
  abbrev refused : Option PushRefusal
  refused = option_or (option_map StreamRefused fault) later

  tells : (e : PushError) (r : StreamRefusal) → Tells fault e → told e ≡ Some r → refused ≡ Some (StreamRefused r)
  tells e r t q = ap (λ (o : Option StreamRefusal). option_or (option_map StreamRefused o) later) (t.there ∙ sym t.same ∙ q)

  pub stream-fault : (made more : Object → Type 0) (S : List Object) → ((o : Object) → made o → more o) → (e : PushError) → IsPushError fault made S e → IsPushFault refused more S (of_stream e)
  stream-fault made more S g errors.ReadFault x = tt
  stream-fault made more S g (errors.OtherRef at) (inl t) = tells (errors.OtherRef at) (replays.OtherRef at) t refl
  stream-fault made more S g (errors.OtherRef at) (inr t) = absurd t
  stream-fault made more S g (errors.NotAtHead m n) (inl t) = tells (errors.NotAtHead m n) (replays.NotAtHead (option_map name_bytes m) (option_map name_bytes n)) t refl
  stream-fault made more S g (errors.NotAtHead m n) (inr t) = absurd t
  stream-fault made more S g (errors.FurtherParents n) (inl t) = tells (errors.FurtherParents n) (replays.FurtherParents n) t refl
  stream-fault made more S g (errors.FurtherParents n) (inr t) = absurd t
  stream-fault made more S g (errors.Stream f) (inl t) = inl (tells (errors.Stream f) (replays.Faulty f) t refl)
  stream-fault made more S g (errors.Stream f) (inr t) = inr (fault_as made more S f g t)

module _ (refusal : Option PushRefusal) (v : Verdict) (same : refusal ≡ refusal_of v) (made more : Object → Type 0) (S : List Object) (f : (o : Object) → made o → more o) (n : ℕ) where
  pub original-fault : (y : TreeRefusal) → IsRefusedBy (λ r. v ≡ Err (n, r)) made S y → IsPushFault refusal more S (of_original n y)
  original-fault trees.NoChange x = same ∙ ap refusal_of x
  original-fault trees.BadWorkspace x = same ∙ ap refusal_of x
  original-fault (trees.Unseen p) x = same ∙ ap refusal_of x
  original-fault (trees.NotHeld q) x = same ∙ ap refusal_of x
  original-fault (trees.Blocked p q) x = same ∙ ap refusal_of x
  original-fault (trees.TreeLimit q) x = same ∙ ap refusal_of x
  original-fault (trees.Collision m) x = clash_as made more S m.0 f x
  original-fault trees.OutOfMemory x = tt

error-is : {T E : Type 0} (r : Result T E) (d e : E) → r ≡ Err d → r ≡ Err e → d ≡ e
error-is r d e p q = cc

-- only a stream's fault tells that the source failed
pub apply-reads : (e : ApplyError) → of_apply e ≡ faults.ReadFault → ⊥
apply-reads (apply.Collision n) q = cc
apply-reads apply.OutOfMemory q = cc

pub stream-reads : (e : PushError) → of_stream e ≡ faults.ReadFault → e ≡ errors.ReadFault
stream-reads errors.ReadFault q = refl
stream-reads (errors.OtherRef at) q = cc
stream-reads (errors.NotAtHead m n) q = cc
stream-reads (errors.FurtherParents n) q = cc
stream-reads (errors.Stream f) q = cc

pub original-reads : (n : ℕ) (y : TreeRefusal) → of_original n y ≡ faults.ReadFault → ⊥
original-reads n trees.NoChange q = cc
original-reads n trees.BadWorkspace q = cc
original-reads n (trees.Unseen p) q = cc
original-reads n (trees.NotHeld p) q = cc
original-reads n (trees.Blocked p r) q = cc
original-reads n (trees.TreeLimit r) q = cc
original-reads n (trees.Collision m) q = cc
original-reads n trees.OutOfMemory q = cc

-- a call that didn't fail so leaves the count
pub quiet-fault : (m n : ℕ) → m ≤ n → (r : Result Plan PushFault) (d e : PushFault) → r ≡ Err d → d ≡ e → (e ≡ faults.ReadFault → ⊥) → Counts m n (IsErrOf r faults.ReadFault)
quiet-fault m n l r d e p q f = record { later = l; rose = λ i. absurd (f (sym q ∙ error-is r d faults.ReadFault p i)) }

pub quiet-memory : faults.OutOfMemory ≡ faults.ReadFault → ⊥
quiet-memory q = cc

pub quiet-plan : (m n : ℕ) → m ≤ n → (p : Plan) → Counts m n (IsErrOf {T = Plan} {E = PushFault} (Ok p) faults.ReadFault)
quiet-plan m n l p = record { later = l; rose = λ i. absurd cc }

pub told-fault : (m n : ℕ) (s : Result ReplayedNames PushError) (e : PushError) → Counts m n (IsErrOf s errors.ReadFault) → s ≡ Err e → (r : Result Plan PushFault) (d : PushFault) → r ≡ Err d → d ≡ of_stream e → Counts m n (IsErrOf r faults.ReadFault)
told-fault m n s e c w r d p q = record { later = c.later; rose = λ i. c.rose (w ∙ ap Err (stream-reads e (sym q ∙ error-is r d faults.ReadFault p i))) }

-- ---- how much of a source was taken

-- nothing, before the stream is read
pub none-taken : (waited : Bytes → ℕ) (o : Option Bytes) (r : Result Plan PushFault) (d : PushFault) → r ≡ Err d → IsTakenTo waited o o r
none-taken waited None r d q = tt
none-taken waited (Some all) (Ok p) d q = absurd cc
none-taken waited (Some all) (Err e) d q = ([], refl, omega arith, tt)

-- what the stream's replay took
pub err-taken : (waited : Bytes → ℕ) (o p : Option Bytes) (s : Result ReplayedNames PushError) → IsTakenTo waited o p s → (r : Result Plan PushFault) (d : PushFault) → r ≡ Err d → IsTakenTo waited o p r
err-taken waited None p s k r d q = tt
err-taken waited (Some all) p s k (Ok x) d q = absurd cc
err-taken waited (Some all) p s k (Err e) d q = (k.0, k.1, k.2, tt)

pub plan-taken : (waited : Bytes → ℕ) (o p : Option Bytes) (s : Result ReplayedNames PushError) → IsTakenTo waited o p s → (v : ReplayedNames) → s ≡ Ok v → (x : Plan) → IsTakenTo {E = PushFault} waited o p (Ok x)
plan-taken waited None p s k v q x = tt
plan-taken waited (Some all) p (Ok w) k v q x = (k.0, k.1, k.2, k.3)
plan-taken waited (Some all) p (Err e) k v q x = absurd cc

-- ---- how many there are

pub commits-length : (S : List Object) (ms : List Made) (cs : List Snapshot) → AreCommitsIn S ms cs → length ms ≡ length cs
commits-length S [] [] h = refl
commits-length S [] (c ∷ cs) h = absurd h
commits-length S (m ∷ ms) [] h = absurd h
commits-length S (m ∷ ms) (c ∷ cs) h = ap suc (commits-length S ms cs h.1)

pub named-length : (S : List Object) (ns : List Name) (cs : List Snapshot) → AreNamedIn S ns cs → length ns ≡ length cs
named-length S [] [] h = refl
named-length S [] (c ∷ cs) h = absurd h
named-length S (n ∷ ns) [] h = absurd h
named-length S (n ∷ ns) (c ∷ cs) h = ap suc (named-length S ns cs h.1)

accepted-before : (p : PairOf) (v : Verdict) → result_err (with_pair p v) ≡ None → result_err v ≡ None
accepted-before p (Ok ps) e = refl
accepted-before p (Err x) e = cc

-- each commit of an accepted push has an original
accepted-length : (f : Filter) (n : ℕ) (h : Bytes) (t seen : Flat) (cs : List Snapshot) → result_err (verdict_from f n h t seen cs) ≡ None → length (made_from f h t seen cs) ≡ length cs
accepted-length f n h t seen [] e = refl
accepted-length f n h t seen (c ∷ cs) e = by (original_tree f t seen c.tree) e (λ u. accepted-length f (n + 1) (snapshot_name (original_of h c u)) u c.tree cs)
  where
    by : (x : Result Flat Refusal)
        → result_err (upon n x (λ u. with_pair (record { pushed = c; original = original_of h c u }) (verdict_from f (n + 1) (snapshot_name (original_of h c u)) u c.tree cs))) ≡ None
        → ((u : Flat) → result_err (verdict_from f (n + 1) (snapshot_name (original_of h c u)) u c.tree cs) ≡ None → length (made_from f (snapshot_name (original_of h c u)) u c.tree cs) ≡ length cs)
        → length (made_upon h c x (λ u. made_from f (snapshot_name (original_of h c u)) u c.tree cs)) ≡ length (c ∷ cs)
    by (Ok u) q ih = ap suc (ih u (accepted-before (record { pushed = c; original = original_of h c u }) (verdict_from f (n + 1) (snapshot_name (original_of h c u)) u c.tree cs) q))
    by (Err x) q ih = absurd cc

pub none-refused : (v : Verdict) → result_err v ≡ None → refusal_of v ≡ None
none-refused (Ok ps) e = refl
none-refused (Err x) e = cc

-- ---- names

pub commit-names : (S : List Object) (ms : List Made) (cs : List Snapshot) → AreCommitsIn S ms cs → map name_bytes (map (λ (m : Made). m.name) ms) ≡ map snapshot_name cs
commit-names S [] [] h = refl
commit-names S [] (c ∷ cs) h = absurd h
commit-names S (m ∷ ms) [] h = absurd h
commit-names S (m ∷ ms) (c ∷ cs) h = λ i. sym h.0.named i ∷ commit-names S ms cs h.1 i

pub pushed-names : (ps : List Pair) → map (λ (p : Pair). p.pushed.0) ps ≡ map name_bytes (map (λ (p : Pair). p.pushed) ps)
pushed-names [] = refl
pushed-names (p ∷ ps) = ap (λ (ns : List Bytes). p.pushed.0 ∷ ns) (pushed-names ps)

-- ---- a source

-- what it tells, or else nothing
pub input-of : Option Bytes → Bytes
input-of o = unwrap_or o []

pub input-bytes : (o : Option Bytes) → IfSome o (λ l. is_bytes l ≡ true) → is_bytes (input-of o) ≡ true
unfolding input-of
input-bytes None h = refl
input-bytes (Some l) h = h

pub input-told : (o : Option Bytes) → IfSome o (λ l. l ≡ input-of o)
unfolding input-of
input-told None = tt
input-told (Some l) = refl

-- ---- a push

-- A stream was replayed, by what its replay is.
pub record IsReplayed (made : Object → Type 0) (y : Ran StreamRefusal) (S T : List Object) (r : Result ReplayedNames PushError) : Type 0 where
  pub taken : OnOk r (y.fault ≡ None)
  pub given : IfOk r (λ v. IsReplayedOf T v (given_by y.state))
  pub refused : IfErr r (IsPushError y.fault made T)
  pub grown : IsGrownBy made S T

-- what came of the originals of commits
record IsWorkedOut (f : Filter) (n : Bytes) (k l : Ground) (t seen : Flat) (cs : List Snapshot) (r : Result (Vec Name) OriginalError) : Type 0 where
  ok : IfOk r (λ v. AreOriginals f n t seen cs l.store v.items)
  err : IfErr r (IsOriginalError f n t seen cs l.store)
  grows : Grows (IsMadeFor f n t seen cs) k l

-- What became of a push, by what its pushing is.
pub record IsPlannedBy (f : Filter) (n : Bytes) (x : Pushing) (g h : Ground) (r : Result Plan PushFault) : Type 0 where
  pub ok : IfOk r (λ p. IsPlanOf h.store p x)
  pub err : IfErr r (IsPushFault x.refusal (IsMadeByPush f g n x) h.store)
  pub same : Extends (IsMadeByPush f g n x) g h
  pub map : h.map ≡ g.map

module _ (f : Filter) (refname n : Bytes) (g : Ground) where
  -- what it stands upon
  abbrev pub from : Option Bytes
  from = option_map (λ (p : Shown). p.commit) (projection g.rule (shown f) (commits_of g) n)

  abbrev pub before : Flat
  before = tree_at (commits_of g) n

  abbrev pub seen : Flat
  seen = shown f before

  -- upon a base
  pub upon-base : (h : Ground) (y : Seen) → IsSeen f g n h.store y → (b : Base) → b.refname ≡ refname → b.from ≡ y.from → b.shown ≡ y.tree
      → (all : Bytes) (T : List Object) (r : Result ReplayedNames PushError) → IsPushedWhole b.refname (from_of b) (flat h.store b.shown.0) h.store T all r → IsPushedWhole refname from seen h.store T all r
  upon-base h y s b q₁ q₂ q₃ all T r whole =
      let same-from : from_of b ≡ from = ap (option_map name_bytes) q₂ ∙ s.projected in
      let same-seen : flat h.store b.shown.0 ≡ seen = ap (λ (k : Name). flat h.store k.0) q₃ ∙ s.stands.map in
      subst (λ (t : Flat). IsPushedWhole refname from t h.store T all r) same-seen
      (subst (λ (k : Option Bytes). IsPushedWhole refname k (flat h.store b.shown.0) h.store T all r) same-from
      (subst (λ (k : Bytes). IsPushedWhole k (from_of b) (flat h.store b.shown.0) h.store T all r) q₁ whole))

  -- how much of it was taken
  pub upon-waited : (h : Ground) (y : Seen) → IsSeen f g n h.store y → (b : Base) → b.refname ≡ refname → b.from ≡ y.from → b.shown ≡ y.tree
      → (o p : Option Bytes) (r : Result ReplayedNames PushError) → IsTakenTo (push_waited b.refname (from_of b) (flat h.store b.shown.0)) o p r → IsTakenTo (plan_waited f g refname n) o p r
  upon-waited h y s b q₁ q₂ q₃ o p r taken =
      let same-from : from_of b ≡ from = ap (option_map name_bytes) q₂ ∙ s.projected in
      let same-seen : flat h.store b.shown.0 ≡ seen = ap (λ (k : Name). flat h.store k.0) q₃ ∙ s.stands.map in
      subst (λ (t : Flat). IsTakenTo (push_waited refname from t) o p r) same-seen
      (subst (λ (k : Option Bytes). IsTakenTo (push_waited refname k (flat h.store b.shown.0)) o p r) same-from
      (subst (λ (k : Bytes). IsTakenTo (push_waited k (from_of b) (flat h.store b.shown.0)) o p r) q₁ taken))

  module _ (y : Ran StreamRefusal) where
    abbrev pub x : Pushing
    x = pushed f (commits_of g) n refname from y

    abbrev made : Object → Type 0
    made = IsMadeByPush f g n x

    abbrev Planned : Ground → Result Plan PushFault → Type 0
    Planned h r = IsPlannedBy f n x g h r

    abbrev pub IsOfStream : Object → Type 0
    IsOfStream o = IsMadeBy (push_base refname from seen) nothing_yet y.tried o

    -- no more is made
    failed : (h : Ground) (e : PushFault) → IsPushFault x.refusal made h.store e → Extends made g h → h.map ≡ g.map → Planned h (Err e)
    failed h e z a m = record { ok = tt; err = z; same = a; map = m }

    -- ---- the projection is made

    module _ (h : Ground) (a : Extends (IsSeenObject f g n) g h) (m : h.map ≡ g.map) where
      seen-object : (o : Object) → IsSeenObject f g n o → made o
      seen-object o z = inl z

      seen-same : Extends made g h
      seen-same = extends-as (IsSeenObject f g n) made g h seen-object a

      pub not-seen : (e : ApplyError) → IsApplyFault (IsSeenObject f g n) h.store e → Planned h (Err (of_apply e))
      not-seen e z = failed h (of_apply e) (apply-fault x.refusal (IsSeenObject f g n) made h.store seen-object e z) seen-same m

      pub no-base : Planned h (Err faults.OutOfMemory)
      no-base = failed h faults.OutOfMemory tt seen-same m

      -- ---- the stream is replayed

      module _ (w : IsGround g) (T : List Object) (r : Result ReplayedNames PushError) (whole : IsReplayed IsOfStream y h.store T r) where
        abbrev k : Ground
        k = record h { store = T }

        stream-object : (o : Object) → IsOfStream o → made o
        stream-object o z = inr (inl z)

        pub replayed-same : Extends made g k
        replayed-same = extends-then made g h k seen-same (extends-as IsOfStream made h k stream-object (extends-store IsOfStream h T a.ground whole.grown))

        pub replayed-head : IsSome (place_of n g.graph) → IsSome (place_of n k.graph)
        replayed-head z = subst (λ (rows : List Row). IsSome (place_of n rows)) (sym replayed-same.graph) z

        pub replayed-tree : (t : Name) → StandsFor h.store t.0 seen → has Tree T t.0 ≡ true
        replayed-tree t s = has-grown h.store T Tree t.0 whole.grown s.held

        pub not-replayed : (e : PushError) → r ≡ Err e → Planned k (Err (of_stream e))
        not-replayed e q =
            failed k (of_stream e)
            (stream-fault y.fault (refusal_of (verdict f (commits_of g) n y.state.commits)) IsOfStream made T stream-object e
            (subst (λ (z : Result ReplayedNames PushError). IfErr z (IsPushError y.fault IsOfStream T)) q whole.refused))
            replayed-same m

        module _ (v : ReplayedNames) (q : r ≡ Ok v) where
          given : IsReplayedOf T v (given_by y.state)
          given = subst (λ (z : Result ReplayedNames PushError). IfOk z (λ (u : ReplayedNames). IsReplayedOf T u (given_by y.state))) q whole.given

          accepted : y.fault ≡ None
          accepted = subst (λ (z : Result ReplayedNames PushError). OnOk z (y.fault ≡ None)) q whole.taken

          pub commits-there : AreCommitsIn T v.commits.items y.state.commits
          commits-there = given.made_commits

          -- ---- originals are worked out

          module _ (t : Name) (s : StandsFor h.store t.0 seen) (l : Ground) (o : Result (Vec Name) OriginalError)
              (ok : IfOk o (λ z. AreOriginals f n (tree_at (commits_of k) n) (flat T t.0) y.state.commits l.store z.items))
              (err : IfErr o (IsOriginalError f n (tree_at (commits_of k) n) (flat T t.0) y.state.commits l.store))
              (grows : Grows (IsMadeFor f n (tree_at (commits_of k) n) (flat T t.0) y.state.commits) k l) where
            worked : IsWorkedOut f n k l before seen y.state.commits o
            worked =
                let same-before : tree_at (commits_of k) n ≡ before = ap (λ (G : Graph). tree_at G n) (commits-same made g k w replayed-same) in
                let same-seen : flat T t.0 ≡ seen = flat-grown h.store T t.0 whole.grown s.held ∙ s.map in
                subst (λ (u : Flat). IsWorkedOut f n k l before u y.state.commits o) same-seen
                (subst (λ (u : Flat). IsWorkedOut f n k l u (flat T t.0) y.state.commits o) same-before (record { ok = ok; err = err; grows = grows }))

            original-object : (b : Object) → IsMadeFor f n before seen y.state.commits b → made b
            original-object b z = inr (inr z)

            worked-same : Extends made g l
            worked-same = extends-then made g k l replayed-same (extends-as (IsMadeFor f n before seen y.state.commits) made k l original-object worked.grows.extends)

            worked-map : l.map ≡ g.map
            worked-map = worked.grows.map ∙ m

            -- the refusal of a commit is that of the push
            same-refusal : x.refusal ≡ refusal_of (verdict f (commits_of g) n y.state.commits)
            same-refusal = ap (λ (z : Option StreamRefusal). option_or (option_map StreamRefused z) (refusal_of (verdict f (commits_of g) n y.state.commits))) accepted

            pub not-worked : (e : OriginalError) → o ≡ Err e → Planned l (Err (of_original e.n e.refusal))
            not-worked e z =
                failed l (of_original e.n e.refusal)
                (original-fault x.refusal (verdict f (commits_of g) n y.state.commits) same-refusal (IsMadeFor f n before seen y.state.commits) made l.store original-object e.n e.refusal
                (subst (λ (i : Result (Vec Name) OriginalError). IfErr i (IsOriginalError f n before seen y.state.commits l.store)) z worked.err))
                worked-same worked-map

            pub no-pairs : Planned l (Err faults.OutOfMemory)
            no-pairs = failed l faults.OutOfMemory tt worked-same worked-map

            module _ (z : Vec Name) (is : o ≡ Ok z) where
              made-all : AreOriginals f n before seen y.state.commits l.store z.items
              made-all = subst (λ (i : Result (Vec Name) OriginalError). IfOk i (λ (j : Vec Name). AreOriginals f n before seen y.state.commits l.store j.items)) is worked.ok

              pub as-many : length z.items ≡ length v.commits.items
              as-many =
                  named-length l.store z.items (made_from f n before seen y.state.commits) made-all.made
                  ∙ accepted-length f 1 n before seen y.state.commits made-all.accepted
                  ∙ sym (commits-length T v.commits.items y.state.commits given.made_commits)

              pub planned : (p : Plan) → p.blobs.items ≡ v.blobs.items → map (λ (c : Pair). c.pushed) p.commits.items ≡ map (λ (c : Made). c.name) v.commits.items
                  → map (λ (c : Pair). c.original) p.commits.items ≡ z.items → Planned l (Ok p)
              planned p blobs names originals = record {
                ok = record {
                  accepted = same-refusal ∙ none-refused (verdict f (commits_of g) n y.state.commits) made-all.accepted;
                  blobs = subst (λ (ns : List Name). AreBlobsIn l.store ns y.state.blobs) (sym blobs) (blobs-grown T l.store worked.grows.extends.store v.blobs.items y.state.blobs given.made_blobs);
                  pushed = pushed-names p.commits.items ∙ ap (λ (ns : List Name). map name_bytes ns) names ∙ commit-names T v.commits.items y.state.commits given.made_commits;
                  originals = subst (λ (ns : List Name). AreNamedIn l.store ns (made_from f n before seen y.state.commits)) (sym originals) made-all.made;
                };
                err = tt;
                same = worked-same;
                map = worked-map;
              }

  -- ---- the stream is that of the bytes

  pub whole-as : (S T : List Object) (all : Bytes) (r : Result ReplayedNames PushError) → IsPushedWhole refname from seen S T all r
      → IsReplayed (IsOfStream (push_replay refname from seen all)) (push_replay refname from seen all) S T r
  whole-as S T all r whole = record { taken = whole.taken; given = whole.given; refused = whole.refused; grown = whole.grown }

  pub as-planned : (h : Ground) (all : Bytes) (r : Result Plan PushFault) → IsPlannedBy f n (x (push_replay refname from seen all)) g h r → IsPlanned f refname n all g h r
  as-planned h all r p = record { ok = p.ok; err = p.err; same = p.same; map = p.map }

  -- by what a source tells
  abbrev pub IsTold : Option Bytes → Ground → Result Plan PushFault → Type 0
  IsTold left h r = (all : Bytes) × (is_bytes all ≡ true) × IfSome left (λ bytes. bytes ≡ all) × IsPlanned f refname n all g h r

  pub handed : (h : Ground) (all : Bytes) (r : Result Plan PushFault) (d e : PushFault) → r ≡ Err d → d ≡ e → IsPlannedBy f n (x (push_replay refname from seen all)) g h (Err e) → IsPlanned f refname n all g h r
  handed h all r d e p q w = subst (λ (z : Result Plan PushFault). IsPlanned f refname n all g h z) (sym (p ∙ ap Err q)) (as-planned h all (Err e) w)

  -- before the stream is read, whatever it is
  pub early : (left : Option Bytes) → IfSome left (λ l. is_bytes l ≡ true) → (h : Ground) (r : Result Plan PushFault) (d e : PushFault) → r ≡ Err d → d ≡ e → ((y : Ran StreamRefusal) → IsPlannedBy f n (x y) g h (Err e)) → IsTold left h r
  early left b h r d e p q w = (input-of left, input-bytes left b, input-told left, handed h (input-of left) r d e p q (w (push_replay refname from seen (input-of left))))
