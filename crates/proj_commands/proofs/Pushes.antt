-- What becomes of a push.
use Rattle.std.proofs.Common.{◌≡◌, ◌∙◌, ◌-◌, ℕ, suc, Bool, true, false, cond, T, List, [], ◌∷◌, ◌++◌, map, length, Contains, Option, None, Some, Result, Ok, Err, inl, inr, refl, sym, ap, ap₂, subst, append-nil, arith}
use Rattle.std.specs.Prelude.{◌≢◌, slice_get, zip}
use Rattle.std.specs.Cmp.{first_so, second_so}
use Rattle.std.specs.Cmp.Lexicographic.{bytes_decides, texts_ties}
use Rattle.std.specs.FinMap.{find, is_sorted}
use Rattle.std.specs.List.{flat_map, last_or, list_all}
use Rattle.std.specs.Option.{option_map}
use Rattle.std.specs.Ordering.{is_eq}
use Rattle.std.proofs.lemmas.Option.{none-some, same_Some}
use Rattle.git_objects.specs.Lists.{Each}
use Rattle.git_objects.specs.Names.{tree_name}
use Rattle.git_objects.specs.Parts.{name_bytes}
use Rattle.git_objects.specs.Paths.{Bytes, is_bytes}
use Rattle.git_objects.specs.Refs.{Refs, bytes_cmp}
use Rattle.git_objects.specs.Results.{◌>>=◌, or_refuse}
use Rattle.git_objects.specs.Snapshots.{Graph, Snapshot, add_all, has, snapshot_name, tree_at}
use Rattle.git_objects.specs.Trees.{IsTree}
use Rattle.git_objects.specs.declared.name.Name.{Name}
use Rattle.git_objects.proofs.Basics.{and_both, same_bytes-back}
use Rattle.path_names.specs.RefNames.{is_ref_name}
use Rattle.object_store.specs.Growth.{IsClash, IsGrownBy}
use Rattle.object_store.specs.Objects.{IsStore, Object, find_named, object_name}
use Rattle.object_store.proofs.Growth.{grown_as, grown_self}
use Rattle.filter_text.specs.Filters.{Filter}
use Rattle.workspace.specs.Laws.{IsUsable}
use Rattle.workspace.specs.Workspaces.{shown}
use Rattle.stream_reader.specs.declared.fault.StreamFault.{StreamFault}
use Rattle.stream_reader.specs.declared.fault.StreamFault.TheVariants as streams
use Rattle.projection_ground.specs.Grounds.{IsGround}
use Rattle.fast_import.specs.Made.{IsPutFault}
use Rattle.fast_import.specs.Standing.{AreBlobsIn, AreCommitsIn}
use Rattle.fast_import.specs.declared.replayed.Made.{Made as MadeNames}
use Rattle.push_back.specs.Faults.{IsPushFault}
use Rattle.push_laws.specs.Given.{AreBrought, IsGiven, IsGivenCommit, IsSeenTree, blobs_in}
use Rattle.push_back.specs.Originals as pushed_names
use Rattle.push_laws.specs.PushReplays.{OtherRef as OnOtherRef, NotAtHead as IsNotAtHead, FurtherParents as IsMerge, Faulty}
use Rattle.push_laws.specs.PushVerdicts as verdicts
use Rattle.push_laws.specs.Pushes.{PushRefusal, StreamRefused, CommitRefused, Pushing}
use Rattle.push_back.specs.declared.fault.PushFault.{PushFault}
use Rattle.push_back.specs.declared.fault.PushFault.TheVariants as faults
use Rattle.push_back.specs.declared.brought.Pair.{Pair}
use Rattle.push_back.specs.declared.brought.Plan.{Plan as Planned}
use Rattle.proj_io.specs.Stops.{IsPresent, OnlyAdds, adds_as}
use Rattle.proj_io.specs.Views.{KeeperView}
use Rattle.state_items.specs.Changes.{NoPlan, Plan, change_plan, held_after, objects_of}
use Rattle.state_items.specs.Hands.{IsTwice}
use Rattle.state_items.specs.Imported.{AreRefsTo, AreSmall, IsBrought, is_among, with_commits}
use Rattle.state_items.specs.Items.{Held}
use Rattle.state_items.specs.Repos.{repo}
use Rattle.state_items.proofs.Kepts.{kept-law}
use Rattle.state_items.proofs.Limits.{change-law}
use Rattle.state_items.proofs.ReadEntries.{read-law}
use Rattle.state_items.proofs.TreesStored.{stored-law}
use Rattle.import_laws.proofs.EditLeaves.{held-bytes}
use Rattle.import_laws.proofs.StoredReplaying.{stored-replay-law}
use Rattle.repo_ground.specs.Changes.{Appends, AreNamedIn, IsBatchOf, IsCommitted, IsRefusal as IsRefusedBy, IsRefused, IsStopOf, batch_plan, settings_of}
use Rattle.repo_ground.specs.Contents.{Contents, room_in}
use Rattle.repo_ground.specs.declared.commit.Batch.{Batch}
use Rattle.repo_ground.specs.declared.commit.CommitError.{CommitError}
use Rattle.repo_ground.proofs.Stopping.{adds_none}
use Rattle.proj_words.specs.Faults.{stream_outcome}
use Rattle.proj_words.specs.declared.outcome.Outcome.{Outcome}
use Rattle.proj_words.specs.declared.outcome.Outcome.TheVariants as outcomes
use Rattle.proj_commands.specs.Cases.{Case, PushCase, Made, unchanged, within}
use Rattle.proj_commands.specs.Steps.{made}
use Rattle.proj_commands.specs.Push.{name_or_none, no_refusal, parents_refusal, push_case, push_outcome, push_plan, pushed_upon, told_digits, told_line, IsPushed}
use Rattle.proj_commands.specs.Filters.{project_by, rule_by}
use Rattle.proj_commands.specs.Hands.{IsInHands}
use Rattle.proj_commands.specs.Makes.{IsAtHand, IsMadeOf, IsRefusal, IsStateOf, hands_of}
use Rattle.proj_commands.specs.Pushing.{IsMadeOver, IsPlannedUpon, IsPushPrepared, fault_outcome}
use Rattle.proj_commands.specs.declared.lines.Telling.{Telling}
use Rattle.proj_commands.specs.declared.pushing.Manner.{Manner}
use Rattle.proj_commands.specs.declared.pushing.Manner.TheVariants.{InLine, Merging}
use Rattle.proj_commands.specs.Refusals.{commit_outcome}
use Rattle.proj_commands.proofs.Committing.{IsCase, good-none, keeps-self, made-done, made-refused, made-untouched, made-without, planned_by, stop-as, stops-by, told-report}
use Rattle.proj_commands.proofs.InHands.{twice-at}
use Rattle.push_laws.proofs.SeenTrees.{seen-tree}
use Rattle.proj_commands.proofs.PushHands.{made-in-hand}
use Rattle.proj_commands.proofs.PushedLaws.{IsNamedIn, brought-by, given-by, graph-named, has-added, head-tree, pushed}
use Rattle.proj_commands.proofs.StatesAfter.{passed-same}
use Rattle.proj_commands.proofs.StatesShown.{commits-are, head-there}
use Rattle.proj_commands.proofs.Staying.{among-has, stay, with-added}
use Rattle.proj_commands.proofs.StreamBatches.{named-made, once-named}

-- ---- names

-- originals as a replay's commits
mades : List Name → List Snapshot → List MadeNames
mades [] cs = []
mades (n ∷ ns) [] = []
mades (n ∷ ns) (c ∷ cs) = record { name = n; tree = record { 0 = tree_name c.tree } } ∷ mades ns cs

mades-in : (S : List Object) (ns : List Name) (cs : List Snapshot) → pushed_names.AreNamedIn S ns cs → AreCommitsIn S (mades ns cs) cs
unfolding mades
mades-in S [] [] w = tt
mades-in S [] (c ∷ cs) w = absurd w
mades-in S (n ∷ ns) [] w = absurd w
mades-in S (n ∷ ns) (c ∷ cs) w = (w.0, mades-in S ns cs w.1)

mades-named : (S : List Object) (ns : List Name) (cs : List Snapshot) → pushed_names.AreNamedIn S ns cs → map (λ (m : MadeNames). m.name) (mades ns cs) ≡ ns
unfolding mades
mades-named S [] [] w = refl
mades-named S [] (c ∷ cs) w = absurd w
mades-named S (n ∷ ns) [] w = absurd w
mades-named S (n ∷ ns) (c ∷ cs) w = ap (λ (ms : List Name). n ∷ ms) (mades-named S ns cs w.1)

-- ---- lines

head-is : (m n : Bytes) (ms ns : List Bytes) → m ∷ ms ≡ n ∷ ns → m ≡ n
head-is m n ms ns e = ap (λ (xs : List Bytes). first xs) e
  where
    first : List Bytes → Bytes
    first [] = m
    first (x ∷ xs) = x

tail-is : (m n : Bytes) (ms ns : List Bytes) → m ∷ ms ≡ n ∷ ns → ms ≡ ns
tail-is m n ms ns e = ap (λ (xs : List Bytes). rest xs) e
  where
    rest : List Bytes → List Bytes
    rest [] = ms
    rest (x ∷ xs) = xs

abbrev originals_of : List Pair → List Name
originals_of ps = map (λ c. c.original) ps

abbrev pushed_of : List Pair → List Bytes
pushed_of ps = map (λ c. c.pushed.0) ps

lines-are : (telling : Telling) (S : List Object) (ps : List Pair) (cs os : List Snapshot) → pushed_of ps ≡ map snapshot_name cs → pushed_names.AreNamedIn S (originals_of ps) os
    → flat_map (told_line telling) (zip cs os) ≡ flat_map (λ (c : Pair). told_digits telling c.pushed.0 c.original.0) ps
lines-are telling S [] [] [] e w = refl
lines-are telling S [] [] (o ∷ os) e w = absurd w
lines-are telling S [] (c ∷ cs) os e w = let no : [] ≡ map snapshot_name (c ∷ cs) = e in cc
lines-are telling S (p ∷ ps) [] os e w = let no : pushed_of (p ∷ ps) ≡ [] = e in cc
lines-are telling S (p ∷ ps) (c ∷ cs) [] e w = absurd w
lines-are telling S (p ∷ ps) (c ∷ cs) (o ∷ os) e w =
    ap₂ (λ (x y : Bytes). x ++ y) (λ i. told_digits telling (sym (head-is p.pushed.0 (snapshot_name c) (pushed_of ps) (map snapshot_name cs) e) i) (w.0.named i))
    (lines-are telling S ps cs os (tail-is p.pushed.0 (snapshot_name c) (pushed_of ps) (map snapshot_name cs) e) w.1)

-- ---- the last original

last-from : {A : Type 0} (x : A) (xs : List A) → slice_get (x ∷ xs) (length xs) ≡ last_or (Some x) xs
last-from x [] = refl
last-from x (y ∷ xs) = last-from y xs

pub last-at : {A : Type 0} (xs : List A) → slice_get xs (length xs - 1) ≡ last_or None xs
last-at [] = refl
last-at (x ∷ xs) = let e : suc (length xs) - 1 ≡ length xs = omega arith in ap (slice_get (x ∷ xs)) e ∙ last-from x xs

record IsLast (os : List Snapshot) (p : Pair) : Type 0 where
  commit : Snapshot
  last : last_or None os ≡ Some commit
  named : snapshot_name commit ≡ p.original.0

last-next : (S : List Object) (p q : Pair) (ps : List Pair) (o : Snapshot) (os : List Snapshot) → snapshot_name o ≡ p.original.0 → pushed_names.AreNamedIn S (originals_of ps) os → last_or (Some p) ps ≡ Some q
    → (c : Snapshot) × (last_or (Some o) os ≡ Some c) × (snapshot_name c ≡ q.original.0)
last-next S p q [] o [] n w e = (o, refl, n ∙ ap (λ (x : Pair). x.original.0) (same_Some p q e))
last-next S p q [] o (u ∷ os) n w e = absurd w
last-next S p q (r ∷ ps) o [] n w e = absurd w
last-next S p q (r ∷ ps) o (u ∷ os) n w e = last-next S r q ps u os w.0.named w.1 e

last-original : (S : List Object) (ps : List Pair) (os : List Snapshot) (p : Pair) → pushed_names.AreNamedIn S (originals_of ps) os → last_or None ps ≡ Some p → IsLast os p
last-original S [] os p w e = absurd (none-some p e)
last-original S (q ∷ ps) [] p w e = absurd w
last-original S (q ∷ ps) (o ∷ os) p w e = let l = last-next S q p ps o os w.0.named w.1 e in record { commit = l.0; last = l.1; named = l.2 }

-- no pairs, no originals
none-original : (S : List Object) (ps : List Pair) (os : List Snapshot) → pushed_names.AreNamedIn S (originals_of ps) os → ps ≡ [] → os ≡ []
none-original S ps os w e = by os (subst (λ (qs : List Pair). pushed_names.AreNamedIn S (originals_of qs) os) e w)
  where
    by : (xs : List Snapshot) → pushed_names.AreNamedIn S [] xs → xs ≡ []
    by [] v = refl
    by (x ∷ xs) v = absurd v

last-some : {A : Type 0} (x : A) (xs : List A) → last_or (Some x) xs ≡ None → ⊥
last-some x [] e = none-some x (sym e)
last-some x (y ∷ xs) e = last-some y xs e

none-pairs : (ps : List Pair) → last_or None ps ≡ None → ps ≡ []
none-pairs [] e = refl
none-pairs (p ∷ ps) e = absurd (last-some p ps e)

-- ---- refs

ref-named : (refs : Refs) (r n : Bytes) → list_all (λ e. is_ref_name e.0) refs ≡ true → find bytes_cmp r refs ≡ Some n → is_ref_name r ≡ true
ref-named [] r n h e = absurd (none-some n e)
ref-named (d ∷ refs) r n h e = by (λ k. ref-named refs r n (second_so (is_ref_name d.0) (list_all (λ e. is_ref_name e.0) refs) h) k) (is_eq (bytes_cmp r d.0)) refl e
  where
    by : (find bytes_cmp r refs ≡ Some n → is_ref_name r ≡ true) → (b : Bool) → is_eq (bytes_cmp r d.0) ≡ b → cond b (Some d.1) (find bytes_cmp r refs) ≡ Some n → is_ref_name r ≡ true
    by later true q k = ap is_ref_name (sym ((bytes_decides d.0 r).0 (same_bytes-back d.0 r ∙ texts_ties r d.0 ∙ q))) ∙ first_so (is_ref_name d.0) (list_all (λ e. is_ref_name e.0) refs) h
    by later false q k = later k

each-last : (P : Snapshot → Type 0) (o : Snapshot) (os : List Snapshot) (c : Snapshot) → P o → Each P os → last_or (Some o) os ≡ Some c → P c
each-last P o [] c a b e = subst P (same_Some o c e) a
each-last P o (u ∷ os) c a b e = each-last P u os c b.0 b.1 e

last-each : (P : Snapshot → Type 0) (os : List Snapshot) (c : Snapshot) → Each P os → last_or None os ≡ Some c → P c
last-each P [] c w e = absurd (none-some c e)
last-each P (o ∷ os) c w e = each-last P o os c w.0 w.1 e

among-last : (G : Graph) (os : List Snapshot) (c : Snapshot) → last_or None os ≡ Some c → is_among (with_commits G os) (snapshot_name c) ≡ true
among-last G os c e =
    ap (λ (g : Graph). is_among g (snapshot_name c)) (with-added os G) ∙ among-has (add_all G os) (snapshot_name c)
    ∙ last-each (λ o. has (add_all G os) (snapshot_name o) ≡ true) os c (has-added os G) e

-- ---- refusals

name-back : (m : Option Name) → name_or_none (option_map name_bytes m) ≡ m
name-back None = refl
name-back (Some n) = refl

-- a stream's own refusal is the step's
own-refusal : (P : Object → Type 0) (f : StreamFault) (r : Result Made Outcome) → r ≡ Err (stream_outcome f) → IsRefusal P (stream_outcome f) r
own-refusal P (streams.Syntax at) r e = e
own-refusal P (streams.Unsupported at what) r e = e
own-refusal P (streams.Unresolved at) r e = e
own-refusal P (streams.BadPath at) r e = e
own-refusal P (streams.NoSource at) r e = e
own-refusal P (streams.Limit at which) r e = e
own-refusal P (streams.Collision n) r e = inl e
own-refusal P streams.OutOfMemory r e = tt

put-refusal : (made P : Object → Type 0) (T : List Object) (f : StreamFault) (r : Result Made Outcome) → ((n : Bytes) → IsClash made T n → IsTwice P n) → IsPutFault made T f → IsRefusal P (stream_outcome f) r
put-refusal made P T f r twice (inl e) = subst (λ x. IsRefusal P (stream_outcome x) r) (sym e) tt
put-refusal made P T f r twice (inr (m, e, c)) = subst (λ x. IsRefusal P (stream_outcome x) r) (sym e) (inr (twice m.0 c))

-- further parents, or the same parent twice
parents-refusal : (P : Object → Type 0) (m : Manner) (n : ℕ) (r : Result Made Outcome) → r ≡ Err (parents_refusal m n) → IsRefusal P (parents_refusal m n) r
parents-refusal P InLine n r e = e
parents-refusal P Merging n r e = e

-- why a push brings nothing is why there is no report
push-refusal : (m : Manner) (made P : Object → Type 0) (T : List Object) (refusal : Option PushRefusal) (w : PushFault) (r : Result Made Outcome) → ((n : Bytes) → IsClash made T n → IsTwice P n)
    → ((e : PushRefusal) → refusal ≡ Some e → r ≡ Err (push_outcome m e)) → IsPushFault refusal made T w → IsRefusal P (fault_outcome m w) r
push-refusal m made P T refusal faults.ReadFault r twice by i = tt
push-refusal m made P T refusal (faults.Stream f) r twice by (inl e) = own-refusal P f r (by (StreamRefused (Faulty f)) e)
push-refusal m made P T refusal (faults.Stream f) r twice by (inr p) = put-refusal made P T f r twice p
push-refusal m made P T refusal (faults.OtherRef at) r twice by i = by (StreamRefused (OnOtherRef at)) i
push-refusal m made P T refusal (faults.NotAtHead a b) r twice by i =
    by (StreamRefused (IsNotAtHead (option_map name_bytes a) (option_map name_bytes b))) i ∙ (λ j. Err (outcomes.NotAtHead (name-back a j) (name-back b j)))
push-refusal m made P T refusal (faults.MergePushed n) r twice by i = parents-refusal P m n r (by (StreamRefused (IsMerge n)) i)
push-refusal m made P T refusal (faults.NoChange n) r twice by i = by (CommitRefused n verdicts.NoChange) i
push-refusal m made P T refusal (faults.BadWorkspace n) r twice by i = by (CommitRefused n verdicts.BadWorkspace) i
push-refusal m made P T refusal (faults.Unseen n p) r twice by i = by (CommitRefused n (verdicts.Unseen p)) i
push-refusal m made P T refusal (faults.NotHeld n q) r twice by i = by (CommitRefused n (verdicts.NotHeld q)) i
push-refusal m made P T refusal (faults.Blocked n p q) r twice by i = by (CommitRefused n (verdicts.Blocked p q)) i
push-refusal m made P T refusal (faults.TreeLimit n q) r twice by i = by (CommitRefused n (verdicts.TreeLimit q)) i
push-refusal m made P T refusal (faults.Collision n) r twice by i = inr (twice n.0 i)
push-refusal m made P T refusal faults.OutOfMemory r twice by i = tt

-- ---- a push to a ref that isn't there

module _ (m : Manner) (telling : Telling) (items : List Bytes) (h : Held) (f : Filter) (refname all : Bytes) (s : Contents) (st : IsStateOf items h s) where
  abbrev pub IsPushMade : Contents → KeeperView → KeeperView → ℕ → ℕ → (ℕ → List Bytes → Type 0) → (ℕ → List Bytes → Type 0) → Result Bytes Outcome → Type 0
  IsPushMade after before now a b y z result =
      (p : Plan) × IsMadeOf (push_case m telling h f refname all) items h s after before now p result × OnlyAdds a b y z (IsStopOf h s p before.items)

  pub no-ref : find bytes_cmp refname h.refs ≡ None → (before : KeeperView) (a : ℕ) (y : ℕ → List Bytes → Type 0) → IsPushMade s before before a a y y (Err outcomes.UnknownRef)
  no-ref e before a y = (
    NoPlan,
    subst (λ (o : Option Bytes). IsMadeOf (or_refuse outcomes.UnknownRef o >>= λ n. Ok (PushCase m telling h f refname n (pushed_upon m h f n refname all))) items h s s before before NoPlan (Err outcomes.UnknownRef)) (sym e)
        (record {
          reported = refl;
          planned = refl;
          good = good-none items h (room_in s);
          stored = keeps-self before;
          state = st;
          grown = grown_self (IsInHands []) s.basis.store st.ground.graph.store;
        }),
    adds_none a y (IsStopOf h s NoPlan before.items),
  )

-- ---- a push to a ref

module _ (m : Manner) (telling : Telling) (items : List Bytes) (h : Held) (f : Filter) (refname n all : Bytes) (bytes : is_bytes all ≡ true) (s : Contents) (st : IsStateOf items h s) (usable : IsUsable f)
    (at_ref : find bytes_cmp refname h.refs ≡ Some n) where
  abbrev G : Graph
  G = (repo h).commits

  abbrev x : Pushing
  x = pushed_upon m h f n refname all

  abbrev asked : Case
  asked = PushCase m telling h f refname n x

  abbrev S : List Object
  S = s.basis.store

  abbrev IsMadeHere : Object → Type 0
  IsMadeHere o = IsMadeOver m f refname n all (rule_by h.rule) G o

  placed : has G n ≡ true
  placed = head-there h s refname n st.spells at_ref

  seen : IsSeenTree (shown f (tree_at G n))
  seen =
      let t = head-tree h n st.spells.store in
      seen-tree f (tree_at G n) (repo h).blobs usable t.0 t.1 (held-bytes h.objects st.spells.store)

  given : IsGiven (blobs_in (shown f (tree_at G n))) x.stream.state
  given = given-by (rule_by h.rule) f G refname n all m seen.tree seen.bytes bytes

  trees-of : (bs : List Bytes) (cs : List Snapshot) → Each (IsGivenCommit bs) cs → Each (λ c. IsTree c.tree) cs
  trees-of bs [] w = tt
  trees-of bs (c ∷ cs) w = (w.0.tree, trees-of bs cs w.1)

  pushed-trees : Each (λ c. IsTree c.tree) x.stream.state.commits
  pushed-trees = trees-of (x.stream.state.blobs ++ blobs_in (shown f (tree_at G n))) x.stream.state.commits given.commits

  in-hand : (o : Object) → IsMadeHere o → IsInHands (hands_of (Ok asked)) o
  in-hand o w = made-in-hand h f refname n all m placed pushed-trees o w

  hand-grown : (T : List Object) → IsGrownBy IsMadeHere S T → IsGrownBy (IsInHands (hands_of (Ok asked))) S T
  hand-grown T g = grown_as IsMadeHere (IsInHands (hands_of (Ok asked))) S T in-hand g

  -- what is said of the case is said of the push
  came-up : (after : Contents) (before now : KeeperView) (a b : ℕ) (y z : ℕ → List Bytes → Type 0) (result : Result Bytes Outcome) (p : Plan) → IsMadeOf (Ok asked) items h s after before now p result
      → OnlyAdds a b y z (IsStopOf h s p before.items) → IsPushMade m telling items h f refname all s st after before now a b y z result
  came-up after before now a b y z result p came o = (
    p,
    subst (λ (q : Option Bytes). IsMadeOf (or_refuse outcomes.UnknownRef q >>= λ l. Ok (PushCase m telling h f refname l (pushed_upon m h f l refname all))) items h s after before now p result) (sym at_ref) came,
    o,
  )

  made-refusal : (e : PushRefusal) → x.refusal ≡ Some e → made (room_in s) asked ≡ Err (push_outcome m e)
  made-refusal e q = ap (λ (o : Option PushRefusal). no_refusal m o >>= λ _. within (room_in s) h (flat_map (told_line telling) (zip x.stream.state.commits x.originals)) (push_plan h refname x (last_or None x.originals))) q

  module _ (s1 : Contents) (before : KeeperView) (a : ℕ) (y : ℕ → List Bytes → Type 0) where
    -- the push brings nothing
    pub unplanned : (e : Outcome) (result : Result Bytes Outcome) → result ≡ Err e → IsPlannedUpon m items h f refname n all s s1 (Err e) → e ≢ outcomes.StoreFault
        → IsPushMade m telling items h f refname all s st s1 before before a a y y result
    unplanned e result q u quiet =
        let w = u.refused in
        let twice : (k : Bytes) → IsClash IsMadeHere s1.basis.store k → IsTwice (IsAtHand S (Ok asked)) k = λ k c. twice-at IsMadeHere (IsInHands (hands_of (Ok asked))) S s1.basis.store k in-hand u.grown c in
        let why : IsRefusal (IsAtHand S (Ok asked)) e (made (room_in s) asked) =
        subst (λ (o : Outcome). IsRefusal (IsAtHand S (Ok asked)) o (made (room_in s) asked)) (sym w.1)
        (push-refusal m IsMadeHere (IsAtHand S (Ok asked)) s1.basis.store x.refusal w.0 (made (room_in s) asked) twice made-refusal w.2) in
        subst (IsPushMade m telling items h f refname all s st s1 before before a a y y) (sym q)
        (came-up s1 before before a a y y (Err e) NoPlan (made-untouched asked items h s s1 before e why quiet u.state (hand-grown s1.basis.store u.grown)) (adds_none a y (IsStopOf h s NoPlan before.items)))

    -- there was no memory behind it
    pub no-memory : (g : Planned) → IsPlannedUpon m items h f refname n all s s1 (Ok g) → IsPushMade m telling items h f refname all s st s1 before before a a y y (Err outcomes.OutOfMemory)
    no-memory g u =
        came-up s1 before before a a y y (Err outcomes.OutOfMemory) NoPlan (made-without asked items h s s1 before (hand-grown s1.basis.store u.grown)) (adds_none a y (IsStopOf h s NoPlan before.items))

  module _ (s1 : Contents) (g : Planned) (u : IsPlannedUpon m items h f refname n all s s1 (Ok g)) where
    room-same : room_in s1 ≡ room_in s
    room-same = ap room_in u.same

    abbrev S1 : List Object
    S1 = s1.basis.store

    s1-store : IsStore S1
    s1-store = u.state.ground.graph.store

    brought-all : AreBrought G (x.stream.state.blobs ++ (repo h).blobs) x.originals
    brought-all = brought-by m h f refname n all usable st.spells.store placed u.given.accepted given.commits

    abbrev names : List Name
    names = originals_of g.commits.items

    held-in : (o : Object) → Contains h.objects o → find_named S1 (object_name o) ≡ Some o
    held-in = u.state.spells.within

    commits-in : AreCommitsIn S1 (mades names x.originals) x.originals
    commits-in = mades-in S1 names x.originals u.given.originals

    brought : IsBrought h x.stream.state.blobs x.originals
    brought = record {
      store = st.spells.store;
      apart = stored-law.apart S1 h x.stream.state.blobs x.originals
          (stored-replay-law S1 h g.blobs.items x.stream.state.blobs (mades names x.originals) x.originals s1-store held-in u.given.blobs commits-in);
      bytes = given.bytes;
      commits = brought-all.whole;
      leaves = brought-all.leaves;
    }

    small : AreSmall x.stream.state.blobs x.originals
    small = record { blobs = given.small; commits = brought-all.small }

    own : Each (IsNamedIn S1) x.originals
    own = once-named S1 G (mades names x.originals) x.originals s1-store brought-all.whole commits-in

    graph-own : Each (IsNamedIn S1) G
    graph-own = subst (Each (IsNamedIn S1)) (commits-are items h s1 f n u.state) (graph-named S1 s1.basis.graph u.state.ground.graph)

    -- what is done by it
    is-pushed : IsPushed m h (held_after h (push_plan h refname x (last_or None x.originals))) f refname n x
    is-pushed = pushed m h f refname n all S1 (record {
      usable = usable;
      store = st.spells.store;
      at_ref = at_ref;
      placed = placed;
      named = graph-own;
      trees = pushed-trees;
      accepted = u.given.accepted;
      own = own;
    }) brought

    made-so : made (room_in s) asked ≡ within (room_in s) h (flat_map (told_line telling) (zip x.stream.state.commits x.originals)) (push_plan h refname x (last_or None x.originals))
    made-so =
        ap (λ (o : Option PushRefusal). no_refusal m o >>= λ _. within (room_in s) h (flat_map (told_line telling) (zip x.stream.state.commits x.originals)) (push_plan h refname x (last_or None x.originals))) u.given.accepted

    output-is : flat_map (told_line telling) (zip x.stream.state.commits x.originals) ≡ flat_map (λ (c : Pair). told_digits telling c.pushed.0 c.original.0) g.commits.items
    output-is = lines-are telling S1 g.commits.items x.stream.state.commits x.originals u.given.pushed u.given.originals

    -- ---- nothing is pushed

    none-here : last_or None g.commits.items ≡ None → x.originals ≡ []
    none-here e = none-original S1 g.commits.items x.originals u.given.originals (none-pairs g.commits.items e)

    none-output : last_or None g.commits.items ≡ None → flat_map (told_line telling) (zip x.stream.state.commits x.originals) ≡ []
    none-output e = output-is ∙ ap (λ (ps : List Pair). flat_map (λ (c : Pair). told_digits telling c.pushed.0 c.original.0) ps) (none-pairs g.commits.items e)

    none-made : last_or None g.commits.items ≡ None → made (room_in s) asked ≡ Ok (unchanged h [])
    none-made e = made-so ∙ (λ i. within (room_in s) h (none-output e i) (push_plan h refname x (last_or None (none-here e i))))

    none-pushed-so : last_or None g.commits.items ≡ None → IsPushed m h h f refname n x
    none-pushed-so e = subst (λ (os : List Snapshot). IsPushed m h (held_after h (push_plan h refname x (last_or None os))) f refname n x) (none-here e) is-pushed

    pub none-pushed : (e : last_or None g.commits.items ≡ None) (before : KeeperView) (a : ℕ) (y : ℕ → List Bytes → Type 0) (report : Bytes) → report ≡ [] → IsPushMade m telling items h f refname all s st s1 before before a a y y (Ok report)
    none-pushed e before a y report q =
        subst (λ (r : Bytes). IsPushMade m telling items h f refname all s st s1 before before a a y y (Ok r)) (sym q)
        (came-up s1 before before a a y y (Ok []) NoPlan (record {
          reported = told-report (IsAtHand S (Ok asked)) (made (room_in s) asked) (unchanged h []) [] (none-made e) refl;
          planned = record { case = asked; came_up = refl; step = unchanged h []; done = none-made e; planned = (refl, none-pushed-so e) };
          good = good-none items h (room_in s);
          stored = keeps-self before;
          state = subst (λ (list : List Bytes). IsStateOf list h s1) (sym (append-nil items)) u.state;
          grown = hand-grown S1 u.grown;
        }) (adds_none a y (IsStopOf h s NoPlan before.items)))

    -- ---- what it brings is to be committed

    module _ (report : Bytes) (b : Batch) (pair : Pair) (p : IsPushPrepared telling g refname pair.original.0 report b) (e : last_or None g.commits.items ≡ Some pair) where
      l : IsLast x.originals pair
      l = last-original S1 g.commits.items x.originals pair u.given.originals e

      abbrev entry : Refs
      entry = (refname, pair.original.0) ∷ []

      refs : AreRefsTo (with_commits G x.originals) (settings_of b)
      refs =
          subst (AreRefsTo (with_commits G x.originals)) (sym p.refs) (record {
            names = and_both (ref-named h.refs refname n (read-law.sound items h st.current.read).names at_ref) refl;
            heads = and_both (ap (is_among (with_commits G x.originals)) (sym l.named) ∙ among-last G x.originals l.commit l.last) refl;
          })

      batch : IsBatchOf h s1 b x.stream.state.blobs x.originals
      batch = record {
        spells = u.state.spells;
        known = subst (λ (ns : List Name). AreBlobsIn S1 ns x.stream.state.blobs) (sym p.blobs) u.given.blobs;
        named = subst (λ (ns : List Name). AreNamedIn S1 ns x.originals) (mades-named S1 names x.originals u.given.originals ∙ sym p.commits)
            (named-made S1 G (mades names x.originals) x.originals s1-store brought-all.whole commits-in);
        brought = brought;
        small = small;
        sorted = subst (λ (es : Refs). T (is_sorted bytes_cmp es)) (sym p.refs) tt;
        refs = refs;
      }

      pub is-batch : (k : Held) × (blobs : List Bytes) × (cs : List Snapshot) × IsBatchOf k s1 b blobs cs
      is-batch = (h, x.stream.state.blobs, x.originals, batch)

      abbrev pub ForBatch : (List Bytes → List Snapshot → Type 0) → Type 0
      ForBatch P = (blobs : List Bytes) (cs : List Snapshot) → IsBatchOf h s1 b blobs cs → P blobs cs

      abbrev plan : Plan
      plan = batch_plan h b x.stream.state.blobs x.originals

      plan-same : plan ≡ push_plan h refname x (last_or None x.originals)
      plan-same =
          ap (change_plan h (objects_of x.stream.state.blobs x.originals)) p.refs
          ∙ ap (λ (q : Bytes). change_plan h (objects_of x.stream.state.blobs x.originals) ((refname, q) ∷ [])) (sym l.named)
          ∙ sym (ap (push_plan h refname x) l.last)

      of-case : IsCase asked items h s s1 (flat_map (told_line telling) (zip x.stream.state.commits x.originals)) plan
      of-case = record {
        state = u.state;
        room = room-same;
        step = made-so ∙ ap (within (room_in s) h (flat_map (told_line telling) (zip x.stream.state.commits x.originals))) (sym plan-same);
        plan = λ w. (refl, subst (λ (q : Plan). IsPushed m h (held_after h q) f refname n x) (sym plan-same) is-pushed);
        addition = change-law h x.stream.state.blobs x.originals (settings_of b) brought small refs;
        kept = λ w k. (kept-law project_by).change items h x.stream.state.blobs x.originals (settings_of b) stay k brought small refs (passed-same items h plan s st.current w);
        grown = hand-grown S1 u.grown;
      }

      module _ (after : Contents) (before now : KeeperView) (a c : ℕ) (y z : ℕ → List Bytes → Type 0) (stops : ForBatch (λ blobs cs. OnlyAdds a c y z (IsStopOf h s1 (batch_plan h b blobs cs) before.items))) where
        -- a stop during the commit is one of the push
        stops-as : (q : Plan) → OnlyAdds a c y z (IsStopOf h s1 q before.items) → OnlyAdds a c y z (IsStopOf h s q before.items)
        stops-as q adds = adds_as a c y z (IsStopOf h s1 q before.items) (IsStopOf h s q before.items) (λ left k. stop-as h s s1 q before.items left room-same k) adds

        pub commit-refused : (d : CommitError) (o : Outcome) → o ≡ commit_outcome d → ForBatch (λ blobs cs. IsRefused h (batch_plan h b blobs cs) s1 after d) → after.basis.store ≡ s1.basis.store
            → ForBatch (λ blobs cs. Appends (batch_plan h b blobs cs) before now (Err d)) → (IsRefusedBy (Err d) → OnlyAdds a c y z (IsPresent before.items))
            → IsPushMade m telling items h f refname all s st after before now a c y z (Err o)
        commit-refused d o q why same got refused =
            subst (λ (w : Outcome). IsPushMade m telling items h f refname all s st after before now a c y z (Err w)) (sym q)
            (came-up after before now a c y z (Err (commit_outcome d)) (planned_by plan (Err d))
            (made-refused asked items h s s1 (flat_map (told_line telling) (zip x.stream.state.commits x.originals)) plan of-case after before now d (why x.stream.state.blobs x.originals batch) same
            (got x.stream.state.blobs x.originals batch))
            (stops-as (planned_by plan (Err d)) (stops-by h s1 plan before.items a c y z (Err d) (stops x.stream.state.blobs x.originals batch) refused)))

        pub commit-done : (w : Unit {0}) → ForBatch (λ blobs cs. IsCommitted h (batch_plan h b blobs cs) s1 after × IsGround after.basis)
            → ForBatch (λ blobs cs. Appends (batch_plan h b blobs cs) before now (Ok w)) → IsPushMade m telling items h f refname all s st after before now a c y z (Ok report)
        commit-done w done got =
            came-up after before now a c y z (Ok report) plan
            (made-done asked items h s s1 (flat_map (told_line telling) (zip x.stream.state.commits x.originals)) plan of-case after w before now report (output-is ∙ sym p.lines)
            (done x.stream.state.blobs x.originals batch).0.appended (done x.stream.state.blobs x.originals batch).1 (got x.stream.state.blobs x.originals batch))
            (stops-as plan (stops x.stream.state.blobs x.originals batch))
