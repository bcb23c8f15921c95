-- The projection of a ref of a stream.
use Rattle.std.proofs.Common.{◌≡◌, true, false, cond, ◌&&◌, List, [], ◌∷◌, ◌++◌, length, filter, reverse, Contains, IsSome, Option, None, Some, Result, Ok, Err, inl, inr, ⊎_elim, refl, sym, ap, subst, ◌∙◌, arith, length-append}
use Rattle.std.specs.Prelude.{◌⊎◌, nat_le}
use Rattle.std.specs.Result.{IsErrAnd}
use Rattle.std.specs.FinMap.{find as find_entry}
use Rattle.std.specs.List.{list_all}
use Rattle.std.specs.Option.{is_some}
use Rattle.std.proofs.lemmas.List.{length-reverse}
use Rattle.std.proofs.lemmas.List.Elements.{All-contains, Contains-append_cases, Contains-append_left, Contains-append_right}
use Rattle.std.proofs.lemmas.Option.{none-some, same_Some}
use Rattle.std.specs.Cmp.{first_so, second_so}
use Rattle.std.specs.Ordering.{is_eq}
use Rattle.git_objects.specs.Lists.{Each}
use Rattle.git_objects.specs.Paths.{Bytes, is_bytes}
use Rattle.git_objects.specs.Refs.{Refs, bytes_cmp}
use Rattle.git_objects.specs.Results.{◌>>=◌, or_refuse, refused_by}
use Rattle.git_objects.specs.Snapshots.{Snapshot, has, snapshot_name}
use Rattle.git_objects.specs.Trees.{IsTree}
use Rattle.git_objects.specs.declared.limits.TheConstants.{COMMITS, OBJECTS}
use Rattle.git_objects.specs.declared.quantity.Quantity.{Quantity}
use Rattle.git_objects.specs.declared.quantity.Quantity.TheVariants as limits
use Rattle.object_store.specs.Fits.{is_commit}
use Rattle.object_store.specs.Growth.{IsClash, IsGrownBy}
use Rattle.object_store.specs.Hands.{IsLeafOf}
use Rattle.object_store.specs.Objects.{IsStore, Object}
use Rattle.object_store.specs.StoredSnapshots.{snapshots_in}
use Rattle.commit_map.specs.declared.rule.Rule.{Rule}
use Rattle.commit_map.specs.declared.rule.Rule.TheVariants.{One, Two}
use Rattle.commit_map.specs.Rules.{rule_number}
use Rattle.filter_text.specs.Filters.{Filter}
use Rattle.filter_apply.specs.Faults.{IsApplyFault}
use Rattle.filter_apply.specs.Hands.{IsNamedIn, parts_in}
use Rattle.filter_apply.specs.declared.fault.ApplyError.{ApplyError}
use Rattle.filter_apply.specs.declared.fault.ApplyError.TheVariants as shows
use Rattle.workspace.specs.Workspaces.{resolve, shown}
use Rattle.stream_reader.specs.Verdicts.{tagged_start, verdict}
use Rattle.stream_reader.specs.declared.fault.StreamFault.{StreamFault}
use Rattle.stream_reader.specs.declared.fault.StreamFault.TheVariants as faults
use Rattle.fast_import.specs.Replays.{Ran, Replayed, empty_base, given_by, heads_of, replay_in}
use Rattle.fast_import.specs.Standing.{IsReplayedOf}
use Rattle.fast_import.specs.Whole.{IsMadeOfStreamIn, IsStreamErrorIn}
use Rattle.fast_import.specs.declared.replayed.Replayed.{Replayed as ReplayedNames}
use Rattle.fast_import.specs.declared.whole.ReplayError.{ReplayError}
use Rattle.fast_import.specs.declared.whole.ReplayError.TheVariants as replays
use Rattle.projection_laws.specs.Projections.{projection_by}
use Rattle.projection_laws.specs.StoredGraphs.{snapshot_named}
use Rattle.projection_ground.specs.Grounds.{IsShownOf, commits_of}
use Rattle.commit_graph.specs.Graphs.{Row, place_of}
use Rattle.state_items.specs.Changes.{fresh, held_after, objects_of, or_else, passed_by_objects, plan_of}
use Rattle.state_items.specs.Hands.{IsTwice}
use Rattle.state_items.specs.Imported.{AreWhole, is_among, with_commits}
use Rattle.state_items.specs.Items.{Held, nothing}
use Rattle.state_items.proofs.TreeParts.{all-each, each-member}
use Rattle.state_items.proofs.Twices.{clash-twice}
use Rattle.state_items.proofs.Imports.{imported-law}
use Rattle.state_items.proofs.RowsHeld.{place-there}
use Rattle.import_laws.specs.Replayed.{IsReplayed}
use Rattle.repo_ground.specs.Contents.{Contents}
use Rattle.repo_ground.specs.Taking.{IsTaken, held_with}
use Rattle.repo_ground.proofs.GroundLaws.{ground-law}
use Rattle.repo_ground.proofs.Prepared.{append-none, filter-append, filter-reverse}
use Rattle.proj_words.specs.Faults.{stream_outcome}
use Rattle.proj_words.specs.declared.outcome.Outcome.{Outcome}
use Rattle.proj_words.specs.declared.outcome.Outcome.TheVariants as outcomes
use Rattle.proj_commands.specs.Cases.{Case, Made, NameCase, head_of, no_limit, unchanged}
use Rattle.proj_commands.specs.Lines.{name_line}
use Rattle.proj_commands.specs.Filters.{projection}
use Rattle.proj_commands.specs.Hands.{Hand, IsInHand, IsInHands, TreeMade, all_components, all_leaves, components_for}
use Rattle.proj_commands.specs.Steps.{hand}
use Rattle.proj_commands.specs.Name.{history_at}
use Rattle.proj_commands.specs.Makes.{IsRefusal, IsReportOf, hands_of, no_room, step_in}
use Rattle.proj_commands.specs.Refusals.{apply_outcome, replay_outcome}
use Rattle.repo_ground.proofs.CommitGraphs.{has-commit}
use Rattle.proj_commands.proofs.Committing.{told-refusal, told-report}
use Rattle.repo_ground.proofs.RepeatedCommits.{AreBehind, repeated-same}
use Rattle.proj_commands.proofs.Staying.{among-has, with-added}
use Rattle.proj_commands.proofs.StreamBatches.{once-named, stream-brought, stream-replayed, whole-trees}
use Rattle.proj_commands.proofs.StreamHands.{component-in-hand, contains-flat, leaf-in-hand, stream-in-hand, tree-as}
use Rattle.proj_commands.specs.Import.{tagged_ran}
use Rattle.proj_commands.proofs.InHands.{twice-as}

-- ---- refusals

-- a stream's own refusal is the step's
own-refusal : (at_hand : Object → Type 0) (f : StreamFault) (r : Result Made Outcome) → r ≡ Err (stream_outcome f) → IsRefusal at_hand (stream_outcome f) r
own-refusal at_hand (faults.Syntax at) r e = e
own-refusal at_hand (faults.Unsupported at what) r e = e
own-refusal at_hand (faults.Unresolved at) r e = e
own-refusal at_hand (faults.BadPath at) r e = e
own-refusal at_hand (faults.NoSource at) r e = e
own-refusal at_hand (faults.Limit at which) r e = e
own-refusal at_hand (faults.Collision n) r e = inl e
own-refusal at_hand faults.OutOfMemory r e = tt

-- what is in one hand alone
in-one : (k : Hand) (o : Object) → IsInHand k o → IsInHands (k ∷ []) o
in-one k o i = (0, k, omega arith, refl, i)

-- a store that has grown from nothing has only what came
grown-all : (made : Object → Type 0) (S : List Object) (o : Object) → IsGrownBy made [] S → Contains S o → made o
grown-all made S o g m = ⊎_elim (λ a. g.all o a) (λ b. absurd (omega (arith, b.1))) (cases (subst (λ (X : List Object). Contains X o) (sym g.above) m))
  where
    cases : Contains (g.newer ++ []) o → Contains g.newer o ⊎ Contains {X = Object} [] o
    cases k = Contains-append_cases g.newer [] o k

-- ---- numbers

-- the order of objects passes no limit
passed-back : (fs : List Object) → passed_by_objects (reverse fs ++ []) None ≡ passed_by_objects fs None
passed-back fs =
    let a = filter-append is_commit (reverse fs) [] in
    let b = filter-reverse is_commit fs in
    let commits : length (filter is_commit (reverse fs ++ [])) ≡ length (filter is_commit fs) = omega (arith, a, b) in
    let c = length-append (reverse fs) [] in
    let d = length-reverse fs in
    let objects : length (reverse fs ++ []) ≡ length fs = omega (arith, c, d) in
    λ i. or_else (nat_le (commits i) COMMITS) limits.Commits (or_else (nat_le (objects i) OBJECTS) limits.Objects None)

-- ---- commits that are held

-- each commit that is held then is one of those that came
each-with : (P : Snapshot → Type 0) (known cs : List Snapshot) → Each P known → Each P cs → Each P (with_commits known cs)
each-with P known [] k h = k
each-with P known (c ∷ cs) k h =
    elim (is_among known (snapshot_name c)) as (λ b. Each P (with_commits (cond b known (c ∷ known)) cs)) [
      | true ↦ each-with P known cs k h.1
      | false ↦ each-with P (c ∷ known) cs (h.0, k) h.1
    ]

pub with-from : (cs : List Snapshot) (c : Snapshot) → Contains (with_commits [] cs) c → Contains cs c
with-from cs c m = All-contains (Contains cs) (with_commits [] cs) c (all-each (Contains cs) (with_commits [] cs) (each-with (Contains cs) [] cs tt (each-member cs))) m

first-rule : (r : Rule) → rule_number r ≡ 1 → r ≡ One
first-rule One e = refl
first-rule Two e = absurd (omega (arith, e))

all-among : (g : List Snapshot) (ps : List Bytes) → list_all (is_among g) ps ≡ list_all (has g) ps
all-among g [] = refl
all-among g (p ∷ ps) = λ i. among-has g p i && all-among g ps i

-- whole commits are behind their parents
pub behind : (known cs : List Snapshot) → AreWhole known cs → AreBehind known cs
behind known [] w = tt
behind known (c ∷ cs) w = (sym (all-among known c.parents) ∙ w.1, behind (c ∷ known) cs w.2)

-- a ref's commit is one of these, where all refs' are
head-among : (cs : List Snapshot) (es : Refs) (r n : Bytes) → list_all (λ e. is_among cs e.1) es ≡ true → find_entry bytes_cmp r es ≡ Some n → is_among cs n ≡ true
head-among cs [] r n h e = absurd (none-some n e)
head-among cs (d ∷ es) r n h e =
    elim (is_eq (bytes_cmp r d.0)) as (λ b. cond b (Some d.1) (find_entry bytes_cmp r es) ≡ Some n → is_among cs n ≡ true) [
      | true ↦ λ k. ap (is_among cs) (sym (same_Some d.1 n k)) ∙ first_so _ _ h
      | false ↦ λ k. head-among cs es r n (second_so (is_among cs d.1) _ h) k
    ] e

-- what is held with all that is new, as it is held behind a change
objects-with : (h : Held) (fs : List Object) → (held_after h (plan_of fs [])).objects ≡ (held_with h fs).objects
objects-with h [] = refl
objects-with h (o ∷ fs) = refl

-- ---- one stream

module _ (f : Filter) (refname all : Bytes) where
  abbrev x : Ran StreamFault
  x = tagged_ran empty_base all

  abbrev k : Case
  k = NameCase f refname x

  abbrev at_hand : Object → Type 0
  at_hand o = IsInHands (hands_of (Ok k)) o

  abbrev step : Result Made Outcome
  step = step_in no_room (Ok k)

  -- what comes of what the stream gives
  abbrev given_step : Replayed → Result Made Outcome
  given_step r = no_limit (passed_by_objects (fresh [] (objects_of r.blobs r.commits)) None) >>= λ _. head_of refname r.heads >>= λ n. Ok (unchanged nothing (name_line (projection 1 f (reverse r.commits) n)))

  abbrev line_of : Bytes → Made
  line_of n = unchanged nothing (name_line (projection 1 f (reverse x.state.commits) n))

  -- of the ref, where no limit is passed
  abbrev headed : Result Made Outcome
  headed = head_of refname (heads_of x.state) >>= λ n. Ok (line_of n)

  pub no-memory : (result : Result Bytes Outcome) → IsErrAnd result (λ o. o ≡ outcomes.OutOfMemory) → IsReportOf (Ok k) result
  no-memory (Ok r) e = absurd e
  no-memory (Err o) e = told-refusal at_hand step o (subst (λ d. IsRefusal at_hand d step) (sym e) tt)

  module _ (bytes : is_bytes all ≡ true) where
    trees : Each (λ c. IsTree c.tree) x.state.commits
    trees = whole-trees [] x.state.commits (stream-replayed nothing all tt bytes).commits

    in-hand : (o : Object) → IsMadeOfStreamIn tagged_start empty_base all o → at_hand o
    in-hand o m =
        in-one (hand k) o
        (stream-in-hand [] (history_at f (reverse x.state.commits) (find_entry bytes_cmp refname (heads_of x.state))) empty_base (verdict tagged_start all).commands (verdict tagged_start all).fault (components_for f x.state.commits) o trees m)

    module _ (S : List Object) (grown : IsGrownBy (IsMadeOfStreamIn tagged_start empty_base all) [] S) where
      stored-in-hand : (o : Object) → Contains S o → at_hand o
      stored-in-hand o m = in-hand o (grown-all (IsMadeOfStreamIn tagged_start empty_base all) S o grown m)

      clash : (n : Bytes) → IsClash (IsMadeOfStreamIn tagged_start empty_base all) S n → IsTwice at_hand n
      clash n c =
          twice-as (λ o. Contains [] o ⊎ IsMadeOfStreamIn tagged_start empty_base all o) at_hand (λ o m. ⊎_elim (λ a. absurd (omega (arith, a.1))) (in-hand o) m) n
          (clash-twice (IsMadeOfStreamIn tagged_start empty_base all) [] S n grown c)

      -- why the stream isn't replayed
      pub stream-refused : (e : ReplayError) → IsStreamErrorIn tagged_start empty_base S all e → IsReportOf (Ok k) (Err (replay_outcome e))
      stream-refused replays.ReadFault h = told-refusal at_hand step outcomes.ReadFault tt
      stream-refused (replays.Stream fault) h =
          told-refusal at_hand step (stream_outcome fault)
          (⊎_elim (λ e. own-refusal at_hand fault step (ap (λ (o : Result Replayed StreamFault). refused_by stream_outcome o >>= given_step) e))
          (λ p. ⊎_elim (λ m. subst (λ g. IsRefusal at_hand (stream_outcome g) step) (sym m) tt)
          (λ n. subst (λ g. IsRefusal at_hand (stream_outcome g) step) (sym n.1) (inr (clash n.0.0 n.2))) p) h)

      -- ---- what is shown

      shown-in-hand : (g : List Snapshot) (o : Object) → ((c : Snapshot) → Contains g c → Contains x.state.commits c) → IsShownOf f g o → at_hand o
      shown-in-hand g o from m =
          let h : Hand = hand k in
          let c : Snapshot = m.0 in
          let there : Contains h.commits c = Contains-append_right _ x.state.commits c (from c m.1) in
          let parts : Snapshot → List Bytes = λ (d : Snapshot). parts_in (resolve f d.tree) in
          let component : (b : Bytes) → IsNamedIn (resolve f c.tree) c.tree b → Contains (all_components h) b =
          λ b n. ⊎_elim (component-in-hand h c there b)
          (λ p. Contains-append_left h.components _ b
          (Contains-append_right _ (components_for f x.state.commits) b
          (Contains-append_right (parts_in f) _ b (contains-flat parts x.state.commits c b (from c m.1) p)))) n in
          in-one h o (TreeMade (tree-as (IsLeafOf c.tree) (Contains (all_leaves h)) (IsNamedIn (resolve f c.tree) c.tree) (Contains (all_components h)) o (leaf-in-hand h c there) component m.2))

      pub show-refused : (g : List Snapshot) (S' : List Object) (e : ApplyError) → ((c : Snapshot) → Contains g c → Contains x.state.commits c) → IsGrownBy (IsShownOf f g) S S' → IsApplyFault (IsShownOf f g) S' e
          → IsReportOf (Ok k) (Err (apply_outcome e))
      show-refused g S' (shows.Collision n) from grown' h =
          told-refusal at_hand step (outcomes.Collision n)
          (inr (twice-as (λ o. Contains S o ⊎ IsShownOf f g o) at_hand (λ o m. ⊎_elim (stored-in-hand o) (shown-in-hand g o from) m) n.0 (clash-twice (IsShownOf f g) S S' n.0 grown' h)))
      show-refused g S' shows.OutOfMemory from grown' h = told-refusal at_hand step outcomes.OutOfMemory tt

  -- ---- where the stream has no fault

  module _ (given : replay_in tagged_start empty_base all ≡ Ok (given_by x.state)) where
    step-is : step ≡ given_step (given_by x.state)
    step-is = ap (λ (o : Result Replayed StreamFault). refused_by stream_outcome o >>= given_step) given

    abbrev fs : List Object
    fs = fresh [] (objects_of x.state.blobs x.state.commits)

    -- a limit that is passed
    pub limit-refused : (q : Quantity) → passed_by_objects (held_with nothing fs).objects None ≡ Some q → IsReportOf (Ok k) (Err (outcomes.Limit q None))
    limit-refused q e = told-refusal at_hand step (outcomes.Limit q None) (step-is ∙ ap (λ (o : Option Quantity). no_limit o >>= λ _. headed) (sym (passed-back fs) ∙ e))

    module _ (within : passed_by_objects (held_with nothing fs).objects None ≡ None) where
      step-headed : step ≡ headed
      step-headed = step-is ∙ ap (λ (o : Option Quantity). no_limit o >>= λ _. headed) (sym (passed-back fs) ∙ within)

      -- a ref that isn't set
      pub ref-refused : find_entry bytes_cmp refname (heads_of x.state) ≡ None → IsReportOf (Ok k) (Err outcomes.UnknownRef)
      ref-refused e = told-refusal at_hand step outcomes.UnknownRef (step-headed ∙ ap (λ (o : Option Bytes). or_refuse outcomes.UnknownRef o >>= λ n. Ok (line_of n)) e)

      -- the line of the ref's commit
      pub line-told : (n report : Bytes) → find_entry bytes_cmp refname (heads_of x.state) ≡ Some n → name_line (projection 1 f (reverse x.state.commits) n) ≡ report → IsReportOf (Ok k) (Ok report)
      line-told n report e o = told-report at_hand step (line_of n) report (step-headed ∙ ap (λ (h : Option Bytes). or_refuse outcomes.UnknownRef h >>= λ m. Ok (line_of m)) e) o

  -- ---- upon the state that has what the stream gave

  module _ (bytes : is_bytes all ≡ true) (before after : Contents) (taken : IsTaken nothing (fresh [] (objects_of x.state.blobs x.state.commits)) before after) where
    replayed : IsReplayed nothing x.state
    replayed = stream-replayed nothing all tt bytes

    abbrev H : List Object
    H = (held_with nothing (fresh [] (objects_of x.state.blobs x.state.commits))).objects

    held-commits : (S : List Object) (g : ReplayedNames) → IsStore S → IsReplayedOf S g (given_by x.state) → snapshots_in H ≡ with_commits [] x.state.commits
    held-commits S g s r =
        ap snapshots_in (sym (objects-with nothing (fresh [] (objects_of x.state.blobs x.state.commits))))
        ∙ (imported-law nothing x.state.blobs x.state.commits [] (stream-brought nothing all tt bytes S g s (λ o m. absurd (omega (arith, m.1))) r)).commits

    -- the head is a commit of the graph
    pub head-placed : (S : List Object) (g : ReplayedNames) (n : Bytes) → IsStore S → IsReplayedOf S g (given_by x.state) → find_entry bytes_cmp refname (heads_of x.state) ≡ Some n
        → IsSome (place_of n after.basis.graph)
    head-placed S g n s r e =
        ap (λ (rows : List Row). is_some (place_of n rows)) taken.spells.graph
        ∙ place-there n H taken.spells.store
        ∙ sym (has-commit n H taken.spells.store)
        ∙ ap (λ (cs : List Snapshot). has cs n) (held-commits S g s r)
        ∙ sym (among-has (with_commits [] x.state.commits) n)
        ∙ head-among (with_commits [] x.state.commits) (heads_of x.state) refname n replayed.heads.heads e

    -- the commits of its ground are those that the stream gave
    pub ground-commits : (S : List Object) (g : ReplayedNames) → IsStore S → IsReplayedOf S g (given_by x.state) → commits_of after.basis ≡ with_commits [] x.state.commits
    ground-commits S g s r = ground-law.commits (held_with nothing (fresh [] (objects_of x.state.blobs x.state.commits))) after taken.spells taken.ground ∙ held-commits S g s r

    -- and the projection there is the one over all commits as they came
    pub projection-is : (S : List Object) (g : ReplayedNames) (n : Bytes) → IsStore S → IsReplayedOf S g (given_by x.state) → rule_number after.basis.rule ≡ 1 → after.basis.map ≡ []
        → projection_by after.basis.rule (shown f) after.basis.map (commits_of after.basis) n ≡ projection 1 f (reverse x.state.commits) n
    projection-is S g n s r one none =
        (λ i. projection_by (first-rule after.basis.rule one i) (shown f) (none i) ((ground-commits S g s r ∙ with-added x.state.commits []) i) n)
        ∙ sym (repeated-same (shown f) (snapshot_named S) x.state.commits n (once-named S [] g.commits.items x.state.commits s replayed.commits r.made_commits) (behind [] x.state.commits replayed.commits))
        ∙ ap (λ (cs : List Snapshot). projection 1 f cs n) (append-none (reverse x.state.commits))
