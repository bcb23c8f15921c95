-- What is given of a stream, and what is told of a ref of it.
use Rattle.std.proofs.Common.{◌≡◌, ◌≢◌, ℕ, true, List, [], map, IsSome, Option, None, Some, Result, Ok, Err, IfOk, IfErr, IfSome, refl, sym, ap, subst, ◌∙◌, arith}
use Rattle.std.specs.FinMap.{find as find_entry}
use Rattle.std.specs.Result.{IsErrAnd}
use Rattle.std.proofs.lemmas.Result.{err_from_is_err_and}
use Rattle.git_objects.specs.Paths.{Bytes, is_bytes}
use Rattle.git_objects.specs.Refs.{bytes_cmp}
use Rattle.object_store.specs.Growth.{IsGrownBy}
use Rattle.object_store.specs.Objects.{Object}
use Rattle.filter_text.specs.Filters.{Filter}
use Rattle.commit_graph.specs.Graphs.{place_of}
use Rattle.commit_map.specs.Shown.{Shown}
use Rattle.filter_apply.specs.Faults.{IsApplyFault}
use Rattle.filter_apply.specs.declared.fault.ApplyError.{ApplyError}
use Rattle.workspace.specs.Workspaces.{shown}
use Rattle.fast_import.specs.Replaying.{setting_value}
use Rattle.fast_import.specs.Replays.{empty_base}
use Rattle.fast_import.specs.Whole.{IsTaggedWhole}
use Rattle.fast_import.specs.declared.replayed.Setting.{Setting}
use Rattle.fast_import.specs.declared.replayed.TaggedReplay.{TaggedReplay}
use Rattle.fast_import.specs.declared.whole.ReplayError.{ReplayError}
use Rattle.projection_laws.specs.Projections.{projection_by}
use Rattle.projection_ground.specs.Grounds.{IsGround, IsShownOf, commits_of}
use Rattle.proj_io.specs.Counts.{Counts}
use Rattle.state_items.specs.Changes.{fresh, objects_of}
use Rattle.state_items.specs.Items.{Held, nothing}
use Rattle.repo_ground.specs.Changes.{IsBatchOf}
use Rattle.repo_ground.specs.Contents.{Contents}
use Rattle.repo_ground.specs.Loads.{IsEmpty}
use Rattle.repo_ground.specs.Taking.{IsNotTaken, IsTaken}
use Rattle.repo_ground.specs.declared.commit.Batch.{Batch}
use Rattle.repo_ground.specs.declared.commit.CommitError.{CommitError}
use Rattle.repo_ground.specs.declared.commit.CommitError.TheVariants as commits
use Rattle.proj_words.specs.declared.outcome.Outcome.{Outcome}
use Rattle.proj_words.specs.declared.outcome.Outcome.TheVariants as outcomes
use Rattle.proj_commands.specs.Cases.{NameCase}
use Rattle.proj_commands.specs.Lines.{name_line}
use Rattle.proj_commands.specs.Makes.{IsReportOf}
use Rattle.proj_commands.specs.Refusals.{apply_outcome, commit_outcome, replay_outcome}
use Rattle.proj_commands.specs.StreamsGiven.{IsGiven, IsUnnamed}
use Rattle.proj_commands.proofs.NameCases.{no-memory}
use Rattle.proj_commands.proofs.NamesTold.{head-told, projection-told, ref-told, replay-told, show-told, store-ground, stored-batch, take-told, with_store}
use Rattle.proj_commands.proofs.Outcomes.{IsQuiet, commit-store}
use Rattle.proj_commands.proofs.StreamTags.{is-given}
use Rattle.proj_commands.specs.Import.{tagged_ran}

-- ---- the input

-- what a source told, which are bytes, or else nothing
pub some-bytes : (left : Option Bytes) → IfSome left (λ l. is_bytes l ≡ true) → (all : Bytes) × (is_bytes all ≡ true) × IfSome left (λ l. all ≡ l)
some-bytes None h = ([], refl, tt)
some-bytes (Some l) h = (l, h, refl)

-- ---- results that are passed on

abbrev error-or : {A : Type 0} → Outcome → Result A Outcome → Outcome
error-or d (Ok a) = d
error-or d (Err e) = e

pub same-error : {A : Type 0} (e d : Outcome) → ◌≡◌ {A = Result A Outcome} (Err e) (Err d) → e ≡ d
same-error e d q = ap (error-or d) q

-- not this fault
abbrev pub IsNot : (A : Type 0) → Outcome → Outcome → Type 0
IsNot A e d = ◌≡◌ {A = Result A Outcome} (Err e) (Err d) → ⊥

pub is-not : (A : Type 0) (e d : Outcome) → e ≢ d → IsNot A e d
is-not A e d n = λ q. n (same-error e d q)

pub neither : (A : Type 0) (e : Outcome) → e ≢ outcomes.WriteFault → e ≢ outcomes.StoreFault → IsNot A e outcomes.WriteFault × IsNot A e outcomes.StoreFault
neither A e w s = (is-not A e outcomes.WriteFault w, is-not A e outcomes.StoreFault s)

pub none-quiet : (A : Type 0) (e d : Outcome) → e ≡ d → IsQuiet d → IsNot A e outcomes.ReadFault × IsNot A e outcomes.WriteFault × IsNot A e outcomes.StoreFault
none-quiet A e d is q = (
  is-not A e outcomes.ReadFault (λ p. q.0 (sym is ∙ p)),
  is-not A e outcomes.WriteFault (λ p. q.1 (sym is ∙ p)),
  is-not A e outcomes.StoreFault (λ p. q.2 (sym is ∙ p)),
)

module _ (A : Type 0) (r : Result A Outcome) (e : Outcome) (is : IsErrAnd r (λ o. o ≡ e)) where
  pub passed-error : (d : Outcome) → r ≡ Err d → e ≡ d
  passed-error d q = let p = err_from_is_err_and r is in sym p.2 ∙ same-error p.0 d (sym p.1 ∙ q)

  pub passed-neither : e ≢ outcomes.WriteFault → e ≢ outcomes.StoreFault → (r ≡ Err outcomes.WriteFault → ⊥) × (r ≡ Err outcomes.StoreFault → ⊥)
  passed-neither w s = (λ q. w (passed-error outcomes.WriteFault q), λ q. s (passed-error outcomes.StoreFault q))

  pub passed-quiet : IsQuiet e → (r ≡ Err outcomes.ReadFault → ⊥) × (r ≡ Err outcomes.WriteFault → ⊥) × (r ≡ Err outcomes.StoreFault → ⊥)
  passed-quiet n = (λ q. n.0 (passed-error outcomes.ReadFault q), λ q. n.1 (passed-error outcomes.WriteFault q), λ q. n.2 (passed-error outcomes.StoreFault q))

  pub passed-whole : (P : Result A Outcome → Type 0) → P (Err e) → P r
  passed-whole P h = let p = err_from_is_err_and r is in subst P (sym (p.1 ∙ ap Err p.2)) h

  pub passed-result : (P : A → Type 0) (Q : Outcome → Type 0) → Q e → IfOk r P × IfErr r Q
  passed-result P Q h = passed-whole (λ (x : Result A Outcome). IfOk x P × IfErr x Q) (tt, h)

  -- a count with a fault that isn't answered
  pub passed-count : (a b : ℕ) (P : Type 0) (d : Outcome) → Counts a b P → (e ≡ d → P) → Counts a b (r ≡ Err d)
  passed-count a b P d w f = record { later = w.later; rose = λ q. w.rose (f (passed-error d q)) }

  -- where nothing was called
  pub passed-still : (a : ℕ) (d : Outcome) → e ≢ d → Counts a a (r ≡ Err d)
  passed-still a d n = record { later = omega arith; rose = λ q. absurd (n (passed-error d q)) }

pub counts-by : (a b : ℕ) (P Q : Type 0) → Counts a b P → (Q → P) → Counts a b Q
counts-by a b P Q w f = record { later = w.later; rose = λ q. w.rose (f q) }

-- ---- what is given

-- why nothing is told of any ref
abbrev pub IsUntold : Bytes → Outcome → Type 0
IsUntold all e = (f : Filter) (refname : Bytes) → IsReportOf (Ok (NameCase f refname (tagged_ran empty_base all))) (Err e)

pub untold-memory : (all : Bytes) → IsUntold all outcomes.OutOfMemory
untold-memory all = λ f refname. no-memory f refname all (Err outcomes.OutOfMemory) refl

module _ (all : Bytes) (bytes : is_bytes all ≡ true) (s : Contents) (empty : IsEmpty s) (S : List Object) where
  pub unreplayed : (e : ReplayError) (o : Outcome) → o ≡ replay_outcome e → IsTaggedWhole empty_base s.basis.store S all (Err e) → IsUntold all o
  unreplayed e o is w = λ f refname. subst (λ (x : Outcome). IsReportOf (Ok (NameCase f refname (tagged_ran empty_base all))) (Err x)) (sym is) (replay-told f refname all bytes s empty S e w)

  module _ (g : TaggedReplay) (w : IsTaggedWhole empty_base s.basis.store S all (Ok g)) where
    pub ground-given : IsGround (with_store s S).basis
    ground-given = store-ground all s empty S w.grown

    pub untaken : (e : CommitError) (o : Outcome) → o ≡ commit_outcome e → IsNotTaken nothing (fresh [] (objects_of (tagged_ran empty_base all).state.blobs (tagged_ran empty_base all).state.commits)) e → IsUntold all o
    untaken e o is h = λ f refname. subst (λ (x : Outcome). IsReportOf (Ok (NameCase f refname (tagged_ran empty_base all))) (Err x)) (sym is) (take-told f refname all bytes s empty S g w e h)

    module _ (b : Batch) (heads : List Setting) (u : IsUnnamed g.replayed b heads) where
      pub batch-given : IsBatchOf nothing (with_store s S) b (tagged_ran empty_base all).state.blobs (tagged_ran empty_base all).state.commits
      batch-given = stored-batch all s empty S w.grown g b bytes (is-given empty_base all S g w.given) u.blobs u.commits u.refs

      pub state-given : (after : Contents) → IsTaken nothing (fresh [] (objects_of (tagged_ran empty_base all).state.blobs (tagged_ran empty_base all).state.commits)) (with_store s S) after → IsGiven all after heads
      state-given after taken = record { before = s; empty = empty; names = g; store = S; whole = w; taken = taken; settings = u.settings }

-- a batch that isn't taken in is no fault of the store
pub untaken-store : (h : Held) (fs : List Object) (e : CommitError) → IsNotTaken h fs e → commit_outcome e ≢ outcomes.StoreFault
untaken-store h fs commits.StoreFault n = λ q. absurd n
untaken-store h fs (commits.Limit l) n = λ q. let no : commits.Limit l ≡ commits.StoreFault = commit-store (commits.Limit l) q in cc
untaken-store h fs commits.OutOfMemory n = λ q. let no : commits.OutOfMemory ≡ commits.StoreFault = commit-store commits.OutOfMemory q in cc

-- ---- what is told of a ref

module _ (f : Filter) (refname all : Bytes) (bytes : is_bytes all ≡ true) (s : Contents) (heads : List Setting) (w : IsGiven all s heads) where
  -- what is found among the heads
  abbrev Found : Option Bytes → Type 0
  Found o = o ≡ find_entry bytes_cmp refname (map setting_value heads)

  by-names : (o : Option Bytes) → Found o → find_entry bytes_cmp refname (map setting_value w.names.replayed.heads.items) ≡ o
  by-names o e = sym (e ∙ ap (λ (xs : List Setting). find_entry bytes_cmp refname (map setting_value xs)) w.settings)

  pub unknown-told : Found None → IsReportOf (Ok (NameCase f refname (tagged_ran empty_base all))) (Err outcomes.UnknownRef)
  unknown-told e = ref-told f refname all bytes w.before w.empty w.store w.names w.whole s w.taken (by-names None e)

  pub known-head : (n : Bytes) → Found (Some n) → IsSome (place_of n s.basis.graph)
  known-head n e = head-told f refname all bytes w.before w.empty w.store w.names w.whole s w.taken n (by-names (Some n) e)

  pub line-given : (n report : Bytes) (o : Option Shown) → Found (Some n) → o ≡ projection_by s.basis.rule (shown f) s.basis.map (commits_of s.basis) n → report ≡ name_line o
      → IsReportOf (Ok (NameCase f refname (tagged_ran empty_base all))) (Ok report)
  line-given n report o e p q = projection-told f refname all bytes w.before w.empty w.store w.names w.whole s w.taken n report o (by-names (Some n) e) p q

  pub unshown-told : (S' : List Object) (e : ApplyError) (o : Outcome) → o ≡ apply_outcome e → IsGrownBy (IsShownOf f (commits_of s.basis)) s.basis.store S' → IsApplyFault (IsShownOf f (commits_of s.basis)) S' e
      → IsReportOf (Ok (NameCase f refname (tagged_ran empty_base all))) (Err o)
  unshown-told S' e o is grown h =
      subst (λ (x : Outcome). IsReportOf (Ok (NameCase f refname (tagged_ran empty_base all))) (Err x)) (sym is) (show-told f refname all bytes w.before w.empty w.store w.names w.whole s w.taken S' e grown h)
