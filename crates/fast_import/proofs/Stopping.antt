-- How the replay of a whole stream ends.
use Rattle.std.proofs.Common.{◌≡◌, ◌⊎◌, inl, inr, ◌+◌, ◌*◌, ◌-◌, ◌<◌, ◌≤◌, ℕ, Bool, true, false, cond, List, [], ◌∷◌, ◌++◌, length, Option, Some, None, Result, Ok, Err, IfSome, refl, sym, ap, subst, ◌∙◌, append_assoc, arith, length-append}
use Rattle.std.specs.Prelude.{IsOkAnd, OnOk}
use Rattle.std.proofs.KnownBytes.{Consumes-trans, Consumes-nil}
use Rattle.std.specs.Option.{unwrap_or}
use Rattle.std.specs.Io.KnownBytes.{Consumes, IsAtEnd}
use Rattle.git_objects.specs.Paths.{Bytes, is_bytes}
use Rattle.git_objects.specs.Results.{◌>>=◌}
use Rattle.git_objects.specs.declared.limits.TheConstants.{STREAM_BYTES}
use Rattle.object_store.specs.Growth.{IsGrownBy}
use Rattle.object_store.specs.Objects.{Object}
use Rattle.object_store.proofs.Growth.{grown_as, grown_then}
use Rattle.stream_lex.specs.Cutting.{IsTold, grown}
use Rattle.stream_lex.specs.declared.stop.Wanted.{Wanted}
use Rattle.stream_lex.specs.declared.stop.Stop.TheVariants.{More}
use Rattle.stream_reader.specs.Commands.{read_command}
use Rattle.fast_import.specs.Made.{IsMadeAt, IsMadeBy, IsRefusal}
use Rattle.stream_reader.specs.Readers.{MayFollow, Reading, TellsNext, came, fed, left, next_command, verdict_with}
use Rattle.stream_reader.specs.Waited.{IsNear}
use Rattle.stream_reader.proofs.Following.{later_told}
use Rattle.fast_import.specs.Replays.{Base, Ran, Replay, TaggedReplayed, given_by, gone_on, nothing_yet, outcome_of, ran_in, ran_by, reached, replay_in, step, tagged_given, tagged_replay}
use Rattle.fast_import.specs.Replaying.{Replaying}
use Rattle.fast_import.specs.Standing.{IsReplayOf, IsReplayedOf, IsStepped, IsTaggedReplayedOf}
use Rattle.stream_reader.specs.Verdicts.{Verdict, start, stopped, tagged_start, weight, with_command}
use Rattle.fast_import.specs.TagLaws.{ReplayedTagsLaw}
use Rattle.tag_objects.specs.TagLists.{rise}
use Rattle.fast_import.specs.Waited.{IsTakenIn, waited_in, waited_from, waited_told, TakesWithin}
use Rattle.fast_import.specs.Whole.{IsFed, IsGiven, IsMadeOfStreamIn, IsRunOn, IsStreamErrorIn, IsTaggedWhole, IsWhole, IsWholeRun}
use Rattle.fast_import.proofs.Taking.{next_near, waited-is}
use Rattle.stream_reader.specs.declared.command.Placed.{Placed}
use Rattle.stream_reader.specs.declared.fault.StreamFault.{StreamFault}
use Rattle.stream_reader.specs.declared.fault.StreamFault.TheVariants.{OutOfMemory}
use Rattle.stream_reader.specs.declared.progress.Phase.{Phase}
use Rattle.stream_reader.specs.declared.progress.Phase.TheVariants.{Between, InCommit, Finished}
use Rattle.stream_reader.specs.declared.progress.Progress.{Progress}
use Rattle.stream_reader.specs.declared.reader.Next.TheVariants as nexts
use Rattle.fast_import.specs.declared.replayed.Replayed.{Replayed as ReplayedNames}
use Rattle.fast_import.specs.declared.replayed.TaggedReplay.{TaggedReplay as TaggedNames}
use Rattle.fast_import.specs.declared.whole.ReplayError.{ReplayError}
use Rattle.fast_import.specs.declared.whole.ReplayError.TheVariants.{ReadFault, Stream}
use Rattle.stream_reader.proofs.Commanding.{command-reader}
use Rattle.fast_import.proofs.Putting.{fault_as}
use Rattle.fast_import.proofs.Running.{IsRunTo, IsSoFar, both_bytes, made-behind, made-front, run-on, waited_with}

rest_none : (now : Option Bytes) → IsAtEnd now → unwrap_or now [] ≡ []
rest_none None h = refl
rest_none (Some bs) h = h

rest_bytes : (now : Option Bytes) → IfSome now (λ l. is_bytes l ≡ true) → is_bytes (unwrap_or now []) ≡ true
rest_bytes None k = refl
rest_bytes (Some bs) k = k

told_all : (before now : Option Bytes) (taken : Bytes) → Consumes before now taken → IfSome before (λ bytes. bytes ≡ taken ++ unwrap_or now [])
told_all None now taken h = tt
told_all (Some bs) None taken h = absurd h
told_all (Some bs) (Some cs) taken h = h

taken_by : {A E : Type 0} (begins : Progress) (base : Base) (before after : Option Bytes) (given : Bytes) → Consumes before after given → (result : Result A E) →
    length given ≤ waited_in begins base (given ++ unwrap_or after []) + 33554432 → OnOk result (waited_in begins base (given ++ unwrap_or after []) ≤ length given) → IsTakenIn begins base before after result
taken_by begins base None after given c result few least = tt
taken_by begins base (Some bs) None given c result few least = absurd c
taken_by begins base (Some bs) (Some cs) given c result few least =
    subst (λ (all : Bytes). (g : Bytes) × Consumes (Some bs) (Some cs) g × (length g ≤ waited_in begins base all + 33554432) × OnOk result (waited_in begins base all ≤ length g)) (sym c) (given, c, few, least)

-- nothing was taken
pub within_none : (left : Option Bytes) → TakesWithin left left
within_none left = ([], omega arith, Consumes-nil left)

module _ (begins : Progress) (base : Base) (S T : List Object) (before now : Option Bytes) (rd : Reading) (v : Replaying) (h : IsSoFar begins base S T before now rd v) where
  abbrev pub rest : Bytes
  rest = unwrap_or now []

  -- all that the source has
  abbrev pub all : Bytes
  all = h.taken ++ rest

  pub all_told : IfSome before (λ bytes. bytes ≡ all)
  all_told = told_all before now h.taken h.gone

  -- what a source has left are bytes
  pub all_bytes : IfSome now (λ l. is_bytes l ≡ true) → is_bytes all ≡ true
  all_bytes k = both_bytes h.taken rest h.are_bytes (rest_bytes now k)

  may_rest : MayFollow rd rest true
  may_rest e = (rest_none now (h.at_end e), refl)

  abbrev later : Verdict
  later = verdict_with rest rd

  ran_all : IsRunTo (ran_in begins base all) h.told (ran_by (step base) later.fault h.state later.commands)
  ran_all = subst (λ (x : Verdict). IsRunTo (ran_by (step base) x.fault nothing_yet x.commands) h.told (ran_by (step base) later.fault h.state later.commands)) (sym (h.same rest may_rest)) (run-on (step base) later.fault nothing_yet h.state h.told later.commands h.run)

  -- what came up so far comes up in the stream
  made_so_far : (o : Object) → IsMadeBy base nothing_yet h.told o → IsMadeOfStreamIn begins base all o
  made_so_far o m = subst (λ (ps : List Placed). IsMadeBy base nothing_yet ps o) (sym ran_all.all_tried) (made-front base nothing_yet h.told (ran_by (step base) later.fault h.state later.commands).tried o m)

  pub grown_so_far : IsGrownBy (IsMadeOfStreamIn begins base all) S T
  grown_so_far = grown_as (IsMadeBy base nothing_yet h.told) (IsMadeOfStreamIn begins base all) S T made_so_far h.grown

  -- ---- how much was given

  waited_all : waited_in begins base all ≡ waited_with base h.state rd rest
  waited_all = h.waited rest may_rest

  pub taken_few : length h.taken ≤ waited_in begins base all + 33488896
  taken_few = subst (λ n. length h.taken ≤ n + 33488896) (sym waited_all) (h.near rest may_rest)

  pub taken_refused : (e : ReplayError) → IsTakenIn {A = Unit} begins base before now (Err e)
  taken_refused e = taken_by {A = Unit} begins base before now h.taken h.gone (Err e) (omega (arith, taken_few)) tt

  pub taken_given : (new : Reading) → next_command rd ≡ Ok (record { command = None; progress = new.progress }, new.input) → came new ≡ came rd → {A : Type 0} (x : A) → IsTakenIn {E = ReplayError} begins base before now (Ok x)
  taken_given new told c x =
      let here : waited_in begins base all ≡ new.input.at =
      waited_all ∙ waited-is (step base) h.state rd.progress (grown rest rd.input)
      ∙ ap (waited_told (waited_from (step base)) (step base) h.state) (later_told rd.progress rd.input rd.ended rest (record { command = None; progress = new.progress }, new.input) may_rest told) in
      taken_by {E = ReplayError} begins base before now h.taken h.gone (Ok x) (omega (arith, taken_few)) (omega (arith, here, c, h.came))

  -- the source fails, or there is no memory for what it gave
  pub taken_feeding : IsNear rd → rd.ended ≡ false → (after : Option Bytes) → IsGiven now after 65536 → (e : ReplayError) → IsTakenIn {A = Unit} begins base before after (Err e)
  taken_feeding n un after g e =
      let more : Bytes = g.0 ++ unwrap_or after [] in
      let far : waited_in begins base ((h.taken ++ g.0) ++ unwrap_or after []) ≡ waited_with base h.state rd more =
      ap (waited_in begins base) (append_assoc h.taken g.0 (unwrap_or after [])) ∙ h.waited more (λ q. let no : ⊥ = cc in absurd no) in
      taken_by {A = Unit} begins base before after (h.taken ++ g.0) (Consumes-trans before now after h.taken g.0 h.gone g.1) (Err e)
      (omega (arith, far, n more, next_near (step base) h.state rd.progress (grown more rd.input), h.came, g.2, length-append h.taken g.0)) tt

  -- no more than a stream may have, and a piece
  pub within_stopped : came rd ≤ STREAM_BYTES + 65536 → TakesWithin before now
  within_stopped w = (h.taken, omega (arith, w, h.came), h.gone)

  pub within_feeding : came rd ≤ STREAM_BYTES → (after : Option Bytes) → IsGiven now after 65536 → TakesWithin before after
  within_feeding w after g = (h.taken ++ g.0, omega (arith, w, g.2, h.came, length-append h.taken g.0), Consumes-trans before now after h.taken g.0 h.gone g.1)

  -- ---- the reader stops

  stopped_all : (f : Option StreamFault) → later ≡ stopped f → replay_in begins base all ≡ outcome_of h.state f
  stopped_all f e =
      (λ i. outcome_of (ran_all.same_state i) (ran_all.same_fault i))
      ∙ ap (λ (x : Verdict). outcome_of (ran_by (step base) x.fault h.state x.commands).state (ran_by (step base) x.fault h.state x.commands).fault) e

  -- how far the replay has come then
  reached_all : (f : Option StreamFault) → later ≡ stopped f → reached (ran_in begins base all).state (ran_in begins base all).fault ≡ reached h.state f
  reached_all f e =
      (λ i. reached (ran_all.same_state i) (ran_all.same_fault i))
      ∙ ap (λ (x : Verdict). reached (ran_by (step base) x.fault h.state x.commands).state (ran_by (step base) x.fault h.state x.commands).fault) e

  pub all_given : ((more : Bytes) → MayFollow rd more true → verdict_with more rd ≡ stopped None) → IsRunOn begins base S T v all (Ok tt)
  all_given e = record {
    given = subst (λ (x : Result Replay StreamFault). IsOkAnd x (IsReplayOf T v)) (sym (reached_all None (e rest may_rest))) h.stands;
    refused = tt;
    grown = grown_so_far;
  }

  pub reading_refused : (f : StreamFault) → ((more : Bytes) → MayFollow rd more true → (f ≡ OutOfMemory) ⊎ (verdict_with more rd ≡ stopped (Some f))) → IsRunOn begins base S T v all (Err (Stream f))
  reading_refused f e = record { given = tt; refused = by (e rest may_rest); grown = grown_so_far }
    where
      by : (f ≡ OutOfMemory) ⊎ (later ≡ stopped (Some f)) → IsRefusal (IsMadeOfStreamIn begins base all) T (replay_in begins base all) f
      by (inl q) = inr (inl q)
      by (inr q) = inl (stopped_all (Some f) q)

  -- ---- the source fails, or there is no memory

  pub feeding_refused : (e : ReplayError) → (e ≡ ReadFault) ⊎ (e ≡ Stream OutOfMemory) → IsRunOn begins base S T v all (Err e)
  feeding_refused e k = record { given = tt; refused = by k; grown = grown_so_far }
    where
      by : (e ≡ ReadFault) ⊎ (e ≡ Stream OutOfMemory) → IsStreamErrorIn begins base T all e
      by (inl q) = subst (IsStreamErrorIn begins base T all) (sym q) tt
      by (inr q) = subst (IsStreamErrorIn begins base T all) (sym q) (inr (inl refl))

  -- ---- a command is refused

  module _ (p : Placed) (new : Reading) (follows : (more : Bytes) → MayFollow rd more true → verdict_with more rd ≡ with_command p (verdict_with more new)) where
    abbrev behind : Verdict
    behind = verdict_with rest new

    abbrev gone : Result Replay StreamFault → Ran StreamFault
    gone x = gone_on p h.state (λ s. ran_by (step base) behind.fault s behind.commands) x

    run_step : IsRunTo (ran_in begins base all) h.told (gone (step base h.state p))
    run_step = subst (λ (x : Verdict). IsRunTo (ran_in begins base all) h.told (ran_by (step base) x.fault h.state x.commands)) (follows rest may_rest) ran_all

    tried_here : (x : Result Replay StreamFault) → (qs : List Placed) × ((gone x).tried ≡ p ∷ qs)
    tried_here (Ok s) = ((ran_by (step base) behind.fault s behind.commands).tried, refl)
    tried_here (Err f) = ([], refl)

    made_here : (o : Object) → IsMadeAt h.state p.command o → IsMadeOfStreamIn begins base all o
    made_here o m =
        let t = tried_here (step base h.state p) in
        subst (λ (ps : List Placed). IsMadeBy base nothing_yet ps o) (sym (run_step.all_tried ∙ ap (λ (qs : List Placed). h.told ++ qs) t.1)) (made-behind base nothing_yet h.state h.told p t.0 o h.run m)

    pub step_refused : (R : List Object) (w : Replaying) (f : StreamFault) → IsStepped base T R w h.state p (Err f) → IsRunOn begins base S R w all (Err (Stream f))
    step_refused R w f k = record {
      given = tt;
      refused = by k.refused;
      grown = grown_then (IsMadeOfStreamIn begins base all) S T R grown_so_far (grown_as (IsMadeAt h.state p.command) (IsMadeOfStreamIn begins base all) T R made_here k.grown);
    }
      where
        by : IsRefusal (IsMadeAt h.state p.command) R (step base h.state p) f → IsRefusal (IsMadeOfStreamIn begins base all) R (replay_in begins base all) f
        by (inl q) = inl ((λ i. outcome_of (run_step.same_state i) (run_step.same_fault i)) ∙ ap (λ (x : Result Replay StreamFault). outcome_of (gone x).state (gone x).fault) q)
        by (inr q) = inr (fault_as (IsMadeAt h.state p.command) (IsMadeOfStreamIn begins base all) R f made_here q)

-- ---- what the replay gives at its end

replayed_from : (S : List Object) (v : Replaying) (r : Replay) (f : Option StreamFault) (g : ReplayedNames) → IsOkAnd (reached r f) (IsReplayOf S v)
    → (IsReplayOf S v r → IsReplayedOf S g (given_by r)) → IsOkAnd (outcome_of r f) (IsReplayedOf S g)
replayed_from S v r None g h k = k h
replayed_from S v r (Some f) g h k = absurd h

pub replayed_whole : (base : Base) (S S' : List Object) (input : Bytes) (v : Replaying) (g : ReplayedNames) → IsWholeRun start base S S' input (Ok v)
    → ((r : Replay) → IsReplayOf S' v r → IsReplayedOf S' g (given_by r)) → IsWhole base S S' input (Ok g)
replayed_whole base S S' input v g w k = record {
  given = replayed_from S' v (ran_in start base input).state (ran_in start base input).fault g w.given (k (ran_in start base input).state);
  refused = tt;
  grown = w.grown;
}

pub replayed_refused : (base : Base) (S S' : List Object) (input : Bytes) (e : ReplayError) → IsWholeRun start base S S' input (Err e) → IsWhole base S S' input (Err e)
replayed_refused base S S' input e w = record { given = tt; refused = w.refused; grown = w.grown }

tagged_from : (S : List Object) (v : Replaying) (r : Replay) (f : Option StreamFault) (g : TaggedNames) → IsOkAnd (reached r f) (IsReplayOf S v)
    → (IsReplayOf S v r → IsTaggedReplayedOf S g (tagged_given r)) → IsOkAnd (outcome_of r f >>= λ x. Ok (record { replayed = x; tags = r.tags })) (IsTaggedReplayedOf S g)
tagged_from S v r None g h k = k h
tagged_from S v r (Some f) g h k = absurd h

pub tagged_whole : (base : Base) (S S' : List Object) (input : Bytes) (v : Replaying) (g : TaggedNames) → IsWholeRun tagged_start base S S' input (Ok v)
    → ((r : Replay) → IsReplayOf S' v r → IsTaggedReplayedOf S' g (tagged_given r)) → IsTaggedWhole base S S' input (Ok g)
tagged_whole base S S' input v g w k = record {
  given = tagged_from S' v (ran_in tagged_start base input).state (ran_in tagged_start base input).fault g w.given (k (ran_in tagged_start base input).state);
  refused = tt;
  grown = w.grown;
}

pub tagged_refused : (base : Base) (S S' : List Object) (input : Bytes) (e : ReplayError) → IsWholeRun tagged_start base S S' input (Err e) → IsTaggedWhole base S S' input (Err e)
tagged_refused base S S' input e w = record { given = tt; refused = w.refused; grown = w.grown }

-- the names of the tags that are given rise
pub tags_rise : ReplayedTagsLaw → (base : Base) (S S' : List Object) (input : Bytes) (g : TaggedNames) → IsTaggedWhole base S S' input (Ok g) → rise None g.tags.items ≡ true
tags_rise law base S S' input g w = by (tagged_replay base input) refl w.given
  where
    by : (x : Result TaggedReplayed StreamFault) → tagged_replay base input ≡ x → IsOkAnd x (IsTaggedReplayedOf S' g) → rise None g.tags.items ≡ true
    by (Ok y) e h = ap (rise None) h.tags ∙ (law base input y e).order
    by (Err f) e h = absurd h

-- ---- the end of the reading

-- more is waited for only before the end
not_ended : (p : Progress) (ended : Bool) (i : Rattle.stream_lex.specs.Lines.Input) (w : Wanted) → read_command p ended i ≡ Err (More w) → ended ≡ false
not_ended p false i w e = refl
not_ended p true i w e = absurd (subst IsTold e ((command-reader p).told i))

pub more_open : (old new : Reading) → TellsNext (Ok nexts.More) old new → new.ended ≡ false
more_open old new h = h.1.ended ∙ not_ended old.progress old.ended old.input h.0.0 h.0.1

phase_few : (p : Phase) → weight p ≤ 2
phase_few Between = omega arith
phase_few InCommit = omega arith
phase_few Finished = omega arith

pub left_few : (rd : Reading) → left rd ≤ 2 * came rd + 2
left_few rd = omega (arith, phase_few rd.progress.phase)

-- what is still to be done in a stream of bounded length
abbrev pub ahead : Reading → ℕ
ahead rd = 600000000 * ((STREAM_BYTES + 65536 - came rd) + cond rd.ended 0 1) + left rd

pub ahead_command : (old new : Reading) → came new ≡ came old → new.ended ≡ old.ended → left new < left old → ahead new < ahead old
ahead_command old new c e l = omega (arith, ap {B = ℕ} (λ (b : Bool). cond b 0 1) e)

came_fed : (bytes : Bytes) (rd : Reading) → came (fed bytes false rd) ≡ came rd + length bytes
came_fed bytes rd = omega (arith, length-append rd.input.rest bytes)

pub within_fed : (before after : Option Bytes) (rd new : Reading) (most : ℕ) → came rd ≤ STREAM_BYTES → IsFed before after rd new most → most ≤ 65536 → came new ≤ STREAM_BYTES + 65536
within_fed before after rd new most w (inl p) m = omega (arith, w, m, p.few, came_fed p.bytes rd, ap came p.now)
within_fed before after rd new most w (inr p) m = omega (arith, w, ap came p.now)

pub ahead_fed : (before after : Option Bytes) (old rd new : Reading) (most : ℕ) → came rd ≡ came old → rd.ended ≡ old.ended → rd.ended ≡ false → came old ≤ STREAM_BYTES → most ≤ 65536 → IsFed before after rd new most → ahead new < ahead old
ahead_fed before after old rd new most c e un w m (inl p) =
    omega (arith, c, w, m, p.few, p.some, came_fed p.bytes rd, ap came p.now, left_few new, ap {B = ℕ} (λ (b : Bool). cond b 0 1) (ap (λ (r : Reading). r.ended) p.now), ap {B = ℕ} (λ (b : Bool). cond b 0 1) (sym e ∙ un))
ahead_fed before after old rd new most c e un w m (inr p) =
    omega (arith, c, w, ap came p.now, left_few new, ap {B = ℕ} (λ (b : Bool). cond b 0 1) (ap (λ (r : Reading). r.ended) p.now), ap {B = ℕ} (λ (b : Bool). cond b 0 1) (sym e ∙ un))
