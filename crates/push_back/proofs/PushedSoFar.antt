-- A pushed stream so far, and how it ends.
use Rattle.std.proofs.Common.{◌≡◌, ◌⊎◌, ◌≤◌, true, false, List, [], Option, Some, None, Result, Ok, Err, IfSome}
use Rattle.std.specs.Prelude.{ℕ, IsOkAnd}
use Rattle.std.specs.Result.{result_err}
use Rattle.git_objects.specs.Paths.{Bytes, is_bytes}
use Rattle.object_store.specs.Growth.{IsGrownBy}
use Rattle.object_store.specs.Objects.{Object, IsStore}
use Rattle.stream_reader.specs.Readers.{IsBefore, MayFollow, Reading, came, next_command, verdict_with}
use Rattle.stream_reader.specs.Verdicts.{Verdict, start, stopped, verdict, with_command}
use Rattle.stream_reader.specs.Waited.{IsNear}
use Rattle.stream_reader.specs.declared.command.Placed.{Placed}
use Rattle.stream_reader.specs.declared.fault.StreamFault.{StreamFault}
use Rattle.stream_reader.specs.declared.fault.StreamFault.TheVariants.{OutOfMemory}
use Rattle.fast_import.specs.Made.{IsMadeAt}
use Rattle.fast_import.specs.Replaying.{Replaying}
use Rattle.fast_import.specs.Replays.{Base, Replay, branch, nothing_yet}
use Rattle.fast_import.specs.Standing.{IsReplayOf}
use Rattle.fast_import.specs.Whole.{IsFed, IsGiven}
use Rattle.fast_import.proofs.Running.{with_all}
use Rattle.push_laws.specs.PushReplays.{StreamRefusal, end_refusal}
use Rattle.push_back.specs.Replaying.{Goes, IsEndJudged, IsPushFault, IsRanOn, Tells, ran_whole}
use Rattle.push_back.specs.Waited.{IsTakenTo, PushStep, waited_by}
use Rattle.push_back.specs.declared.error.PushError.{PushError}
use Rattle.push_back.specs.declared.error.PushError.TheVariants as errors
use Rattle.push_back.proofs.Running.{IsRunSoFar, all, all_bytes, all_told, fed_run, may_rest, nothing_run, one_run, rest, run_taken, run_taken_feeding, run_taken_whole}
use Rattle.push_back.proofs.RunEnds.{closed, ran_at, run_closed, run_given, run_refused, run_unfed, run_unread}

module _ (base : Base) (one : PushStep) (goes : Goes base one) (refname : Bytes) (from : Option Bytes) where
  -- what it refuses at the end
  abbrev last : Replay → Option StreamRefusal
  last r = end_refusal from r (branch r refname)

  -- S and before are the store and what the source had at first; T, now, rd and v are the store, the source, the reader and the
  -- replay as they are.
  abbrev pub IsPushSoFar : List Object → List Object → Option Bytes → Option Bytes → Reading → Replaying → Type 0
  IsPushSoFar S T before now rd v = IsRunSoFar base one S T before now rd v

  pub nothing_so_far : (S : List Object) (before : Option Bytes) (v : Replaying) → IsStore S → IsReplayOf S v nothing_yet → IsPushSoFar S S before before (record { progress = start; input = record { at = 0; rest = [] }; ended = false }) v
  nothing_so_far S before v s h = nothing_run base one S before v s h

  -- all that the source had, and what became of it
  abbrev pub IsPushedFrom : Option Bytes → List Object → List Object → Replaying → Result Unit PushError → Type 0
  IsPushedFrom before S R w result = (input : Bytes) × (is_bytes input ≡ true) × IfSome before (λ bytes. bytes ≡ input) × IsRanOn base (ran_whole one refname from input) S R w result

  module _ (S T : List Object) (before now : Option Bytes) (rd : Reading) (v : Replaying) (h : IsPushSoFar S T before now rd v) where
    -- a command was carried out
    pub one_more : (p : Placed) (new : Reading) → next_command rd ≡ Ok (record { command = Some p; progress = new.progress }, new.input) → new.ended ≡ rd.ended → came new ≡ came rd → ((more : Bytes) → MayFollow rd more true → verdict_with more rd ≡ with_command p (verdict_with more new)) →
        (R : List Object) (w : Replaying) → IsOkAnd (one h.state p) (IsReplayOf R w) → IsGrownBy (IsMadeAt h.state p.command) T R → IsPushSoFar S R before now new w
    one_more p new told ended came_same follows R w d g =
        one_run base one S T before now rd v h goes p new told ended came_same follows R w d g

    -- more was waited for, and then fed
    pub fed_waiting : (later : Option Bytes) (fed new : Reading) (most : ℕ) → most ≤ 65536 → IsBefore rd fed → IsNear rd → ((more : Bytes) → MayFollow rd more true → verdict_with more rd ≡ verdict_with more fed) → fed.ended ≡ false → IsFed now later fed new most
        → IsPushSoFar S T before later new v
    fed_waiting later fed new most few b n follows un k = fed_run base one S T before now rd v h later fed most few b n follows un new k

    -- ---- how much was given

    pub taken_refused : (e : PushError) → IsTakenTo {A = Unit} (waited_by one) before now (Err e)
    taken_refused e = run_taken base one S T before now rd v h e

    pub taken_ended : (new : Reading) → next_command rd ≡ Ok (record { command = None; progress = new.progress }, new.input) → came new ≡ came rd → (result : Result Unit PushError) → IsTakenTo (waited_by one) before now result
    taken_ended new told c (Ok x) = run_taken_whole base one S T before now rd v h new told c x
    taken_ended new told c (Err e) = taken_refused e

    pub taken_feeding : IsNear rd → rd.ended ≡ false → (after : Option Bytes) → IsGiven now after 65536 → (e : PushError) → IsTakenTo {A = Unit} (waited_by one) before after (Err e)
    taken_feeding n un after g e = run_taken_feeding base one S T before now rd v h n un after g e

    -- ---- how it ends

    module _ (bytes : IfSome now (λ l. is_bytes l ≡ true)) where
      abbrev input : Bytes
      input = all before now rd h.commands h.read

      abbrev left : Bytes
      left = rest before now rd h.commands h.read

      may_left : MayFollow rd left true
      may_left = may_rest before now rd h.commands h.read

      abbrev later : Verdict
      later = verdict_with left rd

      same : verdict start input ≡ with_all h.commands later
      same = h.read.same left may_left

      whole : (R : List Object) (w : Replaying) (result : Result Unit PushError) → IsRanOn base (closed last (ran_at one nothing_yet (verdict start input))) S R w result → IsPushedFrom before S R w result
      whole R w result k = (input, all_bytes before now rd h.commands h.read bytes, all_told before now rd h.commands h.read, k)

      all_given : ((more : Bytes) → MayFollow rd more true → verdict_with more rd ≡ stopped None) → end_refusal from h.state (branch h.state refname) ≡ None → IsPushedFrom before S T v (Ok tt)
      all_given e l = whole T v (Ok tt) (run_given base one last h.commands h.state h.run (verdict start input) later same S T h.grown v (e left may_left) l h.stands)

      end_refused : ((more : Bytes) → MayFollow rd more true → verdict_with more rd ≡ stopped None) → (e : PushError) → Tells (end_refusal from h.state (branch h.state refname)) e → IsPushedFrom before S T v (Err e)
      end_refused s e t =
          whole T v (Err e) (run_closed base one last h.commands h.state h.run (verdict start input) later same S T h.grown v (s left may_left) e t)

      -- the stream's end is reached, and judged
      pub ended : ((more : Bytes) → MayFollow rd more true → verdict_with more rd ≡ stopped None) → (result : Result Unit PushError) → IsEndJudged v refname from result → IsPushedFrom before S T v result
      ended s (Ok u) k = all_given s (k.passed T h.state h.stands)
      ended s (Err e) k = end_refused s e (k.refused T h.state h.stands)

      pub reading_refused : (f : StreamFault) → ((more : Bytes) → MayFollow rd more true → (f ≡ OutOfMemory) ⊎ (verdict_with more rd ≡ stopped (Some f))) → IsPushedFrom before S T v (Err (errors.Stream f))
      reading_refused f e = whole T v (Err (errors.Stream f)) (run_unread base one last h.commands h.state h.run (verdict start input) later same S T h.grown v f (e left may_left))

      -- the source fails, or there is no memory
      pub feeding_refused : (e : PushError) → (e ≡ errors.ReadFault) ⊎ (e ≡ errors.Stream OutOfMemory) → IsPushedFrom before S T v (Err e)
      feeding_refused e k = whole T v (Err e) (run_unfed base one last h.commands h.state h.run (verdict start input) later same S T h.grown v e k)

      pub step_refused : (p : Placed) (new : Reading) → ((more : Bytes) → MayFollow rd more true → verdict_with more rd ≡ with_command p (verdict_with more new)) → (R : List Object) (w : Replaying) (e : PushError)
          → IsPushFault (result_err (one h.state p)) (IsMadeAt h.state p.command) R e → IsGrownBy (IsMadeAt h.state p.command) T R → IsPushedFrom before S R w (Err e)
      step_refused p new follows R w e k g =
          whole R w (Err e) (run_refused base one last h.commands h.state h.run (verdict start input) later same S T h.grown v goes p (verdict_with left new) (follows left may_left) R w e
          k g)
