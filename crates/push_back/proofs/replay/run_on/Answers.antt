use Rattle.std.proofs.Common.{List, ◌≡◌, ◌<◌, ◌≤◌, ◌∙◌, Ok, Result, sym, subst, ap, arith}
use Rattle.std.specs.Prelude.{⊤, IsOkAnd}
use Rattle.std.specs.Result.{result_err}
use Rattle.git_objects.specs.declared.limits.TheConstants.{STREAM_BYTES}
use Rattle.object_store.specs.Growth.{IsGrownBy}
use Rattle.object_store.specs.Objects.{Object}
use Rattle.object_store.proofs.Growth.{grown_as}
use Rattle.stream_reader.specs.Readers.{Follows, OnMore, Reading, TellsNext, came}
use Rattle.stream_reader.specs.Waited.{IsNear}
use Rattle.stream_reader.specs.declared.reader.Next.{Next}
use Rattle.fast_import.specs.Made.{IsMadeAt, IsMadeBy}
use Rattle.fast_import.specs.Replays.{Replay, nothing_yet}
use Rattle.fast_import.specs.Standing.{IsReplayOf}
use Rattle.fast_import.proofs.Stopping.{ahead, ahead_fed, more_open, within_fed}
use Rattle.push_laws.specs.PushReplays.{StreamRefusal}
use Rattle.push_back.specs.Replaying.{IsPushFault}
use Rattle.push_back.specs.declared.error.PushError.TheVariants as errors
use Rattle.push_back.proofs.PushedSoFar.{IsPushSoFar, ended, fed_waiting, feeding_refused, nothing_so_far, one_more, reading_refused, step_refused, taken_ended, taken_feeding, taken_refused}
use Rattle.push_back.proofs.replay.run_on.Goals as goal
use Rattle.push_back.proofs.Running.{run_within, run_within_feeding}

grown-any : (made : Object → Type 0) (S T : List Object) → IsGrownBy made S T → IsGrownBy (λ o. ⊤) S T
grown-any made S T h = grown_as made (λ o. ⊤) S T (λ o m. tt) h

pub stream-init : goal.stream-init
stream-init g c = record {
  so_far = subst (λ (rd : Reading). IsPushSoFar (g.P.Pushed.upon c.args.store.now c.args.base.now) (g.P.Pushed.one c.args.store.now c.args.base.now) c.requires.goes (g.P.OnRef.refname c.args.base.now) (g.P.OnRef.from c.args.base.now) c.args.store.now c.args.store.now (g.S.Source.left c.args.input.now) (g.S.Source.left c.args.input.now) rd c.args.replay.now) (sym c.requires.unread)
      (nothing_so_far (g.P.Pushed.upon c.args.store.now c.args.base.now) (g.P.Pushed.one c.args.store.now c.args.base.now) c.requires.goes (g.P.OnRef.refname c.args.base.now) (g.P.OnRef.from c.args.base.now) c.args.store.now (g.S.Source.left c.args.input.now) c.args.replay.now c.store_law.ensures.store (c.requires.fresh c.args.store.now));
  told = (λ x. x, λ x. x);
  later = omega arith;
  within = let e : came c.args.reader.now ≡ 0 = ap came c.requires.unread in omega arith;
}

pub returns-in-Err-clause-stream : goal.returns-in-Err-clause-stream
returns-in-Err-clause-stream g c =
    let h = c.stream.invariant.so_far in
    reading_refused (g.P.Pushed.upon c.args.store.now c.args.base.now) (g.P.Pushed.one c.args.store.now c.args.base.now) c.requires.goes (g.P.OnRef.refname c.args.base.now) (g.P.OnRef.from c.args.base.now) c.args.store.now c.stream.store (g.S.Source.left c.args.input.now) (g.S.Source.left c.stream.input) c.stream.reader c.stream.replay h (g.met.S.Source.bytes c.stream.input) c.in-Err.fault c.in-Err.ensures.follows

pub returns-in-Ok-Ended-clause-stream : goal.returns-in-Ok-Ended-clause-stream
returns-in-Ok-Ended-clause-stream g c =
    let h = c.stream.invariant.so_far in
    ended (g.P.Pushed.upon c.args.store.now c.args.base.now) (g.P.Pushed.one c.args.store.now c.args.base.now) c.requires.goes (g.P.OnRef.refname c.args.base.now) (g.P.OnRef.from c.args.base.now) c.args.store.now c.stream.store (g.S.Source.left c.args.input.now) (g.S.Source.left c.stream.input) c.stream.reader c.stream.replay h (g.met.S.Source.bytes c.stream.input) (subst (λ (n : Next). Follows (Ok n) c.stream.reader c.next.new.self) c.in-Ok-Ended.field-0-is c.in-Ok-Ended.ensures.follows) c.end_judged.result c.end_judged.ensures.judged

pub push_on-requires-clause-base : goal.push_on-requires-clause-base
push_on-requires-clause-base g c =
    let h = c.stream.invariant.so_far in
    c.requires.lasts.still c.stream.store (grown-any (IsMadeBy (g.P.Pushed.upon c.args.store.now c.args.base.now) nothing_yet h.commands) c.args.store.now c.stream.store h.grown)

pub returns-in-Err-push_on-clause-stream : goal.returns-in-Err-push_on-clause-stream
returns-in-Err-push_on-clause-stream g c =
    let h = c.stream.invariant.so_far in
    let p = c.in-Ok-Command.placed in
    let k = c.in-Err-push_on.ensures.stepped h.state h.stands in
    step_refused (g.P.Pushed.upon c.args.store.now c.args.base.now) (g.P.Pushed.one c.args.store.now c.args.base.now) c.requires.goes (g.P.OnRef.refname c.args.base.now) (g.P.OnRef.from c.args.base.now) c.args.store.now c.stream.store (g.S.Source.left c.args.input.now) (g.S.Source.left c.stream.input) c.stream.reader c.stream.replay h (g.met.S.Source.bytes c.stream.input) p c.next.new.self (subst (λ (n : Next). Follows (Ok n) c.stream.reader c.next.new.self) c.in-Ok-Command.field-0-is c.in-Ok-Command.ensures.follows)
    c.push_on.new.store c.push_on.new.replay c.in-Err-push_on.error
    (subst (λ (x : Result Replay StreamRefusal). IsPushFault (result_err x) (IsMadeAt h.state p.command) c.push_on.new.store c.in-Err-push_on.error) (c.requires.lasts.same c.stream.store (grown-any (IsMadeBy (g.P.Pushed.upon c.args.store.now c.args.base.now) nothing_yet h.commands) c.args.store.now c.stream.store h.grown) h.state p) k.refused)
    k.grown

pub stream-preserved-in-Ok : goal.stream-preserved-in-Ok
stream-preserved-in-Ok g c =
    let h = c.stream.invariant.so_far in
    let p = c.in-Ok-Command.placed in
    let t = subst (λ (n : Next). TellsNext (Ok n) c.stream.reader c.next.new.self) c.in-Ok-Command.field-0-is c.in-Ok-Command.ensures.told in
    let k = c.in-Ok.ensures.stepped h.state h.stands in
    record {
      so_far = one_more (g.P.Pushed.upon c.args.store.now c.args.base.now) (g.P.Pushed.one c.args.store.now c.args.base.now) c.requires.goes (g.P.OnRef.refname c.args.base.now) (g.P.OnRef.from c.args.base.now) c.args.store.now c.stream.store (g.S.Source.left c.args.input.now) (g.S.Source.left c.stream.input) c.stream.reader c.stream.replay h p c.next.new.self t.0 t.1 c.in-Ok-Command.ensures.came
          (subst (λ (n : Next). Follows (Ok n) c.stream.reader c.next.new.self) c.in-Ok-Command.field-0-is c.in-Ok-Command.ensures.follows)
          c.push_on.new.store c.push_on.new.replay
          (subst (λ (x : Result Replay StreamRefusal). IsOkAnd x (IsReplayOf c.push_on.new.store c.push_on.new.replay)) (c.requires.lasts.same c.stream.store (grown-any (IsMadeBy (g.P.Pushed.upon c.args.store.now c.args.base.now) nothing_yet h.commands) c.args.store.now c.stream.store h.grown) h.state p) k.done)
          k.grown;
      told = c.stream.invariant.told;
      later = c.stream.invariant.later;
      within = omega (arith, c.in-Ok-Command.ensures.came, c.stream.invariant.within);
    }

pub feed-requires-clause-open : goal.feed-requires-clause-open
feed-requires-clause-open g c =
    more_open c.stream.reader c.next.new.self (subst (λ (n : Next). TellsNext (Ok n) c.stream.reader c.next.new.self) c.in-Ok-More.field-0-is c.in-Ok-More.ensures.told)

pub returns-in-Err-feed-clause-stream : goal.returns-in-Err-feed-clause-stream
returns-in-Err-feed-clause-stream g c =
    let h = c.stream.invariant.so_far in
    feeding_refused (g.P.Pushed.upon c.args.store.now c.args.base.now) (g.P.Pushed.one c.args.store.now c.args.base.now) c.requires.goes (g.P.OnRef.refname c.args.base.now) (g.P.OnRef.from c.args.base.now) c.args.store.now c.stream.store (g.S.Source.left c.args.input.now) (g.S.Source.left c.stream.input) c.stream.reader c.stream.replay h (g.met.S.Source.bytes c.stream.input) c.in-Err-feed.error c.in-Err-feed.ensures.err

pub stream-smaller : goal.stream-smaller
stream-smaller g c =
    let t = subst (λ (n : Next). TellsNext (Ok n) c.stream.reader c.next.new.self) c.in-Ok-More.field-0-is c.in-Ok-More.ensures.told in
    let w = subst (λ (n : Next). OnMore (Ok n) (came c.stream.reader ≤ STREAM_BYTES)) c.in-Ok-More.field-0-is c.in-Ok-More.ensures.more in
    let s : ahead c.feed.new.reader < ahead c.stream.reader = ahead_fed (g.S.Source.left c.stream.input) (g.S.Source.left c.feed.new.input) c.stream.reader c.next.new.self c.feed.new.reader _ c.in-Ok-More.ensures.came t.1.ended (more_open c.stream.reader c.next.new.self t) w (omega (arith, c.requires.few, c.stream.auto.piece)) c.in-Ok-feed.ensures.fed in
    s

pub stream-preserved : goal.stream-preserved
stream-preserved g c =
    let h = c.stream.invariant.so_far in
    let t = subst (λ (n : Next). TellsNext (Ok n) c.stream.reader c.next.new.self) c.in-Ok-More.field-0-is c.in-Ok-More.ensures.told in
    let w = subst (λ (n : Next). OnMore (Ok n) (came c.stream.reader ≤ STREAM_BYTES)) c.in-Ok-More.field-0-is c.in-Ok-More.ensures.more in
    record {
      so_far = fed_waiting (g.P.Pushed.upon c.args.store.now c.args.base.now) (g.P.Pushed.one c.args.store.now c.args.base.now) c.requires.goes (g.P.OnRef.refname c.args.base.now) (g.P.OnRef.from c.args.base.now) c.args.store.now c.stream.store (g.S.Source.left c.args.input.now) (g.S.Source.left c.stream.input) c.stream.reader c.stream.replay h (g.S.Source.left c.feed.new.input) c.next.new.self c.feed.new.reader _ (omega (arith, c.requires.few, c.stream.auto.piece)) t.1
          (subst (λ (n : Next). OnMore (Ok n) (IsNear c.stream.reader)) c.in-Ok-More.field-0-is c.in-Ok-More.ensures.near)
          (subst (λ (n : Next). Follows (Ok n) c.stream.reader c.next.new.self) c.in-Ok-More.field-0-is c.in-Ok-More.ensures.follows)
          (more_open c.stream.reader c.next.new.self t) c.in-Ok-feed.ensures.fed;
      told = (λ x. c.stream.invariant.told.0 (c.in-Ok-feed.ensures.told.0 x), λ x. c.in-Ok-feed.ensures.told.1 (c.stream.invariant.told.1 x));
      later = omega (arith, c.stream.invariant.later, c.in-Ok-feed.ensures.cause.later);
      within = within_fed (g.S.Source.left c.stream.input) (g.S.Source.left c.feed.new.input) c.next.new.self c.feed.new.reader _ (omega (arith, w, c.in-Ok-More.ensures.came)) c.in-Ok-feed.ensures.fed (omega (arith, c.requires.few, c.stream.auto.piece));
    }

-- ---- how much was given

pub returns-in-Err-clause-taken : goal.returns-in-Err-clause-taken
returns-in-Err-clause-taken g c =
    let h = c.stream.invariant.so_far in
    taken_refused (g.P.Pushed.upon c.args.store.now c.args.base.now) (g.P.Pushed.one c.args.store.now c.args.base.now) c.requires.goes (g.P.OnRef.refname c.args.base.now) (g.P.OnRef.from c.args.base.now) c.args.store.now c.stream.store (g.S.Source.left c.args.input.now) (g.S.Source.left c.stream.input) c.stream.reader c.stream.replay h (errors.Stream c.in-Err.fault)

pub returns-in-Ok-Ended-clause-taken : goal.returns-in-Ok-Ended-clause-taken
returns-in-Ok-Ended-clause-taken g c =
    let h = c.stream.invariant.so_far in
    let t = subst (λ (n : Next). TellsNext (Ok n) c.stream.reader c.next.new.self) c.in-Ok-Ended.field-0-is c.in-Ok-Ended.ensures.told in
    taken_ended (g.P.Pushed.upon c.args.store.now c.args.base.now) (g.P.Pushed.one c.args.store.now c.args.base.now) c.requires.goes (g.P.OnRef.refname c.args.base.now) (g.P.OnRef.from c.args.base.now) c.args.store.now c.stream.store (g.S.Source.left c.args.input.now) (g.S.Source.left c.stream.input) c.stream.reader c.stream.replay h c.next.new.self t.0 c.in-Ok-Ended.ensures.came c.end_judged.result

pub returns-in-Err-push_on-clause-taken : goal.returns-in-Err-push_on-clause-taken
returns-in-Err-push_on-clause-taken g c =
    let h = c.stream.invariant.so_far in
    taken_refused (g.P.Pushed.upon c.args.store.now c.args.base.now) (g.P.Pushed.one c.args.store.now c.args.base.now) c.requires.goes (g.P.OnRef.refname c.args.base.now) (g.P.OnRef.from c.args.base.now) c.args.store.now c.stream.store (g.S.Source.left c.args.input.now) (g.S.Source.left c.stream.input) c.stream.reader c.stream.replay h c.in-Err-push_on.error

pub returns-in-Err-feed-clause-taken : goal.returns-in-Err-feed-clause-taken
returns-in-Err-feed-clause-taken g c =
    let h = c.stream.invariant.so_far in
    let t = subst (λ (n : Next). TellsNext (Ok n) c.stream.reader c.next.new.self) c.in-Ok-More.field-0-is c.in-Ok-More.ensures.told in
    taken_feeding (g.P.Pushed.upon c.args.store.now c.args.base.now) (g.P.Pushed.one c.args.store.now c.args.base.now) c.requires.goes (g.P.OnRef.refname c.args.base.now) (g.P.OnRef.from c.args.base.now) c.args.store.now c.stream.store (g.S.Source.left c.args.input.now) (g.S.Source.left c.stream.input) c.stream.reader c.stream.replay h (subst (λ (n : Next). OnMore (Ok n) (IsNear c.stream.reader)) c.in-Ok-More.field-0-is c.in-Ok-More.ensures.near)
    (sym t.1.ended ∙ more_open c.stream.reader c.next.new.self t) (g.S.Source.left c.feed.new.input)
    (c.in-Err-feed.ensures.given.0, c.in-Err-feed.ensures.given.1, omega (arith, c.in-Err-feed.ensures.given.2, c.requires.few, c.stream.auto.piece)) c.in-Err-feed.error

-- ---- no more is taken than a stream may have, and a piece

pub returns-in-Err-clause-within : goal.returns-in-Err-clause-within
returns-in-Err-clause-within g c = run_within (g.P.Pushed.upon c.args.store.now c.args.base.now) (g.P.Pushed.one c.args.store.now c.args.base.now) c.args.store.now c.stream.store (g.S.Source.left c.args.input.now) (g.S.Source.left c.stream.input) c.stream.reader c.stream.replay c.stream.invariant.so_far c.stream.invariant.within

pub returns-in-Ok-Ended-clause-within : goal.returns-in-Ok-Ended-clause-within
returns-in-Ok-Ended-clause-within g c = run_within (g.P.Pushed.upon c.args.store.now c.args.base.now) (g.P.Pushed.one c.args.store.now c.args.base.now) c.args.store.now c.stream.store (g.S.Source.left c.args.input.now) (g.S.Source.left c.stream.input) c.stream.reader c.stream.replay c.stream.invariant.so_far c.stream.invariant.within

pub returns-in-Err-push_on-clause-within : goal.returns-in-Err-push_on-clause-within
returns-in-Err-push_on-clause-within g c = run_within (g.P.Pushed.upon c.args.store.now c.args.base.now) (g.P.Pushed.one c.args.store.now c.args.base.now) c.args.store.now c.stream.store (g.S.Source.left c.args.input.now) (g.S.Source.left c.stream.input) c.stream.reader c.stream.replay c.stream.invariant.so_far c.stream.invariant.within

pub returns-in-Err-feed-clause-within : goal.returns-in-Err-feed-clause-within
returns-in-Err-feed-clause-within g c =
    let w = subst (λ (n : Next). OnMore (Ok n) (came c.stream.reader ≤ STREAM_BYTES)) c.in-Ok-More.field-0-is c.in-Ok-More.ensures.more in
    run_within_feeding (g.P.Pushed.upon c.args.store.now c.args.base.now) (g.P.Pushed.one c.args.store.now c.args.base.now) c.args.store.now c.stream.store (g.S.Source.left c.args.input.now) (g.S.Source.left c.stream.input) c.stream.reader c.stream.replay c.stream.invariant.so_far w (g.S.Source.left c.feed.new.input)
    (c.in-Err-feed.ensures.given.0, c.in-Err-feed.ensures.given.1, omega (arith, c.in-Err-feed.ensures.given.2, c.requires.few, c.stream.auto.piece))
