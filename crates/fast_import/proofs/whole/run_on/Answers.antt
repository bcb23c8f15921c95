use Rattle.std.proofs.Common.{◌≡◌, ◌<◌, ◌≤◌, false, [], length, rules, Ok, Err, sym, subst, ap, arith, ◌∙◌}
use Rattle.git_objects.specs.declared.limits.TheConstants.{STREAM_BYTES}
use Rattle.fast_import.specs.Bases.{base_in}
use Rattle.stream_reader.specs.Readers.{Follows, OnMore, Reading, TellsNext, came}
use Rattle.stream_reader.specs.Waited.{IsNear}
use Rattle.fast_import.specs.declared.whole.ReplayError.TheVariants.{Stream}
use Rattle.stream_reader.specs.declared.reader.Next.{Next}
use Rattle.fast_import.proofs.Running.{IsSoFar, fed_waiting, is_base-so_far, nothing_so_far, one_more, stepped_so_far}
use Rattle.fast_import.proofs.Stopping.{ahead, ahead_fed, all, all_bytes, all_given, all_told, feeding_refused, more_open, reading_refused, step_refused, taken_feeding, taken_given, taken_refused, within_fed, within_feeding, within_stopped}
use Rattle.fast_import.proofs.whole.run_on.Goals as goal

pub stream-init : goal.stream-init
stream-init g c =
    let begun : Reading = record { progress = c.args.reader.now.progress; input = record { at = 0; rest = [] }; ended = false } in
    let unread : begun ≡ c.args.reader.now = λ i. record { progress = c.args.reader.now.progress; input = sym c.requires.unread i; ended = sym c.requires.open i } in
    record {
      so_far = subst (λ (rd : Reading). IsSoFar c.args.reader.now.progress (base_in c.args.store.now (g.B.Base.commits c.args.base.now) (g.B.Base.refs c.args.base.now) (g.B.Base.blobs c.args.base.now)) c.args.store.now c.args.store.now (g.S.Source.left c.args.input.now) (g.S.Source.left c.args.input.now) rd c.args.replay.now) unread
          (nothing_so_far c.args.reader.now.progress (base_in c.args.store.now (g.B.Base.commits c.args.base.now) (g.B.Base.refs c.args.base.now) (g.B.Base.blobs c.args.base.now)) c.args.store.now (g.S.Source.left c.args.input.now) c.args.replay.now c.store_law.ensures.store (c.requires.fresh c.args.store.now));
      told = (λ x. x, λ x. x);
      later = omega arith;
      within = let e : came c.args.reader.now ≡ 0 = sym (ap came unread) in omega arith;
    }

pub returns-in-Err-clause-stream : goal.returns-in-Err-clause-stream
returns-in-Err-clause-stream g c =
    let h = c.stream.invariant.so_far in (
      all c.args.reader.now.progress (base_in c.args.store.now (g.B.Base.commits c.args.base.now) (g.B.Base.refs c.args.base.now) (g.B.Base.blobs c.args.base.now)) c.args.store.now c.stream.store (g.S.Source.left c.args.input.now) (g.S.Source.left c.stream.input) c.stream.reader c.stream.replay h,
      all_bytes c.args.reader.now.progress (base_in c.args.store.now (g.B.Base.commits c.args.base.now) (g.B.Base.refs c.args.base.now) (g.B.Base.blobs c.args.base.now)) c.args.store.now c.stream.store (g.S.Source.left c.args.input.now) (g.S.Source.left c.stream.input) c.stream.reader c.stream.replay h (g.met.S.Source.bytes c.stream.input),
      all_told c.args.reader.now.progress (base_in c.args.store.now (g.B.Base.commits c.args.base.now) (g.B.Base.refs c.args.base.now) (g.B.Base.blobs c.args.base.now)) c.args.store.now c.stream.store (g.S.Source.left c.args.input.now) (g.S.Source.left c.stream.input) c.stream.reader c.stream.replay h,
      reading_refused c.args.reader.now.progress (base_in c.args.store.now (g.B.Base.commits c.args.base.now) (g.B.Base.refs c.args.base.now) (g.B.Base.blobs c.args.base.now)) c.args.store.now c.stream.store (g.S.Source.left c.args.input.now) (g.S.Source.left c.stream.input) c.stream.reader c.stream.replay h c.in-Err.fault c.in-Err.ensures.follows,
    )

pub returns-in-Ok-Ended-clause-stream : goal.returns-in-Ok-Ended-clause-stream
returns-in-Ok-Ended-clause-stream g c =
    let h = c.stream.invariant.so_far in (
      all c.args.reader.now.progress (base_in c.args.store.now (g.B.Base.commits c.args.base.now) (g.B.Base.refs c.args.base.now) (g.B.Base.blobs c.args.base.now)) c.args.store.now c.stream.store (g.S.Source.left c.args.input.now) (g.S.Source.left c.stream.input) c.stream.reader c.stream.replay h,
      all_bytes c.args.reader.now.progress (base_in c.args.store.now (g.B.Base.commits c.args.base.now) (g.B.Base.refs c.args.base.now) (g.B.Base.blobs c.args.base.now)) c.args.store.now c.stream.store (g.S.Source.left c.args.input.now) (g.S.Source.left c.stream.input) c.stream.reader c.stream.replay h (g.met.S.Source.bytes c.stream.input),
      all_told c.args.reader.now.progress (base_in c.args.store.now (g.B.Base.commits c.args.base.now) (g.B.Base.refs c.args.base.now) (g.B.Base.blobs c.args.base.now)) c.args.store.now c.stream.store (g.S.Source.left c.args.input.now) (g.S.Source.left c.stream.input) c.stream.reader c.stream.replay h,
      all_given c.args.reader.now.progress (base_in c.args.store.now (g.B.Base.commits c.args.base.now) (g.B.Base.refs c.args.base.now) (g.B.Base.blobs c.args.base.now)) c.args.store.now c.stream.store (g.S.Source.left c.args.input.now) (g.S.Source.left c.stream.input) c.stream.reader c.stream.replay h (subst (λ (n : Next). Follows (Ok n) c.stream.reader c.next.new.self) c.in-Ok-Ended.field-0-is c.in-Ok-Ended.ensures.follows),
    )

pub step-requires-clause-base : goal.step-requires-clause-base
step-requires-clause-base g c =
    let h = c.stream.invariant.so_far in
    is_base-so_far c.args.reader.now.progress (base_in c.args.store.now (g.B.Base.commits c.args.base.now) (g.B.Base.refs c.args.base.now) (g.B.Base.blobs c.args.base.now)) c.args.store.now c.stream.store (g.S.Source.left c.args.input.now) (g.S.Source.left c.stream.input) c.stream.reader c.stream.replay h (g.B.Base.commits c.args.base.now) (g.B.Base.refs c.args.base.now) (g.B.Base.blobs c.args.base.now) c.requires.base

pub returns-in-Err-step-clause-stream : goal.returns-in-Err-step-clause-stream
returns-in-Err-step-clause-stream g c =
    let h = c.stream.invariant.so_far in
    let p = c.in-Ok-Command.placed in (
      all c.args.reader.now.progress (base_in c.args.store.now (g.B.Base.commits c.args.base.now) (g.B.Base.refs c.args.base.now) (g.B.Base.blobs c.args.base.now)) c.args.store.now c.stream.store (g.S.Source.left c.args.input.now) (g.S.Source.left c.stream.input) c.stream.reader c.stream.replay h,
      all_bytes c.args.reader.now.progress (base_in c.args.store.now (g.B.Base.commits c.args.base.now) (g.B.Base.refs c.args.base.now) (g.B.Base.blobs c.args.base.now)) c.args.store.now c.stream.store (g.S.Source.left c.args.input.now) (g.S.Source.left c.stream.input) c.stream.reader c.stream.replay h (g.met.S.Source.bytes c.stream.input),
      all_told c.args.reader.now.progress (base_in c.args.store.now (g.B.Base.commits c.args.base.now) (g.B.Base.refs c.args.base.now) (g.B.Base.blobs c.args.base.now)) c.args.store.now c.stream.store (g.S.Source.left c.args.input.now) (g.S.Source.left c.stream.input) c.stream.reader c.stream.replay h,
      step_refused c.args.reader.now.progress (base_in c.args.store.now (g.B.Base.commits c.args.base.now) (g.B.Base.refs c.args.base.now) (g.B.Base.blobs c.args.base.now)) c.args.store.now c.stream.store (g.S.Source.left c.args.input.now) (g.S.Source.left c.stream.input) c.stream.reader c.stream.replay h p c.next.new.self
          (subst (λ (n : Next). Follows (Ok n) c.stream.reader c.next.new.self) c.in-Ok-Command.field-0-is c.in-Ok-Command.ensures.follows)
          c.step.new.store c.step.new.self c.in-Err-step.fault
          (stepped_so_far c.args.reader.now.progress c.args.store.now c.stream.store (g.S.Source.left c.args.input.now) (g.S.Source.left c.stream.input) c.stream.reader c.stream.replay (g.B.Base.commits c.args.base.now) (g.B.Base.refs c.args.base.now) (g.B.Base.blobs c.args.base.now) c.requires.base h c.step.new.store c.step.new.self p (Err c.in-Err-step.fault) (c.in-Err-step.ensures h.state h.stands)),
    )

pub stream-preserved-in-Ok : goal.stream-preserved-in-Ok
stream-preserved-in-Ok g c =
    let h = c.stream.invariant.so_far in
    let p = c.in-Ok-Command.placed in
    let t = subst (λ (n : Next). TellsNext (Ok n) c.stream.reader c.next.new.self) c.in-Ok-Command.field-0-is c.in-Ok-Command.ensures.told in
    record {
      so_far = one_more c.args.reader.now.progress (base_in c.args.store.now (g.B.Base.commits c.args.base.now) (g.B.Base.refs c.args.base.now) (g.B.Base.blobs c.args.base.now)) c.args.store.now c.stream.store (g.S.Source.left c.args.input.now) (g.S.Source.left c.stream.input) c.stream.reader c.next.new.self c.stream.replay h p t.0 t.1 c.in-Ok-Command.ensures.came
          (subst (λ (n : Next). Follows (Ok n) c.stream.reader c.next.new.self) c.in-Ok-Command.field-0-is c.in-Ok-Command.ensures.follows)
          c.step.new.store c.step.new.self
          (stepped_so_far c.args.reader.now.progress c.args.store.now c.stream.store (g.S.Source.left c.args.input.now) (g.S.Source.left c.stream.input) c.stream.reader c.stream.replay (g.B.Base.commits c.args.base.now) (g.B.Base.refs c.args.base.now) (g.B.Base.blobs c.args.base.now) c.requires.base h c.step.new.store c.step.new.self p (Ok c.in-Ok.field-0) (c.in-Ok.ensures h.state h.stands));
      told = c.stream.invariant.told;
      later = c.stream.invariant.later;
      within = omega (arith, c.in-Ok-Command.ensures.came, c.stream.invariant.within);
    }

pub feed_on-requires-clause-open : goal.feed_on-requires-clause-open
feed_on-requires-clause-open g c =
    more_open c.stream.reader c.next.new.self (subst (λ (n : Next). TellsNext (Ok n) c.stream.reader c.next.new.self) c.in-Ok-More.field-0-is c.in-Ok-More.ensures.told)

pub returns-in-Err-feed_on-clause-stream : goal.returns-in-Err-feed_on-clause-stream
returns-in-Err-feed_on-clause-stream g c =
    let h = c.stream.invariant.so_far in (
      all c.args.reader.now.progress (base_in c.args.store.now (g.B.Base.commits c.args.base.now) (g.B.Base.refs c.args.base.now) (g.B.Base.blobs c.args.base.now)) c.args.store.now c.stream.store (g.S.Source.left c.args.input.now) (g.S.Source.left c.stream.input) c.stream.reader c.stream.replay h,
      all_bytes c.args.reader.now.progress (base_in c.args.store.now (g.B.Base.commits c.args.base.now) (g.B.Base.refs c.args.base.now) (g.B.Base.blobs c.args.base.now)) c.args.store.now c.stream.store (g.S.Source.left c.args.input.now) (g.S.Source.left c.stream.input) c.stream.reader c.stream.replay h (g.met.S.Source.bytes c.stream.input),
      all_told c.args.reader.now.progress (base_in c.args.store.now (g.B.Base.commits c.args.base.now) (g.B.Base.refs c.args.base.now) (g.B.Base.blobs c.args.base.now)) c.args.store.now c.stream.store (g.S.Source.left c.args.input.now) (g.S.Source.left c.stream.input) c.stream.reader c.stream.replay h,
      feeding_refused c.args.reader.now.progress (base_in c.args.store.now (g.B.Base.commits c.args.base.now) (g.B.Base.refs c.args.base.now) (g.B.Base.blobs c.args.base.now)) c.args.store.now c.stream.store (g.S.Source.left c.args.input.now) (g.S.Source.left c.stream.input) c.stream.reader c.stream.replay h c.in-Err-feed_on.error c.in-Err-feed_on.ensures.err,
    )

pub stream-smaller : goal.stream-smaller
stream-smaller g c =
    let t = subst (λ (n : Next). TellsNext (Ok n) c.stream.reader c.next.new.self) c.in-Ok-More.field-0-is c.in-Ok-More.ensures.told in
    let w = subst (λ (n : Next). OnMore (Ok n) (came c.stream.reader ≤ STREAM_BYTES)) c.in-Ok-More.field-0-is c.in-Ok-More.ensures.more in
    let s : ahead c.feed_on.new.reader < ahead c.stream.reader = ahead_fed (g.S.Source.left c.stream.input) (g.S.Source.left c.feed_on.new.input) c.stream.reader c.next.new.self c.feed_on.new.reader _ c.in-Ok-More.ensures.came t.1.ended (more_open c.stream.reader c.next.new.self t) w (search rules) c.in-Ok-feed_on.ensures.fed in
    s

pub stream-preserved : goal.stream-preserved
stream-preserved g c =
    let h = c.stream.invariant.so_far in
    let t = subst (λ (n : Next). TellsNext (Ok n) c.stream.reader c.next.new.self) c.in-Ok-More.field-0-is c.in-Ok-More.ensures.told in
    let w = subst (λ (n : Next). OnMore (Ok n) (came c.stream.reader ≤ STREAM_BYTES)) c.in-Ok-More.field-0-is c.in-Ok-More.ensures.more in
    record {
      so_far = fed_waiting c.args.reader.now.progress (base_in c.args.store.now (g.B.Base.commits c.args.base.now) (g.B.Base.refs c.args.base.now) (g.B.Base.blobs c.args.base.now)) c.args.store.now c.stream.store (g.S.Source.left c.args.input.now) (g.S.Source.left c.stream.input) (g.S.Source.left c.feed_on.new.input) c.stream.reader c.next.new.self c.feed_on.new.reader c.stream.replay _ (search rules) h t.1
          (subst (λ (n : Next). OnMore (Ok n) (IsNear c.stream.reader)) c.in-Ok-More.field-0-is c.in-Ok-More.ensures.near)
          (subst (λ (n : Next). Follows (Ok n) c.stream.reader c.next.new.self) c.in-Ok-More.field-0-is c.in-Ok-More.ensures.follows)
          (more_open c.stream.reader c.next.new.self t) c.in-Ok-feed_on.ensures.fed;
      told = (λ x. c.stream.invariant.told.0 (c.in-Ok-feed_on.ensures.told.0 x), λ x. c.in-Ok-feed_on.ensures.told.1 (c.stream.invariant.told.1 x));
      later = omega (arith, c.stream.invariant.later, c.in-Ok-feed_on.ensures.cause.later);
      within = within_fed (g.S.Source.left c.stream.input) (g.S.Source.left c.feed_on.new.input) c.next.new.self c.feed_on.new.reader _ (omega (arith, w, c.in-Ok-More.ensures.came)) c.in-Ok-feed_on.ensures.fed (search rules);
    }

-- ---- how much was given

pub returns-in-Err-clause-taken : goal.returns-in-Err-clause-taken
returns-in-Err-clause-taken g c =
    let h = c.stream.invariant.so_far in
    taken_refused c.args.reader.now.progress (base_in c.args.store.now (g.B.Base.commits c.args.base.now) (g.B.Base.refs c.args.base.now) (g.B.Base.blobs c.args.base.now)) c.args.store.now c.stream.store (g.S.Source.left c.args.input.now) (g.S.Source.left c.stream.input) c.stream.reader c.stream.replay h (Stream c.in-Err.fault)

pub returns-in-Ok-Ended-clause-taken : goal.returns-in-Ok-Ended-clause-taken
returns-in-Ok-Ended-clause-taken g c =
    let h = c.stream.invariant.so_far in
    let t = subst (λ (n : Next). TellsNext (Ok n) c.stream.reader c.next.new.self) c.in-Ok-Ended.field-0-is c.in-Ok-Ended.ensures.told in
    taken_given c.args.reader.now.progress (base_in c.args.store.now (g.B.Base.commits c.args.base.now) (g.B.Base.refs c.args.base.now) (g.B.Base.blobs c.args.base.now)) c.args.store.now c.stream.store (g.S.Source.left c.args.input.now) (g.S.Source.left c.stream.input) c.stream.reader c.stream.replay h c.next.new.self t.0 c.in-Ok-Ended.ensures.came {A = Unit} tt

pub returns-in-Err-step-clause-taken : goal.returns-in-Err-step-clause-taken
returns-in-Err-step-clause-taken g c =
    let h = c.stream.invariant.so_far in
    taken_refused c.args.reader.now.progress (base_in c.args.store.now (g.B.Base.commits c.args.base.now) (g.B.Base.refs c.args.base.now) (g.B.Base.blobs c.args.base.now)) c.args.store.now c.stream.store (g.S.Source.left c.args.input.now) (g.S.Source.left c.stream.input) c.stream.reader c.stream.replay h (Stream c.in-Err-step.fault)

pub returns-in-Err-feed_on-clause-taken : goal.returns-in-Err-feed_on-clause-taken
returns-in-Err-feed_on-clause-taken g c =
    let h = c.stream.invariant.so_far in
    let t = subst (λ (n : Next). TellsNext (Ok n) c.stream.reader c.next.new.self) c.in-Ok-More.field-0-is c.in-Ok-More.ensures.told in
    taken_feeding c.args.reader.now.progress (base_in c.args.store.now (g.B.Base.commits c.args.base.now) (g.B.Base.refs c.args.base.now) (g.B.Base.blobs c.args.base.now)) c.args.store.now c.stream.store (g.S.Source.left c.args.input.now) (g.S.Source.left c.stream.input) c.stream.reader c.stream.replay h (subst (λ (n : Next). OnMore (Ok n) (IsNear c.stream.reader)) c.in-Ok-More.field-0-is c.in-Ok-More.ensures.near)
    (sym t.1.ended ∙ more_open c.stream.reader c.next.new.self t) (g.S.Source.left c.feed_on.new.input)
    (c.in-Err-feed_on.ensures.given.0, c.in-Err-feed_on.ensures.given.1, (let few : length c.stream.piece ≤ 65536 = search rules in omega (arith, c.in-Err-feed_on.ensures.given.2, few))) c.in-Err-feed_on.error

-- ---- no more is taken than a stream may have, and a piece

pub returns-in-Err-clause-within : goal.returns-in-Err-clause-within
returns-in-Err-clause-within g c = within_stopped c.args.reader.now.progress (base_in c.args.store.now (g.B.Base.commits c.args.base.now) (g.B.Base.refs c.args.base.now) (g.B.Base.blobs c.args.base.now)) c.args.store.now c.stream.store (g.S.Source.left c.args.input.now) (g.S.Source.left c.stream.input) c.stream.reader c.stream.replay c.stream.invariant.so_far c.stream.invariant.within

pub returns-in-Ok-Ended-clause-within : goal.returns-in-Ok-Ended-clause-within
returns-in-Ok-Ended-clause-within g c = within_stopped c.args.reader.now.progress (base_in c.args.store.now (g.B.Base.commits c.args.base.now) (g.B.Base.refs c.args.base.now) (g.B.Base.blobs c.args.base.now)) c.args.store.now c.stream.store (g.S.Source.left c.args.input.now) (g.S.Source.left c.stream.input) c.stream.reader c.stream.replay c.stream.invariant.so_far c.stream.invariant.within

pub returns-in-Err-step-clause-within : goal.returns-in-Err-step-clause-within
returns-in-Err-step-clause-within g c = within_stopped c.args.reader.now.progress (base_in c.args.store.now (g.B.Base.commits c.args.base.now) (g.B.Base.refs c.args.base.now) (g.B.Base.blobs c.args.base.now)) c.args.store.now c.stream.store (g.S.Source.left c.args.input.now) (g.S.Source.left c.stream.input) c.stream.reader c.stream.replay c.stream.invariant.so_far c.stream.invariant.within

pub returns-in-Err-feed_on-clause-within : goal.returns-in-Err-feed_on-clause-within
returns-in-Err-feed_on-clause-within g c =
    let w = subst (λ (n : Next). OnMore (Ok n) (came c.stream.reader ≤ STREAM_BYTES)) c.in-Ok-More.field-0-is c.in-Ok-More.ensures.more in
    let few : length c.stream.piece ≤ 65536 = search rules in
    within_feeding c.args.reader.now.progress (base_in c.args.store.now (g.B.Base.commits c.args.base.now) (g.B.Base.refs c.args.base.now) (g.B.Base.blobs c.args.base.now)) c.args.store.now c.stream.store (g.S.Source.left c.args.input.now) (g.S.Source.left c.stream.input) c.stream.reader c.stream.replay c.stream.invariant.so_far w (g.S.Source.left c.feed_on.new.input)
    (c.in-Err-feed_on.ensures.given.0, c.in-Err-feed_on.ensures.given.1, omega (arith, c.in-Err-feed_on.ensures.given.2, few))
