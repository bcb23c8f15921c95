-- Proves what src/planning.rt needs of `plan`.
use Rattle.std.proofs.Common.{◌≤◌, ◌∙◌, List, length, map, Ok, refl, sym, ap, subst, arith}
use Rattle.std.proofs.lemmas.Result.{err_from_is_err_and}
use Rattle.git_objects.specs.declared.limits.TheConstants.{STREAM_BYTES}
use Rattle.filter_text.specs.Shapes.{shape}
use Rattle.fast_import.specs.Standing.{AreCommitsIn}
use Rattle.fast_import.specs.declared.replayed.Made.{Made}
use Rattle.fast_import.proofs.Stopping.{within_none}
use Rattle.push_back.specs.Faults.{of_apply, of_original, of_stream}
use Rattle.push_back.specs.Waited.{plan_waited}
use Rattle.push_laws.specs.PushReplays.{push_replay}
use Rattle.push_back.specs.declared.fault.PushFault.TheVariants.{OutOfMemory}
use Rattle.push_back.specs.declared.brought.Plan.{Plan}
use Rattle.push_back.proofs.Planned.{apply-reads, as-many, as-planned, commits-there, early, err-taken, from, handed, no-base, no-pairs, none-taken, not-replayed, not-seen, not-worked, original-reads, plan-taken, planned, quiet-fault, quiet-memory, quiet-plan, replayed-head, replayed-same, replayed-tree, seen, told-fault, upon-base, upon-waited, whole-as}
use Rattle.push_back.proofs.planning.plan.Goals as goal

pub seen_head-requires-clause-usable : goal.seen_head-requires-clause-usable
seen_head-requires-clause-usable g c = c.requires.usable

pub seen_head-requires-clause-ground : goal.seen_head-requires-clause-ground
seen_head-requires-clause-ground g c = c.requires.ground

pub seen_head-requires-clause-head : goal.seen_head-requires-clause-head
seen_head-requires-clause-head g c = c.requires.head

pub returns-in_err-seen-clause-planned : goal.returns-in_err-seen-clause-planned
returns-in_err-seen-clause-planned g c =
    let f = shape c.args.filter.now in
    let q = c.args.refname.now in
    let n = c.args.head.now.0 in
    let G = c.args.ground.now in
    let h = c.seen_head.new.ground in
    let e = c.in_err-seen.field-0.0 in
    let p = err_from_is_err_and c.from_residual.result c.from_residual.ensures.1 in
    early f q n G (g.S.Source.left c.args.input.now) (g.met.S.Source.bytes c.args.input.now) h c.from_residual.result p.0 (of_apply e) p.1 p.2
    (λ y. not-seen f q n G y h c.seen_head.ensures.same c.seen_head.ensures.map e c.in_err-seen.ensures.err)

pub returns-in_err-seen-clause-told : goal.returns-in_err-seen-clause-told
returns-in_err-seen-clause-told g c = (λ t. t, λ t. t)

pub returns-in_err-seen-clause-cause : goal.returns-in_err-seen-clause-cause
returns-in_err-seen-clause-cause g c =
    let n = g.S.Source.faults c.args.input.now in
    let same : n ≤ n = omega arith in
    let p = err_from_is_err_and c.from_residual.result c.from_residual.ensures.1 in
    quiet-fault n n same c.from_residual.result p.0 (of_apply c.in_err-seen.field-0.0) p.1 p.2 (apply-reads c.in_err-seen.field-0.0)

pub returns-in_err-copy-clause-planned : goal.returns-in_err-copy-clause-planned
returns-in_err-copy-clause-planned g c =
    let f = shape c.args.filter.now in
    let q = c.args.refname.now in
    let n = c.args.head.now.0 in
    let G = c.args.ground.now in
    let h = c.seen_head.new.ground in
    let p = err_from_is_err_and c.from_residual-in_err-copy.result c.from_residual-in_err-copy.ensures.1 in
    early f q n G (g.S.Source.left c.args.input.now) (g.met.S.Source.bytes c.args.input.now) h c.from_residual-in_err-copy.result p.0 OutOfMemory p.1 p.2
    (λ y. no-base f q n G y h c.seen_head.ensures.same c.seen_head.ensures.map)

pub returns-in_err-copy-clause-told : goal.returns-in_err-copy-clause-told
returns-in_err-copy-clause-told g c = (λ t. t, λ t. t)

pub returns-in_err-copy-clause-cause : goal.returns-in_err-copy-clause-cause
returns-in_err-copy-clause-cause g c =
    let n = g.S.Source.faults c.args.input.now in
    let same : n ≤ n = omega arith in
    let p = err_from_is_err_and c.from_residual-in_err-copy.result c.from_residual-in_err-copy.ensures.1 in
    quiet-fault n n same c.from_residual-in_err-copy.result p.0 OutOfMemory p.1 p.2 quiet-memory

pub new-requires : goal.new-requires
new-requires g c = c.in_ok-seen.ensures.ok.stands.held

pub returns-in_err-base-clause-planned : goal.returns-in_err-base-clause-planned
returns-in_err-base-clause-planned g c =
    let f = shape c.args.filter.now in
    let q = c.args.refname.now in
    let n = c.args.head.now.0 in
    let G = c.args.ground.now in
    let h = c.seen_head.new.ground in
    let p = err_from_is_err_and c.from_residual-in_err-base.result c.from_residual-in_err-base.ensures.1 in
    early f q n G (g.S.Source.left c.args.input.now) (g.met.S.Source.bytes c.args.input.now) h c.from_residual-in_err-base.result p.0 OutOfMemory p.1 p.2
    (λ y. no-base f q n G y h c.seen_head.ensures.same c.seen_head.ensures.map)

pub returns-in_err-base-clause-told : goal.returns-in_err-base-clause-told
returns-in_err-base-clause-told g c = (λ t. t, λ t. t)

pub returns-in_err-base-clause-cause : goal.returns-in_err-base-clause-cause
returns-in_err-base-clause-cause g c =
    let n = g.S.Source.faults c.args.input.now in
    let same : n ≤ n = omega arith in
    let p = err_from_is_err_and c.from_residual-in_err-base.result c.from_residual-in_err-base.ensures.1 in
    quiet-fault n n same c.from_residual-in_err-base.result p.0 OutOfMemory p.1 p.2 quiet-memory

pub replay_push-requires : goal.replay_push-requires
replay_push-requires g c = c.in_ok-base.ensures.there c.in_ok-seen.ensures.ok.there

pub returns-in_err-replayed-clause-planned : goal.returns-in_err-replayed-clause-planned
returns-in_err-replayed-clause-planned g c =
    let f = shape c.args.filter.now in
    let q = c.args.refname.now in
    let n = c.args.head.now.0 in
    let G = c.args.ground.now in
    let h = c.seen_head.new.ground in
    let T = c.replay_push.new.store in
    let s = c.replay_push.ensures.stream in
    let e = c.in_err-replayed.field-0.0 in
    let p = err_from_is_err_and c.from_residual-in_err-replayed.result c.from_residual-in_err-replayed.ensures.1 in
    let b = c.in_ok-base.ensures in
    let r = c.replay_push.result in
    let w = whole-as f q n G h.store T s.0 r (upon-base f q n G h c.in_ok-seen.seen c.in_ok-seen.ensures.ok c.in_ok-base.base (b.refname ∙ c.in_ok-copy.ensures) b.from b.shown s.0 T r s.3) in
    let y = push_replay q (from f q n G) (seen f q n G) s.0 in (
      s.0,
      s.1,
      s.2,
      handed f q n G (record h { store = T }) s.0 c.from_residual-in_err-replayed.result p.0 (of_stream e) p.1 p.2
          (not-replayed f q n G y h c.seen_head.ensures.same c.seen_head.ensures.map c.requires.ground T r w e c.in_err-replayed.was),
    )

pub returns-in_err-replayed-clause-told : goal.returns-in_err-replayed-clause-told
returns-in_err-replayed-clause-told g c = c.replay_push.ensures.told

pub returns-in_err-replayed-clause-cause : goal.returns-in_err-replayed-clause-cause
returns-in_err-replayed-clause-cause g c =
    let p = err_from_is_err_and c.from_residual-in_err-replayed.result c.from_residual-in_err-replayed.ensures.1 in
    told-fault (g.S.Source.faults c.args.input.now) (g.S.Source.faults c.replay_push.new.input) c.replay_push.result c.in_err-replayed.field-0.0 c.replay_push.ensures.cause c.in_err-replayed.was c.from_residual-in_err-replayed.result p.0 p.1 p.2

pub originals-requires-clause-usable : goal.originals-requires-clause-usable
originals-requires-clause-usable g c = c.requires.usable

pub originals-requires-clause-ground : goal.originals-requires-clause-ground
originals-requires-clause-ground g c =
    let f = shape c.args.filter.now in
    let q = c.args.refname.now in
    let n = c.args.head.now.0 in
    let G = c.args.ground.now in
    let h = c.seen_head.new.ground in
    let a = c.seen_head.ensures.same in
    let m = c.seen_head.ensures.map in
    let T = c.replay_push.new.store in
    let s = c.replay_push.ensures.stream in
    let r = c.replay_push.result in
    let b = c.in_ok-base.ensures in
    let k = c.in_ok-seen.ensures.ok in
    let w = whole-as f q n G h.store T s.0 r (upon-base f q n G h c.in_ok-seen.seen k c.in_ok-base.base (b.refname ∙ c.in_ok-copy.ensures) b.from b.shown s.0 T r s.3) in
    let y = push_replay q (from f q n G) (seen f q n G) s.0 in
    (replayed-same f q n G y h a m c.requires.ground T r w).ground

pub originals-requires-clause-head : goal.originals-requires-clause-head
originals-requires-clause-head g c =
    let f = shape c.args.filter.now in
    let q = c.args.refname.now in
    let n = c.args.head.now.0 in
    let G = c.args.ground.now in
    let h = c.seen_head.new.ground in
    let a = c.seen_head.ensures.same in
    let m = c.seen_head.ensures.map in
    let T = c.replay_push.new.store in
    let s = c.replay_push.ensures.stream in
    let r = c.replay_push.result in
    let b = c.in_ok-base.ensures in
    let k = c.in_ok-seen.ensures.ok in
    let w = whole-as f q n G h.store T s.0 r (upon-base f q n G h c.in_ok-seen.seen k c.in_ok-base.base (b.refname ∙ c.in_ok-copy.ensures) b.from b.shown s.0 T r s.3) in
    let y = push_replay q (from f q n G) (seen f q n G) s.0 in
    replayed-head f q n G y h a m c.requires.ground T r w c.requires.head

pub originals-requires-clause-seen : goal.originals-requires-clause-seen
originals-requires-clause-seen g c =
    let f = shape c.args.filter.now in
    let q = c.args.refname.now in
    let n = c.args.head.now.0 in
    let G = c.args.ground.now in
    let h = c.seen_head.new.ground in
    let a = c.seen_head.ensures.same in
    let m = c.seen_head.ensures.map in
    let T = c.replay_push.new.store in
    let s = c.replay_push.ensures.stream in
    let r = c.replay_push.result in
    let b = c.in_ok-base.ensures in
    let k = c.in_ok-seen.ensures.ok in
    let w = whole-as f q n G h.store T s.0 r (upon-base f q n G h c.in_ok-seen.seen k c.in_ok-base.base (b.refname ∙ c.in_ok-copy.ensures) b.from b.shown s.0 T r s.3) in
    let y = push_replay q (from f q n G) (seen f q n G) s.0 in
    replayed-tree f q n G y h a m c.requires.ground T r w c.in_ok-seen.seen.tree k.stands

pub originals-requires-clause-commits : goal.originals-requires-clause-commits
originals-requires-clause-commits g c =
    let f = shape c.args.filter.now in
    let q = c.args.refname.now in
    let n = c.args.head.now.0 in
    let G = c.args.ground.now in
    let h = c.seen_head.new.ground in
    let a = c.seen_head.ensures.same in
    let m = c.seen_head.ensures.map in
    let T = c.replay_push.new.store in
    let s = c.replay_push.ensures.stream in
    let r = c.replay_push.result in
    let b = c.in_ok-base.ensures in
    let k = c.in_ok-seen.ensures.ok in
    let w = whole-as f q n G h.store T s.0 r (upon-base f q n G h c.in_ok-seen.seen k c.in_ok-base.base (b.refname ∙ c.in_ok-copy.ensures) b.from b.shown s.0 T r s.3) in
    let y = push_replay q (from f q n G) (seen f q n G) s.0 in
    let v = c.in_ok-replayed.replayed in
    let cs = y.state.commits in
    (cs, subst (λ (ms : List Made). AreCommitsIn T ms cs) (sym c.deref.ensures.value) (commits-there f q n G y h a m c.requires.ground T r w v c.in_ok-replayed.was))

pub originals-requires-clause-few : goal.originals-requires-clause-few
originals-requires-clause-few g c = subst (λ (ms : List Made). length ms ≤ STREAM_BYTES) (sym c.deref.ensures.value) c.in_ok-replayed.ensures.few

pub returns-in_err-names-clause-planned : goal.returns-in_err-names-clause-planned
returns-in_err-names-clause-planned g c =
    let f = shape c.args.filter.now in
    let q = c.args.refname.now in
    let n = c.args.head.now.0 in
    let G = c.args.ground.now in
    let h = c.seen_head.new.ground in
    let a = c.seen_head.ensures.same in
    let m = c.seen_head.ensures.map in
    let T = c.replay_push.new.store in
    let s = c.replay_push.ensures.stream in
    let r = c.replay_push.result in
    let b = c.in_ok-base.ensures in
    let k = c.in_ok-seen.ensures.ok in
    let w = whole-as f q n G h.store T s.0 r (upon-base f q n G h c.in_ok-seen.seen k c.in_ok-base.base (b.refname ∙ c.in_ok-copy.ensures) b.from b.shown s.0 T r s.3) in
    let y = push_replay q (from f q n G) (seen f q n G) s.0 in
    let v = c.in_ok-replayed.replayed in
    let t = c.in_ok-seen.seen.tree in
    let cs = y.state.commits in
    let there = subst (λ (ms : List Made). AreCommitsIn T ms cs) (sym c.deref.ensures.value) (commits-there f q n G y h a m c.requires.ground T r w v c.in_ok-replayed.was) in
    let l = c.originals.new.ground in
    let o = c.originals.ensures in
    let e = c.in_err-names.field-0.0 in
    let p = err_from_is_err_and c.from_residual-in_err-names.result c.from_residual-in_err-names.ensures.1 in (
      s.0,
      s.1,
      s.2,
      handed f q n G l s.0 c.from_residual-in_err-names.result p.0 (of_original e.n e.refusal) p.1 p.2
          (not-worked f q n G y h a m c.requires.ground T r w v c.in_ok-replayed.was t k.stands l c.originals.result (o.ok cs there) (o.err cs there) (o.same cs there) e c.in_err-names.was),
    )

pub returns-in_err-names-clause-told : goal.returns-in_err-names-clause-told
returns-in_err-names-clause-told g c = c.replay_push.ensures.told

pub returns-in_err-names-clause-cause : goal.returns-in_err-names-clause-cause
returns-in_err-names-clause-cause g c =
    let e = c.in_err-names.field-0.0 in
    let p = err_from_is_err_and c.from_residual-in_err-names.result c.from_residual-in_err-names.ensures.1 in
    quiet-fault (g.S.Source.faults c.args.input.now) (g.S.Source.faults c.replay_push.new.input) c.replay_push.ensures.cause.later c.from_residual-in_err-names.result p.0 (of_original e.n e.refusal) p.1 p.2
    (original-reads e.n e.refusal)

pub pairs-requires : goal.pairs-requires
pairs-requires g c =
    let f = shape c.args.filter.now in
    let q = c.args.refname.now in
    let n = c.args.head.now.0 in
    let G = c.args.ground.now in
    let h = c.seen_head.new.ground in
    let a = c.seen_head.ensures.same in
    let m = c.seen_head.ensures.map in
    let T = c.replay_push.new.store in
    let s = c.replay_push.ensures.stream in
    let r = c.replay_push.result in
    let b = c.in_ok-base.ensures in
    let k = c.in_ok-seen.ensures.ok in
    let w = whole-as f q n G h.store T s.0 r (upon-base f q n G h c.in_ok-seen.seen k c.in_ok-base.base (b.refname ∙ c.in_ok-copy.ensures) b.from b.shown s.0 T r s.3) in
    let y = push_replay q (from f q n G) (seen f q n G) s.0 in
    let v = c.in_ok-replayed.replayed in
    let t = c.in_ok-seen.seen.tree in
    let cs = y.state.commits in
    let there = subst (λ (ms : List Made). AreCommitsIn T ms cs) (sym c.deref.ensures.value) (commits-there f q n G y h a m c.requires.ground T r w v c.in_ok-replayed.was) in
    let l = c.originals.new.ground in
    let o = c.originals.ensures in
    ap length c.deref-3.ensures.value
    ∙ as-many f q n G y h a m c.requires.ground T r w v c.in_ok-replayed.was t k.stands l c.originals.result (o.ok cs there) (o.err cs there) (o.same cs there) c.in_ok-names.names c.in_ok-names.was
    ∙ ap length (sym c.deref-2.ensures.value)

pub returns-in_err-commits-clause-planned : goal.returns-in_err-commits-clause-planned
returns-in_err-commits-clause-planned g c =
    let f = shape c.args.filter.now in
    let q = c.args.refname.now in
    let n = c.args.head.now.0 in
    let G = c.args.ground.now in
    let h = c.seen_head.new.ground in
    let a = c.seen_head.ensures.same in
    let m = c.seen_head.ensures.map in
    let T = c.replay_push.new.store in
    let s = c.replay_push.ensures.stream in
    let r = c.replay_push.result in
    let b = c.in_ok-base.ensures in
    let k = c.in_ok-seen.ensures.ok in
    let w = whole-as f q n G h.store T s.0 r (upon-base f q n G h c.in_ok-seen.seen k c.in_ok-base.base (b.refname ∙ c.in_ok-copy.ensures) b.from b.shown s.0 T r s.3) in
    let y = push_replay q (from f q n G) (seen f q n G) s.0 in
    let v = c.in_ok-replayed.replayed in
    let t = c.in_ok-seen.seen.tree in
    let cs = y.state.commits in
    let there = subst (λ (ms : List Made). AreCommitsIn T ms cs) (sym c.deref.ensures.value) (commits-there f q n G y h a m c.requires.ground T r w v c.in_ok-replayed.was) in
    let l = c.originals.new.ground in
    let o = c.originals.ensures in
    let p = err_from_is_err_and c.from_residual-in_err-commits.result c.from_residual-in_err-commits.ensures.1 in (
      s.0,
      s.1,
      s.2,
      handed f q n G l s.0 c.from_residual-in_err-commits.result p.0 OutOfMemory p.1 p.2
          (no-pairs f q n G y h a m c.requires.ground T r w v c.in_ok-replayed.was t k.stands l c.originals.result (o.ok cs there) (o.err cs there) (o.same cs there)),
    )

pub returns-in_err-commits-clause-told : goal.returns-in_err-commits-clause-told
returns-in_err-commits-clause-told g c = c.replay_push.ensures.told

pub returns-in_err-commits-clause-cause : goal.returns-in_err-commits-clause-cause
returns-in_err-commits-clause-cause g c =
    let p = err_from_is_err_and c.from_residual-in_err-commits.result c.from_residual-in_err-commits.ensures.1 in
    quiet-fault (g.S.Source.faults c.args.input.now) (g.S.Source.faults c.replay_push.new.input) c.replay_push.ensures.cause.later c.from_residual-in_err-commits.result p.0 OutOfMemory p.1 p.2 quiet-memory

pub returns-clause-planned : goal.returns-clause-planned
returns-clause-planned g c =
    let f = shape c.args.filter.now in
    let q = c.args.refname.now in
    let n = c.args.head.now.0 in
    let G = c.args.ground.now in
    let h = c.seen_head.new.ground in
    let a = c.seen_head.ensures.same in
    let m = c.seen_head.ensures.map in
    let T = c.replay_push.new.store in
    let s = c.replay_push.ensures.stream in
    let r = c.replay_push.result in
    let b = c.in_ok-base.ensures in
    let k = c.in_ok-seen.ensures.ok in
    let w = whole-as f q n G h.store T s.0 r (upon-base f q n G h c.in_ok-seen.seen k c.in_ok-base.base (b.refname ∙ c.in_ok-copy.ensures) b.from b.shown s.0 T r s.3) in
    let y = push_replay q (from f q n G) (seen f q n G) s.0 in
    let v = c.in_ok-replayed.replayed in
    let t = c.in_ok-seen.seen.tree in
    let cs = y.state.commits in
    let there = subst (λ (ms : List Made). AreCommitsIn T ms cs) (sym c.deref.ensures.value) (commits-there f q n G y h a m c.requires.ground T r w v c.in_ok-replayed.was) in
    let l = c.originals.new.ground in
    let o = c.originals.ensures in
    let p : Plan = record { blobs = v.blobs; commits = c.in_ok-commits.commits } in (
      s.0,
      s.1,
      s.2,
      as-planned f q n G l s.0 (Ok p)
          (planned f q n G y h a m c.requires.ground T r w v c.in_ok-replayed.was t k.stands l c.originals.result (o.ok cs there) (o.err cs there) (o.same cs there) c.in_ok-names.names c.in_ok-names.was p refl
          (c.in_ok-commits.ensures.pushed ∙ ap (λ (ms : List Made). map (λ (x : Made). x.name) ms) c.deref-2.ensures.value)
          (c.in_ok-commits.ensures.originals ∙ c.deref-3.ensures.value)),
    )

pub returns-clause-told : goal.returns-clause-told
returns-clause-told g c = c.replay_push.ensures.told

pub returns-clause-cause : goal.returns-clause-cause
returns-clause-cause g c =
    quiet-plan (g.S.Source.faults c.args.input.now) (g.S.Source.faults c.replay_push.new.input) c.replay_push.ensures.cause.later (record { blobs = c.in_ok-replayed.replayed.blobs; commits = c.in_ok-commits.commits })

-- ---- how much was taken

pub returns-in_err-seen-clause-taken : goal.returns-in_err-seen-clause-taken
returns-in_err-seen-clause-taken g c =
    let p = err_from_is_err_and c.from_residual.result c.from_residual.ensures.1 in
    none-taken (plan_waited (shape c.args.filter.now) c.args.ground.now c.args.refname.now c.args.head.now.0) (g.S.Source.left c.args.input.now) c.from_residual.result p.0 p.1

pub returns-in_err-copy-clause-taken : goal.returns-in_err-copy-clause-taken
returns-in_err-copy-clause-taken g c =
    let p = err_from_is_err_and c.from_residual-in_err-copy.result c.from_residual-in_err-copy.ensures.1 in
    none-taken (plan_waited (shape c.args.filter.now) c.args.ground.now c.args.refname.now c.args.head.now.0) (g.S.Source.left c.args.input.now) c.from_residual-in_err-copy.result p.0 p.1

pub returns-in_err-base-clause-taken : goal.returns-in_err-base-clause-taken
returns-in_err-base-clause-taken g c =
    let p = err_from_is_err_and c.from_residual-in_err-base.result c.from_residual-in_err-base.ensures.1 in
    none-taken (plan_waited (shape c.args.filter.now) c.args.ground.now c.args.refname.now c.args.head.now.0) (g.S.Source.left c.args.input.now) c.from_residual-in_err-base.result p.0 p.1

pub returns-in_err-replayed-clause-taken : goal.returns-in_err-replayed-clause-taken
returns-in_err-replayed-clause-taken g c =
    let b = c.in_ok-base.ensures in
    let o = g.S.Source.left c.args.input.now in
    let l = g.S.Source.left c.replay_push.new.input in
    let r = c.replay_push.result in
    let taken = upon-waited (shape c.args.filter.now) c.args.refname.now c.args.head.now.0 c.args.ground.now c.seen_head.new.ground c.in_ok-seen.seen c.in_ok-seen.ensures.ok c.in_ok-base.base (b.refname ∙ c.in_ok-copy.ensures) b.from b.shown o l r c.replay_push.ensures.taken in
    let p = err_from_is_err_and c.from_residual-in_err-replayed.result c.from_residual-in_err-replayed.ensures.1 in
    err-taken (plan_waited (shape c.args.filter.now) c.args.ground.now c.args.refname.now c.args.head.now.0) o l r taken c.from_residual-in_err-replayed.result p.0 p.1

pub returns-in_err-names-clause-taken : goal.returns-in_err-names-clause-taken
returns-in_err-names-clause-taken g c =
    let b = c.in_ok-base.ensures in
    let o = g.S.Source.left c.args.input.now in
    let l = g.S.Source.left c.replay_push.new.input in
    let r = c.replay_push.result in
    let taken = upon-waited (shape c.args.filter.now) c.args.refname.now c.args.head.now.0 c.args.ground.now c.seen_head.new.ground c.in_ok-seen.seen c.in_ok-seen.ensures.ok c.in_ok-base.base (b.refname ∙ c.in_ok-copy.ensures) b.from b.shown o l r c.replay_push.ensures.taken in
    let p = err_from_is_err_and c.from_residual-in_err-names.result c.from_residual-in_err-names.ensures.1 in
    err-taken (plan_waited (shape c.args.filter.now) c.args.ground.now c.args.refname.now c.args.head.now.0) o l r taken c.from_residual-in_err-names.result p.0 p.1

pub returns-in_err-commits-clause-taken : goal.returns-in_err-commits-clause-taken
returns-in_err-commits-clause-taken g c =
    let b = c.in_ok-base.ensures in
    let o = g.S.Source.left c.args.input.now in
    let l = g.S.Source.left c.replay_push.new.input in
    let r = c.replay_push.result in
    let taken = upon-waited (shape c.args.filter.now) c.args.refname.now c.args.head.now.0 c.args.ground.now c.seen_head.new.ground c.in_ok-seen.seen c.in_ok-seen.ensures.ok c.in_ok-base.base (b.refname ∙ c.in_ok-copy.ensures) b.from b.shown o l r c.replay_push.ensures.taken in
    let p = err_from_is_err_and c.from_residual-in_err-commits.result c.from_residual-in_err-commits.ensures.1 in
    err-taken (plan_waited (shape c.args.filter.now) c.args.ground.now c.args.refname.now c.args.head.now.0) o l r taken c.from_residual-in_err-commits.result p.0 p.1

pub returns-clause-taken : goal.returns-clause-taken
returns-clause-taken g c =
    let b = c.in_ok-base.ensures in
    let o = g.S.Source.left c.args.input.now in
    let l = g.S.Source.left c.replay_push.new.input in
    let r = c.replay_push.result in
    let taken = upon-waited (shape c.args.filter.now) c.args.refname.now c.args.head.now.0 c.args.ground.now c.seen_head.new.ground c.in_ok-seen.seen c.in_ok-seen.ensures.ok c.in_ok-base.base (b.refname ∙ c.in_ok-copy.ensures) b.from b.shown o l r c.replay_push.ensures.taken in
    plan-taken (plan_waited (shape c.args.filter.now) c.args.ground.now c.args.refname.now c.args.head.now.0) o l r taken c.in_ok-replayed.replayed c.in_ok-replayed.was (record { blobs = c.in_ok-replayed.replayed.blobs; commits = c.in_ok-commits.commits })

-- ---- nothing was read yet

pub returns-in_err-seen-clause-within : goal.returns-in_err-seen-clause-within
returns-in_err-seen-clause-within g c = within_none (g.S.Source.left c.args.input.now)

pub returns-in_err-copy-clause-within : goal.returns-in_err-copy-clause-within
returns-in_err-copy-clause-within g c = within_none (g.S.Source.left c.args.input.now)

pub returns-in_err-base-clause-within : goal.returns-in_err-base-clause-within
returns-in_err-base-clause-within g c = within_none (g.S.Source.left c.args.input.now)
