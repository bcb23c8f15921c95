use Rattle.std.proofs.Common.{◌≤◌, refl, sym, subst, arith}
use Rattle.filter_text.specs.Shapes.{shape}
use Rattle.push_back.specs.Faults.{of_apply}
use Rattle.push_back.proofs.Planned.{apply-reads, err-taken, input-bytes, input-of, input-told, none-taken, quiet-fault, told-fault}
use Rattle.history_ground.specs.Origins.{AreFirsts, Firsts}
use Rattle.merge_push.specs.Planning.{IsPlannedAs}
use Rattle.merge_push.specs.Waited.{merges_waited}
use Rattle.push_back.specs.declared.fault.PushFault.{PushFault}
use Rattle.merge_laws.specs.Merges.{merging}
use Rattle.projection_ground.specs.Grounds.{commits_of}
use Rattle.std.specs.Prelude.{Err}
use Rattle.merge_push.proofs.Planned.{brought-quiet, firsts-there, later-taken, not-based, not-replayed, planned, pushed-by, replayed-head, replayed-same, upon-waited}
use Rattle.merge_push.proofs.planning.planned.Goals as goal
use Rattle.fast_import.proofs.Stopping.{within_none}

-- ---- there is no base

pub returns-in-Err-clause-planned : goal.returns-in-Err-clause-planned
returns-in-Err-clause-planned g c =
    let f = shape c.args.filter.now in
    let q = c.args.refname.now in
    let n = c.args.head.now.0 in
    let G = c.args.ground.now in
    let h = c.base_of.new.ground in
    let o = g.S.Source.left c.args.input.now in
    let all = input-of o in (
      all,
      input-bytes o (g.met.S.Source.bytes c.args.input.now),
      input-told o,
      subst (λ (e : PushFault). IsPlannedAs f q n all G h (Err e)) (sym c.from.ensures)
          (not-based f q n G h c.base_of.ensures.same c.base_of.ensures.map all c.in-Err.error c.in-Err.ensures.err),
    )

pub returns-in-Err-clause-taken : goal.returns-in-Err-clause-taken
returns-in-Err-clause-taken g c =
    none-taken (merges_waited (shape c.args.filter.now) c.args.ground.now c.args.refname.now c.args.head.now.0) (g.S.Source.left c.args.input.now) (Err c.from.result) c.from.result refl

pub returns-in-Err-clause-told : goal.returns-in-Err-clause-told
returns-in-Err-clause-told g c = (λ t. t, λ t. t)

pub returns-in-Err-clause-cause : goal.returns-in-Err-clause-cause
returns-in-Err-clause-cause g c =
    let n = g.S.Source.faults c.args.input.now in
    let same : n ≤ n = omega arith in
    quiet-fault n n same (Err c.from.result) c.from.result (of_apply c.in-Err.error) refl c.from.ensures (apply-reads c.in-Err.error)

-- ---- the stream isn't replayed

pub replay_merges-requires : goal.replay_merges-requires
replay_merges-requires g c = c.in-Ok.ensures.ok.there

pub returns-in-Err-replay_merges-clause-planned : goal.returns-in-Err-replay_merges-clause-planned
returns-in-Err-replay_merges-clause-planned g c =
    let f = shape c.args.filter.now in
    let q = c.args.refname.now in
    let n = c.args.head.now.0 in
    let G = c.args.ground.now in
    let h = c.base_of.new.ground in
    let s = c.replay_merges.ensures.stream in (
      s.0,
      s.1,
      s.2,
      subst (λ (e : PushFault). IsPlannedAs f q n s.0 G (record h { store = c.replay_merges.new.store }) (Err e)) (sym c.from-in-Err-replay_merges.ensures)
          (not-replayed f q n G h c.base_of.ensures.same c.base_of.ensures.map c.requires.ground c.in-Ok.base c.in-Ok.ensures.ok s.0 s.1 c.replay_merges.new.store c.replay_merges.result s.3 c.in-Err-replay_merges.error c.in-Err-replay_merges.is),
    )

pub returns-in-Err-replay_merges-clause-taken : goal.returns-in-Err-replay_merges-clause-taken
returns-in-Err-replay_merges-clause-taken g c =
    let f = shape c.args.filter.now in
    let q = c.args.refname.now in
    let n = c.args.head.now.0 in
    let G = c.args.ground.now in
    let h = c.base_of.new.ground in
    let o = g.S.Source.left c.args.input.now in
    let p = g.S.Source.left c.replay_merges.new.input in
    let r = c.replay_merges.result in
    err-taken (merges_waited f G q n) o p r
    (upon-waited f q n G h c.base_of.ensures.same c.base_of.ensures.map c.requires.ground c.in-Ok.base c.in-Ok.ensures.ok o p r c.replay_merges.ensures.taken) (Err c.from-in-Err-replay_merges.result) c.from-in-Err-replay_merges.result refl

pub returns-in-Err-replay_merges-clause-told : goal.returns-in-Err-replay_merges-clause-told
returns-in-Err-replay_merges-clause-told g c = c.replay_merges.ensures.told

pub returns-in-Err-replay_merges-clause-cause : goal.returns-in-Err-replay_merges-clause-cause
returns-in-Err-replay_merges-clause-cause g c =
    told-fault (g.S.Source.faults c.args.input.now) (g.S.Source.faults c.replay_merges.new.input) c.replay_merges.result c.in-Err-replay_merges.error c.replay_merges.ensures.cause c.in-Err-replay_merges.is
    (Err c.from-in-Err-replay_merges.result) c.from-in-Err-replay_merges.result refl c.from-in-Err-replay_merges.ensures

-- ---- its commits are worked out

pub brought-requires-clause-ground : goal.brought-requires-clause-ground
brought-requires-clause-ground g c =
    let s = c.replay_merges.ensures.stream in
    (replayed-same (shape c.args.filter.now) c.args.refname.now c.args.head.now.0 c.args.ground.now c.base_of.new.ground c.base_of.ensures.same c.base_of.ensures.map c.requires.ground c.in-Ok.base c.in-Ok.ensures.ok s.0 s.1 c.replay_merges.new.store
    c.replay_merges.result s.3).ground

pub brought-requires-clause-head : goal.brought-requires-clause-head
brought-requires-clause-head g c =
    let s = c.replay_merges.ensures.stream in
    replayed-head (shape c.args.filter.now) c.args.refname.now c.args.head.now.0 c.args.ground.now c.base_of.new.ground c.base_of.ensures.same c.base_of.ensures.map c.requires.ground c.in-Ok.base c.in-Ok.ensures.ok s.0 s.1 c.replay_merges.new.store
    c.replay_merges.result s.3 c.requires.head

pub brought-requires-clause-origins : goal.brought-requires-clause-origins
brought-requires-clause-origins g c =
    let s = c.replay_merges.ensures.stream in
    let k = record c.base_of.new.ground { store = c.replay_merges.new.store } in
    subst (λ (os : Firsts). AreFirsts (shape c.args.filter.now) k k.store os) (sym c.origins.ensures)
    (firsts-there (shape c.args.filter.now) c.args.refname.now c.args.head.now.0 c.args.ground.now c.base_of.new.ground c.base_of.ensures.same c.base_of.ensures.map c.requires.ground c.in-Ok.base c.in-Ok.ensures.ok s.0 s.1 c.replay_merges.new.store
    c.replay_merges.result s.3)

pub brought-requires-clause-commits : goal.brought-requires-clause-commits
brought-requires-clause-commits g c =
    let f = shape c.args.filter.now in
    let q = c.args.refname.now in
    let n = c.args.head.now.0 in
    let G = c.args.ground.now in
    let s = c.replay_merges.ensures.stream in (
      (merging G.rule f (commits_of G) n q s.0).stream.state.commits,
      pushed-by f q n G c.base_of.new.ground c.base_of.ensures.same c.base_of.ensures.map c.requires.ground c.in-Ok.base c.in-Ok.ensures.ok s.0 s.1 c.replay_merges.new.store c.replay_merges.result s.3 c.in-Ok-replay_merges.replayed
          c.in-Ok-replay_merges.is c.merge_given_law.ensures c.joined_law.ensures.graph,
    )

pub returns-clause-planned : goal.returns-clause-planned
returns-clause-planned g c =
    let f = shape c.args.filter.now in
    let q = c.args.refname.now in
    let n = c.args.head.now.0 in
    let G = c.args.ground.now in
    let h = c.base_of.new.ground in
    let a = c.base_of.ensures.same in
    let m = c.base_of.ensures.map in
    let w = c.requires.ground in
    let b = c.in-Ok.base in
    let k = c.in-Ok.ensures.ok in
    let s = c.replay_merges.ensures.stream in
    let T = c.replay_merges.new.store in
    let r = c.replay_merges.result in
    let v = c.in-Ok-replay_merges.replayed in
    let cs = (merging G.rule f (commits_of G) n q s.0).stream.state.commits in
    let pushed = pushed-by f q n G h a m w b k s.0 s.1 T r s.3 v c.in-Ok-replay_merges.is c.merge_given_law.ensures c.joined_law.ensures.graph in (
      s.0,
      s.1,
      s.2,
      planned f q n G h a m w b k s.0 s.1 T r s.3 v c.in-Ok-replay_merges.is c.brought.new.ground c.brought.result (c.brought.ensures.brought cs pushed) (c.brought.ensures.same cs pushed) c.brought.ensures.map,
    )

pub returns-clause-taken : goal.returns-clause-taken
returns-clause-taken g c =
    let f = shape c.args.filter.now in
    let q = c.args.refname.now in
    let n = c.args.head.now.0 in
    let G = c.args.ground.now in
    let h = c.base_of.new.ground in
    let o = g.S.Source.left c.args.input.now in
    let p = g.S.Source.left c.replay_merges.new.input in
    let r = c.replay_merges.result in
    later-taken (merges_waited f G q n) o p r
    (upon-waited f q n G h c.base_of.ensures.same c.base_of.ensures.map c.requires.ground c.in-Ok.base c.in-Ok.ensures.ok o p r c.replay_merges.ensures.taken) c.in-Ok-replay_merges.replayed c.in-Ok-replay_merges.is c.brought.result

pub returns-clause-told : goal.returns-clause-told
returns-clause-told g c = c.replay_merges.ensures.told

pub returns-clause-cause : goal.returns-clause-cause
returns-clause-cause g c =
    let f = shape c.args.filter.now in
    let q = c.args.refname.now in
    let n = c.args.head.now.0 in
    let G = c.args.ground.now in
    let h = c.base_of.new.ground in
    let s = c.replay_merges.ensures.stream in
    let cs = (merging G.rule f (commits_of G) n q s.0).stream.state.commits in
    let pushed = pushed-by f q n G h c.base_of.ensures.same c.base_of.ensures.map c.requires.ground c.in-Ok.base c.in-Ok.ensures.ok s.0 s.1 c.replay_merges.new.store c.replay_merges.result s.3 c.in-Ok-replay_merges.replayed
    c.in-Ok-replay_merges.is c.merge_given_law.ensures c.joined_law.ensures.graph in
    brought-quiet (g.S.Source.faults c.args.input.now) (g.S.Source.faults c.replay_merges.new.input) c.replay_merges.ensures.cause.later f (record h { store = c.replay_merges.new.store }) n cs c.in-Ok-replay_merges.replayed c.brought.new.ground.store
    c.brought.result (c.brought.ensures.brought cs pushed)

-- ---- nothing was read yet

pub returns-in-Err-clause-within : goal.returns-in-Err-clause-within
returns-in-Err-clause-within g c = within_none (g.S.Source.left c.args.input.now)
