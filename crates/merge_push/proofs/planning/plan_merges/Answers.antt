use Rattle.filter_text.specs.Shapes.{shape}
use Rattle.merge_push.specs.Waited.{merges_waited}
use Rattle.merge_push.proofs.Planned.{merge-cause, merge-taken, merge-taken-whole, plan-cause}
use Rattle.merge_push.proofs.planning.plan_merges.Goals as goal

pub returns-in-Ok-clause-planned : goal.returns-in-Ok-clause-planned
returns-in-Ok-clause-planned g c =
    let s = c.in-Ok.ensures.planned in
    (s.0, s.1, s.2, record { ok = s.3.ok; err = tt; same = s.3.same; map = s.3.map })

pub returns-in-Ok-clause-taken : goal.returns-in-Ok-clause-taken
returns-in-Ok-clause-taken g c =
    merge-taken-whole (merges_waited (shape c.args.filter.now) c.args.ground.now c.args.refname.now c.args.head.now.0) (g.S.Source.left c.args.input.now) (g.S.Source.left c.planned.new.input) c.in-Ok.plan c.in-Ok.ensures.taken

pub returns-in-Ok-clause-told : goal.returns-in-Ok-clause-told
returns-in-Ok-clause-told g c = c.planned.ensures.told

pub returns-in-Ok-clause-cause : goal.returns-in-Ok-clause-cause
returns-in-Ok-clause-cause g c = plan-cause (g.S.Source.faults c.args.input.now) (g.S.Source.faults c.planned.new.input) c.in-Ok.plan c.in-Ok.ensures.cause

pub returns-in-Err-clause-planned : goal.returns-in-Err-clause-planned
returns-in-Err-clause-planned g c =
    let s = c.in-Err.ensures.planned in
    (s.0, s.1, s.2, record { ok = tt; err = (c.in-Err.fault, c.from.ensures, s.3.err); same = s.3.same; map = s.3.map })

pub returns-in-Err-clause-taken : goal.returns-in-Err-clause-taken
returns-in-Err-clause-taken g c =
    merge-taken (merges_waited (shape c.args.filter.now) c.args.ground.now c.args.refname.now c.args.head.now.0) (g.S.Source.left c.args.input.now) (g.S.Source.left c.planned.new.input) c.in-Err.fault c.from.result c.in-Err.ensures.taken

pub returns-in-Err-clause-told : goal.returns-in-Err-clause-told
returns-in-Err-clause-told g c = c.planned.ensures.told

pub returns-in-Err-clause-cause : goal.returns-in-Err-clause-cause
returns-in-Err-clause-cause g c = merge-cause (g.S.Source.faults c.args.input.now) (g.S.Source.faults c.planned.new.input) c.in-Err.fault c.from.result c.from.ensures c.in-Err.ensures.cause
