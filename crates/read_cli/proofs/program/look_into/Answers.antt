-- Proves what src/program.rt needs of `look_into`.
use Rattle.std.proofs.Common.{List}
use Rattle.git_objects.specs.Paths.{Bytes}
use Rattle.proj_io.specs.Views.{keeper_view, sink_view}
use Rattle.repo_ground.specs.Changes.{KeepsItems}
use Rattle.proj_commands.proofs.Forming.{loaded-state}
use Rattle.read_cli.specs.Readings.{Reading}
use Rattle.read_cli.proofs.Answered.{looked-answer, unloaded-answer}
use Rattle.read_cli.proofs.Looked.{end-other, end-store}
use Rattle.read_cli.proofs.program.look_into.Goals as goal

-- ---- what isn't loaded

pub returns-in-Err-clause-answer : goal.returns-in-Err-clause-answer
returns-in-Err-clause-answer g c = λ (form : Reading) (items : List Bytes) w told.
    unloaded-answer form items (sink_view g.O.Sink.written g.O.Sink.faults g.O.Sink.refusals c.args.out.now) c.args.asked.now w c.in-Err.outcome (c.in-Err.ensures.err items told)

-- ---- what is looked at

pub returns-in-Ok-clause-answer : goal.returns-in-Ok-clause-answer
returns-in-Ok-clause-answer g c = λ (form : Reading) (items : List Bytes) w told.
    let seen = sink_view g.O.Sink.written g.O.Sink.faults g.O.Sink.refusals in
    let kept = keeper_view g.K.Keeper.items g.K.Keeper.number g.K.Keeper.faults in
    let then = kept c.args.store.now in
    let mid = kept c.load.new.store in
    let was = c.in-Ok.ensures in
    let s = c.in-Ok.state in
    let same : KeepsItems then mid = (was.kept.number, was.kept.items) in
    let st = loaded-state items then mid (g.K.Keeper.number c.args.store.now) s told same was.ok in
    looked-answer form items then mid (g.K.Keeper.number c.args.store.now) s told same was.ok (seen c.args.out.now) (seen c.look.new.out) c.look.result
    (c.look.ensures.looked form items was.ok.held w st) (c.look.ensures.lawful form items was.ok.held w st)

pub returns-in-Ok-clause-other : goal.returns-in-Ok-clause-other
returns-in-Ok-clause-other g c = end-other c.look.result c.look.ensures.ends

pub returns-in-Ok-clause-cause : goal.returns-in-Ok-clause-cause
returns-in-Ok-clause-cause g c = record { later = c.in-Ok.ensures.cause.later; rose = λ e. absurd (end-store c.look.result c.look.ensures.ends e) }
