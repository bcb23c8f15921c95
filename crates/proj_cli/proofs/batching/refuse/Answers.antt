-- Proves what src/batching.rt needs of `refuse`.
use Rattle.proj_io.specs.Views.{sink_view}
use Rattle.proj_cli.proofs.EntriesAnswered.{replied-other}
use Rattle.proj_cli.proofs.batching.refuse.Goals as goal

pub returns-in_default-clause-replied : goal.returns-in_default-clause-replied
returns-in_default-clause-replied g c =
    let shown = sink_view g.O.Sink.written g.O.Sink.faults g.O.Sink.refusals in
    replied-other (shown c.args.out.now) (shown c.write_reply-in_default.new.out) c.write_reply-in_default.result c.args.refusal.now c.in_default.not-OutOfMemory c.in_default.not-StoreFault c.write_reply-in_default.ensures.sent
