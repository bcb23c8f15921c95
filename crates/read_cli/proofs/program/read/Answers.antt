-- Proves what src/program.rt needs of `read`.
use Rattle.std.proofs.Common.{List, ◌∙◌, map, string_bytes, subst}
use Rattle.git_objects.specs.Paths.{Bytes}
use Rattle.proj_io.specs.Views.{sink_view}
use Rattle.proj_words.specs.declared.outcome.Outcome.TheVariants.{ReadFault, StoreFault, WriteFault}
use Rattle.read_cli.specs.Answers.{IsReadAnswer}
use Rattle.read_cli.specs.Readings.{IsJudgedRightly, Reading, reading}
use Rattle.read_cli.proofs.Answered.{finished-answer, finished-counts, finished-rightly, finished-same, finished-usage}
use Rattle.read_cli.proofs.program.read.Goals as goal

pub returns-clause-answer : goal.returns-clause-answer
returns-clause-answer g c = λ (items : List Bytes) told.
    let seen = sink_view g.O.Sink.written g.O.Sink.faults g.O.Sink.refusals in
    let asked : Reading = reading (map (λ word. string_bytes word) c.args.words.now) in
    finished-answer asked items (seen c.args.out.now) (seen c.act-outcome.new.out) c.act-outcome.result c.finish_read.result c.finish_read.ensures.outcome
    (subst (λ (r : Reading). IsReadAnswer r items (seen c.args.out.now) (seen c.act-outcome.new.out) c.act-outcome.result) c.read_words.ensures.reading (c.act-outcome.ensures.answer items told))

pub returns-clause-judged : goal.returns-clause-judged
returns-clause-judged g c =
    finished-rightly (reading (map (λ word. string_bytes word) c.args.words.now)) c.act-outcome.result c.finish_read.result c.finish_read.ensures.outcome
    (subst (λ (r : Reading). IsJudgedRightly r c.act-outcome.result) c.read_words.ensures.reading c.act-outcome.ensures.judged)

pub returns-clause-idle : goal.returns-clause-idle
returns-clause-idle g c = λ unknown.
    let i = c.act-outcome.ensures.idle (c.read_words.ensures.reading ∙ unknown) in
    (i.0, i.1, finished-usage c.act-outcome.result c.finish_read.result c.finish_read.ensures.outcome i.2)

pub returns-clause-unread : goal.returns-clause-unread
returns-clause-unread g c = λ e. c.act-outcome.ensures.unread (finished-same c.act-outcome.result c.finish_read.result ReadFault c.finish_read.ensures.outcome (λ no. cc) e)

pub returns-clause-cause : goal.returns-clause-cause
returns-clause-cause g c = finished-counts _ _ c.act-outcome.result c.finish_read.result StoreFault c.finish_read.ensures.outcome (λ no. cc) c.act-outcome.ensures.cause

pub returns-clause-write : goal.returns-clause-write
returns-clause-write g c = finished-counts _ _ c.act-outcome.result c.finish_read.result WriteFault c.finish_read.ensures.outcome (λ no. cc) c.act-outcome.ensures.write
