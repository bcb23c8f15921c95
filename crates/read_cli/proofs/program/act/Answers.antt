-- Proves what src/program.rt needs of `act`.
use Rattle.std.proofs.Common.{List, arith}
use Rattle.git_objects.specs.Paths.{Bytes}
use Rattle.proj_io.specs.Views.{sink_view}
use Rattle.read_cli.specs.Looks.{form_reading}
use Rattle.read_cli.proofs.Answered.{other-rightly, unjudged-answer, unjudged-own}
use Rattle.read_cli.proofs.JudgedForms.{unjudged-told}
use Rattle.read_cli.proofs.program.act.Goals as goal

-- ---- what isn't judged

pub returns-in-Err-clause-answer : goal.returns-in-Err-clause-answer
returns-in-Err-clause-answer g c = λ (items : List Bytes) told.
    let asked = form_reading c.args.form in
    unjudged-answer asked items (sink_view g.O.Sink.written g.O.Sink.faults g.O.Sink.refusals c.args.out.now) c.in-Err.outcome (unjudged-told asked c.in-Err.outcome c.in-Err.ensures.err)

pub returns-in-Err-clause-unread : goal.returns-in-Err-clause-unread
returns-in-Err-clause-unread g c =
    let asked = form_reading c.args.form in
    let own = unjudged-own asked c.in-Err.outcome (unjudged-told asked c.in-Err.outcome c.in-Err.ensures.err) in
    own.read

pub returns-in-Err-clause-cause : goal.returns-in-Err-clause-cause
returns-in-Err-clause-cause g c =
    let asked = form_reading c.args.form in
    let own = unjudged-own asked c.in-Err.outcome (unjudged-told asked c.in-Err.outcome c.in-Err.ensures.err) in
    record { later = omega arith; rose = λ e. absurd (own.store e) }

pub returns-in-Err-clause-write : goal.returns-in-Err-clause-write
returns-in-Err-clause-write g c =
    let asked = form_reading c.args.form in
    let own = unjudged-own asked c.in-Err.outcome (unjudged-told asked c.in-Err.outcome c.in-Err.ensures.err) in
    record { later = omega arith; rose = λ e. absurd (own.write e) }

-- ---- what is looked at

pub returns-in-Ok-clause-answer : goal.returns-in-Ok-clause-answer
returns-in-Ok-clause-answer g c = λ (items : List Bytes) told. c.look_into.ensures.answer (form_reading c.args.form) items c.in-Ok.ensures.ok told

pub returns-in-Ok-clause-judged : goal.returns-in-Ok-clause-judged
returns-in-Ok-clause-judged g c = other-rightly (form_reading c.args.form) c.look_into.result c.look_into.ensures.other
