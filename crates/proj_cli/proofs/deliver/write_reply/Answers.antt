-- Proves what src/deliver.rt needs of `write_reply`.
use Rattle.std.proofs.Common.{◌∙◌, ◌++◌, [], ◌∷◌, ap, subst}
use Rattle.git_objects.specs.Paths.{Bytes}
use Rattle.proj_io.specs.Views.{sink_view}
use Rattle.proj_cli.specs.Sent.{IsSent}
use Rattle.proj_cli.proofs.Pieces.{reply-pieces}
use Rattle.proj_cli.proofs.deliver.write_reply.Goals as goal

pub returns-clause-sent : goal.returns-clause-sent
returns-clause-sent g c =
    let shown = sink_view g.O.Sink.written g.O.Sink.faults g.O.Sink.refusals in
    subst (λ (t : Bytes). IsSent c.deliver_all.result t (shown c.args.out.now) (shown c.deliver_all.new.out))
    (ap (λ (head : Bytes). head ++ (c.args.output.now ++ 10 ∷ [])) (c.split_at.ensures.back ∙ c.put_head-start.ensures.written) ∙ reply-pieces c.args.outcome.now c.args.output.now)
    c.deliver_all.ensures.sent
