-- Proves what src/deliver.rt needs of `deliver_all`.
use Rattle.std.proofs.Common.{sym, subst}
use Rattle.git_objects.specs.Paths.{Bytes}
use Rattle.proj_io.specs.Views.{sink_view}
use Rattle.proj_cli.specs.Sent.{IsSent}
use Rattle.proj_cli.proofs.Pieces.{flat-at, sent-short}
use Rattle.proj_cli.proofs.deliver.deliver_all.Goals as goal

pub returns-in_default-clause-sent : goal.returns-in_default-clause-sent
returns-in_default-clause-sent g c =
    let shown = sink_view g.O.Sink.written g.O.Sink.faults g.O.Sink.refusals in
    let o = shown c.args.out.now in
    let m = shown c.loop-piece.out in
    let q = shown c.deliver.new.out in
    subst (λ (t : Bytes). IsSent c.deliver.result t o q) (sym (flat-at (λ piece. piece.now) c.args.pieces.now c.loop-piece.piece-index _ c.loop-piece-test.true))
    (sent-short o m q _ _ _ c.loop-piece.invariant.wrote c.loop-piece.invariant.refusals c.deliver.result c.in_default.not-Done c.deliver.ensures.sent)
