use Rattle.std.proofs.Common.{take}
use Rattle.std.specs.List.{flat_map}
use Rattle.proj_io.specs.Views.{sink_view}
use Rattle.proj_cli.proofs.Pieces.{HasWritten}
use Rattle.proj_cli.proofs.deliver.deliver_all.Given as goal

abbrev pub invariant-loop-piece : goal.invariant-loop-piece
invariant-loop-piece g l =
    let shown = sink_view g.O.Sink.written g.O.Sink.faults g.O.Sink.refusals in
    HasWritten (shown l.fn.out) (shown l.out) (flat_map (λ piece. piece.now) (take l.piece-index l.pieces))
