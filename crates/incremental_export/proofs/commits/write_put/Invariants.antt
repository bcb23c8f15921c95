use Rattle.std.proofs.Common.{Ok}
use Rattle.fast_export.specs.Given.{leaf_text}
use Rattle.fast_export.specs.Sending.{IsPut}
use Rattle.incremental_export.specs.declared.compare.Placed.{Placed}
use Rattle.incremental_export.proofs.PutTexts.{text_to}
use Rattle.incremental_export.proofs.commits.write_put.Given as goal

abbrev pub invariant-loop-placed : goal.invariant-loop-placed
invariant-loop-placed g l =
    IsPut g.O.Sink.tells g.O.Sink.written g.O.Sink.faults g.O.Sink.refusals l.fn.sink l.sink l.fn.kept.items l.kept.items (text_to (λ (p : Placed). leaf_text l.marks p.leaf p.path.items) l.leaves l.placed-index) (Ok tt)
