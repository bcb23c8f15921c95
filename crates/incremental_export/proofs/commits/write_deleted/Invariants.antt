use Rattle.std.proofs.Common.{ℕ, Global, Ok, Vec}
use Rattle.std.specs.Prelude.{codes}
use Rattle.path_names.specs.Quoting.{quote}
use Rattle.fast_export.specs.ExportTexts.{line}
use Rattle.fast_export.specs.Sending.{IsPut}
use Rattle.incremental_export.proofs.PutTexts.{text_to}
use Rattle.incremental_export.proofs.commits.write_deleted.Given as goal

abbrev pub invariant-loop-path : goal.invariant-loop-path
invariant-loop-path g l =
    IsPut g.O.Sink.tells g.O.Sink.written g.O.Sink.faults g.O.Sink.refusals l.fn.sink l.sink l.fn.kept.items l.kept.items (text_to (λ (t : Vec ℕ Global). line (codes "D ") (quote t.items)) l.paths l.path-index) (Ok tt)
