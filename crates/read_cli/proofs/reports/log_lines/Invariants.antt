use Rattle.std.specs.Iterator.Adapters.{zip_first, zip_second}
use Rattle.std.specs.Slice.Iter.{iter_rest}
use Rattle.read_cli.proofs.LogLines.{IsGoing}
use Rattle.read_cli.proofs.reports.log_lines.Given as goal

abbrev pub invariant-loop-commit : goal.invariant-loop-commit
invariant-loop-commit l = IsGoing l.commits l.shown (iter_rest (zip_first l.commit-iterator)) (iter_rest (zip_second l.commit-iterator)) l.report.items
