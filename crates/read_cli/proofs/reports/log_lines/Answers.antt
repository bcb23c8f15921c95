-- Proves what src/reports.rt needs of `log_lines`.
use Rattle.std.proofs.lemmas.Slice.Zip.{either_empty_from_Zip}
use Rattle.std.specs.Iterator.Adapters.{zip_first, zip_second}
use Rattle.std.specs.Slice.Iter.{iter_rest}
use Rattle.read_cli.proofs.LogLines.{going-end}
use Rattle.read_cli.proofs.reports.log_lines.Goals as goal

pub returns : goal.returns
returns c =
    let i = c.loop-commit.commit-iterator in
    going-end c.args.commits.now c.args.shown.now (iter_rest (zip_first i)) (iter_rest (zip_second i)) c.loop-commit.report.items
    (either_empty_from_Zip i c.next.new.self c.next.result c.in-None.is c.next.ensures.steps) c.loop-commit.invariant
