use Rattle.std.proofs.Common.{◌≡◌, drop}
use Rattle.filter_text.specs.Filters.{same_filters}
use Rattle.filter_text.specs.Shapes.{shapes}
use Rattle.filter_text.proofs.values.+comparing.Given as goal

abbrev pub invariant-same_all-loop-i : goal.invariant-same_all-loop-i
invariant-same_all-loop-i l = same_filters (shapes (drop l.i l.fs)) (shapes (drop l.i l.gs)) ≡ same_filters (shapes l.fs) (shapes l.gs)
