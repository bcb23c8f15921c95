use Rattle.std.proofs.Common.{◌≡◌, drop, false}
use Rattle.filter_text.specs.Filters.{has_one_place}
use Rattle.filter_text.specs.Shapes.{shapes}
use Rattle.filter_text.proofs.limits.has_one_place.Given as goal

abbrev pub invariant-loop-piece : goal.invariant-loop-piece
invariant-loop-piece l = has_one_place l.before (shapes (drop l.piece-index l.pieces)) ≡ has_one_place false (shapes l.pieces)
