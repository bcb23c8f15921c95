use Rattle.std.proofs.Common.{◌≡◌, drop, take, []}
use Rattle.decision_lists.specs.Operations.{heads}
use Rattle.decision_lists.specs.Cells.{cells, origin}
use Rattle.decision_lists.proofs.hits.locate_origin.Given as goal

abbrev pub invariant-loop-i : goal.invariant-loop-i
invariant-loop-i l = origin (cells (heads (take l.i l.entries) []) (drop l.i l.entries)) l.image ≡ origin (cells [] l.entries) l.image
