use Rattle.std.proofs.Common.{length}
use Rattle.filter_text.specs.Shapes.{shape}
use Rattle.history_ground.proofs.TrueWalking.{IsMaking}
use Rattle.history_ground.proofs.Waiting.{left_in}
use Rattle.history_ground.proofs.making.walk.Given as goal

abbrev pub invariant-loop-place : goal.invariant-loop-place
invariant-loop-place l = IsMaking (shape l.filter) l.head l.fn.ground l.ground l.asked l.waiting.items

abbrev pub decreases-loop-place : goal.decreases-loop-place
decreases-loop-place l = left_in l.fn.ground l.head (length l.fn.ground.graph) l.ground.map l.waiting.items
