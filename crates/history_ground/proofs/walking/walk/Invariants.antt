use Rattle.std.proofs.Common.{length}
use Rattle.filter_text.specs.Shapes.{shape}
use Rattle.history_ground.proofs.Waiting.{left_in}
use Rattle.history_ground.proofs.WalkLemmas.{IsWalking}
use Rattle.history_ground.proofs.walking.walk.Given as goal

abbrev pub invariant-loop-place : goal.invariant-loop-place
invariant-loop-place g l = IsWalking (shape l.filter) l.head l.fn.ground l.ground l.fn.steps l.steps l.asked l.waiting.items

abbrev pub decreases-loop-place : goal.decreases-loop-place
decreases-loop-place g l = left_in l.fn.ground l.head (length l.fn.ground.graph) l.ground.map l.waiting.items
