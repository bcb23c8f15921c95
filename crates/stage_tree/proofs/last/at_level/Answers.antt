use Rattle.std.proofs.Common.{arith}
use Rattle.stage_tree.proofs.Starts.{child_above, child_itself}
use Rattle.stage_tree.proofs.last.at_level.Goals as goal

pub returns-then-level-numbers : goal.returns-then-level-numbers
returns-then-level-numbers c = λ s q within h. child_above s q c.args.numbers.now c.args.child c.args.level h c.if-level-numbers.true

pub returns-else-level-numbers : goal.returns-else-level-numbers
returns-else-level-numbers c = λ s q within h. child_itself s q c.args.numbers.now c.args.child c.args.level h within (omega arith)
