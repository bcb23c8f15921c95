use Rattle.std.proofs.Common.{replicate}
use Rattle.stage_tree.proofs.Marked.{none_known}
use Rattle.stage_tree.proofs.Staging.{begun}
use Rattle.stage_tree.proofs.stage.Stage.empty.Goals as goal

pub invariant_of-stage : goal.invariant_of-stage
invariant_of-stage c = record { stage = begun c.in_ok-nodes.nodes (record { 0 = replicate 20 0 }) c.in_ok-nodes.ensures; last_there = none_known c.in_ok-nodes.nodes c.new.result.child c.new.result.directory.items c.new.result.numbers.items c.new.ensures }
