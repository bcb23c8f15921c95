use Rattle.std.proofs.Common.{length}
use Rattle.stage_nodes.specs.declared.nodes.Nodes.{Nodes}
use Rattle.stage_nodes.specs.Forests.{Forest}
use Rattle.stage_tree.specs.Copies.{IsDropping}
use Rattle.stage_tree.proofs.copies.drop_waiting.Given as goal

abbrev pub invariant-works : goal.invariant-works
invariant-works l = (s0 : Nodes) (source : Forest) → IsDropping s0 l.initial.nodes source l.initial.works.items → IsDropping s0 l.nodes source l.works.items

abbrev pub decreases-works : goal.decreases-works
decreases-works l = length l.works.items
