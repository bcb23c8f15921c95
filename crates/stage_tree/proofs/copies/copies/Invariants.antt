use Rattle.std.proofs.Common.{◌+◌}
use Rattle.stage_tree.specs.Copies.{CanCopy, IsCopying, turns_of, works_of}
use Rattle.stage_tree.proofs.copies.copies.Given as goal

abbrev pub invariant-turns : goal.invariant-turns
invariant-turns l = (h : CanCopy l.initial.nodes l.fn.first) → IsCopying l.initial.nodes l.nodes h.source l.works.items l.turn

abbrev pub decreases-turns : goal.decreases-turns
decreases-turns l = turns_of l.initial.nodes l.turn + works_of l.initial.nodes l.works.items
