use Rattle.std.proofs.Common.{take}
use Rattle.filter_unapply.specs.Blocks.{IsLeast}
use Rattle.filter_unapply.proofs.BlockSteps.{IsBlockUpTo}
use Rattle.filter_unapply.proofs.blocking.first_block.Given as goal

-- the first block of the parts so far
abbrev pub invariant-loop-i : goal.invariant-loop-i
invariant-loop-i l = IsLeast (IsBlockUpTo l.store l.kept l.parts (take l.i l.parts)) l.least
