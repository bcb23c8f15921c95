use Rattle.std.proofs.Common.{arith}
use Rattle.decision_lists.proofs.ByIndex.{strip-long}
use Rattle.decision_lists.proofs.entry.begins.Goals as goal

pub returns-then-path-front : goal.returns-then-path-front
returns-then-path-front c = grind (arith, strip-long)
