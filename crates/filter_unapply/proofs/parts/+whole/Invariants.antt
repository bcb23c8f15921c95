use Rattle.std.proofs.Common.{length}
use Rattle.filter_unapply.proofs.parts.+whole.Given as goal

abbrev pub decreases-whole : goal.decreases-whole
decreases-whole l = length l.parts.now
