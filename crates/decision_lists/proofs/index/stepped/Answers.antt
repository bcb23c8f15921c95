use Rattle.std.proofs.Common.{refl}
use Rattle.decision_lists.specs.Index.{with_byte, stepped}
use Rattle.decision_lists.proofs.index.stepped.Goals as goal

pub returns : goal.returns
unfolding stepped with_byte
returns c = refl
