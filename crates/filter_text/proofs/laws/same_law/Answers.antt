use Rattle.filter_text.proofs.Equals.{filter-equal, filter-same}
use Rattle.filter_text.proofs.laws.same_law.Goals as goal

pub returns : goal.returns
returns c = record { equal = filter-equal; same = filter-same }
