use Rattle.filter_routes.proofs.Interning.{tables-law}
use Rattle.filter_routes.proofs.laws.tables_law.Goals as goal

pub returns : goal.returns
returns c = tables-law
