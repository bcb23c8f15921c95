use Rattle.std.proofs.Common.{subst}
use Rattle.filter_routes.specs.Interned.{AreDistinct}
use Rattle.filter_routes.proofs.tables.Tables.len.Goals as goal

pub returns-clause-distinct : goal.returns-clause-distinct
returns-clause-distinct c = subst AreDistinct c.self.view_is c.self.invariant.distinct
