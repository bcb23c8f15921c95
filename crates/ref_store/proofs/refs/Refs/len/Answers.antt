use Rattle.std.proofs.Common.{subst}
use Rattle.ref_store.specs.Refs.{AreDistinct}
use Rattle.ref_store.proofs.Copies.{distinct-pairs}
use Rattle.ref_store.proofs.refs.Refs.len.Goals as goal

pub returns-clause-distinct : goal.returns-clause-distinct
returns-clause-distinct c = subst AreDistinct c.self.view_is (distinct-pairs c.self.inside.heads.entries c.len.ensures.unique)
