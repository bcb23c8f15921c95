use Rattle.std.proofs.Common.{nat_eq}
use Rattle.std.specs.HashMap.{get}
use Rattle.decision_lists.proofs.Indexing.{finds-take}
use Rattle.decision_lists.proofs.indexed.Lent.front.Goals as goal

pub invariant_of-result : goal.invariant_of-result
invariant_of-result c = finds-take (get nat_eq c.self.inside.index.now.places) c.self.inside.index.now.clean c.self.inside.entries.now c.args.count c.self.invariant
