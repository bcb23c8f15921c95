use Rattle.std.proofs.Common.{◌+◌}
use Rattle.object_store.specs.Unfolding.{flat}
use Rattle.filter_unapply.proofs.Fronts.{IsClearTo}
use Rattle.filter_unapply.proofs.below.leaf_in_way.Given as goal

-- no leaf at the fronts so far
abbrev pub invariant-fronts : goal.invariant-fronts
invariant-fronts l = IsClearTo (flat l.store l.fn.root.0) l.path (l.last + 1)
