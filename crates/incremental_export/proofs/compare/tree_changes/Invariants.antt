use Rattle.std.proofs.Common.{reverse}
use Rattle.std.specs.Option.{option_map}
use Rattle.object_store.specs.Unfolding.{flat}
use Rattle.incremental_export.specs.Compared.{tree_at}
use Rattle.incremental_export.proofs.ComparedLevels.{AreCompared, work}
use Rattle.incremental_export.proofs.compare.tree_changes.Given as goal

-- what is found, with what is left of open directories, stays the same
abbrev pub invariant-levels : goal.invariant-levels
invariant-levels l =
    AreCompared l.store l.levels.items l.front.items l.changes (tree_at l.store (option_map (λ n. n.now) l.fn.from)) (flat l.store l.to.0)

abbrev pub decreases-levels : goal.decreases-levels
decreases-levels l = work l.store (reverse l.levels.items)
