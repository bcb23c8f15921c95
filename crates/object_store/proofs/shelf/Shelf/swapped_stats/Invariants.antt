use Rattle.std.proofs.Common.{length}
use Rattle.object_store.proofs.Swaps.{IsBeside}
use Rattle.object_store.proofs.shelf.Shelf.swapped_stats.Given as goal

abbrev pub invariant-entries : goal.invariant-entries
invariant-entries l = IsBeside l.self l.initial.entries l.entries l.total l.less l.more l.body l.rest

abbrev pub decreases-entries : goal.decreases-entries
decreases-entries l = length l.rest
