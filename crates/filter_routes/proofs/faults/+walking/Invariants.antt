use Rattle.std.proofs.Common.{◌≡◌, ◌<◌, ◌+◌, ◌^◌, drop}
use Rattle.filter_text.specs.Filters.{pieces_in}
use Rattle.filter_text.specs.Shapes.{shapes}
use Rattle.filter_routes.specs.Faults.{nodes_all, walk}
use Rattle.filter_routes.proofs.faults.+walking.Given as goal

abbrev pub invariant-not_keeping_in-loop-m : goal.invariant-not_keeping_in-loop-m
invariant-not_keeping_in-loop-m l =
    (walk l.number (nodes_all l.inside (shapes (drop l.m-index l.members))) ≡ walk l.initial.number (nodes_all l.inside (shapes l.members)))
    × (l.number + pieces_in (shapes (drop l.m-index l.members)) < 2 ^ 64)
