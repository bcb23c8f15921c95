use Rattle.std.proofs.Common.{◌<◌, ◌+◌, ◌^◌, drop, take, false, Ok}
use Rattle.filter_text.specs.Filters.{pieces_in}
use Rattle.filter_text.specs.Shapes.{shapes}
use Rattle.filter_routes.specs.Faults.{nodes_all}
use Rattle.filter_routes.specs.Searching.{Searched}
use Rattle.filter_routes.proofs.search.+searching.Given as goal

abbrev pub invariant-first_overlap_in-loop-m : goal.invariant-first_overlap_in-loop-m
invariant-first_overlap_in-loop-m l =
    Searched l.initial.number (nodes_all false (shapes (take l.m-index l.members))) (Ok l.number)
    × (l.number + pieces_in (shapes (drop l.m-index l.members)) < 2 ^ 32)
