use Rattle.std.proofs.Common.{◌≡◌, ◌+◌, drop}
use Rattle.filter_text.specs.Filters.{pieces_in}
use Rattle.filter_text.specs.Shapes.{shapes}
use Rattle.filter_routes.proofs.search.+counting.Given as goal

abbrev pub invariant-past_pieces_in-loop-m : goal.invariant-past_pieces_in-loop-m
invariant-past_pieces_in-loop-m l =
    l.number + pieces_in (shapes (drop l.m-index l.members)) ≡ l.initial.number + pieces_in (shapes l.members)
