use Rattle.std.proofs.Common.{◌≡◌, drop}
use Rattle.filter_text.specs.Filters.{pieces_in}
use Rattle.filter_text.specs.Shapes.{shapes}
use Rattle.filter_text.specs.Limits.{without}
use Rattle.filter_text.proofs.limits.+pieces.Given as goal

abbrev pub invariant-without_pieces_in-loop-m : goal.invariant-without_pieces_in-loop-m
invariant-without_pieces_in-loop-m l = without l.room (pieces_in (shapes (drop l.m-index l.members))) ≡ without l.initial.room (pieces_in (shapes l.members))
