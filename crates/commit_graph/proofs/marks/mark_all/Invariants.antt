use Rattle.std.proofs.Common.{take}
use Rattle.commit_graph.specs.Marks.{AddsMarks}
use Rattle.commit_graph.proofs.marks.mark_all.Given as goal

abbrev pub invariant-loop-place : goal.invariant-loop-place
invariant-loop-place l = AddsMarks l.low l.initial.marks l.marks (take l.place-index l.places)
