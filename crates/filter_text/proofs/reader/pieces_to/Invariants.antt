use Rattle.std.proofs.Common.{◌≡◌}
use Rattle.filter_text.specs.Shapes.{shapes}
use Rattle.filter_text.specs.Reading.{pieces_at}
use Rattle.filter_text.specs.Nesting.{nested, answer, left}
use Rattle.filter_text.proofs.reader.pieces_to.Given as goal

abbrev pub invariant-loop-at : goal.invariant-loop-at
invariant-loop-at l = answer (nested l.frames.items) (shapes l.pieces.items) l.at l.rest ≡ pieces_at l.text

abbrev pub decreases-loop-at : goal.decreases-loop-at
decreases-loop-at l = left l.at l.rest
