use Rattle.std.proofs.Common.{ap}
use Rattle.filter_text.specs.Shapes.{shapes}
use Rattle.filter_text.specs.Reading.{pieces_at}
use Rattle.filter_text.specs.Nesting.{nested}
use Rattle.filter_text.proofs.Resuming.{begun}
use Rattle.filter_text.proofs.Leaving.{answer-leaves}
use Rattle.filter_text.proofs.reader.pieces_to.Goals as goal

pub loop-at-init : goal.loop-at-init
loop-at-init c =
    begun c.new-frames.result.items (shapes c.new-pieces.result.items) c.args.text.now c.new-frames.ensures.items (ap shapes c.new-pieces.ensures.items)

pub returns-then-rest-least : goal.returns-then-rest-least
returns-then-rest-least c =
    answer-leaves (nested c.loop-at.frames.items) (shapes c.loop-at.pieces.items) c.loop-at.at c.loop-at.rest.now c.args.least (pieces_at c.args.text.now)
    c.loop-at.invariant c.if-rest-least.true
