use Rattle.std.proofs.Common.{take}
use Rattle.filter_text.specs.Shapes.{shape}
use Rattle.projection_ground.specs.Asked.{IsAskedFor}
use Rattle.history_ground.proofs.Befores.{AreBefore}
use Rattle.history_ground.proofs.before.before_upon.Given as goal

-- the commits so far are projected, and what is known of the filter is true
abbrev pub invariant-loop-name : goal.invariant-loop-name
invariant-loop-name l = record {
  are : AreBefore (shape l.filter) l.head.0 l.fn.ground l.ground (take l.name-index l.commits) l.found.items;
  asked_for : IsAskedFor (shape l.filter) l.ground l.asked;
}
