use Rattle.std.proofs.Common.{◌≡◌, length}
use Rattle.filter_text.specs.Shapes.{shape}
use Rattle.projection_ground.specs.Asked.{IsAskedFor}
use Rattle.history_ground.proofs.AllProjections.{AreProjected}
use Rattle.history_ground.proofs.origins.firsts_upon.Given as goal

-- the commits before the place are projected, and what is known of the filter is true
abbrev pub invariant-loop-place : goal.invariant-loop-place
invariant-loop-place l = record {
  so_far : AreProjected (shape l.filter) l.fn.ground l.ground l.place l.origins;
  asked_for : IsAskedFor (shape l.filter) l.ground l.asked;
  end : l.place-end ≡ length l.fn.ground.graph;
}
