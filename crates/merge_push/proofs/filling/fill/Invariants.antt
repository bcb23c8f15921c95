use Rattle.std.proofs.Common.{◌≡◌, length}
use Rattle.filter_text.specs.Shapes.{shape}
use Rattle.merge_push.proofs.Filled.{AreFilledTo}
use Rattle.merge_push.proofs.filling.fill.Given as goal

-- of the commits before the place something is kept
abbrev pub invariant-loop-place : goal.invariant-loop-place
invariant-loop-place l = record {
  so_far : AreFilledTo (shape l.filter) l.fn.ground l.ground l.place;
  end : l.place-end ≡ length l.fn.ground.graph;
}

abbrev pub ghosts-keep_projection : goal.ghosts-keep_projection
ghosts-keep_projection a = record { name = a.blank.name; parts = a.blank.parts }
