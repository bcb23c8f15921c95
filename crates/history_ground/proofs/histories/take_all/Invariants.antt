use Rattle.std.proofs.Common.{map, take}
use Rattle.git_objects.specs.Parts.{name_bytes}
use Rattle.filter_text.specs.Shapes.{shape}
use Rattle.history_ground.proofs.TakingLemmas.{IsTaking}
use Rattle.history_ground.proofs.histories.take_all.Given as goal

-- the commits at the places so far are projected
abbrev pub invariant-loop-place : goal.invariant-loop-place
invariant-loop-place l = IsTaking (shape l.filter) l.head l.fn.ground l.ground l.asked (take l.place-index l.place-items) (map name_bytes l.made.keys)
