use Rattle.std.proofs.Common.{◌+◌, ◌<◌, length}
use Rattle.std.specs.Option.{option_map}
use Rattle.object_store.specs.Unfolding.{flat}
use Rattle.path_trees.specs.Standing.{node}
use Rattle.path_trees.specs.Listed.{edited}
use Rattle.path_trees.proofs.Climbs.{IsClimb}
use Rattle.path_trees.proofs.edits.edited.Given as goal

abbrev pub invariant-levels : goal.invariant-levels
invariant-levels l =
    let S = l.fn.store in
    record {
      within : l.level < length l.path;
      climb : IsClimb S l.path (edited (flat S l.fn.root.0) l.path (option_map (node S) l.fn.change)) (l.level + 1) l.store l.change;
    }

abbrev pub decreases-levels : goal.decreases-levels
decreases-levels l = l.level
