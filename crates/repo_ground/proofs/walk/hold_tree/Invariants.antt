use Rattle.std.proofs.Common.{[]}
use Rattle.repo_ground.specs.Beside.{AreBeside}
use Rattle.repo_ground.specs.Growing.{Extends, IsReady, IsStep, held_of}
use Rattle.repo_ground.specs.StoredObjects.{AreOpen, frames_steps, itself, stored_objects, work_of_frames}
use Rattle.repo_ground.proofs.walk.hold_tree.Given as goal

-- what is still to come are the frames' objects
abbrev pub invariant-trees : goal.invariant-trees
invariant-trees l =
    let S = l.store in
    let os = stored_objects S l.fn.root.0 in
    record {
      step : IsReady S l.fn.held.keys os → IsStep S l.fn.held.keys l.held.keys os (frames_steps itself [] S l.frames.items);
      opened : AreOpen S l.frames.items;
      extends : Extends l.fn.held.keys l.held.keys;
      beside : IsReady S l.fn.held.keys os → AreBeside (held_of S l.held.keys) l.frames.items;
    }

abbrev pub decreases-trees : goal.decreases-trees
decreases-trees l = work_of_frames l.store l.frames.items
