use Rattle.std.proofs.Common.{List, drop}
use Rattle.std.specs.List.{flat_map}
use Rattle.git_objects.specs.Snapshots.{Snapshot}
use Rattle.state_items.specs.Changes.{commit_objects}
use Rattle.repo_ground.specs.Changes.{AreNamedIn}
use Rattle.repo_ground.specs.Growing.{Extends, IsReady, IsStep}
use Rattle.repo_ground.proofs.holding.hold_commits.Given as goal

abbrev pub invariant-loop-name : goal.invariant-loop-name
invariant-loop-name l =
    let S = l.store in
    record {
      step : (cs : List Snapshot) → AreNamedIn S l.names cs → IsReady S l.fn.held.keys (flat_map commit_objects cs)
          → IsStep S l.fn.held.keys l.held.keys (flat_map commit_objects cs) (flat_map commit_objects (drop l.name-index cs));
      extends : Extends l.fn.held.keys l.held.keys;
    }
