use Rattle.std.proofs.Common.{List}
use Rattle.git_objects.specs.Snapshots.{Snapshot}
use Rattle.repo_ground.specs.Entering.{IsFront}
use Rattle.repo_ground.specs.Reaching.{MayEnter}
use Rattle.repo_ground.proofs.CommitsEntered.{IsEnteringCommits}
use Rattle.repo_ground.proofs.enter.enter_commits.Given as goal

abbrev pub invariant-loop-name : goal.invariant-loop-name
invariant-loop-name l = record {
  entered : (known cs : List Snapshot) → MayEnter l.store l.fn.graph known l.names cs → IsEnteringCommits l.store l.names known cs l.name-index l.graph;
  front : IsFront l.fn.graph l.graph;
}
