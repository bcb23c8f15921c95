use Rattle.std.proofs.Common.{◌≡◌, List, drop}
use Rattle.git_objects.specs.Snapshots.{Snapshot}
use Rattle.filter_text.specs.Shapes.{shape}
use Rattle.merge_laws.specs.MergeVerdicts.{begun}
use Rattle.projection_ground.specs.Grounds.{commits_of}
use Rattle.merge_push.specs.Originals.{ArePushed}
use Rattle.merge_push.proofs.Runs.{IsUpTo}
use Rattle.merge_push.proofs.commits.originals_upon.Given as goal

-- the originals so far, and what is left of the run
abbrev pub invariant-loop-pushed : goal.invariant-loop-pushed
invariant-loop-pushed l = record {
  number : l.n ≡ l.pushed-index;
  run : (cs : List Snapshot) → ArePushed (shape l.fn.filter) l.fn.ground l.fn.head.0 l.fn.commits cs
      → IsUpTo (shape l.fn.filter) l.fn.origins (begun l.fn.ground.rule (shape l.fn.filter) (commits_of l.fn.ground) l.fn.head.0) cs
      l.fn.ground l.ground l.names.items l.progress.before l.progress.entered l.pushed-index (drop l.pushed-index l.fn.commits);
}
