use Rattle.std.proofs.Common.{◌≤◌, length, drop}
use Rattle.object_store.specs.Unfolding.{flat}
use Rattle.stage_tree.specs.Stages.{Shows}
use Rattle.filter_unapply.specs.Sifted.{sifted}
use Rattle.filter_unapply.proofs.sifting.staged.Given as goal

-- the stage shows what the entries from this one on make of the tree
abbrev pub invariant-runs : goal.invariant-runs
invariant-runs l = record {
  within : l.end ≤ length l.list;
  shows : Shows l.store l.stage (sifted l.inside (drop l.end l.list) (flat l.store l.root.0));
}

abbrev pub decreases-runs : goal.decreases-runs
decreases-runs l = l.end

abbrev pub ghosts-founds_by : goal.ghosts-founds_by
ghosts-founds_by a = record { name = a.blank.name; parts = a.blank.parts }
