use Rattle.std.proofs.Common.{◌<◌, ◌-◌, drop, take}
use Rattle.filter_unapply.specs.Sifted.{AreAlike}
use Rattle.filter_unapply.proofs.sifting.run_start.Given as goal

-- the entries from this one up to the end are alike
abbrev pub invariant-entries : goal.invariant-entries
invariant-entries l = record {
  before : l.first < l.end;
  alike : AreAlike l.kept (take (l.end - l.first) (drop l.first l.list));
}

abbrev pub decreases-entries : goal.decreases-entries
decreases-entries l = l.first
