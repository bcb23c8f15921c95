use Rattle.std.proofs.Common.{◌≡◌, ◌≤◌, ◌+◌, ◌*◌, ◌^◌, ◌-◌, length}
use Rattle.proj_io.specs.Stops.{OnlyAdds, Nothing}
use Rattle.proj_journal.specs.Journals.{AllFit, Reaches}
use Rattle.proj_journal.specs.Windows.{IsWindow}
use Rattle.proj_journal.proofs.opening.find_records.Given as goal

abbrev pub invariant-loop-places : goal.invariant-loop-places
invariant-loop-places g l = record {
  within : l.at ≤ l.size;
  few : length l.places.items ≤ 2 ^ 20;
  room : l.at ≤ 8 + length l.places.items * (2 ^ 29 + 5);
  fit : AllFit l.places.items;
  reached : Reaches l.at l.places.items (g.D.Disk.content l.fn.disk);
  window : IsWindow (g.D.Disk.content l.fn.disk) l.window;
  same : g.D.Disk.content l.disk ≡ g.D.Disk.content l.fn.disk;
  stops : OnlyAdds (g.D.Disk.moment l.fn.disk) (g.D.Disk.moment l.disk) (g.D.Disk.left_since l.fn.disk) (g.D.Disk.left_since l.disk) Nothing;
  faults : g.D.Disk.faults l.fn.disk ≤ g.D.Disk.faults l.disk;
}

abbrev pub decreases-loop-places : goal.decreases-loop-places
decreases-loop-places g l = l.size - l.at
