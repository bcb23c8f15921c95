use Rattle.std.proofs.Common.{◌≤◌, ◌+◌, take, drop, IfSome}
use Rattle.object_store.specs.Unfolding.{flat}
use Rattle.filter_apply.specs.Cursors.{IsCursor}
use Rattle.filter_apply.specs.Founds.{AreFoundAt, base_lengths}
use Rattle.filter_apply.proofs.founds.founds_of.Given as goal

abbrev pub invariant-loop-entry : goal.invariant-loop-entry
invariant-loop-entry g l = record {
  found : AreFoundAt l.store (flat l.store l.fn.root.0) (take l.entry-index l.entries) l.founds.items;
  cursor : IfSome l.cursor (IsCursor l.store (flat l.store l.fn.root.0));
  paid : l.steps + base_lengths (drop l.entry-index l.entries) ≤ l.fn.steps + base_lengths l.entries;
}
