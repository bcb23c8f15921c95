use Rattle.std.proofs.Common.{◌≡◌, ◌+◌, ◌*◌, ◌&&◌, None}
use Rattle.stage_tree.specs.Counts.{IsCountable}
use Rattle.stage_nodes.specs.Forests.{size}
use Rattle.stage_tree.specs.Limits.{fits_in}
use Rattle.stage_nodes.specs.Pools.{hanging}
use Rattle.stage_tree.proofs.CountTurns.{AreCountable, turns}
use Rattle.stage_tree.proofs.FitTurns.{later, taken}
use Rattle.stage_tree.proofs.limits.siblings_fit.Given as goal

abbrev pub invariant-nodes : goal.invariant-nodes
invariant-nodes l = record {
  here : IsCountable l.store l.nodes l.link;
  behind : AreCountable l.store l.nodes None l.entered.items;
  spent : l.room + taken l.measure l.store l.nodes l.entered.items ≡ l.fn.room;
  fits : fits_in l.measure l.store l.room (hanging l.nodes l.link) && later l.measure l.store l.nodes l.entered.items l.room ≡ fits_in l.measure l.store l.fn.room (hanging l.nodes l.fn.start);
}

abbrev pub decreases-nodes : goal.decreases-nodes
decreases-nodes l = 2 * size (hanging l.nodes l.link) + turns l.store l.nodes None l.entered.items
