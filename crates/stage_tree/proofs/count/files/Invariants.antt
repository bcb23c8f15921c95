use Rattle.std.proofs.Common.{◌≡◌, ◌+◌, ◌*◌, ◌≤◌}
use Rattle.object_store.specs.Sizes.{held_number}
use Rattle.stage_tree.specs.Counts.{IsCountable, files_but}
use Rattle.stage_nodes.specs.Forests.{size}
use Rattle.stage_nodes.specs.Pools.{hanging}
use Rattle.stage_tree.proofs.CountTurns.{AreCountable, due, turns}
use Rattle.stage_tree.proofs.count.files.Given as goal

abbrev pub invariant-nodes : goal.invariant-nodes
invariant-nodes l = record {
  here : IsCountable l.store l.nodes l.link;
  behind : AreCountable l.store l.nodes l.but l.entered.items;
  small : l.files ≤ 4294967295;
  sum : held_number (l.files + files_but l.store l.but (hanging l.nodes l.link) + due l.store l.nodes l.but l.entered.items) ≡ held_number (files_but l.store l.but (hanging l.nodes l.fn.start));
}

abbrev pub decreases-nodes : goal.decreases-nodes
decreases-nodes l = 2 * size (hanging l.nodes l.link) + turns l.store l.nodes l.but l.entered.items
