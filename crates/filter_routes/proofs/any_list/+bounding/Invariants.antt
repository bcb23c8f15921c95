use Rattle.std.proofs.Common.{take}
use Rattle.filter_text.specs.Filters.{join, chain}
use Rattle.filter_text.specs.Shapes.{shapes}
use Rattle.filter_routes.specs.Lists.{IsListOf}
use Rattle.filter_routes.proofs.any_list.+bounding.Given as goal

abbrev pub invariant-chain_within-loop-m : goal.invariant-chain_within-loop-m
invariant-chain_within-loop-m l = IsListOf (chain (shapes (take l.m-index l.members))) l.list.items

abbrev pub invariant-join_within-loop-m : goal.invariant-join_within-loop-m
invariant-join_within-loop-m l = IsListOf (join (shapes (take l.m-index l.members))) l.list
