use Rattle.std.proofs.Common.{take, Some}
use Rattle.filter_text.specs.Filters.{join, chain}
use Rattle.filter_text.specs.Shapes.{shapes}
use Rattle.filter_routes.specs.Lists.{Listed}
use Rattle.filter_routes.proofs.lists.+listing.Given as goal

abbrev pub invariant-list_of_chain-loop-m : goal.invariant-list_of_chain-loop-m
invariant-list_of_chain-loop-m l = Listed l.apart (chain (shapes (take l.m-index l.members))) (Some l.list.items)

abbrev pub invariant-list_of_join-loop-m : goal.invariant-list_of_join-loop-m
invariant-list_of_join-loop-m l = Listed l.apart (join (shapes (take l.m-index l.members))) (Some l.list)
