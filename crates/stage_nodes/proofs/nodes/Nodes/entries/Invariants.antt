use Rattle.std.proofs.Common.{map}
use Rattle.git_objects.specs.Views.{entry_value}
use Rattle.stage_nodes.specs.Forests.{size}
use Rattle.stage_nodes.specs.Pools.{hanging}
use Rattle.stage_nodes.proofs.ChildEntries.{IsGathering}
use Rattle.stage_nodes.proofs.nodes.Nodes.entries.Given as goal

abbrev pub invariant-children : goal.invariant-children
invariant-children l = IsGathering l.self l.directory (map entry_value l.entries.items) l.link

abbrev pub decreases-children : goal.decreases-children
decreases-children l = size (hanging l.self l.link)
