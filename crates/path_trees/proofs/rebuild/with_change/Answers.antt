use Rattle.std.proofs.Common.{subst}
use Rattle.git_objects.specs.Entries.{AreEntries}
use Rattle.path_trees.proofs.Rebuilding.{order_behind}
use Rattle.path_trees.proofs.rebuild.with_change.Goals as goal

pub add_changed-requires : goal.add_changed-requires
add_changed-requires c =
    let p = c.from_change-rest.ensures in
    order_behind p.0 c.from_change-rest.result (subst AreEntries p.1 c.requires)
