use Rattle.std.proofs.Common.{sym, ◌∙◌}
use Rattle.git_objects.specs.Views.{entry_value}
use Rattle.git_objects.proofs.TreeReading.{entry-shorter}
use Rattle.git_objects.proofs.TreeViews.{alone_step}
use Rattle.git_objects.proofs.tree_view.is_alone.Goals as goal

pub entries-smaller : goal.entries-smaller
entries-smaller c = entry-shorter c.entries.rest.now (entry_value c.in-Some.entry, c.in-Some.after.now) (sym c.in-Some.ensures)

pub entries-preserved : goal.entries-preserved
entries-preserved c =
    alone_step c.args.component.now c.entries.rest.now (entry_value c.in-Some.entry) c.in-Some.after.now (sym c.in-Some.ensures) (sym c.if-eq.ensures) (cc)
    ∙ c.entries.invariant
