use Rattle.std.proofs.Common.{sym}
use Rattle.git_objects.specs.Views.{entry_value}
use Rattle.git_objects.proofs.TreeViews.{fits_dir, fits_file, fits_not}
use Rattle.git_objects.proofs.tree_view.fits_before.Goals as goal

pub returns-then-is_dir : goal.returns-then-is_dir
returns-then-is_dir c =
    fits_dir (entry_value c.args.entry.now) (entry_value c.in-Some.next) c.args.after.now c.in-Some.behind.now (sym c.in-Some.ensures) _ (cc) (cc) (cc)

pub returns-else-is_dir : goal.returns-else-is_dir
returns-else-is_dir c =
    fits_file (entry_value c.args.entry.now) (entry_value c.in-Some.next) c.args.after.now c.in-Some.behind.now (sym c.in-Some.ensures) _ (cc) (cc) c.is_apart.ensures

pub returns-else-is_before : goal.returns-else-is_before
returns-else-is_before c =
    fits_not (entry_value c.args.entry.now) (entry_value c.in-Some.next) c.args.after.now c.in-Some.behind.now (sym c.in-Some.ensures) _ (cc) (cc)
