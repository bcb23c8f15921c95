use Rattle.std.proofs.Common.{sym, subst}
use Rattle.git_objects.specs.Views.{entry_value}
use Rattle.path_trees.proofs.Rebuilding.{IsPassed, next_entry, passed_next}
use Rattle.path_trees.proofs.rebuild.from_change.Goals as goal

pub entries-preserved : goal.entries-preserved
entries-preserved c =
    let w = c.args.component.now in
    let next = next_entry c.entries.ahead c.entries.rest c.next.new.self (entry_value c.in-Some.entry) c.entries.invariant.same c.in-Some.ensures.entry c.next.ensures.rest in
    let passed = passed_next next w c.args.change c.args.entries (c.is_touched.ensures c.if-is_touched.false) c.entries.invariant.passed in
    record { same = sym c.copy-rest.ensures; passed = subst (IsPassed w c.args.change c.args.entries) (sym c.copy-rest.ensures) passed }
