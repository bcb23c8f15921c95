use Rattle.std.proofs.Common.{Option, Result, Err, sym, ap, subst, ◌∙◌}
use Rattle.std.proofs.lemmas.Result.{err_from_is_err_and}
use Rattle.std.specs.Option.{option_map}
use Rattle.path_trees.specs.declared.found.Leaf.{Leaf}
use Rattle.proj_audit.specs.Readings.{leaf_below}
use Rattle.proj_audit.specs.Steps.{Reads, found_value}
use Rattle.proj_audit.specs.declared.objects.Stop.{Stop}
use Rattle.proj_audit.proofs.Steps.{stops-below}
use Rattle.proj_audit.proofs.walking.leaf_below.Goals as goal

pub returns-in_err-entries : goal.returns-in_err-entries
returns-in_err-entries g c =
    let p = err_from_is_err_and c.from_residual.result c.from_residual.ensures.1 in
    let os = g.O.Objects.objects c.args.objects.now in
    let whole = leaf_below os c.args.root.0 c.args.path.now in
    subst (λ (r : Result (Option Leaf) Stop). Reads (option_map found_value) whole c.args.used.now.items c.tree_named.new.used.items r)
    (sym (p.1 ∙ ap Err p.2))
    (stops-below os (option_map found_value) _ _ whole c.loop-i.directory.0 c.args.path.now c.loop-i.i c.args.used.now.items
    c.tree_named.new.used.items c.loop-i.used.items c.tree_named.new.used.items c.in_err-entries.field-0.0 c.loop-i-test.true
    c.loop-i.invariant c.in_err-entries.ensures)
