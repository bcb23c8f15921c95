use Rattle.std.proofs.Common.{[], ◌&&◌, sym, ap, ◌∙◌}
use Rattle.std.specs.Option.{is_some}
use Rattle.git_objects.specs.Bodies.{tree_entries}
use Rattle.git_objects.specs.Views.{entry_value}
use Rattle.git_objects.proofs.TreeReading.{entry-shorter}
use Rattle.git_objects.proofs.TreeViews.{none_of, value_of, step_stands, tree_none, nothing_left}
use Rattle.git_objects.proofs.Spellings.{not_empty}
use Rattle.git_objects.proofs.tree_view.TreeView.of.Goals as goal

pub returns-in_default : goal.returns-in_default
returns-in_default c =
    none_of (tree_entries c.args.body.now)
    (sym c.entries.invariant ∙ tree_none c.entries.rest.now (not_empty c.entries.rest.now (cc)) (sym c.in_default.ensures))

pub returns-then-not-stands : goal.returns-then-not-stands
returns-then-not-stands c =
    none_of (tree_entries c.args.body.now)
    (sym c.entries.invariant
    ∙ step_stands c.entries.rest.now (entry_value c.in-Some.entry) c.in-Some.after.now c.stands.result (sym c.in-Some.ensures) c.stands.ensures
    ∙ ap (λ v. v && is_some (tree_entries c.in-Some.after.now)) c.if-not-stands.true)

pub entries-smaller : goal.entries-smaller
entries-smaller c = entry-shorter c.entries.rest.now (entry_value c.in-Some.entry, c.in-Some.after.now) (sym c.in-Some.ensures)

pub entries-preserved : goal.entries-preserved
entries-preserved c =
    sym (ap (λ v. v && is_some (tree_entries c.in-Some.after.now)) c.if-not-stands.false)
    ∙ sym (step_stands c.entries.rest.now (entry_value c.in-Some.entry) c.in-Some.after.now c.stands.result (sym c.in-Some.ensures) c.stands.ensures)
    ∙ c.entries.invariant

pub invariant_of-result : goal.invariant_of-result
invariant_of-result c = sym c.entries.invariant ∙ nothing_left c.entries.rest.now (cc)

pub returns : goal.returns
returns c = value_of (tree_entries c.args.body.now) [] (sym c.entries.invariant ∙ nothing_left c.entries.rest.now (cc))
