use Rattle.std.proofs.Common.{sym, ◌∙◌}
use Rattle.git_objects.specs.Parts.{name_bytes}
use Rattle.git_objects.proofs.CommitViews.{passed_none, passed_more, passed_all, passed_most}
use Rattle.git_objects.proofs.commit_view.parent_lines.Goals as goal
use Rattle.git_objects.proofs.commit_view.parent_lines.Goals.{then-parents-test+else-is_parent, else-parents-test}

pub parents-init : goal.parents-init
parents-init c = passed_none c.args.text.now

pub parents-preserved : goal.parents-preserved
parents-preserved c =
    passed_more c.parents.count c.args.text.now c.parents.rest.now (name_bytes c.in_ok-after.field-0-0) c.in_ok-after.after.now
    c.parents.invariant c.parents-test.true (sym c.is_parent.ensures ∙ c.if-is_parent.true) (sym c.in_ok-after.ensures)

pub returns-clause-rest : goal.returns-clause-rest
returns-clause-rest c =
    elim c.parents-test.branch [
      | then-parents-test+else-is_parent w ↦ passed_all c.parents.count c.args.text.now c.parents.rest.now c.parents.invariant (sym w.is_parent.ensures ∙ w.if-is_parent.false)
      | else-parents-test w ↦ passed_most c.parents.count c.args.text.now c.parents.rest.now c.parents.invariant w.parents-test.false
    ]
