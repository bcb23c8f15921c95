use Rattle.std.proofs.Common.{◌≤◌, subst, ℕ}
use Rattle.fast_export.proofs.ParentLines.{parent_added, parents_added}
use Rattle.fast_export.proofs.commits.add_parents.Goals as goal

pub loop-i-preserved : goal.loop-i-preserved
loop-i-preserved c =
    parent_added c.args.marks.now.commits c.loop-i.i c.args.commit.now.parents c.in-Some.parent _ c.loop-i.out.items _ c.in-Some.ensures c.loop-i.invariant c.in_ok-add_parent.ensures

pub returns : goal.returns
returns c =
    let all = subst (λ (n : ℕ). n ≤ c.loop-i.i) c.parent_count-i-end.ensures.count c.loop-i-test.false in
    parents_added c.args.marks.now.commits c.loop-i.i c.args.commit.now.parents c.loop-i.out.items _ all c.loop-i.invariant
