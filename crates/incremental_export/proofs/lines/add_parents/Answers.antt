use Rattle.std.proofs.Common.{◌≤◌, map, subst, ℕ}
use Rattle.fast_export.specs.Given.{commit_mark}
use Rattle.incremental_export.proofs.ParentRefs.{none_added, ref_added, refs_added}
use Rattle.incremental_export.proofs.lines.add_parents.Goals as goal

pub loop-i-init : goal.loop-i-init
loop-i-init c = none_added (map commit_mark c.args.marks.now.commits) c.args.out.now.items c.args.commit.now.parents

pub loop-i-preserved : goal.loop-i-preserved
loop-i-preserved c =
    ref_added (map commit_mark c.args.marks.now.commits) c.loop-i.i c.args.commit.now.parents c.in-Some.parent.0 _ c.loop-i.out.items _ c.in-Some.ensures c.loop-i.invariant c.in_ok-add_parent.ensures

pub returns : goal.returns
returns c =
    let all = subst (λ (n : ℕ). n ≤ c.loop-i.i) c.parent_count-i-end.ensures.count c.loop-i-test.false in
    refs_added (map commit_mark c.args.marks.now.commits) c.loop-i.i c.args.commit.now.parents c.loop-i.out.items _ all c.loop-i.invariant
