use Rattle.std.proofs.Common.{[], ◌∙◌}
use Rattle.fast_export.proofs.Sent.{put_err}
use Rattle.fast_import.proofs.WalkedLeaves.{leaf_here, stepped}
use Rattle.fast_export.proofs.WrittenLeaves.{less_lines, more_lines, no_lines, one_line, path_here, short_lines}
use Rattle.fast_export.proofs.leaves.write_each_leaf.Goals as goal

pub leaves-init : goal.leaves-init
leaves-init g c = ([], no_lines c.args.front.now _ _ c.args.marked.now.store.now c.args.tree.0 c.in_ok-walk.walk c.args.marked.now.marks.now c.requires.marked.store c.requires.tree c.in_ok-walk.ensures)

pub returns-in_err-next : goal.returns-in_err-next
returns-in_err-next g c = put_err _ _ _ _ _ _ _ c.from_residual-in_err-next.ensures.1 (short_lines c.args.front.now _ _ _ _ _ _ _ _ _ _ c.leaves.invariant.1)

pub returns-in_err-path : goal.returns-in_err-path
returns-in_err-path g c = put_err _ _ _ _ _ _ _ c.from_residual-in_err-path.ensures.1 (short_lines c.args.front.now _ _ _ _ _ _ _ _ _ _ c.leaves.invariant.1)

pub leaves-preserved : goal.leaves-preserved
leaves-preserved g c =
    let step = stepped _ _ _ c.leaves.walk.left _ c.next.new.self c.leaves.invariant.1.passed c.in_ok-next.ensures c.if-branch.true in
    let here = leaf_here c.args.marked.now.store.now c.next.new.self.current step.0 c.leaf.result step.1 c.leaf.ensures.mode c.leaf.ensures.name step.3 in
    let line = one_line c.args.front.now c.args.marked.now.store.now c.args.marked.now.marks.now step.0 c.path.result.now c.leaf.result c.requires.marked.held here.0 here.1 (path_here _ step.0 _ step.1 c.path.ensures) c.deref.result.now (c.deref.ensures.value ∙ c.in_ok-path.ensures) in
    (_, more_lines c.args.front.now _ _ _ _ _ _ _ _ _ _ _ step.0 _ c.args.marked.now.marks.now c.leaves.invariant.1 step.2 line c.in_ok-write_leaf.ensures.put)

pub returns-in_err-write_leaf : goal.returns-in_err-write_leaf
returns-in_err-write_leaf g c =
    let step = stepped _ _ _ c.leaves.walk.left _ c.next.new.self c.leaves.invariant.1.passed c.in_ok-next.ensures c.if-branch.true in
    let here = leaf_here c.args.marked.now.store.now c.next.new.self.current step.0 c.leaf.result step.1 c.leaf.ensures.mode c.leaf.ensures.name step.3 in
    let line = one_line c.args.front.now c.args.marked.now.store.now c.args.marked.now.marks.now step.0 c.path.result.now c.leaf.result c.requires.marked.held here.0 here.1 (path_here _ step.0 _ step.1 c.path.ensures) c.deref.result.now (c.deref.ensures.value ∙ c.in_ok-path.ensures) in
    put_err _ _ _ _ _ c.in_err-write_leaf.field-0.0 _ c.from_residual-in_err-write_leaf.ensures.1
    (less_lines c.args.front.now _ _ _ _ _ _ _ _ _ _ _ step.0 _ c.args.marked.now.marks.now _ c.leaves.invariant.1 step.2 line c.in_err-write_leaf.ensures.put)
