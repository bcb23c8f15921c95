use Rattle.std.proofs.Common.{IfErr, IfOk, subst}
use Rattle.std.proofs.lemmas.Result.{err_from_is_err_and}
use Rattle.git_objects.specs.Snapshots.{tree_at}
use Rattle.git_objects.specs.declared.name.Name.{Name}
use Rattle.object_store.specs.Unfolding.{StandsFor}
use Rattle.workspace.specs.Workspaces.{shown}
use Rattle.filter_apply.specs.Faults.{IsApplyFault}
use Rattle.filter_text.specs.Shapes.{shape}
use Rattle.projection_ground.specs.Grounds.{IsShownOf, commits_of}
use Rattle.projection_ground.proofs.Asking.{extends-none}
use Rattle.projection_ground.proofs.TurnLemmas.{handed-on}
use Rattle.history_ground.proofs.HeadLemmas.{head-fault, head-same, head-shown, head-tree-has, root-held}
use Rattle.history_ground.proofs.heads.shown_first.Goals as goal

pub new-requires-clause-root : goal.new-requires-clause-root
new-requires-clause-root c = head-tree-has c.args.ground.now c.args.head.now.0 c.in-Some.place c.requires.ground c.in-Some.ensures.place c.tree-root.result.0 c.tree-root.ensures

pub returns-in_err-asked-clause-same : goal.returns-in_err-asked-clause-same
returns-in_err-asked-clause-same c = extends-none (IsShownOf (shape c.args.filter.now) (commits_of c.args.ground.now)) c.args.ground.now c.new.new.ground c.new.ensures.same

pub seen-requires-clause-root : goal.seen-requires-clause-root
seen-requires-clause-root c =
    root-held (shape c.args.filter.now) c.args.ground.now c.new.new.ground c.new.new.ground c.args.head.now.0 c.in-Some.place c.requires.ground c.in-Some.ensures.place c.tree-root.result.0 c.tree-root.ensures c.new.ensures.same c.new.ensures.map

pub returns-in_err-tree-clause-same : goal.returns-in_err-tree-clause-same
returns-in_err-tree-clause-same c =
    head-same (shape c.args.filter.now) c.args.ground.now c.new.new.ground c.seen.new.ground c.args.head.now.0 c.in-Some.place c.requires.ground c.in-Some.ensures.place c.tree-root.result.0 c.tree-root.ensures c.new.ensures.same c.new.ensures.map
    c.seen.result c.seen.ensures.shown

pub returns-in_err-tree-clause-err : goal.returns-in_err-tree-clause-err
returns-in_err-tree-clause-err c =
    let f = shape c.args.filter.now in
    let g = c.args.ground.now in
    let k = c.seen.new.ground in
    let made = IsShownOf f (commits_of g) in
    let p = err_from_is_err_and c.from_residual-in_err-tree.result c.from_residual-in_err-tree.ensures.1 in
    handed-on (IsApplyFault made k.store) c.from_residual-in_err-tree.result p.0 c.in_err-tree.field-0.0 p.1 p.2
    (subst (λ r. IfErr r (IsApplyFault made k.store)) c.in_err-tree.was
    (head-fault f g c.new.new.ground k c.args.head.now.0 c.in-Some.place c.requires.ground c.in-Some.ensures.place c.tree-root.result.0 c.tree-root.ensures c.new.ensures.same c.new.ensures.map
    c.seen.result c.seen.ensures.shown))

pub returns-clause-ok : goal.returns-clause-ok
returns-clause-ok c =
    let f = shape c.args.filter.now in
    let g = c.args.ground.now in
    let n = c.args.head.now.0 in
    let k = c.seen.new.ground in
    subst (λ r. IfOk r (λ (x : Name). StandsFor k.store x.0 (shown f (tree_at (commits_of g) n)))) c.in_ok-tree.was
    (head-shown f g c.new.new.ground k n c.in-Some.place c.requires.ground c.in-Some.ensures.place c.tree-root.result.0 c.tree-root.ensures c.new.ensures.same c.new.ensures.map
    c.seen.result c.seen.ensures.shown)

pub returns-clause-same : goal.returns-clause-same
returns-clause-same c =
    head-same (shape c.args.filter.now) c.args.ground.now c.new.new.ground c.seen.new.ground c.args.head.now.0 c.in-Some.place c.requires.ground c.in-Some.ensures.place c.tree-root.result.0 c.tree-root.ensures c.new.ensures.same c.new.ensures.map
    c.seen.result c.seen.ensures.shown
