use Rattle.std.proofs.Common.{inl}
use Rattle.std.proofs.lemmas.Result.{err_from_is_err_and}
use Rattle.stage_tree.proofs.CopyEdits.{copied_files, roomy, too_many, walkable}
use Rattle.stage_nodes.proofs.Finishing.{on_err, on_ok}
use Rattle.stage_tree.proofs.copies.most_with_copy.Goals as goal

pub walk-requires-clause-nodes : goal.walk-requires-clause-nodes
walk-requires-clause-nodes c = walkable c.args.store.now c.args.nodes.now c.requires.opened

pub returns-in_err-files-clause-err : goal.returns-in_err-files-clause-err
returns-in_err-files-clause-err c =
    let r = err_from_is_err_and c.from_residual.result c.from_residual.ensures.1 in
    rw (r.1) (λ h t n holds. inl r.2)

pub returns-clause-ok : goal.returns-clause-ok
returns-clause-ok c =
    let S = c.args.store.now in let s = c.args.nodes.now in let q = c.args.to.now in let w = c.walk.result in
    let aim = c.walk.ensures (walkable S s c.requires.opened) c.requires.clear in
    on_ok c.most_with.result (λ m room h t n holds. roomy _ _ _ m (copied_files S c.requires.store s c.requires.opened c.args.number h t n holds q c.requires.path w.level w.spot.link w.spot.child aim) (room _ c.in_ok-files.ensures)) c.most_with.ensures.ok

pub returns-clause-err : goal.returns-clause-err
returns-clause-err c =
    let S = c.args.store.now in let s = c.args.nodes.now in let q = c.args.to.now in let w = c.walk.result in
    let aim = c.walk.ensures (walkable S s c.requires.opened) c.requires.clear in
    on_err c.most_with.result (λ e no h t n holds. too_many e _ c.in_ok-files.files _ _ (copied_files S c.requires.store s c.requires.opened c.args.number h t n holds q c.requires.path w.level w.spot.link w.spot.child aim) c.in_ok-files.ensures no) c.most_with.ensures.err

pub most_with-requires-clause-opened : goal.most_with-requires-clause-opened
most_with-requires-clause-opened c = c.requires.opened

pub most_with-requires-clause-most : goal.most_with-requires-clause-most
most_with-requires-clause-most c = c.requires.most

pub node_files-requires-clause-opened : goal.node_files-requires-clause-opened
node_files-requires-clause-opened c = c.requires.opened

pub node_files-requires-clause-place : goal.node_files-requires-clause-place
node_files-requires-clause-place c = c.requires.place

pub returns-in_err-files-clause-ok : goal.returns-in_err-files-clause-ok
returns-in_err-files-clause-ok c = let p = err_from_is_err_and c.from_residual.result c.from_residual.ensures.1 in rw (p.1) tt
