use Rattle.std.proofs.Common.{ap, arith}
use Rattle.std.proofs.lemmas.Option.{slice_get_within}
use Rattle.std.proofs.lemmas.Result.{err_from_is_err_and}
use Rattle.stage_nodes.specs.Pools.{spare}
use Rattle.stage_tree.proofs.Copying.{copy_link, one_copied}
use Rattle.stage_nodes.proofs.Opening.{read_node}
use Rattle.stage_nodes.proofs.Pools.{free_inside}
use Rattle.stage_tree.proofs.copies.copy_one.Goals as goal

pub place-requires : goal.place-requires
place-requires c = free_inside c.args.nodes.now (spare c.args.nodes.now) c.requires.pool.walk

pub point-requires : goal.point-requires
point-requires c =
    let s = c.args.nodes.now in let h = c.requires in
    copy_link s c.place.new.self c.place.new.self c.args.number c.in_ok-number.number c.args.first c.args.next h c.index-node.result.now (read_node s.cells.items c.args.number c.index-node.result.now h.node c.index-node.ensures h.there)
    c.in_ok-number.ensures.number c.in_ok-number.ensures.cells c.in_ok-number.ensures.free (ap (λ v. v.items) c.in_ok-number.ensures.names)

pub returns-clause-ok : goal.returns-clause-ok
returns-clause-ok c = λ h.
    let s = c.args.nodes.now in
    one_copied s c.place.new.self c.point.new.self c.args.number c.in_ok-number.number c.args.first c.args.next h c.index-node.result.now (read_node s.cells.items c.args.number c.index-node.result.now h.node c.index-node.ensures h.there)
    c.in_ok-number.ensures.number c.in_ok-number.ensures.cells c.in_ok-number.ensures.free (ap (λ v. v.items) c.in_ok-number.ensures.names)
    c.point.ensures.cells (ap (λ v. v.items) c.point.ensures.names) c.point.ensures.free

pub returns-in_err-number-clause-ok : goal.returns-in_err-number-clause-ok
returns-in_err-number-clause-ok c = let p = err_from_is_err_and c.from_residual.result c.from_residual.ensures.1 in rw (p.1) tt

pub returns-clause-err : goal.returns-clause-err
returns-clause-err c = tt

pub index-node-requires : goal.index-node-requires
index-node-requires c = omega (arith, slice_get_within c.args.nodes.now.cells.items c.args.number c.requires.node c.requires.there)
