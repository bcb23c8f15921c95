use Rattle.std.proofs.Common.{ap, arith}
use Rattle.std.proofs.lemmas.Result.{err_from_is_err_and}
use Rattle.stage_nodes.proofs.Walking.{way_within}
use Rattle.std.proofs.lemmas.Option.{slice_get_within}
use Rattle.stage_nodes.proofs.Opening.{read_node}
use Rattle.stage_nodes.proofs.Seeking.{inside_link}
use Rattle.stage_tree.proofs.InPlace.{last_node, put_in_place}
use Rattle.stage_tree.proofs.Putting.{has_spot, put_at}
use Rattle.stage_tree.proofs.sets.put_on.Goals as goal

pub index-node-requires : goal.index-node-requires
index-node-requires c =
    let n = (last_node c.requires.way.0 c.args.nodes.now c.args.nodes.now c.args.components.now c.args.way c.requires.way.1 c.in-Some.number c.in-Some.ensures c.args.found c.requires.way.2).0 in
    omega (arith, slice_get_within c.args.nodes.now.cells.items c.in-Some.number n.node n.there)

pub set-requires : goal.set-requires
set-requires c =
    let n = (last_node c.requires.way.0 c.args.nodes.now c.args.nodes.now c.args.components.now c.args.way c.requires.way.1 c.in-Some.number c.in-Some.ensures c.args.found c.requires.way.2).0 in
    inside_link c.args.nodes.now.names.items c.args.nodes.now.cells.items c.in-Some.number (slice_get_within c.args.nodes.now.cells.items c.in-Some.number n.node n.there)

pub returns-in-Held-clause-ok : goal.returns-in-Held-clause-ok
returns-in-Held-clause-ok c = λ S w held.
    let n = (last_node S c.args.nodes.now c.set.new.self c.args.components.now c.args.way w c.in-Some.number c.in-Some.ensures c.args.found held).0 in
    put_in_place S c.args.nodes.now c.set.new.self c.args.components.now c.args.way w c.in-Some.number c.in-Some.ensures c.args.found held c.in-Held.field-0 c.index-node.result.now
    (read_node c.args.nodes.now.cells.items c.in-Some.number c.index-node.result.now n.node c.index-node.ensures n.there) c.in-Held.is c.set.ensures.cells (ap (λ v. v.items) c.set.ensures.names) c.set.ensures.free

pub replace-requires : goal.replace-requires
replace-requires c = has_spot c.requires.way.0 c.args.nodes.now c.args.nodes.now c.branch-nodes.new.self c.args.components.now c.args.way.level c.args.way.spot.link c.args.way.spot.child c.args.found c.in_ok-number.number c.requires.components c.requires.way.2 c.requires.way.1 c.in_ok-number.ensures.ok

pub returns-clause-ok : goal.returns-clause-ok
returns-clause-ok c = λ S w held. put_at S c.args.nodes.now c.branch-nodes.new.self c.args.components.now c.args.way.level c.args.way.spot.link c.args.way.spot.child c.args.found c.in_ok-number.number c.requires.components held w c.in_ok-number.ensures.ok c.replace.new.self c.replace.ensures

pub reached-requires : goal.reached-requires
reached-requires c = way_within c.requires.way.0 c.args.nodes.now c.args.nodes.now c.args.components.now c.args.way.level c.args.way.spot.link c.args.way.spot.child c.requires.way.1

pub branch-nodes-requires-clause-level : goal.branch-nodes-requires-clause-level
branch-nodes-requires-clause-level c = way_within c.requires.way.0 c.args.nodes.now c.args.nodes.now c.args.components.now c.args.way.level c.args.way.spot.link c.args.way.spot.child c.requires.way.1

pub branch-nodes-requires-clause-pool : goal.branch-nodes-requires-clause-pool
branch-nodes-requires-clause-pool c = c.requires.way.1.still.opened.directory.pool

pub returns-in-Held-clause-err : goal.returns-in-Held-clause-err
returns-in-Held-clause-err c = tt

pub returns-in_err-number-clause-ok : goal.returns-in_err-number-clause-ok
returns-in_err-number-clause-ok c = let p = err_from_is_err_and c.from_residual.result c.from_residual.ensures.1 in rw (p.1) tt

pub returns-in_err-number-clause-err : goal.returns-in_err-number-clause-err
returns-in_err-number-clause-err c = let p = err_from_is_err_and c.from_residual.result c.from_residual.ensures.1 in rw (p.1) c.in_err-number.ensures.err

pub returns-clause-err : goal.returns-clause-err
returns-clause-err c = tt
