use Rattle.git_objects.specs.Trees.{rests}
use Rattle.object_store.specs.Unfolding.{flat}
use Rattle.object_store.proofs.Unfolding.{flat_good}
use Rattle.object_store.proofs.Growth.{grown_as}
use Rattle.path_trees.specs.Standing.{node}
use Rattle.filter_apply.specs.Hands.{IsPartObject}
use Rattle.filter_apply.proofs.Bases.{node_handed}
use Rattle.filter_apply.proofs.Handing.{err_as}
use Rattle.filter_apply.proofs.parts.part.Goals as goal

pub returns-in-Some-clause-err : goal.returns-in-Some-clause-err
returns-in-Some-clause-err g c =
    let S = c.args.store.now in
    let t = flat S c.args.root.0 in
    let n = node S c.in-Some.found in
    err_as (IsPartObject (rests n)) (IsPartObject t) c.part_in.new.store c.part_in.result
    (node_handed t c.args.place.now (flat_good S c.found_at.ensures.store c.args.root.0 c.requires.root).tree n c.in-Some.ensures.found) c.part_in.ensures.err

pub returns-in-Some-clause-store : goal.returns-in-Some-clause-store
returns-in-Some-clause-store g c =
    let S = c.args.store.now in
    let t = flat S c.args.root.0 in
    let n = node S c.in-Some.found in
    grown_as (IsPartObject (rests n)) (IsPartObject t) S c.part_in.new.store
    (node_handed t c.args.place.now (flat_good S c.found_at.ensures.store c.args.root.0 c.requires.root).tree n c.in-Some.ensures.found) c.part_in.ensures.store
