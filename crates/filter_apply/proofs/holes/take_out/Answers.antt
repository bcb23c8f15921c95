use Rattle.std.proofs.Common.{◌∙◌, sym, append-nil}
use Rattle.object_store.specs.Unfolding.{flat}
use Rattle.object_store.proofs.Unfolding.{flat_good}
use Rattle.decision_lists.specs.Entries.{cone_of}
use Rattle.filter_apply.proofs.Cones.{in_cone, nothing_there}
use Rattle.filter_apply.proofs.Handing.{all_taken, none_taken, left_in, taken_out, on_ok}
use Rattle.filter_apply.proofs.holes.take_out.Goals as goal

pub returns-in_ok-path-in-Some : goal.returns-in_ok-path-in-Some
returns-in_ok-path-in-Some g c =
    let S = c.args.store.now in
    let t = flat S c.args.root.0 in
    let v = c.args.rest.now in
    on_ok c.remove.result
    (all_taken S t (in_cone (cone_of c.args.point v)) c.args.stage.now c.remove.new.self v c.in_ok-path-in-Some.path (c.in_ok-path-in-Some.ensures ∙ append-nil v)
    (taken_out S t v c.in-Some.found (flat_good S c.in-Some.ensures.store c.args.root.0 c.requires.root).tree c.in-Some.ensures.found c.is_dir.result c.args.point c.is_dir.ensures c.if-is_dir-point.true))
    c.remove.ensures.ok

pub returns-in_default : goal.returns-in_default
returns-in_default g c =
    let S = c.args.store.now in
    let t = flat S c.args.root.0 in
    let v = c.args.rest.now in
    none_taken S t (in_cone (cone_of c.args.point v)) c.args.stage.now
    (left_in S t v c.in-Some.found (flat_good S c.in-Some.ensures.store c.args.root.0 c.requires.root).tree c.in-Some.ensures.found c.is_dir.result c.args.point c.is_dir.ensures c.if-is_dir-point.false)

pub returns-in_default-2 : goal.returns-in_default-2
returns-in_default-2 g c =
    let S = c.args.store.now in
    let t = flat S c.args.root.0 in
    let v = c.args.rest.now in
    none_taken S t (in_cone (cone_of c.args.point v)) c.args.stage.now
    (nothing_there t (flat_good S c.in_default.ensures.store c.args.root.0 c.requires.root).tree v c.args.point (sym c.in_default.ensures.found))
