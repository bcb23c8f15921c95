use Rattle.std.proofs.Common.{◌≤◌, ◌++◌, ◌∷◌, [], List, arith, ap, get_or, length, map, subst, sym, take, ◌∙◌}
use Rattle.std.proofs.lemmas.List.{take_all, take_more}
use Rattle.std.proofs.lemmas.Result.{err_from_is_err_and}
use Rattle.git_objects.specs.declared.name.Name.{Name}
use Rattle.filter_apply.specs.Faults.{IsApplyFault}
use Rattle.filter_text.specs.Shapes.{shape}
use Rattle.projection_ground.proofs.TurnLemmas.{handed-on}
use Rattle.history_ground.specs.Before.{shown_before}
use Rattle.history_ground.specs.Heads.{IsSeenObject}
use Rattle.history_ground.proofs.Befores.{AreBefore, before-more, before-start, fault-before, line-still, walk-before, walked-map}
use Rattle.history_ground.proofs.HeadLemmas.{head-tree-has}
use Rattle.history_ground.proofs.Standing.{line-of, line-placed}
use Rattle.history_ground.proofs.TrueHeads.{tables-still}
use Rattle.history_ground.proofs.before.before_upon.Goals as goal

pub new-requires-clause-root : goal.new-requires-clause-root
new-requires-clause-root c = head-tree-has c.args.ground.now c.args.head.now.0 c.in-Some.place c.requires.ground c.in-Some.ensures.place c.tree-root.result.0 c.tree-root.ensures

pub returns-in_err-asked-clause-walked : goal.returns-in_err-asked-clause-walked
returns-in_err-asked-clause-walked c = tables-still (shape c.args.filter.now) c.args.head.now.0 c.args.ground.now c.new.new.ground c.requires.ground c.new.ensures.same c.new.ensures.map c.requires.map

pub loop-name-init : goal.loop-name-init
loop-name-init c =
    let f = shape c.args.filter.now in
    let g = c.args.ground.now in
    let k = c.new.new.ground in
    let h = c.args.head.now.0 in
    record {
      are = subst (AreBefore f h g k []) (sym c.new-found.ensures.items) (before-start f h g k (tables-still f h g k c.requires.ground c.new.ensures.same c.new.ensures.map c.requires.map));
      asked_for = c.in_ok-asked.ensures.asked;
    }

pub shown_among-requires-clause-map : goal.shown_among-requires-clause-map
shown_among-requires-clause-map c = walked-map (shape c.args.filter.now) c.args.head.now.0 c.args.ground.now c.loop-name.ground c.requires.ground c.loop-name.invariant.are.walked

pub shown_among-requires-clause-placed : goal.shown_among-requires-clause-placed
shown_among-requires-clause-placed c =
    let g = c.args.ground.now in
    let h = c.args.head.now.0 in
    let k = c.loop-name.ground in
    let ps = c.deref.result.now in
    let line = line-of h c.in_ok-places.places.items ps g.graph c.in-Some.place c.in-Some.ensures.place c.deref.ensures.value c.in_ok-places.ensures.exact in
    let walked = c.loop-name.invariant.are.walked in
    line-placed k walked.same.ground h ps (line-still (shape c.args.filter.now) h g k c.requires.ground ps line walked)

pub returns-in_err-projected-clause-walked : goal.returns-in_err-projected-clause-walked
returns-in_err-projected-clause-walked c =
    let g = c.args.ground.now in
    let h = c.args.head.now.0 in
    let ps = c.deref.result.now in
    let line = line-of h c.in_ok-places.places.items ps g.graph c.in-Some.place c.in-Some.ensures.place c.deref.ensures.value c.in_ok-places.ensures.exact in
    walk-before (shape c.args.filter.now) h g c.loop-name.ground c.requires.ground ps line c.loop-name.invariant.are.walked c.shown_among.new.ground c.shown_among.ensures.walked

pub returns-in_err-projected-clause-err : goal.returns-in_err-projected-clause-err
returns-in_err-projected-clause-err c =
    let f = shape c.args.filter.now in
    let g = c.args.ground.now in
    let h = c.args.head.now.0 in
    let ps = c.deref.result.now in
    let line = line-of h c.in_ok-places.places.items ps g.graph c.in-Some.place c.in-Some.ensures.place c.deref.ensures.value c.in_ok-places.ensures.exact in
    let S = c.shown_among.new.ground.store in
    let q = err_from_is_err_and c.from_residual-in_err-projected.result c.from_residual-in_err-projected.ensures.1 in
    handed-on (IsApplyFault (IsSeenObject f g h) S) c.from_residual-in_err-projected.result q.0 c.in_err-projected.field-0.0 q.1 q.2
    (fault-before f h g c.loop-name.ground c.requires.ground ps line c.loop-name.invariant.are.walked S c.in_err-projected.field-0.0 c.in_err-projected.ensures.err)

pub returns-in_err-add_found-clause-walked : goal.returns-in_err-add_found-clause-walked
returns-in_err-add_found-clause-walked c =
    let g = c.args.ground.now in
    let h = c.args.head.now.0 in
    let ps = c.deref.result.now in
    let line = line-of h c.in_ok-places.places.items ps g.graph c.in-Some.place c.in-Some.ensures.place c.deref.ensures.value c.in_ok-places.ensures.exact in
    walk-before (shape c.args.filter.now) h g c.loop-name.ground c.requires.ground ps line c.loop-name.invariant.are.walked c.shown_among.new.ground c.shown_among.ensures.walked

pub loop-name-preserved : goal.loop-name-preserved
loop-name-preserved c =
    let f = shape c.args.filter.now in
    let g = c.args.ground.now in
    let h = c.args.head.now.0 in
    let ps = c.deref.result.now in
    let line = line-of h c.in_ok-places.places.items ps g.graph c.in-Some.place c.in-Some.ensures.place c.deref.ensures.value c.in_ok-places.ensures.exact in
    let k = c.loop-name.ground in
    let m = c.shown_among.new.ground in
    let ns = c.args.commits.now in
    let i = c.loop-name.name-index in
    let nobody : Name = record { 0 = [] } in
    let so = c.loop-name.invariant.are in
    record {
      are = subst (λ (ns : List Name). AreBefore f h g m ns c.add_found.new.found.items) (sym (take_more ns i nobody c.loop-name-test.true))
          (subst (AreBefore f h g m (take i ns ++ get_or ns i nobody ∷ [])) (sym c.in_ok-add_found.ensures)
          (before-more f h g k c.requires.ground ps line so.walked m c.shown_among.ensures.walked (take i ns) c.loop-name.found.items so (get_or ns i nobody) c.in_ok-projected.projected
          c.in_ok-projected.ensures.ok c.in_ok-projected.ensures.there));
      asked_for = c.shown_among.ensures.asked;
    }

pub returns-clause-ok : goal.returns-clause-ok
returns-clause-ok c =
    let f = shape c.args.filter.now in
    let g = c.args.ground.now in
    let h = c.args.head.now.0 in
    let ns = c.args.commits.now in
    let end : length ns ≤ c.loop-name.name-index = let b = c.loop-name-test.false in omega (arith, b) in
    c.loop-name.invariant.are.are ∙ ap (λ (ms : List Name). map (λ (n : Name). shown_before f g h n.0) ms) (take_all c.loop-name.name-index ns end)
