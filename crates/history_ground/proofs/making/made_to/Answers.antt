use Rattle.std.proofs.Common.{refl, sym, ap, subst, ◌∙◌, is_some, true≢false}
use Rattle.std.proofs.lemmas.Result.{err_from_is_err_and}
use Rattle.filter_apply.specs.Faults.{IsApplyFault}
use Rattle.filter_text.specs.Shapes.{shape}
use Rattle.commit_map.specs.Shown.{kept_at}
use Rattle.projection_ground.specs.Grounds.{commits_of}
use Rattle.history_ground.specs.Heads.{IsSeenObject}
use Rattle.history_ground.specs.TrueWalks.{IsTrueWalk}
use Rattle.history_ground.proofs.ProjectLemmas.{head-there, lacks-head, place-named, place-within}
use Rattle.history_ground.proofs.TrueHeads.{made-kept}
use Rattle.projection_ground.proofs.TurnLemmas.{handed-on}
use Rattle.history_ground.proofs.making.made_to.Goals as goal

pub returns-in-Some-clause-ok : goal.returns-in-Some-clause-ok
returns-in-Some-clause-ok c =
    let g = c.args.ground.now in
    let n = c.args.head.now.0 in
    made-kept g.store (commits_of g) g.rule (shape c.args.filter.now) g.map c.requires.map n (head-there g n c.requires.ground c.requires.head) c.in-Some.kept c.in-Some.ensures

pub walk-requires-clause-place : goal.walk-requires-clause-place
walk-requires-clause-place c = place-within c.args.head.now.0 c.args.ground.now.graph c.in-Some-index_of.place c.in-Some-index_of.ensures.place

pub walk-requires-clause-lacked : goal.walk-requires-clause-lacked
walk-requires-clause-lacked c = lacks-head c.args.ground.now c.args.ground.now c.in-Some-index_of.place c.args.head.now.0 refl refl c.in-Some-index_of.ensures.place c.in_default.ensures

pub returns-in_err-walk-clause-walked : goal.returns-in_err-walk-clause-walked
returns-in_err-walk-clause-walked c =
    let g = c.args.ground.now in
    let n = c.args.head.now.0 in
    subst (λ b. IsTrueWalk (shape c.args.filter.now) b g c.walk.new.ground) (place-named n g.graph c.in-Some-index_of.place c.in-Some-index_of.ensures.place) c.walk.ensures.walked

pub returns-in_err-walk-clause-err : goal.returns-in_err-walk-clause-err
returns-in_err-walk-clause-err c =
    let f = shape c.args.filter.now in
    let g = c.args.ground.now in
    let n = c.args.head.now.0 in
    let S = c.walk.new.ground.store in
    let p = err_from_is_err_and c.from_residual.result c.from_residual.ensures.1 in
    handed-on (IsApplyFault (IsSeenObject f g n) S) c.from_residual.result p.0 c.in_err-walk.field-0.0 p.1 p.2
    (subst (λ b. IsApplyFault (IsSeenObject f g b) S c.in_err-walk.field-0.0) (place-named n g.graph c.in-Some-index_of.place c.in-Some-index_of.ensures.place) c.in_err-walk.ensures.err)

pub unreachable-requires-in-None : goal.unreachable-requires-in-None
unreachable-requires-in-None c =
    let g = c.args.ground.now in
    let named = place-named c.args.head.now.0 g.graph c.in-Some-index_of.place c.in-Some-index_of.ensures.place in
    true≢false (sym c.in_ok-walk.ensures.ok ∙ ap (λ b. is_some (kept_at b c.walk.new.ground.map)) named ∙ sym (ap is_some c.in-None.ensures))

pub returns-clause-ok : goal.returns-clause-ok
returns-clause-ok c =
    let g = c.args.ground.now in
    let k = c.walk.new.ground in
    let n = c.args.head.now.0 in
    made-kept k.store (commits_of g) g.rule (shape c.args.filter.now) k.map c.walk.ensures.walked.map n (head-there g n c.requires.ground c.requires.head) c.in-Some-get.kept c.in-Some-get.ensures

pub returns-clause-walked : goal.returns-clause-walked
returns-clause-walked c =
    let g = c.args.ground.now in
    let n = c.args.head.now.0 in
    subst (λ b. IsTrueWalk (shape c.args.filter.now) b g c.walk.new.ground) (place-named n g.graph c.in-Some-index_of.place c.in-Some-index_of.ensures.place) c.walk.ensures.walked
