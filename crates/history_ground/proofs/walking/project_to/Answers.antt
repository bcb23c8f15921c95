use Rattle.std.proofs.Common.{sym, ap, ◌∙◌, is_some, true≢false}
use Rattle.std.specs.Option.{option_map}
use Rattle.std.proofs.lemmas.Result.{err_from_is_err_and}
use Rattle.filter_text.specs.Shapes.{shape}
use Rattle.filter_apply.specs.Faults.{IsApplyFault}
use Rattle.commit_map.specs.Shown.{shown_value}
use Rattle.projection_ground.specs.Grounds.{IsShownOf, commits_of}
use Rattle.projection_ground.proofs.Asking.{extends-none}
use Rattle.projection_ground.proofs.TurnLemmas.{handed-on, tree-held}
use Rattle.history_ground.proofs.ProjectLemmas.{head-there, kept-head, lacks-head, named-head, place-within, whole-few, whole-fault, whole-kept, whole-map, whole-ok, whole-same}
use Rattle.history_ground.proofs.walking.project_to.Goals as goal

pub returns-in-Some-clause-ok : goal.returns-in-Some-clause-ok
returns-in-Some-clause-ok g c = kept-head c.args.ground.now (shape c.args.filter.now) c.args.head.now.0 (option_map shown_value c.in-Some.kept) c.requires.ground c.requires.head c.in-Some.ensures

pub new-requires-clause-root : goal.new-requires-clause-root
new-requires-clause-root g c = tree-held c.args.ground.now c.in-Some-index_of.place c.tree-root.result.0 c.requires.ground (place-within c.args.head.now.0 c.args.ground.now.graph c.in-Some-index_of.place c.in-Some-index_of.ensures.place) c.tree-root.ensures

pub returns-in_err-asked-clause-same : goal.returns-in_err-asked-clause-same
returns-in_err-asked-clause-same g c = extends-none (IsShownOf (shape c.args.filter.now) (commits_of c.args.ground.now)) c.args.ground.now c.new.new.ground c.new.ensures.same

pub walk-requires-clause-lacked : goal.walk-requires-clause-lacked
walk-requires-clause-lacked g c = lacks-head c.args.ground.now c.new.new.ground c.in-Some-index_of.place c.args.head.now.0 c.new.ensures.same.graph c.new.ensures.map c.in-Some-index_of.ensures.place c.in_default.ensures

pub returns-in_err-walk-clause-map : goal.returns-in_err-walk-clause-map
returns-in_err-walk-clause-map g c =
    whole-map (shape c.args.filter.now) c.args.head.now.0 c.args.ground.now c.new.new.ground c.walk.new.ground c.in-Some-index_of.place c.requires.ground c.new.ensures.same c.new.ensures.map
    (named-head c.args.ground.now c.new.new.ground c.in-Some-index_of.place c.args.head.now.0 c.new.ensures.same.graph c.in-Some-index_of.ensures.place) c.args.steps.now c.walk.new.steps c.walk.ensures.walked

pub returns-in_err-walk-clause-same : goal.returns-in_err-walk-clause-same
returns-in_err-walk-clause-same g c =
    whole-same (shape c.args.filter.now) c.args.head.now.0 c.args.ground.now c.new.new.ground c.walk.new.ground c.in-Some-index_of.place c.requires.ground c.new.ensures.same c.new.ensures.map
    (named-head c.args.ground.now c.new.new.ground c.in-Some-index_of.place c.args.head.now.0 c.new.ensures.same.graph c.in-Some-index_of.ensures.place) c.args.steps.now c.walk.new.steps c.walk.ensures.walked

pub returns-in_err-walk-clause-err : goal.returns-in_err-walk-clause-err
returns-in_err-walk-clause-err g c =
    let f = shape c.args.filter.now in
    let p = err_from_is_err_and c.from_residual-in_err-walk.result c.from_residual-in_err-walk.ensures.1 in
    handed-on (IsApplyFault (IsShownOf f (commits_of c.args.ground.now)) c.walk.new.ground.store) c.from_residual-in_err-walk.result p.0 c.in_err-walk.field-0.0 p.1 p.2
    (whole-fault f c.args.head.now.0 c.args.ground.now c.new.new.ground c.walk.new.ground c.in-Some-index_of.place c.requires.ground c.new.ensures.same c.new.ensures.map
    (named-head c.args.ground.now c.new.new.ground c.in-Some-index_of.place c.args.head.now.0 c.new.ensures.same.graph c.in-Some-index_of.ensures.place) c.args.steps.now c.walk.new.steps c.walk.ensures.walked c.in_err-walk.field-0.0 c.in_err-walk.ensures.err)

pub returns-in_err-walk-clause-few : goal.returns-in_err-walk-clause-few
returns-in_err-walk-clause-few g c =
    whole-few (shape c.args.filter.now) c.args.head.now.0 c.args.ground.now c.new.new.ground c.walk.new.ground c.in-Some-index_of.place c.requires.ground c.new.ensures.same c.new.ensures.map
    (named-head c.args.ground.now c.new.new.ground c.in-Some-index_of.place c.args.head.now.0 c.new.ensures.same.graph c.in-Some-index_of.ensures.place) c.args.steps.now c.walk.new.steps c.walk.ensures.walked

pub unreachable-requires-in-None : goal.unreachable-requires-in-None
unreachable-requires-in-None g c =
    true≢false (sym (whole-kept (shape c.args.filter.now) c.args.head.now.0 c.args.ground.now c.new.new.ground c.walk.new.ground c.in-Some-index_of.place c.requires.ground c.new.ensures.same c.new.ensures.map
    (named-head c.args.ground.now c.new.new.ground c.in-Some-index_of.place c.args.head.now.0 c.new.ensures.same.graph c.in-Some-index_of.ensures.place) c.args.steps.now c.walk.new.steps c.walk.ensures.walked c.in_ok-walk.ensures.ok)
    ∙ sym (ap is_some c.in-None.ensures))

pub returns-clause-ok : goal.returns-clause-ok
returns-clause-ok g c =
    whole-ok (shape c.args.filter.now) c.args.head.now.0 c.args.ground.now c.new.new.ground c.walk.new.ground c.in-Some-index_of.place c.requires.ground c.new.ensures.same c.new.ensures.map
    (named-head c.args.ground.now c.new.new.ground c.in-Some-index_of.place c.args.head.now.0 c.new.ensures.same.graph c.in-Some-index_of.ensures.place) c.args.steps.now c.walk.new.steps c.walk.ensures.walked
    (option_map shown_value c.in-Some-get.kept) (head-there c.args.ground.now c.args.head.now.0 c.requires.ground c.requires.head) c.in-Some-get.ensures

pub returns-clause-map : goal.returns-clause-map
returns-clause-map g c =
    whole-map (shape c.args.filter.now) c.args.head.now.0 c.args.ground.now c.new.new.ground c.walk.new.ground c.in-Some-index_of.place c.requires.ground c.new.ensures.same c.new.ensures.map
    (named-head c.args.ground.now c.new.new.ground c.in-Some-index_of.place c.args.head.now.0 c.new.ensures.same.graph c.in-Some-index_of.ensures.place) c.args.steps.now c.walk.new.steps c.walk.ensures.walked

pub returns-clause-same : goal.returns-clause-same
returns-clause-same g c =
    whole-same (shape c.args.filter.now) c.args.head.now.0 c.args.ground.now c.new.new.ground c.walk.new.ground c.in-Some-index_of.place c.requires.ground c.new.ensures.same c.new.ensures.map
    (named-head c.args.ground.now c.new.new.ground c.in-Some-index_of.place c.args.head.now.0 c.new.ensures.same.graph c.in-Some-index_of.ensures.place) c.args.steps.now c.walk.new.steps c.walk.ensures.walked

pub returns-clause-few : goal.returns-clause-few
returns-clause-few g c =
    whole-few (shape c.args.filter.now) c.args.head.now.0 c.args.ground.now c.new.new.ground c.walk.new.ground c.in-Some-index_of.place c.requires.ground c.new.ensures.same c.new.ensures.map
    (named-head c.args.ground.now c.new.new.ground c.in-Some-index_of.place c.args.head.now.0 c.new.ensures.same.graph c.in-Some-index_of.ensures.place) c.args.steps.now c.walk.new.steps c.walk.ensures.walked
