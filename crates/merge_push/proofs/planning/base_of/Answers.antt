use Rattle.std.proofs.Common.{sym, subst}
use Rattle.std.proofs.lemmas.Result.{err_from_is_err_and}
use Rattle.filter_apply.specs.Faults.{IsApplyFault}
use Rattle.filter_text.specs.Shapes.{shape}
use Rattle.projection_ground.proofs.TurnLemmas.{handed-on}
use Rattle.merge_push.specs.Bringing.{IsBaseObject, IsMergeBaseOf}
use Rattle.merge_push.proofs.Basing.{base-fault, base-same, from-there, merge-base-of, seen-fault, seen-same, tree-there}
use Rattle.merge_push.proofs.planning.base_of.Goals as goal

pub returns-in_err-seen-clause-same : goal.returns-in_err-seen-clause-same
returns-in_err-seen-clause-same c = seen-same (shape c.args.filter.now) c.args.head.now.0 c.args.ground.now c.seen_head.new.ground c.requires.ground c.seen_head.ensures.same

pub returns-in_err-seen-clause-err : goal.returns-in_err-seen-clause-err
returns-in_err-seen-clause-err c =
    let f = shape c.args.filter.now in
    let g = c.args.ground.now in
    let n = c.args.head.now.0 in
    let S = c.seen_head.new.ground.store in
    let p = err_from_is_err_and c.from_residual.result c.from_residual.ensures.1 in
    handed-on (IsApplyFault (IsBaseObject f g n) S) c.from_residual.result p.0 c.in_err-seen.field-0.0 p.1 p.2
    (seen-fault f n g c.seen_head.new.ground c.requires.ground c.seen_head.ensures.same S c.in_err-seen.field-0.0 c.in_err-seen.ensures.err)

pub returns-in_err-origins-clause-same : goal.returns-in_err-origins-clause-same
returns-in_err-origins-clause-same c = base-same (shape c.args.filter.now) c.args.head.now.0 c.args.ground.now c.seen_head.new.ground c.requires.ground c.seen_head.ensures.same c.of.new.ground c.of.ensures.same

pub returns-in_err-origins-clause-err : goal.returns-in_err-origins-clause-err
returns-in_err-origins-clause-err c =
    let f = shape c.args.filter.now in
    let g = c.args.ground.now in
    let n = c.args.head.now.0 in
    let S = c.of.new.ground.store in
    let p = err_from_is_err_and c.from_residual-in_err-origins.result c.from_residual-in_err-origins.ensures.1 in
    handed-on (IsApplyFault (IsBaseObject f g n) S) c.from_residual-in_err-origins.result p.0 c.in_err-origins.field-0.0 p.1 p.2
    (base-fault f n g c.seen_head.new.ground c.requires.ground c.seen_head.ensures.same c.of.new.ground c.of.ensures.same S c.in_err-origins.field-0.0 c.in_err-origins.ensures.err)

pub push_base-requires-clause-tree : goal.push_base-requires-clause-tree
push_base-requires-clause-tree c = tree-there (shape c.args.filter.now) c.args.head.now.0 c.args.ground.now c.seen_head.new.ground c.requires.ground c.seen_head.ensures.same c.of.new.ground c.of.ensures.same c.in_ok-seen.seen c.in_ok-seen.ensures.ok

pub push_base-requires-clause-there : goal.push_base-requires-clause-there
push_base-requires-clause-there c = from-there (shape c.args.filter.now) c.args.head.now.0 c.args.ground.now c.seen_head.new.ground c.requires.ground c.seen_head.ensures.same c.of.new.ground c.of.ensures.same c.in_ok-seen.seen c.in_ok-seen.ensures.ok

pub returns-in_err-push-clause-same : goal.returns-in_err-push-clause-same
returns-in_err-push-clause-same c = base-same (shape c.args.filter.now) c.args.head.now.0 c.args.ground.now c.seen_head.new.ground c.requires.ground c.seen_head.ensures.same c.of.new.ground c.of.ensures.same

pub returns-clause-ok : goal.returns-clause-ok
returns-clause-ok c =
    let f = shape c.args.filter.now in
    let g = c.args.ground.now in
    let n = c.args.head.now.0 in
    subst (IsMergeBaseOf f c.args.refname.now n g c.of.new.ground.store) (λ i. record { push = sym c.new.ensures.push i; origins = sym c.new.ensures.origins i })
    (merge-base-of f n g c.seen_head.new.ground c.requires.ground c.seen_head.ensures.same c.of.new.ground c.of.ensures.same c.in_ok-seen.seen c.in_ok-seen.ensures.ok c.args.refname.now c.in_ok-origins.origins c.in_ok-origins.ensures.ok
    c.in_ok-push.push c.in_ok-push.ensures)

pub returns-clause-same : goal.returns-clause-same
returns-clause-same c = base-same (shape c.args.filter.now) c.args.head.now.0 c.args.ground.now c.seen_head.new.ground c.requires.ground c.seen_head.ensures.same c.of.new.ground c.of.ensures.same
