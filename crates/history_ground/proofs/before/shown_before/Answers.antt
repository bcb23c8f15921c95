use Rattle.std.proofs.Common.{sym, subst}
use Rattle.commit_map.specs.Shown.{Entries}
use Rattle.filter_text.specs.Shapes.{shape}
use Rattle.projection_ground.specs.TrueMaps.{IsPutBehind, IsTakenOut}
use Rattle.history_ground.specs.Heads.{IsSeenObject}
use Rattle.history_ground.proofs.TrueHeads.{inner-ground, inner-map, inner-put}
use Rattle.history_ground.proofs.before.shown_before.Goals as goal

pub before_upon-result-requires-clause-ground : goal.before_upon-result-requires-clause-ground
before_upon-result-requires-clause-ground c =
    let f = shape c.args.filter.now in
    let g = c.args.ground.now in
    let out = subst (IsTakenOut f g.rule g.true_maps c.take-known.new.self) (sym c.replace-kept.ensures.after) c.take-known.ensures in
    inner-ground f g c.take-known.new.self c.replace-kept.new.dest c.requires.ground out

pub before_upon-result-requires-clause-map : goal.before_upon-result-requires-clause-map
before_upon-result-requires-clause-map c =
    let f = shape c.args.filter.now in
    let g = c.args.ground.now in
    let out = subst (IsTakenOut f g.rule g.true_maps c.take-known.new.self) (sym c.replace-kept.ensures.after) c.take-known.ensures in
    inner-map f g c.take-known.new.self c.replace-kept.new.dest c.requires.ground out

pub returns-clause-same : goal.returns-clause-same
returns-clause-same c =
    let f = shape c.args.filter.now in
    let g = c.args.ground.now in
    let k = c.before_upon-result.new.ground in
    let out = subst (IsTakenOut f g.rule g.true_maps c.take-known.new.self) (sym c.replace-kept.ensures.after) c.take-known.ensures in
    let put = subst (λ (es : Entries). IsPutBehind f g.rule es k.true_maps c.put.new.self) c.replace-known.ensures.value c.put.ensures in
    inner-put f g c.take-known.new.self c.replace-kept.new.dest c.requires.ground out (IsSeenObject f g c.args.head.now.0) k c.replace-known.new.dest c.put.new.self
    c.before_upon-result.ensures.walked.same c.before_upon-result.ensures.walked.map put
