use Rattle.std.proofs.Common.{List, sym, subst}
use Rattle.commit_map.specs.Shown.{Entries}
use Rattle.filter_text.specs.Shapes.{shape}
use Rattle.projection_ground.specs.TrueMaps.{IsPutBehind, IsTakenOut}
use Rattle.projection_ground.specs.declared.true_maps.TrueMap.{TrueMap}
use Rattle.merge_push.specs.Originals.{IsMadeOver}
use Rattle.merge_push.proofs.Ending.{inner-map, put-back}
use Rattle.merge_push.proofs.commits.originals.Goals as goal

pub originals_within-result-requires-clause-map : goal.originals_within-result-requires-clause-map
originals_within-result-requires-clause-map c =
    let f = shape c.args.filter.now in
    let g = c.args.ground.now in
    let left = c.take-known.new.self in
    let es = c.replace-kept.new.dest in
    let out = subst (λ (ms : List TrueMap). IsTakenOut f g.rule ms left es) c.replace-maps.ensures.value (subst (IsTakenOut f g.rule c.replace-maps.result left) (sym c.replace-kept.ensures.after) c.take-known.ensures) in
    let t = inner-map f c.args.head.now.0 g left es c.requires.ground out in
    record { of = t.of; values = t.values }

pub returns-clause-same : goal.returns-clause-same
returns-clause-same c = λ cs k.
    let f = shape c.args.filter.now in
    let g = c.args.ground.now in
    let n = c.args.head.now.0 in
    let left = c.take-known.new.self in
    let es = c.replace-kept.new.dest in
    let l = c.originals_within-result.new.ground in
    let out = subst (λ (ms : List TrueMap). IsTakenOut f g.rule ms left es) c.replace-maps.ensures.value (subst (IsTakenOut f g.rule c.replace-maps.result left) (sym c.replace-kept.ensures.after) c.take-known.ensures) in
    let a = c.originals_within-result.ensures.same cs (record { standing = k.standing; read_again = k.read_again; joined = k.joined }) in
    let put = subst (λ (xs : Entries). IsPutBehind f g.rule xs left c.put.new.self) c.replace-known.ensures.value c.put.ensures in
    put-back f n g left es c.requires.ground out (IsMadeOver f g n cs) l c.put.new.self c.replace-known.new.dest
    (record { rows = a.rows; entries = a.entries; rule = a.rule; tables = a.tables; store = a.store; ground = a.ground }) c.originals_within-result.ensures.graph c.originals_within-result.ensures.map put
