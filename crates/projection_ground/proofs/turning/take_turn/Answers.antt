use Rattle.std.proofs.Common.{◌≡◌, ◌<◌, ◌≤◌, ℕ, List, All, map, length, sym, subst, ap, ◌∙◌, arith}
use Rattle.std.proofs.lemmas.Result.{err_from_is_err_and}
use Rattle.git_objects.specs.Commits.{Letter}
use Rattle.git_objects.specs.Snapshots.{Snapshot}
use Rattle.filter_text.specs.Shapes.{shape}
use Rattle.filter_apply.specs.Faults.{IsApplyFault}
use Rattle.commit_map.specs.Shown.{shown_value}
use Rattle.commit_map.specs.declared.commit_map.Shown.{Shown}
use Rattle.projection_laws.specs.Projections.{members}
use Rattle.projection_ground.specs.Choosing.{names_at, parents_at}
use Rattle.projection_ground.specs.Grounds.{IsShownOf, commits_of}
use Rattle.projection_ground.specs.Turns.{IsTurnUpon}
use Rattle.projection_ground.proofs.Lacks.{parents-are}
use Rattle.projection_ground.proofs.TurnLemmas.{few-parents, handed-on, named-grown, placed, seen-fault, seen-same, seen-stands, tree-held, turn-upon}
use Rattle.projection_ground.proofs.turning.take_turn.Goals as goal

pub seen-requires-clause-root : goal.seen-requires-clause-root
seen-requires-clause-root c = tree-held c.args.ground.now c.args.place c.tree-root.result.0 c.requires.ground c.requires.place c.tree-root.ensures

pub returns-in_err-tree-clause-same : goal.returns-in_err-tree-clause-same
returns-in_err-tree-clause-same c = seen-same (shape c.args.filter.now) c.args.ground.now c.seen.new.ground c.args.place c.tree-root.result.0 c.seen.result c.requires.ground c.requires.place c.tree-root.ensures c.seen.ensures.shown

pub returns-in_err-tree-clause-err : goal.returns-in_err-tree-clause-err
returns-in_err-tree-clause-err c =
    let f = shape c.args.filter.now in
    let p = err_from_is_err_and c.from_residual-in_err-tree.result c.from_residual-in_err-tree.ensures.1 in
    handed-on (IsApplyFault (IsShownOf f (commits_of c.args.ground.now)) c.seen.new.ground.store) c.from_residual-in_err-tree.result p.0 c.in_err-tree.field-0.0 p.1 p.2
    (seen-fault f c.args.ground.now c.seen.new.ground c.args.place c.tree-root.result.0 c.seen.result c.requires.ground c.requires.place c.tree-root.ensures c.seen.ensures.shown c.in_err-tree.field-0.0 c.in_err-tree.was)

pub turn_upon-requires-clause-members : goal.turn_upon-requires-clause-members
turn_upon-requires-clause-members c =
    let g = c.args.ground.now in
    let ps = parents-are g.graph c.args.place c.parents.result.now c.requires.place c.parents.ensures.parents in
    ap (λ (ms : List Shown). map shown_value ms) c.deref.ensures.value
    ∙ c.in_ok-projected.ensures.members
    ∙ ap (λ (qs : List ℕ). members g.map (names_at g.graph qs)) ps
    ∙ (λ i. members (sym c.seen.ensures.shown.map i) (names_at (sym c.seen.ensures.shown.same.graph i) (parents_at (sym c.seen.ensures.shown.same.graph i) c.args.place)))

pub turn_upon-requires-clause-few : goal.turn_upon-requires-clause-few
turn_upon-requires-clause-few c =
    let g = c.args.ground.now in
    let few : length c.parents.result.now ≤ 16 = few-parents g c.args.place c.requires.ground c.requires.place c.parents.result.now (parents-are g.graph c.args.place c.parents.result.now c.requires.place c.parents.ensures.parents) in
    let l : length c.in_ok-projected.projected.items ≤ length c.parents.result.now = c.in_ok-projected.ensures.few in
    let e : length c.deref.result.now ≡ length c.in_ok-projected.projected.items = ap length c.deref.ensures.value in
    omega (arith, few, l, e)

pub returns-in_err-turn-clause-same : goal.returns-in_err-turn-clause-same
returns-in_err-turn-clause-same c = seen-same (shape c.args.filter.now) c.args.ground.now c.seen.new.ground c.args.place c.tree-root.result.0 c.seen.result c.requires.ground c.requires.place c.tree-root.ensures c.seen.ensures.shown

pub returns-clause-same : goal.returns-clause-same
returns-clause-same c = seen-same (shape c.args.filter.now) c.args.ground.now c.seen.new.ground c.args.place c.tree-root.result.0 c.seen.result c.requires.ground c.requires.place c.tree-root.ensures c.seen.ensures.shown

pub returns-clause-ok : goal.returns-clause-ok
returns-clause-ok c = λ (d : Snapshot) e.
    let f = shape c.args.filter.now in
    let g = c.args.ground.now in
    let h = c.seen.new.ground in
    let same = seen-same f g h c.args.place c.tree-root.result.0 c.seen.result c.requires.ground c.requires.place c.tree-root.ensures c.seen.ensures.shown in
    let p = placed g c.args.place d c.requires.ground c.requires.place e in
    let ps = parents-are g.graph c.args.place c.parents.result.now c.requires.place c.parents.ensures.parents in
    let letter : p.at.commit.letter ≡ d.letter = ap (λ (x : Snapshot). x.letter) p.at.is in
    turn-upon (IsShownOf f (commits_of g)) f g h c.args.place d c.requires.ground c.requires.place same c.seen.ensures.shown.map p c.in_default.ensures.none
    (subst (All (λ q. q < c.args.place)) ps c.parents.ensures.below) c.in_ok-tree.tree.0 (seen-stands f g h c.args.place d c.tree-root.result.0 c.in_ok-tree.tree.0 p c.tree-root.ensures c.in_ok-tree.ensures.shown.ok)
    (map shown_value c.deref.result.now)
    (ap (λ (ms : List Shown). map shown_value ms) c.deref.ensures.value ∙ c.in_ok-projected.ensures.members ∙ ap (λ (qs : List ℕ). members g.map (names_at g.graph qs)) ps)
    c.in_ok-turn.turn
    (subst (λ (l : Letter). IsTurnUpon h c.args.place c.in_ok-tree.tree.0 l (map shown_value c.deref.result.now) c.in_ok-turn.turn) letter
    (c.in_ok-turn.ensures p.at.commit (named-grown (IsShownOf f (commits_of g)) g h c.args.place d c.requires.ground same p)))
