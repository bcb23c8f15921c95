use Rattle.std.proofs.Common.{◌<◌, length, sym}
use Rattle.std.proofs.lemmas.List.Elements.{All-contains}
use Rattle.std.proofs.lemmas.Result.{IfOk-weaker}
use Rattle.commit_map.specs.Shown.{shown_value}
use Rattle.projection_laws.specs.Projections.{is_shown_as}
use Rattle.projection_laws.specs.StoredGraphs.{name_at}
use Rattle.projection_ground.proofs.Lacks.{find-some}
use Rattle.projection_ground.proofs.Leading.{behind-one, leads-none, test-first}
use Rattle.projection_ground.proofs.choosing.leads.Goals as goal

pub returns-in-None : goal.returns-in-None
returns-in-None c = λ place b ks a.
    leads-none c.args.ground.now place c.requires.ground b.within ks a (shown_value c.args.m.now) c.args.parents.now b.behind c.requires.kept c.in-None.ensures

pub reaches_each-requires-clause-first : goal.reaches_each-requires-clause-first
reaches_each-requires-clause-first c =
    let g = c.args.ground.now in
    let f = find-some (λ p. is_shown_as g.map (shown_value c.args.m.now) (name_at g.graph p)) c.args.parents.now c.in-Some.first (sym c.in-Some.ensures) in
    All-contains (λ p. p < length g.graph) c.args.parents.now c.in-Some.first c.requires.parents f.0

pub returns-in-Some : goal.returns-in-Some
returns-in-Some c = λ place b.
    let g = c.args.ground.now in
    let m = shown_value c.args.m.now in
    let f = find-some (λ p. is_shown_as g.map m (name_at g.graph p)) c.args.parents.now c.in-Some.first (sym c.in-Some.ensures) in
    IfOk-weaker c.reaches_each.result _ _
    (test-first g place m c.args.parents.now c.args.projected.now c.in-Some.first c.requires.ground b c.requires.kept c.in-Some.ensures c.requires.members)
    (c.reaches_each.ensures place (behind-one g place c.args.parents.now c.in-Some.first b f.0))
