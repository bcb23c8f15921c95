-- Proves what src/logging.rt needs of `history_of`.
use Rattle.std.proofs.Common.{ℕ, ◌<◌, List, All, length, map, get_or, reverse, sym, ap, subst, ◌∙◌}
use Rattle.std.proofs.lemmas.List.{take_all}
use Rattle.git_objects.specs.Paths.{Bytes}
use Rattle.git_objects.specs.Snapshots.{ancestors, snapshot_name}
use Rattle.projection_laws.specs.StoredGraphs.{name_at}
use Rattle.projection_ground.specs.Grounds.{commits_of}
use Rattle.history_ground.proofs.ProjectLemmas.{place-named}
use Rattle.read_cli.proofs.PlacesNamed.{name-more, name-told, names-placed, ps-below}
use Rattle.read_cli.proofs.logging.history_of.Goals as goal

pub name-requires : goal.name-requires
name-requires c =
    let g = c.args.ground.now in
    subst (λ (xs : List ℕ). All (λ p. p < length g.graph) xs) (sym c.deref-place-items.ensures.value)
    (ps-below g.store g.graph c.requires.ground.graph c.in-Some.place c.in-Some.ensures.within c.in_ok-places.places.items c.in_ok-places.ensures.rising c.in_ok-places.ensures.exact)
    c.loop-place.place-index 0 c.loop-place-test.true

pub loop-place-preserved : goal.loop-place-preserved
loop-place-preserved c =
    let g = c.args.ground.now in
    let ps = c.deref-place-items.result.now in
    let i = c.loop-place.place-index in
    let below : get_or ps i 0 < length g.graph =
    subst (λ (xs : List ℕ). All (λ p. p < length g.graph) xs) (sym c.deref-place-items.ensures.value)
    (ps-below g.store g.graph c.requires.ground.graph c.in-Some.place c.in-Some.ensures.within c.in_ok-places.places.items c.in_ok-places.ensures.rising c.in_ok-places.ensures.exact)
    i 0 c.loop-place-test.true
    in
    name-more g.store g.graph c.requires.ground.graph ps i c.loop-place-test.true c.loop-place.names.items c.push.new.self.items c.name.result c.in_ok-push.ensures.items
    (name-told g.store g.graph c.requires.ground.graph (get_or ps i 0) c.name.result.0 below c.name.ensures) c.loop-place.invariant

pub returns : goal.returns
returns c =
    let g = c.args.ground.now in
    let p = c.in-Some.place in
    c.loop-place.invariant
    ∙ ap (map (name_at g.graph)) (take_all c.loop-place.place-index c.deref-place-items.result.now c.loop-place-test.false ∙ c.deref-place-items.ensures.value)
    ∙ names-placed g.store g.graph c.requires.ground.graph p c.in-Some.ensures.within c.in_ok-places.places.items c.in_ok-places.ensures.rising c.in_ok-places.ensures.exact
    ∙ ap (λ (n : Bytes). map snapshot_name (reverse (ancestors (commits_of g) n))) (place-named c.args.head.now.0 g.graph p c.in-Some.ensures.place)
