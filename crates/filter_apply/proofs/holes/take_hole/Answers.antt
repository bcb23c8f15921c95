use Rattle.std.proofs.Common.{◌≡◌, ◌∙◌, ◌++◌, Bool, OnOk, ap, subst}
use Rattle.git_objects.specs.Paths.{Path}
use Rattle.object_store.specs.Unfolding.{flat}
use Rattle.object_store.proofs.Unfolding.{flat_good}
use Rattle.decision_lists.specs.Entries.{Entry, base, cone_of, tail}
use Rattle.filter_apply.specs.Holes.{IsWithout}
use Rattle.filter_apply.proofs.Cones.{in_cone}
use Rattle.filter_apply.proofs.Handing.{hole_away, hole_within, none_taken, rest_full}
use Rattle.filter_apply.proofs.holes.take_hole.Goals as goal

pub returns-in-None : goal.returns-in-None
returns-in-None g c =
    let S = c.args.store.now in
    let t = flat S c.args.root.0 in
    none_taken S t (λ p. in_cone c.args.hole.now.0 (base c.args.entry.now.0 ++ p)) c.args.stage.now
    (hole_away t c.args.entry.now c.args.hole.now c.hole.inside.point c.hole.inside.base.items (flat_good S c.requires.shows.1.store c.args.root.0 c.requires.root).tree c.requires.cone c.requires.apart
    (ap (λ (e : Entry). e.0) c.hole.view_is) (c.in-None.ensures ∙ ap (tail c.args.entry.now.0) c.as_slice.ensures.value))

pub take_out-requires-clause-rest : goal.take_out-requires-clause-rest
take_out-requires-clause-rest g c = rest_full c.args.entry.now.0 c.as_slice.result.now c.in-Some.rest.now c.in-Some.ensures c.requires.cone

pub returns-in-Some : goal.returns-in-Some
returns-in-Some g c =
    let S = c.args.store.now in
    let t = flat S c.args.root.0 in
    let v = c.in-Some.rest.now in
    let same : (p : Path) → in_cone (cone_of c.hole.inside.point v) p ≡ in_cone c.args.hole.now.0 (base c.args.entry.now.0 ++ p) =
    hole_within t c.args.entry.now c.args.hole.now c.hole.inside.point c.hole.inside.base.items (flat_good S c.requires.shows.1.store c.args.root.0 c.requires.root).tree c.requires.cone c.requires.apart
    (ap (λ (e : Entry). e.0) c.hole.view_is) v (c.in-Some.ensures ∙ ap (tail c.args.entry.now.0) c.as_slice.ensures.value) in
    subst (λ (taken : Path → Bool). OnOk c.take_out.result (IsWithout S t taken c.args.stage.now c.take_out.new.stage)) (λ i p. same p i) c.take_out.ensures
