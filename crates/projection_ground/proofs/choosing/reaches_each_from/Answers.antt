use Rattle.std.proofs.Common.{◌≡◌, ◌<◌, ◌↔◌, ◌∷◌, [], length, ℕ, List, All, Contains, refl, sym, subst, ap, ◌∙◌, arith}
use Rattle.std.specs.List.{list_all, list_any}
use Rattle.commit_graph.specs.Graphs.{Reaches}
use Rattle.commit_map.specs.Shown.{shown_value}
use Rattle.projection_laws.specs.Projections.{is_shown_as}
use Rattle.projection_laws.specs.StoredGraphs.{name_at}
use Rattle.projection_ground.specs.Choosing.{AreKept, IsLacked}
use Rattle.projection_ground.proofs.Leading.{reached-below, window-true, window-whole}
use Rattle.projection_ground.proofs.choosing.reaches_each_from.Goals as goal

pub last_lacking-requires : goal.last_lacking-requires
last_lacking-requires c =
    let g = c.args.ground.now in
    subst (All (λ p. p < length g.graph)) (sym c.deref.ensures.value)
    (reached-below g (length g.graph) c.args.first c.in_ok-places.places.items c.requires.ground c.requires.first (λ i d. ((c.in_ok-places.ensures.exact i).0 d).1))

pub returns-in-Some-clause-test : goal.returns-in-Some-clause-test
returns-in-Some-clause-test c =
    let g = c.args.ground.now in
    let q = c.in-Some.place in
    let there : Contains c.in_ok-places.places.items q = subst (λ (qs : List ℕ). Contains qs q) c.deref.ensures.value c.in-Some.ensures.some.0 in
    let w : IsLacked g (c.args.first ∷ []) q = record {
      parent = c.args.first;
      among = (0, omega arith, refl);
      reached = ((c.in_ok-places.ensures.exact q).0 there).1;
      lacked = c.in-Some.ensures.some.1;
    } in
    λ place b. w

pub are_among-requires : goal.are_among-requires
are_among-requires c =
    let g = c.args.ground.now in
    subst (All (λ p. p < length g.graph)) (sym c.deref-2.ensures.value)
    (reached-below g (length g.graph) c.args.first c.in_ok-places.places.items c.requires.ground c.requires.first (λ i d. ((c.in_ok-places.ensures.exact i).0 d).1))

pub returns-then-are_among-clause-test : goal.returns-then-are_among-clause-test
returns-then-are_among-clause-test c = λ place b ks a.
    let g = c.args.ground.now in
    let places = c.in_ok-places.places.items in
    let below : c.args.first < place = b.behind 0 0 (omega arith) in
    let reach : (i : ℕ) → Contains places i → Reaches g.graph c.args.first i = λ i d. ((c.in_ok-places.ensures.exact i).0 d).1 in
    window-true g place c.requires.ground b.within ks a c.args.projected.now c.args.first places below reach
    (reached-below g place c.args.first places c.requires.ground below reach) (subst (AreKept g) c.deref.ensures.value c.in_default.ensures.none)
    (sym c.if-are_among.true ∙ c.are_among.ensures
    ∙ ap (λ (qs : List ℕ). list_all (λ x. list_any (λ p. is_shown_as g.map (shown_value x) (name_at g.graph p)) qs) c.args.projected.now) c.deref-2.ensures.value)

pub returns-then-low-eq0-clause-test : goal.returns-then-low-eq0-clause-test
returns-then-low-eq0-clause-test c = λ place b ks a.
    let g = c.args.ground.now in
    let places = c.in_ok-places.places.items in
    let below : c.args.first < place = b.behind 0 0 (omega arith) in
    let first : c.args.low ≡ 0 = c.if-low-eq0.true in
    let exact : (i : ℕ) → Contains places i ↔ Reaches g.graph c.args.first i = λ i. (
      λ d. ((c.in_ok-places.ensures.exact i).0 d).1,
      λ u. (c.in_ok-places.ensures.exact i).1 (omega (arith, first), u),
    ) in
    sym c.if-are_among.false ∙ c.are_among.ensures
    ∙ ap (λ (qs : List ℕ). list_all (λ x. list_any (λ p. is_shown_as g.map (shown_value x) (name_at g.graph p)) qs) c.args.projected.now) c.deref-2.ensures.value
    ∙ window-whole g place c.requires.ground b.within ks a c.args.projected.now c.args.first places below exact
    (reached-below g place c.args.first places c.requires.ground below (λ i. (exact i).0)) (subst (AreKept g) c.deref.ensures.value c.in_default.ensures.none)
