use Rattle.std.proofs.Common.{◌<◌, ℕ, List, All, map, get_or, arith, sym, subst, ap, ◌∙◌}
use Rattle.git_objects.specs.Commits.{Commit}
use Rattle.object_store.specs.Unfolding.{flat}
use Rattle.commit_map.specs.Shown.{shown_value}
use Rattle.projection_laws.specs.Projections.{chosen, members, own}
use Rattle.projection_ground.specs.Choosing.{AreKept, IsChoice, leads_at, leads_upon, names_at, parents_at}
use Rattle.projection_ground.proofs.Lacks.{parents-are}
use Rattle.projection_ground.proofs.Leading.{lacked-below}
use Rattle.projection_ground.proofs.TurnLemmas.{choice-below, choice-member, choice-new, choice-nothing, made-upon}
use Rattle.projection_ground.proofs.turning.turn_upon.Goals as goal

pub chosen-requires-clause-parents : goal.chosen-requires-clause-parents
chosen-requires-clause-parents c = λ i d l.
    let b : get_or c.parents.result.now i d < c.args.place = c.parents.ensures.below i d l in
    let t = c.requires.place in
    omega (arith, b, t)

pub chosen-requires-clause-kept : goal.chosen-requires-clause-kept
chosen-requires-clause-kept c =
    let g = c.args.ground.now in
    subst (AreKept g) (sym (parents-are g.graph c.args.place c.parents.result.now c.requires.place c.parents.ensures.parents)) c.requires.kept

pub chosen-requires-clause-members : goal.chosen-requires-clause-members
chosen-requires-clause-members c =
    let g = c.args.ground.now in
    c.requires.members
    ∙ ap (λ (qs : List ℕ). members g.map (names_at g.graph qs)) (sym (parents-are g.graph c.args.place c.parents.result.now c.requires.place c.parents.ensures.parents))

pub returns-in-Below : goal.returns-in-Below
returns-in-Below c = λ (d : Commit) e.
    let g = c.args.ground.now in
    let t = flat g.store c.args.tree.0 in
    let ms = map shown_value c.args.projected.now in
    let place = c.args.place in
    let ps = parents-are g.graph place c.parents.result.now c.requires.place c.parents.ensures.parents in
    let l = c.requires.place in
    lacked-below g place c.in-Below.below c.requires.ground c.requires.place (subst (All (λ p. p < place)) ps c.parents.ensures.below)
    (choice-below g place (parents_at g.graph place) (own t d.letter ms) (λ ks. chosen g.rule (leads_at g place ks) t d.letter ms) c.in_ok-below.field-0 c.in-Below.below
    (subst (λ (qs : List ℕ). IsChoice g place qs (own t d.letter ms) (λ ks. chosen g.rule (leads_upon g place qs ks) t d.letter ms) c.in_ok-below.field-0) ps
    (c.in_ok-below.ensures place d.letter (record { within = omega (arith, l); behind = c.parents.ensures.below }))) c.in-Below.is)

pub returns-in-Nothing : goal.returns-in-Nothing
returns-in-Nothing c = λ (d : Commit) e.
    let g = c.args.ground.now in
    let t = flat g.store c.args.tree.0 in
    let ms = map shown_value c.args.projected.now in
    let place = c.args.place in
    let ps = parents-are g.graph place c.parents.result.now c.requires.place c.parents.ensures.parents in
    let l = c.requires.place in
    choice-nothing g place (parents_at g.graph place) (own t d.letter ms) (λ ks. chosen g.rule (leads_at g place ks) t d.letter ms) c.in_ok-below.field-0
    (subst (λ (qs : List ℕ). IsChoice g place qs (own t d.letter ms) (λ ks. chosen g.rule (leads_upon g place qs ks) t d.letter ms) c.in_ok-below.field-0) ps
    (c.in_ok-below.ensures place d.letter (record { within = omega (arith, l); behind = c.parents.ensures.below }))) c.in-Nothing.is

pub returns-in-Member : goal.returns-in-Member
returns-in-Member c = λ (d : Commit) e.
    let g = c.args.ground.now in
    let t = flat g.store c.args.tree.0 in
    let ms = map shown_value c.args.projected.now in
    let place = c.args.place in
    let ps = parents-are g.graph place c.parents.result.now c.requires.place c.parents.ensures.parents in
    let l = c.requires.place in
    choice-member g place (parents_at g.graph place) (own t d.letter ms) (λ ks. chosen g.rule (leads_at g place ks) t d.letter ms) c.in_ok-below.field-0 c.in-Member.m
    (subst (λ (qs : List ℕ). IsChoice g place qs (own t d.letter ms) (λ ks. chosen g.rule (leads_upon g place qs ks) t d.letter ms) c.in_ok-below.field-0) ps
    (c.in_ok-below.ensures place d.letter (record { within = omega (arith, l); behind = c.parents.ensures.below }))) c.in-Member.is

pub returns-in-New : goal.returns-in-New
returns-in-New c = λ (d : Commit) e.
    let g = c.args.ground.now in
    let t = flat g.store c.args.tree.0 in
    let ms = map shown_value c.args.projected.now in
    let place = c.args.place in
    let ps = parents-are g.graph place c.parents.result.now c.requires.place c.parents.ensures.parents in
    let l = c.requires.place in
    made-upon g place c.args.tree.0 d.letter ms c.made.result
    (choice-new g place (parents_at g.graph place) (own t d.letter ms) (λ ks. chosen g.rule (leads_at g place ks) t d.letter ms) c.in_ok-below.field-0
    (subst (λ (qs : List ℕ). IsChoice g place qs (own t d.letter ms) (λ ks. chosen g.rule (leads_upon g place qs ks) t d.letter ms) c.in_ok-below.field-0) ps
    (c.in_ok-below.ensures place d.letter (record { within = omega (arith, l); behind = c.parents.ensures.below }))) c.in-New.is)
    (c.made.ensures d e)
