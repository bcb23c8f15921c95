use Rattle.std.proofs.Common.{refl, sym, subst, ◌∙◌, Err, Result}
use Rattle.git_objects.specs.Trees.{Flat}
use Rattle.object_store.specs.Unfolding.{flat}
use Rattle.filter_text.specs.Shapes.{shape}
use Rattle.filter_unapply.specs.Hands.{IsLaidMade}
use Rattle.workspace.specs.Workspaces.{next, resolve}
use Rattle.projection_ground.proofs.Growing.{has-within}
use Rattle.push_laws.specs.PushVerdicts.{Refusal, tree_upon}
use Rattle.push_back.specs.Refusals.{IsTreeAnswer}
use Rattle.push_back.specs.declared.refusal.TreeRefusal.TheVariants.{BadWorkspace}
use Rattle.push_back.proofs.LaidTrees.{grows-store, grows-tables, grows-then, nothing-made, upon-bad, upon-laid}
use Rattle.push_back.proofs.trees.tree_upon.Goals as goal

pub returns-in_err-way-clause-same : goal.returns-in_err-way-clause-same
returns-in_err-way-clause-same c =
    let g = c.args.ground.now in
    let f = shape c.args.filter.now in
    let t = flat g.store c.args.base.0 in
    let n = flat g.store c.args.pushed.0 in
    grows-tables (IsLaidMade (next f t n) t n) g c.way_for.new.tables c.requires.ground c.way_for.ensures.tables

pub returns-then-way-clause-same : goal.returns-then-way-clause-same
returns-then-way-clause-same c =
    let g = c.args.ground.now in
    let f = shape c.args.filter.now in
    let t = flat g.store c.args.base.0 in
    let n = flat g.store c.args.pushed.0 in
    grows-tables (IsLaidMade (next f t n) t n) g c.way_for.new.tables c.requires.ground c.way_for.ensures.tables

pub returns-then-way-clause-answer : goal.returns-then-way-clause-answer
returns-then-way-clause-answer c =
    let g = c.args.ground.now in
    let f = shape c.args.filter.now in
    let s = c.requires.ground.graph.store in
    let t = flat g.store c.args.base.0 in
    let n = flat g.store c.args.pushed.0 in
    nothing-made (tree_upon f t n) (IsLaidMade (next f t n) t n) g.store (Err BadWorkspace) BadWorkspace s refl
    (upon-bad f t n (sym c.in_ok-way.ensures.way.bad ∙ c.if-way.true))

pub laid_by-requires-clause-ground : goal.laid_by-requires-clause-ground
laid_by-requires-clause-ground c =
    let g = c.args.ground.now in
    let f = shape c.args.filter.now in
    let t = flat g.store c.args.base.0 in
    let n = flat g.store c.args.pushed.0 in
    (grows-tables (IsLaidMade (next f t n) t n) g c.way_for.new.tables c.requires.ground c.way_for.ensures.tables).extends.ground

pub laid_by-requires-clause-old : goal.laid_by-requires-clause-old
laid_by-requires-clause-old c = has-within c.way_for.new.tables _ c.in_ok-way.way.old c.in_ok-way.ensures.way.below

pub laid_by-requires-clause-new : goal.laid_by-requires-clause-new
laid_by-requires-clause-new c = has-within c.way_for.new.tables _ c.in_ok-way.way.new c.in_ok-way.ensures.way.by

pub returns-clause-answer : goal.returns-clause-answer
returns-clause-answer c =
    let g = c.args.ground.now in
    let f = shape c.args.filter.now in
    let t = flat g.store c.args.base.0 in
    let n = flat g.store c.args.pushed.0 in
    subst (λ (v : Result Flat Refusal). IsTreeAnswer v (IsLaidMade (next f t n) t n) g.store c.laid_by.new.ground.store c.laid_by.result)
    (sym (upon-laid f t n (sym c.in_ok-way.ensures.way.bad ∙ c.if-way.false)))
    (c.laid_by.ensures.answer (resolve f t) (next f t n) c.in_ok-way.ensures.way.below c.in_ok-way.ensures.way.by)

pub returns-clause-same : goal.returns-clause-same
returns-clause-same c =
    let g = c.args.ground.now in
    let f = shape c.args.filter.now in
    let t = flat g.store c.args.base.0 in
    let n = flat g.store c.args.pushed.0 in
    let a = grows-tables (IsLaidMade (next f t n) t n) g c.way_for.new.tables c.requires.ground c.way_for.ensures.tables in
    grows-then (IsLaidMade (next f t n) t n) g (record g { tables = c.way_for.new.tables }) c.laid_by.new.ground a
    (grows-store (IsLaidMade (next f t n) t n) (record g { tables = c.way_for.new.tables }) c.laid_by.new.ground a.extends.ground c.laid_by.ensures.rest
    (c.laid_by.ensures.answer (resolve f t) (next f t n) c.in_ok-way.ensures.way.below c.in_ok-way.ensures.way.by).grown)
