use Rattle.std.proofs.Common.{sym, subst, ◌∙◌, Result}
use Rattle.git_objects.specs.Trees.{Flat}
use Rattle.object_store.specs.Unfolding.{flat}
use Rattle.filter_text.specs.Shapes.{shape}
use Rattle.filter_unapply.specs.Hands.{IsLaidMade}
use Rattle.workspace.specs.Workspaces.{next}
use Rattle.push_laws.specs.PushVerdicts.{Refusal}
use Rattle.push_back.specs.Refusals.{IsTreeAnswer}
use Rattle.push_back.proofs.LaidTrees.{tree-changed, tree-names}
use Rattle.push_back.proofs.trees.original_tree.Goals as goal

pub returns-clause-answer : goal.returns-clause-answer
returns-clause-answer c =
    let g = c.args.ground.now in
    let f = shape c.args.filter.now in
    let s = c.requires.ground.graph.store in
    let t = flat g.store c.args.base.0 in
    let seen = flat g.store c.args.seen.0 in
    let n = flat g.store c.args.pushed.0 in
    subst (λ (v : Result Flat Refusal). IsTreeAnswer v (IsLaidMade (next f t n) t n) g.store c.tree_upon.new.ground.store c.tree_upon.result)
    (sym (tree-changed f t seen n (tree-names g.store c.args.pushed.0 c.args.seen.0 s c.requires.pushed c.requires.seen ∙ sym c.if-eq.ensures))) c.tree_upon.ensures.answer
