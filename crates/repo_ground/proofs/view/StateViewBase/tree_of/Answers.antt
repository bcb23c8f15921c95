use Rattle.std.proofs.Common.{◌≡◌, List, [], Option, Some, ap, sym, ◌∙◌, IfSome, get_or, subst}
use Rattle.commit_graph.specs.Graphs.{Row}
use Rattle.std.proofs.lemmas.Option.{slice_get-get_or}
use Rattle.fast_import.specs.Replays.{value_at}
use Rattle.repo_ground.specs.Laws.{Named}
use Rattle.repo_ground.proofs.TreesFound.{no-tree, tree-at}
use Rattle.repo_ground.proofs.view.StateViewBase.tree_of.Goals as goal

pub returns-in-None : goal.returns-in-None
returns-in-None c =
    sym (no-tree c.args.commit.now.0 c.self.inside.graph.now c.in-None.ensures.place)
    ∙ ap (λ (v : Named). value_at c.args.commit.now.0 v.commits) c.self.view_is

pub returns-in-Some : goal.returns-in-Some
returns-in-Some c =
    let rows : List Row = c.self.inside.graph.now in
    let none : Row = record { name = []; tree = []; parents = [] } in
    let row : Row = get_or rows c.in-Some.place none in
    ap Some (subst (λ (o : Option Row). IfSome o (λ r. c.tree.result.0 ≡ r.tree)) (slice_get-get_or rows c.in-Some.place none c.in-Some.ensures.within) c.tree.ensures)
    ∙ sym (tree-at c.args.commit.now.0 rows c.in-Some.place none c.len.ensures.graph c.in-Some.ensures.place)
    ∙ ap (λ (v : Named). value_at c.args.commit.now.0 v.commits) c.self.view_is
