use Rattle.std.proofs.Common.{Option, Some, sym, ap, subst, ◌∙◌}
use Rattle.std.specs.Option.{option_map}
use Rattle.git_objects.specs.Paths.{Path}
use Rattle.git_objects.specs.Names.{leaf_name}
use Rattle.path_trees.specs.Walked.{Walked, IsHeldLeaf, walked}
use Rattle.path_trees.specs.declared.found.Leaf.{Leaf as FoundLeaf}
use Rattle.path_trees.proofs.Walks.{leaf_named}
use Rattle.path_trees.proofs.walk.Walk.leaf.Goals as goal

pub returns-clause-name : goal.returns-clause-name
returns-clause-name c =
    let S = c.self.inside.store.now in
    let held = subst (IsHeldLeaf S) c.in-Some.is c.self.invariant.held_leaf in
    ap (λ (w : Walked). option_map (λ e. leaf_name e.1) w.current)
    (sym c.self.view_is ∙ ap (λ (o : Option (Path × FoundLeaf)). walked S c.self.inside.levels.items o) c.in-Some.is)
    ∙ ap Some (leaf_named S c.in-Some.leaf.mode c.in-Some.leaf.name.0 held c.in-Some.leaf.is_leaf)
