use Rattle.std.proofs.Common.{◌≡◌, ap, ◌∙◌}
use Rattle.git_objects.specs.Paths.{Path}
use Rattle.git_objects.specs.Trees.{rests}
use Rattle.path_trees.specs.Paired.{first_behind}
use Rattle.path_trees.specs.Standing.{node}
use Rattle.path_trees.proofs.FirstPaths.{first_paths}
use Rattle.path_trees.proofs.clash.clash_at.Goals as goal

pub returns : goal.returns
returns c =
    let S = c.args.store.now in
    let own : c.into_components.result.items ≡ c.args.components.items = c.into_components.ensures.components ∙ c.of-path.ensures in
    let other : c.into_components-other.result.items ≡ c.args.components.items = c.into_components-other.ensures.components ∙ c.in_ok-copy.ensures ∙ c.of-path.ensures in
    first_paths S c.store_law.ensures.store c.args.components.items c.args.left.now c.args.right.now c.in_ok-own.own c.in_ok-by.by c.requires.left c.requires.right c.requires.leaf
    (c.in_ok-own.ensures ∙ ap (λ (p : Path). first_behind p (rests (node S c.args.left.now))) own)
    (c.in_ok-by.ensures ∙ ap (λ (p : Path). first_behind p (rests (node S c.args.right.now))) other)
