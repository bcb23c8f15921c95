use Rattle.std.proofs.Common.{List, sym, ap, ◌∙◌}
use Rattle.git_objects.specs.declared.mode.Mode.TheVariants.{Dir}
use Rattle.object_store.specs.Objects.{Object, has_child}
use Rattle.object_store.specs.Sizes.{sizes}
use Rattle.object_store.specs.Unfolding.{below, flat}
use Rattle.object_store.proofs.Sizes.{dir-none, dir-place, dir-sizes}
use Rattle.object_store.proofs.shelf.Shelf.dir_stats.Goals as goal

pub returns-in-None-clause-held : goal.returns-in-None-clause-held
returns-in-None-clause-held c =
    dir-none _ _ c.args.name.now c.self.invariant c.in-None.ensures.value
    ∙ ap (λ (S : List Object). has_child S Dir c.args.name.now.0) c.self.view_is

pub returns-then-is_full_tree-clause-held : goal.returns-then-is_full_tree-clause-held
returns-then-is_full_tree-clause-held c =
    c.if-is_full_tree.ensures
    ∙ dir-place _ _ c.args.name.now c.self.invariant c.in-Some.place.now c.in-Some.ensures.value
    ∙ ap (λ (S : List Object). has_child S Dir c.args.name.now.0) c.self.view_is

pub returns-then-is_full_tree-clause-sizes : goal.returns-then-is_full_tree-clause-sizes
returns-then-is_full_tree-clause-sizes c =
    c.stats_below.ensures
    ∙ dir-sizes _ _ c.args.name.now c.self.invariant c.in-Some.place.now c.args.component.now c.in-Some.ensures.value
    (sym (c.if-is_full_tree.ensures ∙ dir-place _ _ c.args.name.now c.self.invariant c.in-Some.place.now c.in-Some.ensures.value))
    ∙ ap (λ (S : List Object). sizes (below c.args.component.now (flat S c.args.name.now.0))) c.self.view_is

pub returns-else-is_full_tree-clause-held : goal.returns-else-is_full_tree-clause-held
returns-else-is_full_tree-clause-held c =
    c.if-is_full_tree.ensures
    ∙ dir-place _ _ c.args.name.now c.self.invariant c.in-Some.place.now c.in-Some.ensures.value
    ∙ ap (λ (S : List Object). has_child S Dir c.args.name.now.0) c.self.view_is
