use Rattle.std.proofs.Common.{◌≡◌, Some, List, sym, ap, subst, ◌∙◌}
use Rattle.std.specs.Option.{option_map}
use Rattle.object_store.specs.Objects.{Object, find_named, IsStore}
use Rattle.object_store.specs.Places.{placed}
use Rattle.object_store.specs.Sizes.{sizes}
use Rattle.object_store.specs.Unfolding.{flat}
use Rattle.object_store.proofs.Children.{tree-found}
use Rattle.object_store.proofs.Finding.{find-places, place-within}
use Rattle.object_store.proofs.Sizes.{sized-at}
use Rattle.object_store.proofs.shelf.Shelf.tree_at.Goals as goal

pub lend-tree-requires : goal.lend-tree-requires
lend-tree-requires c = place-within _ _ _ c.in_ok-place.place.now c.self.invariant.placed c.in_ok-place.ensures.value

pub returns-clause-tree : goal.returns-clause-tree
returns-clause-tree c =
    let arena = c.self.inside.arena.now in
    let k = c.in_ok-place.field-0-0.now in
    let p = c.in_ok-place.place.now in
    let found : Some (placed arena p) ≡ find_named c.args.self.now k.0 =
    ap (option_map (placed arena)) (sym c.in_ok-place.ensures.value)
    ∙ sym (find-places _ _ k c.self.invariant)
    ∙ ap (λ (S : List Object). find_named S k.0) c.self.view_is in
    let store = subst IsStore c.self.view_is c.self.invariant.store in
    let t = tree-found c.args.self.now k.0 (placed arena p) store found (sym c.ne.ensures ∙ c.if-ne.false) in (
      k.0,
      t.0,
      t.1 ∙ sym (ap (λ (o : Object). o.body) c.lend-tree.ensures),
      sized-at _ _ k p c.self.invariant.sized c.in_ok-place.ensures.value ∙ ap (λ (S : List Object). sizes (flat S k.0)) c.self.view_is,
    )
