use Rattle.std.proofs.Common.{Some, sym, ap, ◌∙◌, List}
use Rattle.std.specs.Option.{option_map}
use Rattle.object_store.specs.Objects.{Object, find_named}
use Rattle.object_store.specs.Places.{placed}
use Rattle.object_store.proofs.Finding.{find-places, place-within}
use Rattle.object_store.proofs.shelf.Shelf.get.Goals as goal

pub lend-requires : goal.lend-requires
lend-requires c = place-within _ _ _ c.in-Some.place.now c.self.invariant.placed (sym c.in-Some.ensures.value)

pub returns-in-None-clause-object : goal.returns-in-None-clause-object
returns-in-None-clause-object c =
    ap (option_map (placed c.self.inside.arena.now)) c.in-None.ensures.value
    ∙ sym (find-places _ _ c.args.name.now c.self.invariant)
    ∙ ap (λ (S : List Object). find_named S c.args.name.now.0) c.self.view_is

pub returns-in-Some-clause-object : goal.returns-in-Some-clause-object
returns-in-Some-clause-object c =
    ap Some c.lend.ensures
    ∙ ap (option_map (placed c.self.inside.arena.now)) c.in-Some.ensures.value
    ∙ sym (find-places _ _ c.args.name.now c.self.invariant)
    ∙ ap (λ (S : List Object). find_named S c.args.name.now.0) c.self.view_is
