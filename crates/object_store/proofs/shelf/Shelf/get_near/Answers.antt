use Rattle.std.proofs.Common.{◌≡◌, Some, List, sym, ap, ◌∙◌}
use Rattle.std.specs.Cmp.Lexicographic.{bytes_decides}
use Rattle.std.specs.Option.{option_map}
use Rattle.git_objects.specs.Paths.{Bytes}
use Rattle.object_store.specs.Objects.{Object, find_named}
use Rattle.object_store.specs.Places.{placed}
use Rattle.object_store.proofs.Finding.{find-places, place-within}
use Rattle.object_store.proofs.shelf.Shelf.get_near.Goals as goal

pub lend-requires : goal.lend-requires
lend-requires c = place-within _ _ _ c.in-Some.place.now c.self.invariant.placed c.in-Some.ensures.value

pub returns-then-eq : goal.returns-then-eq
returns-then-eq c =
    let same : c.in-Some.key.now.0 ≡ c.args.name.now.0 = (bytes_decides c.in-Some.key.now.0 c.args.name.now.0).0 (sym c.if-eq.ensures) in
    ap Some c.lend.ensures
    ∙ ap (option_map (placed c.self.inside.arena.now)) (sym c.in-Some.ensures.value)
    ∙ sym (find-places _ _ c.in-Some.key.now c.self.invariant)
    ∙ ap (λ (S : List Object). find_named S c.in-Some.key.now.0) c.self.view_is
    ∙ ap (λ (n : Bytes). find_named c.args.self.now n) same

pub lend-requires-in-Some-get_full : goal.lend-requires-in-Some-get_full
lend-requires-in-Some-get_full c = place-within _ _ _ c.in-Some-get_full.place.now c.self.invariant.placed (sym c.in-Some-get_full.ensures.value)

pub returns-in-None : goal.returns-in-None
returns-in-None c =
    ap (option_map (placed c.self.inside.arena.now)) c.in-None.ensures.value
    ∙ sym (find-places _ _ c.args.name.now c.self.invariant)
    ∙ ap (λ (S : List Object). find_named S c.args.name.now.0) c.self.view_is

pub returns-in-Some-get_full : goal.returns-in-Some-get_full
returns-in-Some-get_full c =
    ap Some c.lend-in-Some-get_full.ensures
    ∙ ap (option_map (placed c.self.inside.arena.now)) c.in-Some-get_full.ensures.value
    ∙ sym (find-places _ _ c.args.name.now c.self.invariant)
    ∙ ap (λ (S : List Object). find_named S c.args.name.now.0) c.self.view_is
