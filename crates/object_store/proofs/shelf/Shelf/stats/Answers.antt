use Rattle.std.proofs.Common.{Some, None, cond, List, ap, ◌∙◌}
use Rattle.git_objects.specs.declared.kind.Kind.TheVariants.{Tree}
use Rattle.object_store.specs.Objects.{Object}
use Rattle.object_store.specs.Sizes.{stats_of}
use Rattle.object_store.proofs.Finding.{kind_test}
use Rattle.object_store.proofs.Sizes.{stats-found}
use Rattle.object_store.proofs.shelf.Shelf.stats.Goals as goal

pub returns-in-None : goal.returns-in-None
returns-in-None c =
    stats-found _ _ c.args.name.now c.self.invariant None c.in-None.ensures.value
    ∙ ap (λ (S : List Object). stats_of S c.args.name.now.0) c.self.view_is

pub returns-then-eq : goal.returns-then-eq
returns-then-eq c =
    ap (λ b. cond b (Some c.in-Some.place.now.stats) None) (c.if-eq.ensures ∙ kind_test c.in-Some.place.now.kind Tree)
    ∙ stats-found _ _ c.args.name.now c.self.invariant (Some c.in-Some.place.now) c.in-Some.ensures.value
    ∙ ap (λ (S : List Object). stats_of S c.args.name.now.0) c.self.view_is

pub returns-else-eq : goal.returns-else-eq
returns-else-eq c =
    ap (λ b. cond b (Some c.in-Some.place.now.stats) None) (c.if-eq.ensures ∙ kind_test c.in-Some.place.now.kind Tree)
    ∙ stats-found _ _ c.args.name.now c.self.invariant (Some c.in-Some.place.now) c.in-Some.ensures.value
    ∙ ap (λ (S : List Object). stats_of S c.args.name.now.0) c.self.view_is
