use Rattle.std.proofs.Common.{subst, ◌∙◌, append-nil}
use Rattle.object_store.specs.Unfolding.{flat}
use Rattle.filter_unapply.specs.Sifted.{IsFitting}
use Rattle.filter_unapply.proofs.Moves.{all-held, fitting-held, no-component}
use Rattle.filter_unapply.proofs.moving.held_at.Goals as goal

pub returns-then-is_empty-clause-found : goal.returns-then-is_empty-clause-found
returns-then-is_empty-clause-found c =
    let S = c.args.store.now in
    all-held S c.store_law.ensures.store c.args.part.0 c.requires.part c.args.point c.args.from.now c.requires.within (no-component c.args.from.now c.if-is_empty.ensures) c.requires.full

pub returns-clause-found : goal.returns-clause-found
returns-clause-found c =
    let S = c.args.store.now in
    fitting-held S c.store_law.ensures.store c.args.part.0 c.requires.part c.args.point c.args.from.now c.requires.within c.fitting.result
    (subst (λ p. IsFitting S (flat S c.args.part.0) c.args.point p c.fitting.result) (c.in_ok-path.ensures ∙ append-nil c.args.from.now) c.fitting.ensures.found)
