use Rattle.std.proofs.Common.{cond, not, true, ◌∙◌}
use Rattle.git_objects.specs.Paths.{same_bytes}
use Rattle.object_store.specs.Unfolding.{flat}
use Rattle.filter_unapply.proofs.Hidings.{found-differs}
use Rattle.filter_unapply.proofs.hiding.differ.Goals as goal

pub returns : goal.returns
returns c =
    let S = c.args.store.now in
    let own = c.in-Some-entry_at.own in
    let other = c.in-Some.found in
    λ x w.
    (λ i. cond (c.if-eq.ensures i) (not (same_bytes own.name.0 other.name.0)) true)
    ∙ found-differs S (flat S c.args.first.0) (flat S c.args.second.0) c.args.path.now c.args.other.now own.mode other.mode own.name.0 other.name.0 x
    c.in-Some-entry_at.ensures.held c.in-Some.ensures.held c.in-Some-entry_at.ensures.found c.in-Some.ensures.found w

pub returns-then-eq : goal.returns-then-eq
returns-then-eq c =
    let S = c.args.store.now in
    let own = c.in-Some-entry_at.own in
    let other = c.in-Some.found in
    λ x w.
    c.ne.ensures
    ∙ (λ i. cond (c.if-eq.ensures i) (not (same_bytes own.name.0 other.name.0)) true)
    ∙ found-differs S (flat S c.args.first.0) (flat S c.args.second.0) c.args.path.now c.args.other.now own.mode other.mode own.name.0 other.name.0 x
    c.in-Some-entry_at.ensures.held c.in-Some.ensures.held c.in-Some-entry_at.ensures.found c.in-Some.ensures.found w
