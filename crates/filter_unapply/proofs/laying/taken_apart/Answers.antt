use Rattle.std.proofs.Common.{◌≡◌, inl, inr, [], false, subst}
use Rattle.git_objects.specs.Trees.{Flat}
use Rattle.git_objects.specs.declared.kind.Kind.TheVariants.{Tree}
use Rattle.object_store.specs.Growth.{IsGrownBy, IsOnly}
use Rattle.object_store.specs.Objects.{Object}
use Rattle.object_store.specs.Unfolding.{flat}
use Rattle.object_store.proofs.Growth.{flat-grown, grown_as, grown_then, has-grown, stands-grown}
use Rattle.decision_lists.specs.Cells.{cells}
use Rattle.filter_unapply.specs.Hands.{IsIn, IsMadeOf}
use Rattle.filter_unapply.specs.Parts.{AreParts}
use Rattle.filter_unapply.specs.Routed.{IsOfBoth, IsTakenOrIn, taken}
use Rattle.filter_unapply.specs.Sifted.{sifted}
use Rattle.filter_unapply.proofs.Fittings.{empty-made}
use Rattle.filter_unapply.proofs.MadeTrees.{err-again, known-as}
use Rattle.filter_unapply.proofs.laying.taken_apart.Goals as goal

pub returns-in_err-kept-clause-err : goal.returns-in_err-kept-clause-err
returns-in_err-kept-clause-err c =
    let S = c.args.store.now in
    let es = c.args.entries.now in
    let t = flat S c.args.base.0 in
    let n = flat S c.args.pushed.0 in
    let known = IsOfBoth es t n in
    let first : (o : Object) → IsMadeOf (IsIn t) o → IsMadeOf known o = known-as (IsIn t) known (λ p x e. inl e) in
    let R = c.sifted.new.store in
    let g1 : IsGrownBy (IsMadeOf known) S R = grown_as (IsMadeOf (IsIn t)) (IsMadeOf known) S R first c.sifted.ensures.store in
    err-again (IsMadeOf (IsIn t)) (IsMadeOf known) first R c.from_residual.result c.in_err-kept.field-0.0 c.from_residual.ensures.1 c.in_err-kept.ensures.err

pub returns-in_err-kept-clause-store : goal.returns-in_err-kept-clause-store
returns-in_err-kept-clause-store c =
    let S = c.args.store.now in
    let es = c.args.entries.now in
    let t = flat S c.args.base.0 in
    let n = flat S c.args.pushed.0 in
    let known = IsOfBoth es t n in
    let first : (o : Object) → IsMadeOf (IsIn t) o → IsMadeOf known o = known-as (IsIn t) known (λ p x e. inl e) in
    let R = c.sifted.new.store in
    let g1 : IsGrownBy (IsMadeOf known) S R = grown_as (IsMadeOf (IsIn t)) (IsMadeOf known) S R first c.sifted.ensures.store in
    g1

pub returns-in_err-none-clause-err : goal.returns-in_err-none-clause-err
returns-in_err-none-clause-err c =
    let S = c.args.store.now in
    let es = c.args.entries.now in
    let t = flat S c.args.base.0 in
    let n = flat S c.args.pushed.0 in
    let known = IsOfBoth es t n in
    let first : (o : Object) → IsMadeOf (IsIn t) o → IsMadeOf known o = known-as (IsIn t) known (λ p x e. inl e) in
    let R = c.sifted.new.store in
    let g1 : IsGrownBy (IsMadeOf known) S R = grown_as (IsMadeOf (IsIn t)) (IsMadeOf known) S R first c.sifted.ensures.store in
    err-again (IsOnly Tree []) (IsMadeOf known) (empty-made known) c.empty.new.store c.from_residual-in_err-none.result c.in_err-none.field-0.0 c.from_residual-in_err-none.ensures.1 c.in_err-none.ensures.err

pub returns-in_err-none-clause-store : goal.returns-in_err-none-clause-store
returns-in_err-none-clause-store c =
    let S = c.args.store.now in
    let es = c.args.entries.now in
    let t = flat S c.args.base.0 in
    let n = flat S c.args.pushed.0 in
    let known = IsOfBoth es t n in
    let first : (o : Object) → IsMadeOf (IsIn t) o → IsMadeOf known o = known-as (IsIn t) known (λ p x e. inl e) in
    let R = c.sifted.new.store in
    let g1 : IsGrownBy (IsMadeOf known) S R = grown_as (IsMadeOf (IsIn t)) (IsMadeOf known) S R first c.sifted.ensures.store in
    let Q = c.empty.new.store in
    let e2 : IsGrownBy (IsOnly Tree []) R Q = c.empty.ensures.store in
    let g2 : IsGrownBy (IsMadeOf known) S Q = grown_then (IsMadeOf known) S R Q g1 (grown_as (IsOnly Tree []) (IsMadeOf known) R Q (empty-made known) e2) in
    g2

pub parts_of-requires-clause-pushed : goal.parts_of-requires-clause-pushed
parts_of-requires-clause-pushed c =
    let S = c.args.store.now in
    let es = c.args.entries.now in
    let t = flat S c.args.base.0 in
    let n = flat S c.args.pushed.0 in
    let known = IsOfBoth es t n in
    let first : (o : Object) → IsMadeOf (IsIn t) o → IsMadeOf known o = known-as (IsIn t) known (λ p x e. inl e) in
    let R = c.sifted.new.store in
    let g1 : IsGrownBy (IsMadeOf known) S R = grown_as (IsMadeOf (IsIn t)) (IsMadeOf known) S R first c.sifted.ensures.store in
    let Q = c.empty.new.store in
    let e2 : IsGrownBy (IsOnly Tree []) R Q = c.empty.ensures.store in
    let g2 : IsGrownBy (IsMadeOf known) S Q = grown_then (IsMadeOf known) S R Q g1 (grown_as (IsOnly Tree []) (IsMadeOf known) R Q (empty-made known) e2) in
    has-grown S Q Tree c.args.pushed.0 g2 c.requires.pushed

pub returns-in_err-parts-clause-err : goal.returns-in_err-parts-clause-err
returns-in_err-parts-clause-err c =
    let S = c.args.store.now in
    let es = c.args.entries.now in
    let t = flat S c.args.base.0 in
    let n = flat S c.args.pushed.0 in
    let known = IsOfBoth es t n in
    let first : (o : Object) → IsMadeOf (IsIn t) o → IsMadeOf known o = known-as (IsIn t) known (λ p x e. inl e) in
    let R = c.sifted.new.store in
    let g1 : IsGrownBy (IsMadeOf known) S R = grown_as (IsMadeOf (IsIn t)) (IsMadeOf known) S R first c.sifted.ensures.store in
    let Q = c.empty.new.store in
    let e2 : IsGrownBy (IsOnly Tree []) R Q = c.empty.ensures.store in
    let g2 : IsGrownBy (IsMadeOf known) S Q = grown_then (IsMadeOf known) S R Q g1 (grown_as (IsOnly Tree []) (IsMadeOf known) R Q (empty-made known) e2) in
    let P = c.parts_of.new.store in
    let same : flat Q c.args.pushed.0 ≡ n = flat-grown S Q c.args.pushed.0 g2 c.requires.pushed in
    let part = IsTakenOrIn (cells [] es) (flat Q c.args.pushed.0) in
    let last : (o : Object) → IsMadeOf part o → IsMadeOf known o = known-as part known (λ p x e. inr (subst (λ (v : Flat). IsTakenOrIn (cells [] es) v p x) same e)) in
    err-again (IsMadeOf part) (IsMadeOf known) last P c.from_residual-in_err-parts.result c.in_err-parts.field-0.0 c.from_residual-in_err-parts.ensures.1 c.in_err-parts.ensures.err

pub returns-in_err-parts-clause-store : goal.returns-in_err-parts-clause-store
returns-in_err-parts-clause-store c =
    let S = c.args.store.now in
    let es = c.args.entries.now in
    let t = flat S c.args.base.0 in
    let n = flat S c.args.pushed.0 in
    let known = IsOfBoth es t n in
    let first : (o : Object) → IsMadeOf (IsIn t) o → IsMadeOf known o = known-as (IsIn t) known (λ p x e. inl e) in
    let R = c.sifted.new.store in
    let g1 : IsGrownBy (IsMadeOf known) S R = grown_as (IsMadeOf (IsIn t)) (IsMadeOf known) S R first c.sifted.ensures.store in
    let Q = c.empty.new.store in
    let e2 : IsGrownBy (IsOnly Tree []) R Q = c.empty.ensures.store in
    let g2 : IsGrownBy (IsMadeOf known) S Q = grown_then (IsMadeOf known) S R Q g1 (grown_as (IsOnly Tree []) (IsMadeOf known) R Q (empty-made known) e2) in
    let P = c.parts_of.new.store in
    let same : flat Q c.args.pushed.0 ≡ n = flat-grown S Q c.args.pushed.0 g2 c.requires.pushed in
    let part = IsTakenOrIn (cells [] es) (flat Q c.args.pushed.0) in
    let last : (o : Object) → IsMadeOf part o → IsMadeOf known o = known-as part known (λ p x e. inr (subst (λ (v : Flat). IsTakenOrIn (cells [] es) v p x) same e)) in
    grown_then (IsMadeOf known) S Q P g2 (grown_as (IsMadeOf part) (IsMadeOf known) Q P last c.parts_of.ensures.store)

pub returns-clause-ok : goal.returns-clause-ok
returns-clause-ok c =
    let S = c.args.store.now in
    let es = c.args.entries.now in
    let t = flat S c.args.base.0 in
    let n = flat S c.args.pushed.0 in
    let known = IsOfBoth es t n in
    let first : (o : Object) → IsMadeOf (IsIn t) o → IsMadeOf known o = known-as (IsIn t) known (λ p x e. inl e) in
    let R = c.sifted.new.store in
    let g1 : IsGrownBy (IsMadeOf known) S R = grown_as (IsMadeOf (IsIn t)) (IsMadeOf known) S R first c.sifted.ensures.store in
    let Q = c.empty.new.store in
    let e2 : IsGrownBy (IsOnly Tree []) R Q = c.empty.ensures.store in
    let g2 : IsGrownBy (IsMadeOf known) S Q = grown_then (IsMadeOf known) S R Q g1 (grown_as (IsOnly Tree []) (IsMadeOf known) R Q (empty-made known) e2) in
    let P = c.parts_of.new.store in
    let same : flat Q c.args.pushed.0 ≡ n = flat-grown S Q c.args.pushed.0 g2 c.requires.pushed in
    let part = IsTakenOrIn (cells [] es) (flat Q c.args.pushed.0) in
    let last : (o : Object) → IsMadeOf part o → IsMadeOf known o = known-as part known (λ p x e. inr (subst (λ (v : Flat). IsTakenOrIn (cells [] es) v p x) same e)) in (
      stands-grown R P c.in_ok-kept.kept.0 (sifted false es t)
          (grown_then (IsMadeOf known) R Q P (grown_as (IsOnly Tree []) (IsMadeOf known) R Q (empty-made known) e2) (grown_as (IsMadeOf part) (IsMadeOf known) Q P last c.parts_of.ensures.store))
          c.in_ok-kept.ensures.ok,
      subst (λ (v : Flat). AreParts P c.in_ok-parts.parts.items (taken (cells [] es) v)) same c.in_ok-parts.ensures.ok,
    )

pub returns-clause-store : goal.returns-clause-store
returns-clause-store c =
    let S = c.args.store.now in
    let es = c.args.entries.now in
    let t = flat S c.args.base.0 in
    let n = flat S c.args.pushed.0 in
    let known = IsOfBoth es t n in
    let first : (o : Object) → IsMadeOf (IsIn t) o → IsMadeOf known o = known-as (IsIn t) known (λ p x e. inl e) in
    let R = c.sifted.new.store in
    let g1 : IsGrownBy (IsMadeOf known) S R = grown_as (IsMadeOf (IsIn t)) (IsMadeOf known) S R first c.sifted.ensures.store in
    let Q = c.empty.new.store in
    let e2 : IsGrownBy (IsOnly Tree []) R Q = c.empty.ensures.store in
    let g2 : IsGrownBy (IsMadeOf known) S Q = grown_then (IsMadeOf known) S R Q g1 (grown_as (IsOnly Tree []) (IsMadeOf known) R Q (empty-made known) e2) in
    let P = c.parts_of.new.store in
    let same : flat Q c.args.pushed.0 ≡ n = flat-grown S Q c.args.pushed.0 g2 c.requires.pushed in
    let part = IsTakenOrIn (cells [] es) (flat Q c.args.pushed.0) in
    let last : (o : Object) → IsMadeOf part o → IsMadeOf known o = known-as part known (λ p x e. inr (subst (λ (v : Flat). IsTakenOrIn (cells [] es) v p x) same e)) in
    grown_then (IsMadeOf known) S Q P g2 (grown_as (IsMadeOf part) (IsMadeOf known) Q P last c.parts_of.ensures.store)
