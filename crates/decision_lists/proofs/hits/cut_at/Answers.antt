use Rattle.std.proofs.Common.{◌≡◌, sym, ap, ◌∙◌, Some}
use Rattle.decision_lists.proofs.Locating.{kind-free, kind-hole, kind-length}
use Rattle.decision_lists.specs.Fronts.{strip}
use Rattle.decision_lists.specs.Lists.{behind}
use Rattle.decision_lists.proofs.hits.cut_at.Goals as goal

pub returns-then-not-is_free-clause-source : goal.returns-then-not-is_free-clause-source
returns-then-not-is_free-clause-source c =
    let t = c.args.target.now in
    let q = c.args.image.now in
    let found : Some c.in-Some.rest.now ≡ strip t q = ap behind (sym c.in-Some.is) ∙ c.rest_behind.ensures in
    kind-hole c.args.point c.args.base.now t q c.in-Some.rest.now c.args.holes.now (sym c.fits.ensures ∙ c.if-not-fits.false) found
    (sym c.if-not-is_free.true ∙ c.is_free.ensures)

pub returns-else-not-is_free-clause-source : goal.returns-else-not-is_free-clause-source
returns-else-not-is_free-clause-source c =
    let t = c.args.target.now in
    let q = c.args.image.now in
    let found : Some c.in-Some.rest.now ≡ strip t q = ap behind (sym c.in-Some.is) ∙ c.rest_behind.ensures in
    kind-free c.args.point c.args.base.now t q c.in-Some.rest.now c.args.holes.now (sym c.fits.ensures ∙ c.if-not-fits.false) found
    (sym c.if-not-is_free.false ∙ c.is_free.ensures)

pub returns-else-not-is_free-clause-cut : goal.returns-else-not-is_free-clause-cut
returns-else-not-is_free-clause-cut c = kind-length c.args.point c.args.target.now c.args.image.now (sym c.fits.ensures ∙ c.if-not-fits.false)
