use Rattle.std.proofs.Common.{sym, subst}
use Rattle.object_store.specs.Unfolding.{flat}
use Rattle.filter_unapply.specs.Sifted.{IsFitting}
use Rattle.filter_unapply.proofs.Fittings.{fits}
use Rattle.filter_unapply.proofs.Told.{is_tree}
use Rattle.filter_unapply.proofs.sifting.fitting.Goals as goal

pub returns-clause-found : goal.returns-clause-found
returns-clause-found c =
    let S = c.args.store.now in
    let t = flat S c.args.root.0 in
    subst (IsFitting S t c.args.point c.args.path.now) (sym c.fitted.ensures)
    (fits S t c.args.point c.args.path.now c.entry_at.result (is_tree S c.store_law.ensures.store c.args.root.0 c.requires.root) (record { stands = c.entry_at.ensures.found; held = c.entry_at.ensures.held }))
