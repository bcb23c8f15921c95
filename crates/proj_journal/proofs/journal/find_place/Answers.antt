use Rattle.std.proofs.Common.{◌≤◌, ◌+◌, ◌^◌, sym, subst}
use Rattle.proj_journal.specs.declared.place.Place.{Place}
use Rattle.proj_journal.proofs.Keeping.{place_past, place_within, fits_at}
use Rattle.proj_journal.proofs.journal.find_place.Goals as goal

pub returns-in-None-clause-place : goal.returns-in-None-clause-place
returns-in-None-clause-place c = sym (place_past c.args.places.now c.args.item c.in-None.ensures.lookup.3)

pub returns-in-Some-clause-fits : goal.returns-in-Some-clause-fits
returns-in-Some-clause-fits c fit =
    let e = place_within c.args.places.now c.args.item c.in-Some.place.now c.in-Some.ensures.lookup.3.0 c.in-Some.ensures.lookup.1 in
    subst (λ (p : Place). p.at + p.size ≤ 2 ^ 50) (sym e) (fits_at c.args.places.now c.args.item fit)
