use Rattle.filter_unapply.proofs.Empties.{empty-fits, empty-grown, empty-stands, old-store}
use Rattle.filter_unapply.proofs.sifting.empty.Goals as goal

pub taken_in-requires : goal.taken_in-requires
taken_in-requires c = empty-fits c.args.store.now

pub returns-clause-ok : goal.returns-clause-ok
returns-clause-ok c =
    let S = c.args.store.now in
    let R = c.taken_in.new.store in
    let t = c.in_ok-taken_in.ensures.ok in
    empty-stands S R c.in_ok-taken_in.field-0.0 (old-store S R c.taken_in.ensures.store t.1) t.0 t.1

pub returns-clause-store : goal.returns-clause-store
returns-clause-store c =
    let S = c.args.store.now in
    let R = c.taken_in.new.store in
    let t = c.in_ok-taken_in.ensures.ok in
    empty-grown S R (old-store S R c.taken_in.ensures.store t.1) c.taken_in.ensures.store t.1
