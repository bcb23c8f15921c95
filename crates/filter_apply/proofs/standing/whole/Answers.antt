use Rattle.filter_apply.proofs.Places.{some-files}
use Rattle.filter_apply.proofs.standing.whole.Goals as goal

pub returns-in-Some-clause-found : goal.returns-in-Some-clause-found
returns-in-Some-clause-found c = (some-files c.args.store.now c.args.root.0 c.in-Some.stats c.store_law.ensures.store c.requires c.in-Some.ensures c.if-stats-gt0.true).0

pub returns-in-Some-clause-held : goal.returns-in-Some-clause-held
returns-in-Some-clause-held c = (some-files c.args.store.now c.args.root.0 c.in-Some.stats c.store_law.ensures.store c.requires c.in-Some.ensures c.if-stats-gt0.true).1
