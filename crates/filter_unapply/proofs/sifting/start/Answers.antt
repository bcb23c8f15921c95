use Rattle.object_store.specs.Unfolding.{flat}
use Rattle.filter_unapply.proofs.Stages.{all-shown, empty-shown}
use Rattle.filter_unapply.proofs.sifting.start.Goals as goal

pub returns-then-inside : goal.returns-then-inside
returns-then-inside c = empty-shown c.args.store.now c.store_law.ensures.store c.args.inside (flat c.args.store.now c.args.root.0) c.if-inside.true c.empty.result c.empty.ensures

pub returns : goal.returns
returns c = all-shown c.args.store.now c.args.inside (flat c.args.store.now c.args.root.0) c.if-inside.false c.begin.result c.begin.ensures.shows
