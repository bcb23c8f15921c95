use Rattle.filter_unapply.proofs.PathOrders.{both-not, less-back, less-there}
use Rattle.filter_unapply.proofs.blocking.order.Goals as goal

pub returns-then-before : goal.returns-then-before
returns-then-before c = less-there c.args.a.now c.args.b.now c.path_law.ensures.path c.path_law-2.ensures.path c.if-before.ensures

pub returns-then-before-2 : goal.returns-then-before-2
returns-then-before-2 c = less-back c.args.a.now c.args.b.now c.path_law.ensures.path c.path_law-2.ensures.path c.if-before-2.ensures

pub returns : goal.returns
returns c = both-not c.args.a.now c.args.b.now c.path_law.ensures.path c.path_law-2.ensures.path c.if-before.ensures c.if-before-2.ensures
