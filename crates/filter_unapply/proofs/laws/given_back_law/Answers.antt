use Rattle.filter_routes.proofs.SeenTrees.{seen-tree}
use Rattle.filter_unapply.proofs.Lawful.{laid-shown}
use Rattle.filter_unapply.proofs.laws.given_back_law.Goals as goal

pub returns : goal.returns
returns c = record { tree = λ f t is. seen-tree f is t; given_back = λ f t is. laid-shown f is t }
