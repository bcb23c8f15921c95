use Rattle.filter_unapply.proofs.Lawful.{laid-tree, shown-laid}
use Rattle.filter_unapply.proofs.laws.shown_again_law.Goals as goal

pub returns : goal.returns
returns c = record { tree = λ f t n u is. laid-tree f is t n u; shown_again = λ f t n u is. shown-laid f is t n u }
