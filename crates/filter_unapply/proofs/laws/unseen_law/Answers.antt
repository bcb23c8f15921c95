use Rattle.filter_unapply.proofs.Lawful.{kept-laid}
use Rattle.filter_unapply.proofs.laws.unseen_law.Goals as goal

pub returns : goal.returns
returns c = λ f t n u is. kept-laid f is t n u
