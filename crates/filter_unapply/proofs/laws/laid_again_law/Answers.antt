use Rattle.filter_unapply.proofs.Lawful.{laid-again}
use Rattle.filter_unapply.proofs.laws.laid_again_law.Goals as goal

pub returns : goal.returns
returns c = λ f t n u m is h g e k. laid-again f is t n u m h g e
