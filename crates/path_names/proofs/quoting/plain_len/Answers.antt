use Rattle.path_names.specs.Quoting.{is_special}
use Rattle.path_names.proofs.Quotes.{first_is, none_is}
use Rattle.path_names.proofs.quoting.plain_len.Goals as goal

pub returns-in-Some : goal.returns-in-Some
returns-in-Some c = first_is is_special c.args.text.now c.in-Some.n c.in-Some.ensures

pub returns-in-None : goal.returns-in-None
returns-in-None c = none_is is_special c.args.text.now c.in-None.ensures
