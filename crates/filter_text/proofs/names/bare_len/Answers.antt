use Rattle.path_names.proofs.Quotes.{none_is}
use Rattle.filter_text.specs.Texts.{ends_bare}
use Rattle.filter_text.proofs.names.bare_len.Goals as goal

pub returns-in-None-clause-value : goal.returns-in-None-clause-value
returns-in-None-clause-value c = none_is ends_bare c.args.text.now c.in-None.ensures
