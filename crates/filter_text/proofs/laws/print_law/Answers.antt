use Rattle.filter_text.proofs.Printable.{print-law}
use Rattle.filter_text.proofs.laws.print_law.Goals as goal

pub returns : goal.returns
returns c = print-law
