use Rattle.filter_text.proofs.Grammar.{filter_read}
use Rattle.filter_text.proofs.Spelled.{filter-spelled}
use Rattle.filter_text.proofs.FileGrammar.{file-spelled, file-read}
use Rattle.filter_text.proofs.laws.grammar_law.Goals as goal

pub returns : goal.returns
returns c = record { spelled = filter-spelled; read = filter_read; spelled_file = file-spelled; read_file = λ t ms s. file-read s }
