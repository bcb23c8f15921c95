use Rattle.std.proofs.Common.{ap}
use Rattle.git_objects.proofs.Spellings.{cut_at_none, cut_at_some}
use Rattle.stream_reader.specs.Words.{first_word, word_by}
use Rattle.stream_reader.proofs.words.first_word.Goals as goal

pub returns-in-None : goal.returns-in-None
unfolding first_word
returns-in-None c = ap (word_by c.args.text.now) (cut_at_none 32 c.args.text.now c.in-None.ensures)

pub returns-in-Some : goal.returns-in-Some
unfolding first_word
returns-in-Some c = ap (word_by c.args.text.now) (cut_at_some 32 c.args.text.now c.in-Some.at c.in-Some.ensures)
