use Rattle.git_objects.proofs.CommitViews.{strip_matched}
use Rattle.path_names.proofs.words.strip.Goals as goal

pub returns : goal.returns
returns c = strip_matched c.args.word.now c.args.text.now c.strip_prefix.result c.strip_prefix.ensures.cases
