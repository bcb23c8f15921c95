use Rattle.fast_import.proofs.ReplayedTags.{replayed_tags}
use Rattle.fast_import.proofs.laws.replayed_tags_law.Goals as goal

pub returns : goal.returns
returns c = replayed_tags c.putting_law.ensures c.spelling_law.ensures
