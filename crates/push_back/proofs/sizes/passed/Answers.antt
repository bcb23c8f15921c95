use Rattle.std.proofs.Common.{◌∙◌}
use Rattle.push_back.proofs.TreeSizes.{passed-stats}
use Rattle.push_back.proofs.sizes.passed.Goals as goal

pub returns : goal.returns
returns c = c.passed_by.ensures ∙ passed-stats c.args.store.now c.args.root.now.0 c.requires.root c.in-Some.stats c.in-Some.ensures
