use Rattle.std.proofs.Common.{rules}
use Rattle.filter_text.proofs.RowLists.{row-list}
use Rattle.filter_text.specs.declared.filter.Filter.TheViews.{the_lemmas}
use Rattle.filter_text.proofs.limits.+components.Goals as goal

pub without_components-returns-in-Join : goal.without_components-returns-in-Join
without_components-returns-in-Join t c = search (rules, the_lemmas, row-list)

pub without_components-returns-in-Chain : goal.without_components-returns-in-Chain
without_components-returns-in-Chain t c = search (rules, the_lemmas, row-list)
