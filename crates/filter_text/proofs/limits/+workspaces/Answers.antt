use Rattle.std.proofs.Common.{rules}
use Rattle.filter_text.proofs.RowLists.{row-list}
use Rattle.filter_text.specs.declared.filter.Filter.TheViews.{the_lemmas}
use Rattle.filter_text.proofs.limits.+workspaces.Goals as goal

pub has_workspace-returns-in-Join : goal.has_workspace-returns-in-Join
has_workspace-returns-in-Join t c = search (rules, the_lemmas, row-list)

pub has_workspace-returns-in-Chain : goal.has_workspace-returns-in-Chain
has_workspace-returns-in-Chain t c = search (rules, the_lemmas, row-list)
