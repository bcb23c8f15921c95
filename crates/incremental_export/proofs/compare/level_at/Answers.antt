use Rattle.std.proofs.Common.{[], sym, ap, ◌∙◌}
use Rattle.std.specs.Prelude.{unwrap_or}
use Rattle.git_objects.proofs.TreeViews.{none_listed, tree_empty}
use Rattle.incremental_export.proofs.compare.level_at.Goals as goal
use Rattle.incremental_export.proofs.compare.level_at.Goals.{in-None, in-Some}

pub of_canonical-left-requires : goal.of_canonical-left-requires
of_canonical-left-requires c = tree_empty

pub returns-clause-left : goal.returns-clause-left
returns-clause-left c = elim c.match-left.branch [
  | in-None w ↦ rw w.in-None.is (w.left-is ∙ ap (λ o. unwrap_or o []) w.of_canonical-left.ensures ∙ none_listed)
  | in-Some w ↦ rw w.in-Some.is (w.left-is ∙ sym (ap (λ o. unwrap_or o []) w.entries_at-left.ensures.listed))
]
