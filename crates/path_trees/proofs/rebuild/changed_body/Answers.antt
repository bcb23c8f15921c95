use Rattle.std.proofs.Common.{sym, ◌∙◌}
use Rattle.std.proofs.lemmas.Option.{none-some}
use Rattle.path_trees.proofs.Rebuilding.{listed_order}
use Rattle.path_trees.proofs.rebuild.changed_body.Goals as goal
use Rattle.path_trees.proofs.rebuild.changed_body.Goals.{in-None, in-Some}

pub with_change-requires : goal.with_change-requires
with_change-requires c = elim c.match-directory.branch [
  | in-None w ↦ absurd (none-some c.in-Some-entries.entries (sym w.entries-is ∙ c.in-Some-entries.is))
  | in-Some w ↦ listed_order c.args.store.now w.in-Some.name.0 c.in-Some-entries.entries (sym w.entries_of-entries.ensures.entries ∙ sym w.entries-is ∙ c.in-Some-entries.is)
]
