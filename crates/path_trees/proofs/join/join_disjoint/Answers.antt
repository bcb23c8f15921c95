use Rattle.std.proofs.Common.{[], refl, sym, ◌∙◌}
use Rattle.path_trees.proofs.join.join_disjoint.Goals as goal

pub returns-in-Err-clause-store : goal.returns-in-Err-clause-store
returns-in-Err-clause-store c = record { store = c.store_law.ensures.store; newer = []; above = refl; trees = tt }

pub returns-in-Ok-Some-clause-store : goal.returns-in-Ok-Some-clause-store
returns-in-Ok-Some-clause-store c = record { store = c.store_law.ensures.store; newer = []; above = refl; trees = tt }

pub join_apart-requires-clause-apart : goal.join_apart-requires-clause-apart
join_apart-requires-clause-apart c = sym c.in-Ok-None.ensures ∙ c.in-Ok-None.field-0-is
