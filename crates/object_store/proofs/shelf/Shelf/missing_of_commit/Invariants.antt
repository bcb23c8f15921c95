use Rattle.std.proofs.Common.{◌≡◌, drop}
use Rattle.object_store.specs.Objects.{missing_parent}
use Rattle.object_store.proofs.shelf.Shelf.missing_of_commit.Given as goal

-- the parents that were looked at are held
abbrev pub invariant-parents : goal.invariant-parents
invariant-parents l = missing_parent l.self (drop l.i l.commit.parents) ≡ missing_parent l.self l.commit.parents
