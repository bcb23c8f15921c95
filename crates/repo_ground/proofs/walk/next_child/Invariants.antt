use Rattle.std.proofs.Common.{◌≡◌, List, [], ◌∷◌, length}
use Rattle.object_store.specs.Objects.{Object, HasChildren}
use Rattle.repo_ground.specs.StoredObjects.{counted, entries_steps, itself}
use Rattle.repo_ground.proofs.walk.next_child.Given as goal

-- only modules were passed by
abbrev pub invariant-entries : goal.invariant-entries
invariant-entries l = record {
  objects : (S : List Object) → entries_steps itself [] S l.initial.entries ≡ entries_steps itself [] S l.entries;
  children : (S : List Object) → HasChildren S l.initial.entries → HasChildren S l.entries;
  work : (S : List Object) → entries_steps counted (tt ∷ []) S l.initial.entries ≡ entries_steps counted (tt ∷ []) S l.entries;
}

abbrev pub decreases-entries : goal.decreases-entries
decreases-entries l = length l.entries
