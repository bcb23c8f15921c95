use Rattle.std.proofs.Common.{◌≡◌, ◌≤◌, length}
use Rattle.merge_push.specs.Places.{origin_in}
use Rattle.merge_push.proofs.ParentLines.{so-far}
use Rattle.merge_push.proofs.parents.add_origins.Given as goal

-- the origins of the parents before the place are behind the others
abbrev pub invariant-loop-i : goal.invariant-loop-i
invariant-loop-i l = record {
  origins : l.places.items ≡ so-far (origin_in l.origins l.entered) l.commit.parents l.first l.fn.places.items l.i;
  behind : l.first ≤ l.i;
  end : l.i-end ≡ length l.commit.parents;
}
