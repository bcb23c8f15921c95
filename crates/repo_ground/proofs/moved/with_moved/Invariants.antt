use Rattle.std.proofs.Common.{◌≡◌, drop}
use Rattle.ref_store.specs.Pairs.{pairs}
use Rattle.repo_ground.specs.Moving.{with_heads}
use Rattle.repo_ground.proofs.moved.with_moved.Given as goal

abbrev pub invariant-loop-entry : goal.invariant-loop-entry
invariant-loop-entry l = with_heads l.refs (pairs l.moved) ≡ with_heads l.after (pairs (drop l.entry-index l.moved))
