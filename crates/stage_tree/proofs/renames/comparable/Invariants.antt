use Rattle.std.proofs.Common.{◌≡◌, drop}
use Rattle.git_objects.specs.Paths.{comparable}
use Rattle.stage_tree.proofs.renames.comparable.Given as goal

abbrev pub invariant-loop-i : goal.invariant-loop-i
invariant-loop-i l = comparable (drop l.i l.a) (drop l.i l.b) ≡ comparable l.a l.b
