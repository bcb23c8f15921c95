use Rattle.std.proofs.Common.{◌≡◌, drop}
use Rattle.git_objects.specs.Paths.{same_path}
use Rattle.filter_text.proofs.values.same_path.Given as goal

abbrev pub invariant-loop-i : goal.invariant-loop-i
invariant-loop-i l = same_path (drop l.i l.p) (drop l.i l.q) ≡ same_path l.p l.q
