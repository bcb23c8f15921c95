use Rattle.std.proofs.Common.{◌≡◌, drop}
use Rattle.git_objects.specs.Paths.{same_path}
use Rattle.filter_apply.proofs.cursor.is_same.Given as goal

abbrev pub invariant-loop-i : goal.invariant-loop-i
invariant-loop-i l = same_path (drop l.i l.path) (drop l.i l.other) ≡ same_path l.path l.other
