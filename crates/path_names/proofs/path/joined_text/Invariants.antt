use Rattle.std.proofs.Common.{◌≡◌, take}
use Rattle.git_objects.specs.Paths.{text}
use Rattle.path_names.proofs.path.joined_text.Given as goal

abbrev pub invariant-loop-i : goal.invariant-loop-i
invariant-loop-i l = l.text.items ≡ text (take l.i l.components)
