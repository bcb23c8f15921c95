use Rattle.std.proofs.Common.{◌≡◌, ◌*◌, length, take}
use Rattle.git_objects.specs.Commits.{hex}
use Rattle.git_objects.proofs.commit_view.lower_name.Given as goal

abbrev pub invariant-pairs : goal.invariant-pairs
invariant-pairs l = (length l.bytes ≡ 20) × (hex (take l.i l.bytes) ≡ take (2 * l.i) l.text)
