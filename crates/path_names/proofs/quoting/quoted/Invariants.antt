use Rattle.std.proofs.Common.{◌≡◌, ◌++◌, length}
use Rattle.path_names.specs.Quoting.{quoted, quoted_rest}
use Rattle.path_names.proofs.quoting.quoted.Given as goal

abbrev pub invariant-loop-out : goal.invariant-loop-out
invariant-loop-out l = l.out.items ++ quoted_rest l.rest ≡ quoted l.text

abbrev pub decreases-loop-out : goal.decreases-loop-out
decreases-loop-out l = length l.rest
