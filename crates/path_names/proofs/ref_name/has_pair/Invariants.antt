use Rattle.std.proofs.Common.{◌≡◌, ◌-◌, drop}
use Rattle.path_names.specs.RefNames.{has_pair}
use Rattle.path_names.proofs.ref_name.has_pair.Given as goal

abbrev pub invariant-loop-i : goal.invariant-loop-i
invariant-loop-i l = has_pair l.a l.b (drop (l.i - 1) l.t) ≡ has_pair l.a l.b l.t
