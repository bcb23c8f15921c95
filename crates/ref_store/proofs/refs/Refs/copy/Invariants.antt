use Rattle.std.proofs.Common.{◌≡◌, take}
use Rattle.ref_store.proofs.refs.Refs.copy.Given as goal

abbrev pub invariant-loop-i : goal.invariant-loop-i
invariant-loop-i l = l.heads.entries ≡ take l.i l.self-inside.heads.entries
