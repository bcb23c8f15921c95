use Rattle.std.proofs.Common.{◌++◌, map, drop}
use Rattle.git_objects.specs.Parts.{name_bytes}
use Rattle.incremental_export.specs.Unreached.{AreSame}
use Rattle.incremental_export.proofs.parting.add_parents.Given as goal

abbrev pub invariant-loop-i : goal.invariant-loop-i
invariant-loop-i l = AreSame (drop l.i l.commit.parents ++ map name_bytes l.wanted.keys) (l.commit.parents ++ map name_bytes l.fn.wanted.keys)
