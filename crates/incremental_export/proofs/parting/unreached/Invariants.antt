use Rattle.std.proofs.Common.{◌++◌, map, drop}
use Rattle.git_objects.specs.Parts.{name_bytes}
use Rattle.incremental_export.specs.Unreached.{AreSame}
use Rattle.incremental_export.proofs.WantedNames.{IsLeftOf}
use Rattle.incremental_export.proofs.parting.unreached.Given as goal

abbrev pub invariant-loop-have : goal.invariant-loop-have
invariant-loop-have l = AreSame (drop l.have-index (map name_bytes l.haves) ++ map name_bytes l.wanted.keys) (map name_bytes l.haves)

abbrev pub invariant-loop-i : goal.invariant-loop-i
invariant-loop-i l = IsLeftOf l.store (map name_bytes l.fn.haves) (map name_bytes l.wanted.keys) (map name_bytes l.left.items) (map name_bytes l.commits) l.i
