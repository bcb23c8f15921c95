use Rattle.std.proofs.Common.{◌≡◌, ◌++◌, ◌+◌, ◌≤◌, map, length}
use Rattle.std.specs.Prelude.{vec_capacity, vec_len}
use Rattle.fast_import.specs.Replaying.{head_values, setting_value}
use Rattle.fast_import.proofs.branches.Branches.into_settings.Given as goal

abbrev pub invariant-loop-refname : goal.invariant-loop-refname
invariant-loop-refname l =
    (l.fn.self ≡ map setting_value l.room.items ++ head_values l.refname-iterator) × (vec_len l.room + length l.refname-iterator ≤ vec_capacity l.room)
