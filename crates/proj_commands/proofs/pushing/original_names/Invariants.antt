use Rattle.std.proofs.Common.{◌≡◌, map, take}
use Rattle.push_back.specs.declared.brought.Pair.{Pair}
use Rattle.proj_commands.proofs.pushing.original_names.Given as goal

abbrev pub invariant-loop-pair : goal.invariant-loop-pair
invariant-loop-pair l = l.names.items ≡ map (λ (c : Pair). c.original) (take l.pair-index l.pairs)
