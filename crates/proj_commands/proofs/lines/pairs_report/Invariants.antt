use Rattle.std.proofs.Common.{◌≡◌, take}
use Rattle.std.specs.List.{flat_map}
use Rattle.proj_commands.specs.Push.{told_digits}
use Rattle.push_back.specs.declared.brought.Pair.{Pair}
use Rattle.proj_commands.proofs.lines.pairs_report.Given as goal

abbrev pub invariant-loop-pair : goal.invariant-loop-pair
invariant-loop-pair l = l.report.items ≡ flat_map (λ (c : Pair). told_digits l.telling c.pushed.0 c.original.0) (take l.pair-index l.pairs)
