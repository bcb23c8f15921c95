use Rattle.std.proofs.Common.{◌≡◌, map, take}
use Rattle.fast_import.specs.declared.replayed.Made.{Made}
use Rattle.proj_commands.proofs.naming.commit_names.Given as goal

abbrev pub invariant-loop-commit : goal.invariant-loop-commit
invariant-loop-commit l = l.names.items ≡ map (λ (m : Made). m.name) (take l.commit-index l.made)
