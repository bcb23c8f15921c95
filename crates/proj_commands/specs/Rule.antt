-- The command `rule`: the rule of projection.
use Rattle.std.specs.Prelude.{ℕ, [], ◌∷◌, ◌++◌, codes, decimal}
use Rattle.git_objects.specs.Paths.{Bytes}

abbrev pub rule_line : ℕ → Bytes
rule_line k = codes "rule " ++ decimal k ++ 10 ∷ []
