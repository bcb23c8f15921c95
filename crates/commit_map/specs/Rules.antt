-- The numbers of the rules.
use Rattle.std.specs.Prelude.{ℕ, ◌==◌, if◌then◌else◌, Option, Some, None}
use Rattle.commit_map.specs.declared.rule.Rule.{Rule}
use Rattle.commit_map.specs.declared.rule.Rule.TheVariants.{One, Two}

abbrev pub rule_number : Rule → ℕ
rule_number One = 1
rule_number Two = 2

abbrev pub rule_of : ℕ → Option Rule
rule_of n = if n == 1 then Some One else (if n == 2 then Some Two else None)
