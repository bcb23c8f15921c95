-- The numbers of the rules.
use Rattle.std.proofs.Common.{◌≡◌, ◌==◌, ℕ, Bool, true, false, if◌then◌else◌, None, Some, refl, sym, ap, ◌∙◌}
use Rattle.std.proofs.lemmas.Bool.{eqb-true}
use Rattle.std.proofs.lemmas.Option.{same_Some}
use Rattle.commit_map.specs.Rules.{rule_number, rule_of}
use Rattle.commit_map.specs.declared.rule.Rule.{Rule}
use Rattle.commit_map.specs.declared.rule.Rule.TheVariants.{One, Two}

number-by : (a b : Bool) (k : ℕ) (r : Rule) → (a ≡ true → k ≡ 1) → (b ≡ true → k ≡ 2) → (if a then Some One else (if b then Some Two else None)) ≡ Some r → rule_number r ≡ k
number-by true b k r first second e = ap rule_number (sym (same_Some One r e)) ∙ sym (first refl)
number-by false true k r first second e = ap rule_number (sym (same_Some Two r e)) ∙ sym (second refl)
number-by false false k r first second e = cc

pub number-of-rule : (k : ℕ) (r : Rule) → rule_of k ≡ Some r → rule_number r ≡ k
number-of-rule k r e = number-by (k == 1) (k == 2) k r (eqb-true k 1) (eqb-true k 2) e
