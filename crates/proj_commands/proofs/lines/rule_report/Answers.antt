-- Proves what src/lines.rt needs of `rule_report`.
use Rattle.std.proofs.Common.{◌≡◌, ◌++◌, ◌∷◌, [], ap, arith, sym, ◌∙◌}
use Rattle.std.specs.Prelude.{codes}
use Rattle.std.proofs.lemmas.Fmt.{decimal_digit}
use Rattle.std.proofs.lemmas.Result.{IfOk-weaker}
use Rattle.commit_map.specs.Rules.{rule_number}
use Rattle.proj_commands.specs.Rule.{rule_line}
use Rattle.proj_commands.proofs.lines.rule_report.Goals as goal

line-one : codes "rule 1\n" ≡ rule_line 1
line-one = sym (ap (λ digits. codes "rule " ++ digits ++ 10 ∷ []) (decimal_digit 1 (omega arith)))

line-two : codes "rule 2\n" ≡ rule_line 2
line-two = sym (ap (λ digits. codes "rule " ++ digits ++ 10 ∷ []) (decimal_digit 2 (omega arith)))

pub returns-in-One : goal.returns-in-One
returns-in-One c =
    IfOk-weaker c.to_vec.result _ _ (λ v h. h (λ x y e. e) ∙ line-one ∙ ap (λ r. rule_line (rule_number r)) (sym c.in-One.is)) c.to_vec.ensures.items_if_clones_equal

pub returns-in-Two : goal.returns-in-Two
returns-in-Two c =
    IfOk-weaker c.to_vec-in-Two.result _ _ (λ v h. h (λ x y e. e) ∙ line-two ∙ ap (λ r. rule_line (rule_number r)) (sym c.in-Two.is)) c.to_vec-in-Two.ensures.items_if_clones_equal
