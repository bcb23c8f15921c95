-- Proves what src/rule.rt needs of `set_rule`.
use Rattle.std.proofs.Common.{◌≡◌, ℕ, false, None, refl, sym, ap, subst, ◌∙◌}
use Rattle.std.specs.Prelude.{◌==◌}
use Rattle.std.proofs.lemmas.Bool.{ne_eqb}
use Rattle.commit_map.specs.Rules.{rule_number}
use Rattle.state_items.specs.Changes.{RulePlan, passed, rule_plan}
use Rattle.repo_ground.specs.Changes.{IsRuleSet}
use Rattle.repo_ground.specs.Contents.{Contents, Spells, room_in}
use Rattle.repo_ground.specs.contracts.state.State.{the_view}
use Rattle.repo_ground.proofs.Rules.{other-rule, rule-set, with_rule}
use Rattle.repo_ground.proofs.state.State.set_rule.Goals as goal

pub returns-in-Some-clause-state : goal.returns-in-Some-clause-state
returns-in-Some-clause-state g c = λ h w.
    let s : Spells h _ = subst (Spells h) (sym c.self.view_is) w in
    let other : (h.rule == rule_number c.args.rule) ≡ false = ne_eqb h.rule (rule_number c.args.rule) (λ e. c.if-number.false (c.number.ensures ∙ s.rule ∙ e ∙ sym c.number-2.ensures)) in
    (refl, ap (passed h (room_in c.args.self.now)) (other-rule h (rule_number c.args.rule) other) ∙ sym (c.rule_limit.ensures.limit h (rule_number c.args.rule) w) ∙ c.in-Some.is)

pub returns-in-Ok-clause-state : goal.returns-in-Ok-clause-state
returns-in-Ok-clause-state g c = λ h w.
    let s : Contents = c.args.self.now in
    let own : Spells h (the_view c.self.inside) = subst (Spells h) (sym c.self.view_is) w in
    let k : ℕ = rule_number c.args.rule in
    let other : (h.rule == k) ≡ false = ne_eqb h.rule k (λ e. c.if-number.false (c.number.ensures ∙ own.rule ∙ e ∙ sym c.number-2.ensures)) in
    let none : passed h (room_in s) (RulePlan k) ≡ None = sym (c.rule_limit.ensures.limit h k w) ∙ c.in_default.is in
    subst (λ (x : Contents). IsRuleSet h (rule_plan h k) s (with_rule x c.args.rule)) (sym c.self-in-Ok.view_is)
    (rule-set h s c.put_away.new.self c.args.rule w other none c.put_away.ensures)
