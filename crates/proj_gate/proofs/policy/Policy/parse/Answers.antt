use Rattle.std.proofs.Common.{◌++◌, Ok, inr, refl, ap, subst, ◌∙◌, arith}
use Rattle.git_objects.specs.Results.{◌>>=◌}
use Rattle.proj_gate.specs.Lines.{AddsLine}
use Rattle.proj_gate.specs.Policies.{lines, rules_from}
use Rattle.proj_gate.specs.Views.{rule_values}
use Rattle.proj_gate.proofs.LinesRead.{left_lines, this-line, less-left, one-line, bad-line, no-line}
use Rattle.proj_gate.proofs.Ruling.{short, long}
use Rattle.proj_gate.proofs.policy.Policy.parse.Goals as goal

pub returns-then-text-gt-POLICY_BYTES : goal.returns-then-text-gt-POLICY_BYTES
returns-then-text-gt-POLICY_BYTES c = inr (0, refl, long c.args.text.now c.if-text-gt-POLICY_BYTES.true)

pub returns-then-not-branch : goal.returns-then-not-branch
returns-then-not-branch c =
    inr (
      c.lines.line,
      refl,
      short c.args.text.now c.if-text-gt-POLICY_BYTES.false
          ∙ bad-line c.lines.line c.first_line.result.0.now (left_lines c.first_line.result.1) (rule_values c.lines.found.items) (rules_from 1 (lines c.args.text.now))
          (this-line c.lines.line c.lines.rest c.in-Some.left c.first_line.result.0.now c.first_line.result.1 c.in-Some.is c.first_line.ensures (rule_values c.lines.found.items) (rules_from 1 (lines c.args.text.now)) c.lines.invariant.reads)
          (subst (AddsLine c.lines.line c.first_line.result.0.now c.lines.found.items c.add_line.new.found.items) c.if-not-branch.true c.in_ok-add_line.ensures.added),
    )

pub lines-smaller : goal.lines-smaller
lines-smaller c = less-left c.lines.line c.lines.rest c.in-Some.left c.first_line.result.0.now c.first_line.result.1 c.in-Some.is c.first_line.ensures

pub lines-preserved : goal.lines-preserved
lines-preserved c =
    let new = subst (AddsLine c.lines.line c.first_line.result.0.now c.lines.found.items c.add_line.new.found.items) c.if-not-branch.false c.in_ok-add_line.ensures.added in
    record {
      spelled = c.in_ok-add_line.ensures.spelled;
      reads =
          one-line c.lines.line c.first_line.result.0.now (left_lines c.first_line.result.1) (rule_values c.lines.found.items) (rule_values c.add_line.new.found.items) new.0 (rules_from 1 (lines c.args.text.now))
          (this-line c.lines.line c.lines.rest c.in-Some.left c.first_line.result.0.now c.first_line.result.1 c.in-Some.is c.first_line.ensures (rule_values c.lines.found.items) (rules_from 1 (lines c.args.text.now)) c.lines.invariant.reads)
          new.1 new.2;
      room =
          let l = less-left c.lines.line c.lines.rest c.in-Some.left c.first_line.result.0.now c.first_line.result.1 c.in-Some.is c.first_line.ensures in
          omega (arith, l, c.lines.invariant.room);
    }

pub returns : goal.returns
returns c =
    let vs = rule_values c.lines.found.items in
    short c.args.text.now c.if-text-gt-POLICY_BYTES.false
    ∙ no-line c.lines.line vs (rules_from 1 (lines c.args.text.now)) (c.lines.invariant.reads ∙ ap (λ o. rules_from c.lines.line (left_lines o) >>= λ rs. Ok (vs ++ rs)) c.in_default.is)
