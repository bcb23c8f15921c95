use Rattle.std.proofs.Common.{◌≡◌, ◌+◌, ◌≤◌, ◌++◌}
use Rattle.std.specs.Prelude.{Ok}
use Rattle.git_objects.specs.Lists.{Each}
use Rattle.git_objects.specs.declared.limits.TheConstants.{POLICY_BYTES}
use Rattle.git_objects.specs.Results.{◌>>=◌}
use Rattle.filter_text.specs.Shapes.{shape}
use Rattle.proj_gate.specs.Policies.{lines, rules_from}
use Rattle.proj_gate.specs.Views.{IsSpelled, rule_values}
use Rattle.proj_gate.proofs.LinesRead.{left_lines, left_size}
use Rattle.proj_gate.proofs.policy.Policy.parse.Given as goal

abbrev pub invariant-lines : goal.invariant-lines
invariant-lines l = record {
  spelled : Each (λ r. IsSpelled (shape r.filter)) l.found.items;
  reads : rules_from 1 (lines l.fn.text) ≡ (rules_from l.line (left_lines l.rest) >>= λ rs. Ok (rule_values l.found.items ++ rs));
  room : l.line + left_size l.rest ≤ POLICY_BYTES + 2;
}

abbrev pub decreases-lines : goal.decreases-lines
decreases-lines l = left_size l.rest
