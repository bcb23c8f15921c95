use Rattle.std.proofs.Common.{◌≡◌, ◌≤◌, drop}
use Rattle.filter_text.specs.Limits.{is_deep, too_deep}
use Rattle.filter_text.proofs.limits.too_deep.Given as goal

abbrev pub invariant-loop-x : goal.invariant-loop-x
invariant-loop-x l = record {
  same : is_deep l.opened l.closed (drop l.x-index l.text) ≡ too_deep l.text;
  few_opened : l.opened ≤ l.x-index;
  few_closed : l.closed ≤ l.x-index;
}
