use Rattle.std.proofs.Common.{◌≡◌, ◌<◌, ◌-◌, length}
use Rattle.path_names.specs.Quoting.{Plain, unquoted, unquote, behind}
use Rattle.path_names.proofs.quoting.unquote.Given as goal

abbrev pub invariant-runs : goal.invariant-runs
invariant-runs l = record {
  within : length l.rest < length l.text;
  told : unquote l.text ≡ behind l.bytes.items (length l.text - length l.rest) (unquoted Plain l.rest);
}

abbrev pub decreases-runs : goal.decreases-runs
decreases-runs l = length l.rest
