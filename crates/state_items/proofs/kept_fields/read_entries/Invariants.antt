use Rattle.std.proofs.Common.{◌≡◌, ◌-◌}
use Rattle.state_items.specs.Steps.{entries_step}
use Rattle.state_items.proofs.kept_fields.read_entries.Given as goal

abbrev pub invariant-loop-i : goal.invariant-loop-i
invariant-loop-i l = entries_step l.count l.held.objects l.initial.map l.initial.cursor ≡ entries_step (l.count - l.i) l.held.objects l.map l.cursor
