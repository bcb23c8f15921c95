use Rattle.std.proofs.Common.{◌≡◌, ◌≤◌, ◌^◌, ◌+◌, ◌*◌, drop, length, take}
use Rattle.std.specs.List.{flat_map}
use Rattle.commit_map.specs.Shown.{entry_values}
use Rattle.state_items.specs.Items.{entry_text}
use Rattle.repo_ground.specs.Keeping.{AreNamed}
use Rattle.repo_ground.proofs.keep.add_entries.Given as goal

abbrev pub invariant-loop-entry : goal.invariant-loop-entry
invariant-loop-entry l = record {
  bound : l.size ≤ 2 ^ 29;
  rest : l.size + length (flat_map entry_text (entry_values (drop l.entry-index l.entries))) ≡ l.initial.size + length (flat_map entry_text (entry_values l.entries));
  named : AreNamed (entry_values (take l.entry-index l.entries));
  few : l.size ≤ l.initial.size + 61 * l.entry-index;
}
