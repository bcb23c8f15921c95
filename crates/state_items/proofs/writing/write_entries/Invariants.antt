use Rattle.std.proofs.Common.{◌≡◌, ◌++◌, drop}
use Rattle.std.specs.List.{flat_map}
use Rattle.commit_map.specs.Shown.{entry_values}
use Rattle.state_items.specs.Items.{entry_text}
use Rattle.state_items.proofs.writing.write_entries.Given as goal

abbrev pub invariant-loop-entry : goal.invariant-loop-entry
invariant-loop-entry l = l.text.items ++ flat_map entry_text (entry_values (drop l.entry-index l.entries)) ≡ l.initial.text.items ++ flat_map entry_text (entry_values l.entries)
