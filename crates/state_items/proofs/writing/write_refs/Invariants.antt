use Rattle.std.proofs.Common.{◌≡◌, ◌++◌, drop}
use Rattle.std.specs.List.{flat_map}
use Rattle.ref_store.specs.Pairs.{pairs}
use Rattle.state_items.specs.Items.{ref_text}
use Rattle.state_items.proofs.writing.write_refs.Given as goal

abbrev pub invariant-loop-entry : goal.invariant-loop-entry
invariant-loop-entry l = l.text.items ++ flat_map ref_text (pairs (drop l.entry-index l.refs)) ≡ l.initial.text.items ++ flat_map ref_text (pairs l.refs)
