use Rattle.std.proofs.Common.{◌≡◌, length}
use Rattle.std.specs.Option.{option_and_then}
use Rattle.filter_text.specs.Items.{items_from, items_of, members}
use Rattle.filter_text.specs.Views.{item_values}
use Rattle.filter_text.proofs.Files.{behind_items}
use Rattle.filter_text.proofs.items.read_items.Given as goal

abbrev pub invariant-loop-rest : goal.invariant-loop-rest
invariant-loop-rest l = behind_items (item_values l.items.items) (items_from l.room l.rest) ≡ option_and_then (items_of 1024) (members l.text)

abbrev pub decreases-loop-rest : goal.decreases-loop-rest
decreases-loop-rest l = length l.rest
