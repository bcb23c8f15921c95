use Rattle.std.proofs.Common.{◌≡◌, drop}
use Rattle.state_items.specs.ChangedTags.{from_name}
use Rattle.state_items.proofs.tags.from_name.Given as goal

abbrev pub invariant-loop-i : goal.invariant-loop-i
invariant-loop-i l = from_name l.name (drop l.i l.tags) ≡ from_name l.name l.tags
