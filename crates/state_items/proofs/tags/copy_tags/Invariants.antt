use Rattle.std.proofs.Common.{◌≡◌, ◌++◌, drop}
use Rattle.state_items.proofs.tags.copy_tags.Given as goal

abbrev pub invariant-loop-tag : goal.invariant-loop-tag
invariant-loop-tag l = l.copy.items ++ drop l.tag-index l.tags ≡ l.tags
