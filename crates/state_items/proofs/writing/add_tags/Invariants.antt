use Rattle.std.proofs.Common.{◌≡◌, ◌≤◌, ◌^◌, ◌+◌, drop, length}
use Rattle.std.specs.List.{flat_map}
use Rattle.state_items.specs.Items.{tag_item_text}
use Rattle.state_items.proofs.writing.add_tags.Given as goal

abbrev pub invariant-loop-tag : goal.invariant-loop-tag
invariant-loop-tag l = record {
  bound : l.size ≤ 2 ^ 29;
  rest : l.size + length (flat_map tag_item_text (drop l.tag-index l.tags)) ≡ l.initial.size + length (flat_map tag_item_text l.tags);
}
