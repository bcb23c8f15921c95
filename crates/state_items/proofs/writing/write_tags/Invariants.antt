use Rattle.std.proofs.Common.{◌≡◌, ◌≤◌, ◌^◌, ◌++◌, drop, length}
use Rattle.std.specs.List.{flat_map}
use Rattle.state_items.specs.Items.{tag_item_text}
use Rattle.state_items.proofs.writing.write_tags.Given as goal

abbrev pub invariant-loop-tag : goal.invariant-loop-tag
invariant-loop-tag l = record {
  bound : length (flat_map tag_item_text (drop l.tag-index l.tags)) ≤ 2 ^ 29;
  rest : l.text.items ++ flat_map tag_item_text (drop l.tag-index l.tags) ≡ l.initial.text.items ++ flat_map tag_item_text l.tags;
}
