use Rattle.std.proofs.Common.{◌≡◌, ◌≤◌, ◌^◌, ◌++◌, drop, length, map}
use Rattle.std.specs.List.{flat_map}
use Rattle.object_store.specs.Errors.{object_value}
use Rattle.state_items.specs.Items.{object_text}
use Rattle.state_items.specs.Writings.{object_head}
use Rattle.state_items.proofs.writing.write_heads.Given as goal

abbrev pub invariant-loop-object : goal.invariant-loop-object
invariant-loop-object l = record {
  bound : length (flat_map object_text (map object_value (drop l.object-index l.objects))) ≤ 2 ^ 29;
  rest : l.text.items ++ flat_map object_head (map object_value (drop l.object-index l.objects)) ≡ l.initial.text.items ++ flat_map object_head (map object_value l.objects);
}
