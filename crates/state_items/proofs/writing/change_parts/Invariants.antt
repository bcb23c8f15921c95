use Rattle.std.proofs.Common.{◌≡◌, ◌≤◌, ◌*◌, ◌++◌, drop, take, length, map}
use Rattle.std.specs.List.{flat_map}
use Rattle.object_store.specs.Errors.{object_value}
use Rattle.state_items.proofs.Weaving.{woven}
use Rattle.state_items.proofs.writing.change_parts.Given as goal

abbrev pub invariant-loop-object : goal.invariant-loop-object
invariant-loop-object l = record {
  room : 5 * length (drop l.object-index l.objects) ≤ length l.rest;
  whole :
      flat_map (λ part. part.now) l.parts.items ++ woven (map object_value (drop l.object-index l.objects)) l.rest
      ≡ take 6 l.heads ++ woven (map object_value l.objects) (drop 6 l.heads);
}
