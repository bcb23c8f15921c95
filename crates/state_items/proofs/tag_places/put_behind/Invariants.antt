use Rattle.std.proofs.Common.{◌≡◌, ◌≤◌, length, ◌-◌}
use Rattle.state_items.specs.TagPlaces.{AreLower}
use Rattle.state_items.proofs.tag_places.put_behind.Given as goal

abbrev pub invariant-places : goal.invariant-places
invariant-places l = record {
  within : l.at ≤ length l.tags.items;
  lower : AreLower l.tag.name l.at l.tags.items;
  same : l.tags ≡ l.fn.tags;
  same_tag : l.tag ≡ l.fn.tag;
}

abbrev pub decreases-places : goal.decreases-places
decreases-places l = length l.tags.items - l.at
