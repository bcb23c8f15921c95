use Rattle.std.proofs.Common.{◌≡◌, drop, IfSome}
use Rattle.tag_objects.specs.TagLists.{with_tags}
use Rattle.state_items.specs.TagPlaces.{IsHighest}
use Rattle.state_items.proofs.tags.with_tags.Given as goal

abbrev pub invariant-loop-tag : goal.invariant-loop-tag
invariant-loop-tag l = record {
  put : with_tags l.tags l.news ≡ with_tags l.after.items (drop l.tag-index l.news);
  place : IfSome l.last (λ at. IsHighest at l.after.items);
}
