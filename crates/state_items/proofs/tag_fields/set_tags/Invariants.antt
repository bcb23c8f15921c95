use Rattle.std.proofs.Common.{◌≡◌, ◌-◌, None, IfSome}
use Rattle.std.specs.Option.{option_copied}
use Rattle.state_items.specs.Items.{tags_field}
use Rattle.state_items.specs.TagPlaces.{IsHighest}
use Rattle.state_items.proofs.tag_fields.set_tags.Given as goal

abbrev pub invariant-loop-i : goal.invariant-loop-i
invariant-loop-i l = record {
  put : tags_field l.fn.count l.held.objects None l.initial.tags.items l.initial.cursor ≡ tags_field (l.count - l.i) l.held.objects (option_copied l.before) l.tags.items l.cursor;
  place : IfSome l.last (λ at. IsHighest at l.tags.items);
}
