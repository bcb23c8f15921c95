use Rattle.std.proofs.Common.{◌≡◌, true, None, drop}
use Rattle.tag_objects.specs.TagLists.{first_taken, rise}
use Rattle.state_items.proofs.taken.first_taken.Given as goal

abbrev pub invariant-loop-tag : goal.invariant-loop-tag
invariant-loop-tag l = record {
  found : first_taken l.rest (drop l.tag-index l.tags) ≡ first_taken l.held l.tags;
  held : rise None l.rest ≡ true;
  rising : rise None (drop l.tag-index l.tags) ≡ true;
}
