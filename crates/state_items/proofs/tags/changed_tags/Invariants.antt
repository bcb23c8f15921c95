use Rattle.std.proofs.Common.{◌≡◌, ◌++◌, true, None, length}
use Rattle.std.specs.Vec.Iter.{into_iter_items, into_iter_len}
use Rattle.tag_objects.specs.TagLists.{changed, rise}
use Rattle.state_items.proofs.tags.changed_tags.Given as goal

abbrev pub invariant-loop-tag : goal.invariant-loop-tag
invariant-loop-tag l = record {
  whole : l.news.items ++ changed l.rest (into_iter_items l.tag-iterator) ≡ changed l.held l.fn.tags.items;
  held : rise None l.rest ≡ true;
  rising : rise None (into_iter_items l.tag-iterator) ≡ true;
  len : into_iter_len l.tag-iterator ≡ length (into_iter_items l.tag-iterator);
}
