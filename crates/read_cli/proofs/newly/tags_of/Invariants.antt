use Rattle.std.proofs.Common.{◌≡◌, ◌++◌, drop, filter, length, map}
use Rattle.std.specs.Vec.Iter.{into_iter_items, into_iter_len}
use Rattle.git_objects.specs.Parts.{name_bytes}
use Rattle.fast_export.specs.ExportTexts.{is_among}
use Rattle.incremental_export.specs.Unreached.{AreSame}
use Rattle.tag_objects.specs.declared.tag.Tag.{Tag}
use Rattle.read_cli.proofs.newly.tags_of.Given as goal

abbrev pub invariant-loop-commit : goal.invariant-loop-commit
invariant-loop-commit l = AreSame (drop l.commit-index (map name_bytes l.commits) ++ map name_bytes l.names.keys) (map name_bytes l.commits)

abbrev pub invariant-loop-tag : goal.invariant-loop-tag
invariant-loop-tag l = record {
  left : l.left.items ++ filter (λ (t : Tag). is_among t.target.0 (map name_bytes l.commits)) (into_iter_items l.tag-iterator) ≡ filter (λ (t : Tag). is_among t.target.0 (map name_bytes l.commits)) l.fn.tags.items;
  len : into_iter_len l.tag-iterator ≡ length (into_iter_items l.tag-iterator);
}
