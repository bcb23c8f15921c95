use Rattle.std.proofs.Common.{◌≡◌, ◌≤◌, None, drop, map}
use Rattle.git_objects.specs.Views.{entry_value}
use Rattle.git_objects.specs.declared.kind.Kind.TheVariants.{Blob}
use Rattle.object_store.specs.Objects.{missing_entry, body_of}
use Rattle.object_store.specs.Unfolding.{joined, flat}
use Rattle.object_store.specs.Sizes.{sizes, sizes_joined}
use Rattle.object_store.proofs.shelf.Shelf.listed_stats.Given as goal

-- what is left is held, and the sizes of what was looked at with those of the rest are those of the whole
abbrev pub invariant-loop-entry : goal.invariant-loop-entry
invariant-loop-entry l =
    let S = l.self in
    let left = map entry_value (drop l.entry-index l.entries) in
    record {
      held : missing_entry S left ≡ None;
      whole : sizes_joined l.total (sizes (joined (body_of Blob S) (flat S) left)) ≡ sizes (joined (body_of Blob S) (flat S) (map entry_value l.entries));
      files : l.total.files ≤ 4294967295;
    }
