use Rattle.std.proofs.Common.{◌≡◌, ◌≤◌, None, length}
use Rattle.git_objects.specs.declared.kind.Kind.TheVariants.{Blob}
use Rattle.object_store.specs.Objects.{missing_entry, body_of}
use Rattle.object_store.specs.Unfolding.{joined, flat}
use Rattle.object_store.specs.Sizes.{sizes, sizes_joined}
use Rattle.object_store.proofs.shelf.Shelf.held_entries_stats.Given as goal

-- what is left is held, and the sizes of what was looked at with those of the rest are those of the whole
abbrev pub invariant-children : goal.invariant-children
invariant-children l =
    let S = l.self in
    record {
      held : missing_entry S l.entries ≡ None;
      whole : sizes_joined l.stats (sizes (joined (body_of Blob S) (flat S) l.entries)) ≡ sizes (joined (body_of Blob S) (flat S) l.initial.entries);
      files : l.stats.files ≤ 4294967295;
    }

abbrev pub decreases-children : goal.decreases-children
decreases-children l = length l.entries
