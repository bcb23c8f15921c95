use Rattle.std.proofs.Common.{◌≡◌, ◌≤◌, length}
use Rattle.git_objects.specs.declared.kind.Kind.TheVariants.{Blob}
use Rattle.object_store.specs.Objects.{missing_entry, body_of}
use Rattle.object_store.specs.Unfolding.{joined, flat}
use Rattle.object_store.specs.Sizes.{sizes, sizes_joined}
use Rattle.object_store.proofs.shelf.Shelf.entries_stats.Given as goal

-- what was looked at is held, and its sizes with those of the rest are those of the whole
abbrev pub invariant-entries : goal.invariant-entries
invariant-entries l =
    let S = l.self in
    record {
      held : missing_entry S l.entries ≡ missing_entry S l.initial.entries;
      whole : sizes_joined l.stats (sizes (joined (body_of Blob S) (flat S) l.entries)) ≡ sizes (joined (body_of Blob S) (flat S) l.initial.entries);
      files : l.stats.files ≤ 4294967295;
    }

abbrev pub decreases-entries : goal.decreases-entries
decreases-entries l = length l.entries
