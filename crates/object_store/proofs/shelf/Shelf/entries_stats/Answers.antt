use Rattle.std.proofs.Common.{◌≤◌, sym, ap, subst, ◌∙◌}
use Rattle.git_objects.specs.Views.{entry_value}
use Rattle.git_objects.specs.declared.kind.Kind.TheVariants.{Blob}
use Rattle.object_store.specs.declared.store.TreeStats.{TreeStats}
use Rattle.object_store.specs.Objects.{missing_entry, body_of}
use Rattle.object_store.specs.Sizes.{sizes, sizes_joined}
use Rattle.object_store.specs.Unfolding.{joined, flat}
use Rattle.object_store.proofs.Sizes.{entry_step}
use Rattle.object_store.proofs.shelf.Shelf.entries_stats.Goals as goal

pub entries-preserved : goal.entries-preserved
entries-preserved c =
    let S = c.args.self.now in
    let step = entry_step S c.entries.entries (entry_value c.in-Some.entry) c.entries.stats c.in-Some-entry_stats.part c.in-Some.ensures.entry (sym c.in-Some-entry_stats.ensures.held) c.in-Some-entry_stats.ensures.sizes in
    let rest = c.in-Some.ensures.rest in
    let sum = c.stats_joined-stats.ensures in
    record {
      held = ap (missing_entry S) rest ∙ step.held ∙ c.entries.invariant.held;
      whole = (λ i. sizes_joined (sum i) (sizes (joined (body_of Blob S) (flat S) (rest i)))) ∙ step.whole ∙ c.entries.invariant.whole;
      files = subst (λ (s : TreeStats). s.files ≤ 4294967295) (sym sum) step.files;
    }
