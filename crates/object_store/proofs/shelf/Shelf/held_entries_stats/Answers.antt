use Rattle.std.proofs.Common.{◌≤◌, sym, ap, subst, ◌∙◌}
use Rattle.std.specs.Option.{is_none}
use Rattle.git_objects.specs.Views.{entry_value}
use Rattle.git_objects.specs.declared.kind.Kind.TheVariants.{Blob}
use Rattle.object_store.specs.declared.store.TreeStats.{TreeStats}
use Rattle.object_store.specs.Objects.{missing_entry, body_of}
use Rattle.object_store.specs.Sizes.{sizes, sizes_joined}
use Rattle.object_store.specs.Unfolding.{joined, flat}
use Rattle.object_store.proofs.Children.{children-held, first-child}
use Rattle.object_store.proofs.Sizes.{entry_step}
use Rattle.object_store.proofs.shelf.Shelf.held_entries_stats.Goals as goal

pub children-preserved : goal.children-preserved
children-preserved c =
    let S = c.args.self.now in
    let all = children-held S c.children.entries (ap is_none c.children.invariant.held) in
    let child = first-child S c.children.entries (entry_value c.in-Some.entry) c.in-Some.ensures.entry all in
    let step = entry_step S c.children.entries (entry_value c.in-Some.entry) c.children.stats _ c.in-Some.ensures.entry child.0 c.held_entry_stats-part.ensures in
    let rest = c.in-Some.ensures.rest in
    let sum = c.stats_joined-stats.ensures in
    record {
      held = ap (missing_entry S) rest ∙ step.held ∙ c.children.invariant.held;
      whole = (λ i. sizes_joined (sum i) (sizes (joined (body_of Blob S) (flat S) (rest i)))) ∙ step.whole ∙ c.children.invariant.whole;
      files = subst (λ (s : TreeStats). s.files ≤ 4294967295) (sym sum) step.files;
    }
