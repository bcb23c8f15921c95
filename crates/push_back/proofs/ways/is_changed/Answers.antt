use Rattle.std.proofs.Common.{not, sym, ap, ◌∙◌}
use Rattle.std.specs.Option.{option_and_then}
use Rattle.git_objects.specs.Trees.{at}
use Rattle.object_store.specs.Unfolding.{flat}
use Rattle.workspace.specs.Views.{leaf_value}
use Rattle.push_laws.specs.PushVerdicts.{same_found}
use Rattle.push_back.proofs.NextFilters.{changed-both}
use Rattle.push_back.proofs.ways.is_changed.Goals as goal

pub returns-in-Some-leaf_at : goal.returns-in-Some-leaf_at
returns-in-Some-leaf_at c =
    let S = c.args.store.now in
    let t = flat S c.args.base.0 in
    let n = flat S c.args.pushed.0 in
    changed-both t n _ c.args.shown.now (leaf_value S c.in-Some-leaf_at.field-0) c.differ.result (sym c.in-Some-leaf_at.ensures.leaf) c.differ.ensures
    ∙ ap (λ o. not (same_found (at n c.args.shown.now) (option_and_then (at t) o))) (sym c.in-Some.is)
