-- Proves what src/filter_maps.rt needs of `put_away`.
use Rattle.std.proofs.Common.{ap, take, ◌∙◌}
use Rattle.state_items.specs.KeptMaps.{entries_at}
use Rattle.repo_ground.specs.Choices.{Selection, entries_beside, maps_in, rested}
use Rattle.repo_ground.specs.declared.filter_maps.Choice.{Choice}
use Rattle.repo_ground.proofs.Selections.{rested-entries}
use Rattle.repo_ground.proofs.filter_maps.FilterMaps.put_away.Goals as goal

pub returns-clause-entries : goal.returns-clause-entries
returns-clause-entries c = λ text k h.
    let kept = c.self.inside.kept in
    ap (λ (x : Choice). entries_at k text (maps_in kept x)) (c.rest.ensures ∙ ap (λ (x : Choice). rested x c.args.map c.args.kept) c.replace-last.ensures.value)
    ∙ rested-entries c.self.inside.choice kept c.args.map c.args.kept text k h
    ∙ ap (λ (s : Selection). entries_beside s (take c.args.kept c.args.map) text k) c.self.view_is
