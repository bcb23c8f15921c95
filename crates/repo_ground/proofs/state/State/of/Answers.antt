use Rattle.std.proofs.Common.{refl, ap, ◌∙◌}
use Rattle.repo_ground.specs.Choices.{Selection}
use Rattle.repo_ground.proofs.StatesRead.{whole-read}
use Rattle.repo_ground.proofs.state.State.of.Goals as goal

pub returns-clause-spells : goal.returns-clause-spells
returns-clause-spells c = λ h g.
    let e = c.finish-store.ensures in
    whole-read h c.args.reading _
    (record { store = e.store; names = e.names; graph = e.graph; known = e.blobs; refs = e.refs; maps = ap (λ (x : Selection). x.maps) c.of.ensures ∙ e.kept; rule = e.rule; tags = e.tags; none = ap (λ (x : Selection). x.selected) c.of.ensures; kept = refl })
    c.requires c.new-3.ensures g
