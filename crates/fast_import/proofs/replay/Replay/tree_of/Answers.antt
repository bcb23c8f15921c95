use Rattle.std.proofs.Common.{ap, sym, ◌∙◌}
use Rattle.fast_import.specs.Bases.{base_in}
use Rattle.fast_import.specs.Replaying.{Replaying}
use Rattle.fast_import.specs.Replaying.{tree_made}
use Rattle.fast_import.proofs.Resolving.{held_made, held_old, tree_of_made, tree_of_old}
use Rattle.fast_import.proofs.replay.Replay.tree_of.Goals as goal

pub returns-in-Some-clause-tree : goal.returns-in-Some-clause-tree
returns-in-Some-clause-tree g c = λ S r h.
    tree_of_made S c.args.self.now r h (base_in S (g.B.Base.commits c.args.base.now) (g.B.Base.refs c.args.base.now) (g.B.Base.blobs c.args.base.now)) c.args.name.now c.in-Some.tree
    (ap (λ (v : Replaying). tree_made c.args.name.now v.commits) (sym c.self.view_is) ∙ sym c.tree_of.ensures ∙ c.in-Some.is)

pub returns-in-Some-clause-held : goal.returns-in-Some-clause-held
returns-in-Some-clause-held g c = λ S r h b.
    held_made S c.args.self.now r h c.args.name.now c.in-Some.tree
    (ap (λ (v : Replaying). tree_made c.args.name.now v.commits) (sym c.self.view_is) ∙ sym c.tree_of.ensures ∙ c.in-Some.is)

pub returns-in-None-clause-tree : goal.returns-in-None-clause-tree
returns-in-None-clause-tree g c = λ S r h.
    tree_of_old S c.args.self.now r h (g.B.Base.commits c.args.base.now) (g.B.Base.refs c.args.base.now) (g.B.Base.blobs c.args.base.now) c.args.name.now _
    (ap (λ (v : Replaying). tree_made c.args.name.now v.commits) (sym c.self.view_is) ∙ sym c.tree_of.ensures ∙ c.in-None.is) c.tree_of-in-None.ensures

pub returns-in-None-clause-held : goal.returns-in-None-clause-held
returns-in-None-clause-held g c = λ S r h b.
    held_old S (g.B.Base.commits c.args.base.now) (g.B.Base.refs c.args.base.now) (g.B.Base.blobs c.args.base.now) b c.args.name.now _ c.tree_of-in-None.ensures
