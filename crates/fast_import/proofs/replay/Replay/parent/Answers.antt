use Rattle.std.proofs.Common.{Ok, Option, ap, sym, ◌∙◌}
use Rattle.std.specs.FinMap.{find}
use Rattle.git_objects.specs.Refs.{bytes_cmp}
use Rattle.git_objects.specs.Paths.{Bytes}
use Rattle.fast_import.specs.Bases.{base_in}
use Rattle.fast_import.specs.Replaying.{Replaying}
use Rattle.fast_import.proofs.Resolving.{branch-is, parent_none}
use Rattle.fast_import.proofs.replay.Replay.parent.Goals as goal

pub returns-in-None : goal.returns-in-None
returns-in-None g c = λ S r h.
    parent_none (base_in S (g.B.Base.commits c.args.base.now) (g.B.Base.refs c.args.base.now) (g.B.Base.blobs c.args.base.now)) r c.args.head.now c.in-None.is
    ∙ ap (λ (o : Option Bytes). Ok o) (sym (c.get.ensures ∙ ap (λ (v : Replaying). find bytes_cmp c.args.head.now.refname v.branches) c.self.view_is ∙ branch-is S c.args.self.now r h c.args.head.now.refname))
