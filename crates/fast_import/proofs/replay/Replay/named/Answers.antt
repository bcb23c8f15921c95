use Rattle.std.proofs.Common.{ap, ◌∙◌}
use Rattle.std.specs.FinMap.{find}
use Rattle.git_objects.specs.Refs.{bytes_cmp}
use Rattle.fast_import.specs.Bases.{base_in}
use Rattle.fast_import.specs.Replaying.{Replaying}
use Rattle.fast_import.proofs.Resolving.{ref_set, ref_stored}
use Rattle.fast_import.proofs.replay.Replay.named.Goals as goal

pub returns-in-Some : goal.returns-in-Some
returns-in-Some g c = λ S r h.
    ref_set S c.args.self.now r h (base_in S (g.B.Base.commits c.args.base.now) (g.B.Base.refs c.args.base.now) (g.B.Base.blobs c.args.base.now)) c.args.r.now.target c.in-Ref.refname c.get-in-Ref.result c.in-Some.head c.in-Ref.is
    (c.get-in-Ref.ensures ∙ ap (λ (v : Replaying). find bytes_cmp c.in-Ref.refname v.branches) c.self.view_is) c.in-Some.is

pub returns-in-None : goal.returns-in-None
returns-in-None g c = λ S r h.
    ref_stored S c.args.self.now r h (base_in S (g.B.Base.commits c.args.base.now) (g.B.Base.refs c.args.base.now) (g.B.Base.blobs c.args.base.now)) c.args.r.now.target c.in-Ref.refname c.get-in-Ref.result _ c.in-Ref.is
    (c.get-in-Ref.ensures ∙ ap (λ (v : Replaying). find bytes_cmp c.in-Ref.refname v.branches) c.self.view_is) c.in-None.is c.branch-base.ensures
