use Rattle.std.proofs.Common.{sym, ◌∙◌}
use Rattle.fast_import.specs.Bases.{base_in}
use Rattle.fast_import.proofs.Changing.{digits_known, digits_unknown}
use Rattle.fast_import.proofs.KnownBlobs.{blob_known, blob_unknown}
use Rattle.fast_import.proofs.replay.Replay.named_blob.Goals as goal

pub returns-then-is_blob : goal.returns-then-is_blob
returns-then-is_blob g c = λ S r s b h.
    let k = blob_known S c.args.name.now c.args.self.now r h (g.B.Base.commits c.args.base.now) (g.B.Base.refs c.args.base.now) (g.B.Base.blobs c.args.base.now) b s (sym c.is_blob.ensures ∙ c.if-is_blob.true) in
    digits_known S (base_in S (g.B.Base.commits c.args.base.now) (g.B.Base.refs c.args.base.now) (g.B.Base.blobs c.args.base.now)) r c.args.at c.args.mode c.args.name.now k.blob c.in_default.not-Module k.named k.held

pub returns-else-is_blob : goal.returns-else-is_blob
returns-else-is_blob g c = λ S r s b h.
    digits_unknown (base_in S (g.B.Base.commits c.args.base.now) (g.B.Base.refs c.args.base.now) (g.B.Base.blobs c.args.base.now)) r c.args.at c.args.mode c.args.name.now c.in_default.not-Module
    (blob_unknown S c.args.name.now c.args.self.now r h (g.B.Base.commits c.args.base.now) (g.B.Base.refs c.args.base.now) (g.B.Base.blobs c.args.base.now) b (sym c.is_blob.ensures ∙ c.if-is_blob.false))
