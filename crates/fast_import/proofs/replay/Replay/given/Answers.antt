use Rattle.std.proofs.Common.{◌≡◌, true, refl, sym, subst}
use Rattle.git_objects.specs.Paths.{Bytes}
use Rattle.fast_import.specs.Bases.{base_in}
use Rattle.fast_import.specs.Replays.{given_bytes}
use Rattle.stream_reader.specs.Replayable.{is_fit}
use Rattle.fast_import.specs.Standing.{IsBrought, IsGiven}
use Rattle.stream_reader.specs.declared.command.BlobRef.{BlobRef}
use Rattle.stream_reader.specs.declared.command.BlobRef.TheVariants.{Digits, Mark}
use Rattle.fast_import.proofs.Changing.{gives_given, inline_given}
use Rattle.fast_import.proofs.replay.Replay.given.Goals as goal

pub returns-in-Inline : goal.returns-in-Inline
returns-in-Inline g c = λ r h.
    let S = c.args.store.now in
    let base = base_in S (g.B.Base.commits c.args.base.now) (g.B.Base.refs c.args.base.now) (g.B.Base.blobs c.args.base.now) in
    subst (λ (x : BlobRef). IsGiven S c.bring.new.store c.bring.new.self r c.args.mode x (given_bytes base r c.args.at c.args.mode x) c.bring.result) (sym c.in-Inline.is)
    (inline_given base S c.bring.new.store c.args.self.now c.bring.new.self r c.args.at c.args.mode c.in-Inline.content (subst (λ (x : BlobRef). is_fit c.args.mode x ≡ true) c.in-Inline.is c.requires.fit) h c.bring.result
    (subst (λ (b : Bytes). IsBrought S c.bring.new.store c.args.self.now c.bring.new.self b c.bring.result) c.bytes.ensures c.bring.ensures))

pub returns-in-Mark : goal.returns-in-Mark
returns-in-Mark g c = λ r h.
    let S = c.args.store.now in
    let base = base_in S (g.B.Base.commits c.args.base.now) (g.B.Base.refs c.args.base.now) (g.B.Base.blobs c.args.base.now) in
    subst (λ (x : BlobRef). IsGiven S S c.args.self.now r c.args.mode x (given_bytes base r c.args.at c.args.mode x) c.marked_blob.result) (sym c.in-Mark.is)
    (gives_given S c.args.self.now r c.args.mode (Mark c.in-Mark.mark) (given_bytes base r c.args.at c.args.mode (Mark c.in-Mark.mark)) refl c.requires.store h c.marked_blob.result
    (c.marked_blob.ensures S base r c.args.mode (subst (λ (x : BlobRef). is_fit c.args.mode x ≡ true) c.in-Mark.is c.requires.fit) h))

pub returns-in-Digits : goal.returns-in-Digits
returns-in-Digits g c = λ r h.
    let S = c.args.store.now in
    let base = base_in S (g.B.Base.commits c.args.base.now) (g.B.Base.refs c.args.base.now) (g.B.Base.blobs c.args.base.now) in
    subst (λ (x : BlobRef). IsGiven S S c.args.self.now r c.args.mode x (given_bytes base r c.args.at c.args.mode x) c.named_blob.result) (sym c.in-Digits.is)
    (gives_given S c.args.self.now r c.args.mode (Digits c.in-Digits.name) (given_bytes base r c.args.at c.args.mode (Digits c.in-Digits.name)) refl c.requires.store h c.named_blob.result
    (c.named_blob.ensures S r c.requires.store c.requires.base h))
