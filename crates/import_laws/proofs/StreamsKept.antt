-- Items stay Kept behind a stream of bytes.
use Rattle.std.proofs.Common.{List, ◌++◌, All}
use Rattle.stream_reader.specs.Verdicts.{start, verdict}
use Rattle.stream_reader.specs.declared.command.Placed.{Placed}
use Rattle.state_items.specs.Changes.{objects_of}
use Rattle.state_items.specs.Imported.{AreApart}
use Rattle.state_items.specs.KeptLaws.{Projecting}
use Rattle.state_items.proofs.ReadEntries.{read-law}
use Rattle.state_items.proofs.Twices.{once-same}
use Rattle.import_laws.specs.MadeObjects.{IsHeldOrMade}
use Rattle.import_laws.specs.Replayed.{end_of}
use Rattle.import_laws.specs.SmallCommands.{IsRead, IsSmall}
use Rattle.import_laws.specs.SmallReplays.{StreamKeptLaw}
use Rattle.import_laws.specs.SoundCommands.{IsSound}
use Rattle.import_laws.proofs.ImportsKept.{import-kept-law}
use Rattle.import_laws.proofs.Making.{made-law}
use Rattle.import_laws.proofs.ReadCommands.{reader-law}
use Rattle.import_laws.proofs.SmallReplaying.{small-law}

all-sound : (ps : List Placed) → All (λ p. IsRead p.command) ps → All (λ p. IsSound p.command) ps
all-sound ps h = λ k d lt. (h k d lt).sound

all-small : (ps : List Placed) → All (λ p. IsRead p.command) ps → All (λ p. IsSmall p.command) ps
all-small ps h = λ k d lt. (h k d lt).small

pub stream-kept-law : (project : Projecting) → StreamKeptLaw project
stream-kept-law project items h input stay w s bytes apart f =
    let ps = (verdict start input).commands in
    let end = (verdict start input).fault in
    let r = end_of h ps end in
    let given = reader-law start input bytes in
    let sound = all-sound ps given in
    let once : AreApart (h.objects ++ objects_of r.blobs r.commits) = λ o d m n e. once-same (IsHeldOrMade h ps) apart o d (made-law h ps end s sound o m) (made-law h ps end s sound d n) e in
    import-kept-law project items h ps end stay w s sound once (small-law h ps end (read-law.sound items h w.spelled).trees (all-small ps given)) f
