-- Items stay Kept behind what a stream of sound commands gives.
use Rattle.std.proofs.Common.{List, ◌++◌, All, Option}
use Rattle.object_store.specs.Objects.{IsStore}
use Rattle.stream_reader.specs.declared.command.Placed.{Placed}
use Rattle.stream_reader.specs.declared.fault.StreamFault.{StreamFault}
use Rattle.state_items.specs.Items.{Held}
use Rattle.state_items.specs.Changes.{objects_of}
use Rattle.state_items.specs.Imported.{AreApart, IsBrought}
use Rattle.state_items.specs.KeptLaws.{Projecting}
use Rattle.state_items.proofs.Kepts.{kept-law}
use Rattle.import_laws.specs.SoundCommands.{IsSound}
use Rattle.import_laws.specs.Replayed.{ImportKeptLaw, end_of}
use Rattle.import_laws.proofs.Replaying.{replayed-law}

pub brought : (h : Held) (ps : List Placed) (end : Option StreamFault) → IsStore h.objects → All (λ p. IsSound p.command) ps → AreApart (h.objects ++ objects_of (end_of h ps end).blobs (end_of h ps end).commits) →
    IsBrought h (end_of h ps end).blobs (end_of h ps end).commits
brought h ps end s v a = let r = replayed-law h ps end s v in record { store = s; apart = a; bytes = r.bytes; commits = r.commits; leaves = r.leaves }

pub import-kept-law : (project : Projecting) → ImportKeptLaw project
import-kept-law project items h ps end stay w s v apart small f =
    let r = end_of h ps end in
    (kept-law project).change items h r.blobs r.commits _ stay w (brought h ps end s v apart) small (replayed-law h ps end s v).heads f
