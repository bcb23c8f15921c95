-- What a stream brings upon what is held, object by object.
use Rattle.std.specs.Prelude.{◌⊎◌, List, ◌++◌, All, Contains, Option}
use Rattle.git_objects.specs.Paths.{Bytes}
use Rattle.object_store.specs.Growth.{IsClash, IsGrownBy}
use Rattle.object_store.specs.Objects.{Object, IsStore}
use Rattle.fast_import.specs.Made.{IsMadeBy}
use Rattle.fast_import.specs.Replays.{nothing_yet}
use Rattle.stream_reader.specs.declared.command.Placed.{Placed}
use Rattle.stream_reader.specs.declared.fault.StreamFault.{StreamFault}
use Rattle.state_items.specs.Items.{Held}
use Rattle.state_items.specs.Changes.{objects_of}
use Rattle.state_items.specs.Hands.{IsTwice}
use Rattle.import_laws.specs.Bases.{base_of}
use Rattle.import_laws.specs.Replayed.{end_of}
use Rattle.import_laws.specs.SoundCommands.{IsSound}

-- held, or brought by one of the commands
abbrev pub IsHeldOrMade : Held → List Placed → Object → Type 0
IsHeldOrMade h ps o = Contains h.objects o ⊎ IsMadeBy (base_of h) nothing_yet ps o

-- The objects of the blobs and commits that sound commands give, wherever the stream stops.
abbrev pub MadeLaw : Type 0
MadeLaw = (h : Held) (ps : List Placed) (end : Option StreamFault) → IsStore h.objects → All (λ p. IsSound p.command) ps
    → (o : Object) → Contains (h.objects ++ objects_of (end_of h ps end).blobs (end_of h ps end).commits) o
    → IsHeldOrMade h ps o

-- A clash in a store that had what is held, and has grown by what the commands bring, is of two such objects.
abbrev pub ClashLaw : Type 0
ClashLaw = (h : Held) (ps : List Placed) (S : List Object) (n : Bytes)
    → IsGrownBy (IsMadeBy (base_of h) nothing_yet ps) h.objects S → IsClash (IsMadeBy (base_of h) nothing_yet ps) S n
    → IsTwice (IsHeldOrMade h ps) n
