-- What a replay gives is within the limits of objects; and what a whole stream does to items that are Kept.
use Rattle.std.specs.Prelude.{◌≡◌, true, List, All, Option, None}
use Rattle.std.specs.List.{list_all}
use Rattle.git_objects.specs.Paths.{Bytes, is_bytes}
use Rattle.object_store.specs.Fits.{tree_fits}
use Rattle.object_store.specs.Objects.{IsStore}
use Rattle.fast_import.specs.Replays.{Replay, ran}
use Rattle.stream_reader.specs.Verdicts.{start, verdict}
use Rattle.stream_reader.specs.declared.command.Placed.{Placed}
use Rattle.stream_reader.specs.declared.fault.StreamFault.{StreamFault}
use Rattle.state_items.specs.Items.{Held}
use Rattle.state_items.specs.Repos.{IsKept, repo}
use Rattle.state_items.specs.Changes.{Plan, passed, room_of}
use Rattle.state_items.specs.Hands.{IsTwice}
use Rattle.state_items.specs.Imported.{AreSmall}
use Rattle.state_items.specs.KeptLaws.{IsKeptAfter, Projecting, StayLaw}
use Rattle.import_laws.specs.Bases.{base_of}
use Rattle.import_laws.specs.MadeObjects.{IsHeldOrMade}
use Rattle.import_laws.specs.Replayed.{added_by, end_of}
use Rattle.import_laws.specs.SmallCommands.{IsSmall}

-- Where the trees of the commits that are held are within the limits, what small commands give is, wherever the stream
-- stops.
abbrev pub SmallLaw : Type 0
SmallLaw = (h : Held) (ps : List Placed) (end : Option StreamFault)
    → list_all (λ c. tree_fits c.tree) (repo h).commits ≡ true → All (λ p. IsSmall p.command) ps
    → AreSmall (end_of h ps end).blobs (end_of h ps end).commits

-- what a stream gives upon what is held, up to its first fault or to its end, and what it adds
abbrev pub given_upon : Held → Bytes → Replay
given_upon h input = (ran (base_of h) input).state

abbrev pub stream_plan : Held → Bytes → Plan
stream_plan h input = added_by h (given_upon h input)

-- no two objects that are held or that the stream brings have one name
abbrev pub IsApartUpon : Held → Bytes → Type 0
IsApartUpon h input = (n : Bytes) → IsTwice (IsHeldOrMade h (verdict start input).commands) n → ⊥

-- A stream of bytes keeps items Kept, where no two objects have one name and the state passes no limit.
abbrev pub StreamKeptLaw : Projecting → Type 0
StreamKeptLaw project = (items : List Bytes) (h : Held) (input : Bytes) → StayLaw project → IsKept project items h
    → IsStore h.objects → is_bytes input ≡ true
    → IsApartUpon h input → passed h (room_of items) (stream_plan h input) ≡ None
    → IsKeptAfter project items h (stream_plan h input)
