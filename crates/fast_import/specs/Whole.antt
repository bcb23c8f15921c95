-- What a whole stream gives, read in pieces.
use Rattle.std.specs.Prelude.{◌≡◌, ◌⊎◌, ◌<◌, ◌≤◌, ℕ, true, false, List, [], length, Option, IfOk, IfErr, IsOkAnd, Result}
use Rattle.std.specs.Io.KnownBytes.{Consumes, IsAtEnd}
use Rattle.git_objects.specs.Paths.{Bytes, is_bytes}
use Rattle.object_store.specs.Growth.{IsGrownBy}
use Rattle.object_store.specs.Objects.{Object}
use Rattle.fast_import.specs.Made.{IsMadeBy, IsRefusal}
use Rattle.stream_reader.specs.Readers.{Reading, fed}
use Rattle.fast_import.specs.Replaying.{Replaying}
use Rattle.fast_import.specs.Replays.{Base, nothing_yet, ran_in, reached, replay, replay_in, tagged_replay}
use Rattle.fast_import.specs.Standing.{IsReplayOf, IsReplayedOf, IsTaggedReplayedOf}
use Rattle.fast_import.specs.declared.whole.ReplayError.{ReplayError}
use Rattle.fast_import.specs.declared.whole.ReplayError.TheVariants.{ReadFault, Stream}
use Rattle.fast_import.specs.declared.replayed.Replayed.{Replayed as ReplayedNames}
use Rattle.fast_import.specs.declared.replayed.TaggedReplay.{TaggedReplay as TaggedNames}
use Rattle.stream_reader.specs.Verdicts.{start, tagged_start}
use Rattle.stream_reader.specs.declared.fault.StreamFault.{StreamFault}
use Rattle.stream_reader.specs.declared.progress.Progress.{Progress}

-- a reader was fed with the next bytes of a source, at most so many
pub record IsPiece (before after : Option Bytes) (old new : Reading) (most : ℕ) : Type 0 where
  pub bytes : Bytes
  pub some : 0 < length bytes
  pub few : length bytes ≤ most
  pub are_bytes : is_bytes bytes ≡ true
  pub taken : Consumes before after bytes
  pub now : new ≡ fed bytes false old

-- a source has given at most so many bytes
abbrev pub IsGiven : Option Bytes → Option Bytes → ℕ → Type 0
IsGiven before after most = (bytes : Bytes) × Consumes before after bytes × (length bytes ≤ most)

-- or it was told that nothing more comes
pub record IsEnd (before after : Option Bytes) (old new : Reading) : Type 0 where
  pub none : Consumes before after []
  pub at_end : IsAtEnd after
  pub now : new ≡ record { progress = old.progress; input = old.input; ended = true }

abbrev pub IsFed : Option Bytes → Option Bytes → Reading → Reading → ℕ → Type 0
IsFed before after old new most = IsPiece before after old new most ⊎ IsEnd before after old new

-- the objects that the commands of a stream bring, up to the one that is refused
abbrev pub IsMadeOfStreamIn : Progress → Base → Bytes → Object → Type 0
IsMadeOfStreamIn begins base all o = IsMadeBy base nothing_yet (ran_in begins base all).tried o

abbrev pub IsMadeOfStream : Base → Bytes → Object → Type 0
IsMadeOfStream base all o = IsMadeOfStreamIn start base all o

-- why a stream isn't replayed; a fault of the source has its own cause
abbrev pub IsStreamErrorIn : Progress → Base → List Object → Bytes → ReplayError → Type 0
IsStreamErrorIn begins base S all ReadFault = Unit {0}
IsStreamErrorIn begins base S all (Stream f) = IsRefusal (IsMadeOfStreamIn begins base all) S (replay_in begins base all) f

abbrev pub IsStreamError : Base → List Object → Bytes → ReplayError → Type 0
IsStreamError base S all e = IsStreamErrorIn start base S all e

-- What became of a stream that is read by such a `Progress` from its start: what stands for what it gives, exactly where it has
-- no fault, or its first fault.
pub record IsWholeOf {A N : Type 0} (begins : Progress) (base : Base) (S S' : List Object) (all : Bytes) (gives : Result A StreamFault) (stands : N → A → Type 0) (result : Result N ReplayError) : Type 0 where
  pub given : IfOk result (λ g. IsOkAnd gives (stands g))
  pub refused : IfErr result (IsStreamErrorIn begins base S' all)
  pub grown : IsGrownBy (IsMadeOfStreamIn begins base all) S S'

-- of a stream that is read without tags
abbrev pub IsWhole : Base → List Object → List Object → Bytes → Result ReplayedNames ReplayError → Type 0
IsWhole base S S' all result = IsWholeOf start base S S' all (replay base all) (IsReplayedOf S') result

-- of a stream that is read with its tags, which it gives, too
abbrev pub IsTaggedWhole : Base → List Object → List Object → Bytes → Result TaggedNames ReplayError → Type 0
IsTaggedWhole base S S' all result = IsWholeOf tagged_start base S S' all (tagged_replay base all) (IsTaggedReplayedOf S') result

-- of a stream of which the whole replay is given
abbrev pub IsWholeRun : Progress → Base → List Object → List Object → Bytes → Result Replaying ReplayError → Type 0
IsWholeRun begins base S S' all result =
    IsWholeOf begins base S S' all (reached (ran_in begins base all).state (ran_in begins base all).fault) (IsReplayOf S') result

-- of a stream that is run into a replay, which stands for what it gives
abbrev pub IsRunOn : Progress → Base → List Object → List Object → Replaying → Bytes → Result Unit ReplayError → Type 0
IsRunOn begins base S S' after all result =
    IsWholeOf begins base S S' all (reached (ran_in begins base all).state (ran_in begins base all).fault) (λ _. IsReplayOf S' after) result
