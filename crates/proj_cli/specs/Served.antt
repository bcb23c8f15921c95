-- What comes of a call of the program on a disk.
use Rattle.std.specs.Prelude.{◌≡◌, ◌≢◌, ◌⊎◌, ◌++◌, [], ◌∷◌, ℕ, true, false, List, length, codes, decimal, None, Some, Ok, Err, IsErr, IfSome, ⊤}
use Rattle.std.specs.declared.option.Option.{Option}
use Rattle.git_objects.specs.Paths.{Bytes}
use Rattle.proj_io.specs.Counts.{Counts}
use Rattle.proj_io.specs.Views.{SourceView, SinkView, source_view, sink_view}
use Rattle.proj_disk.specs.Disks.{DiskView, IsImage, IsTornIfKnown, stable}
use Rattle.proj_journal.specs.Rest.{new_bytes}
use Rattle.proj_journal.specs.Spelling.{listed, spelled}
use Rattle.proj_journal.specs.Journals.{IsNew, items_of}
use Rattle.proj_journal.specs.declared.opening.JournalError.{JournalError}
use Rattle.proj_journal.specs.declared.opening.JournalError.TheVariants.{Failed, Broken, OutOfMemory as NoMemory}
use Rattle.proj_words.specs.Words.{Command, Unknown, loads}
use Rattle.proj_words.specs.Outcomes.{code_of, text_of}
use Rattle.proj_words.specs.declared.outcome.Outcome.{Outcome}
use Rattle.proj_words.specs.declared.outcome.Outcome.TheVariants.{OutOfMemory, StoreFault, Usage}
use Rattle.proj_cli.specs.Answers.{Devices, GetsText}
use Rattle.proj_commands.specs.Cases.{is_one, verdict}
use Rattle.proj_cli.specs.Runs.{IsAnswer, IsComplete, MayLeave}

-- what a call sees of its devices at one moment
pub record Seen : Type 0 where
  pub input : SourceView
  pub out : SinkView
  pub err : SinkView
  -- the disk, where it is known, and how often it has failed
  pub content : Option DiskView
  pub faults : ℕ

abbrev pub seen : {S O E D : Type 0} → (S → Option (List ℕ)) → (S → ℕ) → (O → Option (List ℕ)) → (O → ℕ) → (O → ℕ) → (E → Option (List ℕ)) → (E → ℕ) → (E → ℕ) → (D → Option DiskView) → (D → ℕ) → S → O → E → D → Seen
seen left read written faults refusals told told_faults told_refusals content failed source sink errors disk = record {
  input = source_view left read source;
  out = sink_view written faults refusals sink;
  err = sink_view told told_faults told_refusals errors;
  content = content disk;
  faults = failed disk;
}

-- the devices of a command: the disk keeps the items that its bytes spell, which are so many
abbrev pub over_disk : Seen → ℕ → Devices
over_disk s number = record { input = s.input; out = s.out; store = record { items = items_of s.content; number = number; faults = s.faults } }

-- the bytes of a known disk spell a list, or there are none yet
abbrev pub HasList : Option DiskView → Type 0
HasList None = ⊤
HasList (Some disk) = (disk.bytes ≡ []) ⊎ (spelled disk.bytes ≡ Ok (listed disk.bytes))

-- The journal on a known disk was opened, and nothing else was done: one that wasn't empty has the same bytes, and all of them are stable;
-- one that was empty has the bytes of a new journal.
abbrev pub IsOnlyOpened : Option DiskView → Option DiskView → Type 0
IsOnlyOpened None now = ⊤
IsOnlyOpened (Some disk) now = (disk.bytes ≢ [] → now ≡ Some (stable disk.bytes)) × (disk.bytes ≡ [] → IsNew now)

-- ---- stops

-- whatever a stop leaves of the disk spells the list that its bytes spell
abbrev pub IsSteady : DiskView → Type 0
IsSteady disk = (image : List ℕ) → IsImage disk image → spelled image ≡ Ok (listed disk.bytes)

-- whatever a stop leaves of the disk is a whole journal
abbrev pub IsWhole : DiskView → Type 0
IsWhole disk = (image : List ℕ) → IsImage disk image → spelled image ≡ Ok (listed image)

-- a stop may leave this list of the disk
abbrev pub Spells : DiskView → List Bytes → Type 0
Spells disk list = (image : List ℕ) × IsImage disk image × (listed image ≡ list)

-- the bytes spell a list, which is one that a stop may have left of the disk before, or is of this kind
abbrev pub LeavesKind : (List Bytes → Type 0) → DiskView → List ℕ → Type 0
LeavesKind Kind disk image = (spelled image ≡ Ok (listed image)) × (Spells disk (listed image) ⊎ Kind (listed image))

-- the bytes spell a list, which is one that a stop may have left of the disk before, or may leave during the command with this input
abbrev pub LeavesWhole : Command → Bytes → DiskView → List ℕ → Type 0
LeavesWhole asked input disk image = LeavesKind (MayLeave asked (listed disk.bytes) input) disk image

-- the bytes spell a list, which is one that a stop during the command may leave
abbrev pub LeavesList : Command → Bytes → List Bytes → List ℕ → Type 0
LeavesList asked input items image = (spelled image ≡ Ok (listed image)) × MayLeave asked items input (listed image)

-- ---- a journal

-- The words were run over the journal on the disk. Each clause is one of `run`, with the list that the bytes spelled as the items at entry,
-- and the list that they then spell as the items after it.
pub record IsRan (asked : Command) (before after : Seen) (exit : ℕ) : Type 0 where
  pub outcome : Outcome
  pub status : exit ≡ code_of outcome
  pub list : HasList before.content
  -- how many items there are, also where the disk doesn't tell them
  pub number : ℕ
  pub number_now : ℕ
  pub counted : IfSome (items_of before.content) (λ all. length all ≡ number)
  pub counted_now : IfSome (items_of after.content) (λ all. length all ≡ number_now)
  pub answer : IsAnswer asked (over_disk before number) (over_disk after number_now) outcome
  pub complete : IsComplete asked (over_disk before number) (over_disk after number_now) outcome
  pub unloaded : loads asked ≡ false → IsOnlyOpened before.content after.content
  pub unjudged : is_one asked ≡ true → IsErr (verdict asked) → IsOnlyOpened before.content after.content
  pub idle : asked ≡ Unknown → outcome ≡ Usage
  pub text : GetsText before.err after.err (text_of outcome)
  pub settled : outcome ≢ StoreFault → IfSome after.content IsSteady

-- ---- no journal

-- the exit status and the text where there is no journal
abbrev pub error_code : JournalError → ℕ
error_code Failed = 24
error_code (Broken at) = 25
error_code NoMemory = 1

abbrev pub error_text : JournalError → Bytes
error_text Failed = text_of StoreFault
error_text (Broken at) = codes "damaged: journal at " ++ (decimal at ++ 10 ∷ [])
error_text NoMemory = text_of OutOfMemory

-- what that says of a known disk: it isn't empty, and is broken at the place
abbrev pub SaysWhy : Option DiskView → JournalError → Type 0
SaysWhy content Failed = ⊤
SaysWhy None (Broken at) = ⊤
SaysWhy (Some disk) (Broken at) = (disk.bytes ≢ []) × (spelled disk.bytes ≡ Err at)
SaysWhy content NoMemory = ⊤

-- A known disk that wasn't empty has the bytes that it had: it is as it was, or as after a sync.
abbrev pub KeepsBytes : Option DiskView → Option DiskView → Type 0
KeepsBytes None now = ⊤
KeepsBytes (Some disk) now = disk.bytes ≢ [] → (now ≡ Some disk) ⊎ (now ≡ Some (stable disk.bytes))

-- A known disk that was empty is as it was; or a write failed, and then any bytes may stand where those of a new journal go, and no others.
abbrev pub IsBegun : Option DiskView → Option DiskView → JournalError → Type 0
IsBegun None now error = ⊤
IsBegun (Some disk) now error = disk.bytes ≡ [] → (now ≡ Some disk) ⊎ ((error ≡ Failed) × IsTornIfKnown 0 (length new_bytes) (Some disk) now)

-- There is no journal on the disk, or no memory for it or for its text. Input and output are untouched, and bytes that stood on the disk
-- are still there.
pub record IsUnopened (Untouched : Type 0) (before after : Seen) (exit : ℕ) : Type 0 where
  pub untouched : Untouched
  pub error : JournalError
  pub status : exit ≡ error_code error
  pub why : SaysWhy before.content error
  pub kept : KeepsBytes before.content after.content
  pub begun : IsBegun before.content after.content error
  pub cause : Counts before.faults after.faults (error ≡ Failed)
  pub text : GetsText before.err after.err (error_text error)

abbrev pub IsServed : Command → Type 0 → Seen → Seen → ℕ → Type 0
IsServed asked Untouched before after exit = IsRan asked before after exit ⊎ IsUnopened Untouched before after exit
