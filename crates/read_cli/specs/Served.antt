-- What comes of a reading on a disk.
use Rattle.std.specs.Prelude.{◌≡◌, ◌⊎◌, ℕ, List, Some}
use Rattle.std.specs.declared.option.Option.{Option}
use Rattle.git_objects.specs.Paths.{Bytes}
use Rattle.proj_io.specs.Counts.{Counts}
use Rattle.proj_io.specs.Views.{SinkView}
use Rattle.proj_disk.specs.Disks.{DiskView}
use Rattle.proj_journal.specs.Journals.{SpellsItsItems, TellsWhy, items_of}
use Rattle.proj_journal.specs.declared.opening.JournalError.{JournalError}
use Rattle.proj_journal.specs.declared.opening.JournalError.TheVariants.{Failed}
use Rattle.proj_words.specs.Outcomes.{code_of}
use Rattle.proj_words.specs.declared.outcome.Outcome.{Outcome}
use Rattle.proj_words.specs.declared.outcome.Outcome.TheVariants.{StoreFault, WriteFault}
use Rattle.proj_cli.specs.Answers.{GetsText}
use Rattle.proj_cli.specs.Served.{error_code, error_text}
use Rattle.read_cli.specs.Answers.{IsReadAnswer}
use Rattle.read_cli.specs.Looks.{read_text}
use Rattle.read_cli.specs.Readings.{IsJudgedRightly, Reading}

-- what a call sees of its devices at one moment: the disk, where it is known, and how often it has failed
pub record Seen : Type 0 where
  pub out : SinkView
  pub err : SinkView
  pub content : Option DiskView
  pub faults : ℕ

-- The words were read over the items that the bytes of the disk spell.
pub record IsRead (asked : Reading) (before after : Seen) (exit : ℕ) : Type 0 where
  pub outcome : Outcome
  pub status : exit ≡ code_of outcome
  pub list : SpellsItsItems before.content
  pub answer : (items : List Bytes) → items_of before.content ≡ Some items → IsReadAnswer asked items before.out after.out outcome
  pub judged : IsJudgedRightly asked outcome
  pub write : Counts before.out.faults after.out.faults (outcome ≡ WriteFault)
  pub cause : Counts before.faults after.faults (outcome ≡ StoreFault)
  pub text : GetsText before.err after.err (read_text outcome)

-- There is no journal on the disk, or no memory for it or for its text. The output is untouched. An empty disk has no journal.
pub record IsUnopened (Untouched : Type 0) (before after : Seen) (exit : ℕ) : Type 0 where
  pub untouched : Untouched
  pub error : JournalError
  pub status : exit ≡ error_code error
  pub why : TellsWhy before.content error
  pub cause : Counts before.faults after.faults (error ≡ Failed)
  pub text : GetsText before.err after.err (error_text error)

abbrev pub IsReadOn : Reading → Type 0 → Seen → Seen → ℕ → Type 0
IsReadOn asked Untouched before after exit = IsRead asked before after exit ⊎ IsUnopened Untouched before after exit
