-- What comes of writing a report, or of telling how a command ended.
use Rattle.std.specs.Prelude.{◌≡◌, ℕ, ◌≤◌, [], ◌∷◌, ◌++◌, codes, decimal, Result, Ok, Err, false}
use Rattle.std.specs.Io.KnownBytes.{Appends}
use Rattle.git_objects.specs.Paths.{Bytes}
use Rattle.proj_io.specs.Counts.{Counts, Rose}
use Rattle.proj_io.specs.Views.{SinkView}
use Rattle.proj_words.specs.Entries.{reply_text}
use Rattle.proj_words.specs.Outcomes.{code_of, is_plain}
use Rattle.proj_words.specs.declared.outcome.Outcome.{Outcome}
use Rattle.proj_words.specs.declared.outcome.Outcome.TheVariants.{Done, OutOfMemory, WriteFault, StoreFault}
use Rattle.proj_commands.specs.Makes.{Fronts}

-- What was written of a report by each outcome. Only the sink itself may want memory.
abbrev pub IsSent : Outcome → Bytes → SinkView → SinkView → Type 0
IsSent Done report before after = Appends before.written after.written report
IsSent WriteFault report before after = Fronts report before after
IsSent OutOfMemory report before after = Rose before.refusals after.refusals × Fronts report before after
IsSent outcome report before after = ⊥

-- what was written, and no count has fallen
pub record IsWritten (outcome : Outcome) (report : Bytes) (before after : SinkView) : Type 0 where
  pub sent : IsSent outcome report before after
  pub cause : Counts before.faults after.faults (outcome ≡ WriteFault)
  pub memory : before.refusals ≤ after.refusals

-- of a report, or of a refusal, of which nothing is written
abbrev pub IsConcluded : Result Bytes Outcome → SinkView → SinkView → Outcome → Type 0
IsConcluded (Ok report) before after outcome = IsWritten outcome report before after
IsConcluded (Err refusal) before after outcome = outcome ≡ refusal

-- what stands before the output of so many bytes in a reply
abbrev pub reply_head : Outcome → ℕ → Bytes
reply_head outcome n = codes "status " ++ decimal (code_of outcome) ++ codes "\nbytes " ++ decimal n ++ 10 ∷ []

-- Of a command of a batch: the reply to its report or its refusal. Where there was no memory there is none; and a fault of the store stays
-- one, whatever comes of the reply.
abbrev pub IsReplied : Result Bytes Outcome → Outcome → SinkView → SinkView → Type 0
IsReplied (Ok report) outcome before after = IsSent outcome (reply_text Done report) before after
IsReplied (Err OutOfMemory) outcome before after = (outcome ≡ OutOfMemory) × (after ≡ before)
IsReplied (Err StoreFault) outcome before after =
    (outcome ≡ StoreFault) × ((said : Outcome) × IsSent said (reply_text StoreFault []) before after × Counts before.faults after.faults (said ≡ WriteFault))
IsReplied (Err e) outcome before after = IsSent outcome (reply_text e []) before after

-- the outcomes whose text takes memory
abbrev pub TakesMemory : Outcome → Type 0
TakesMemory outcome = is_plain outcome ≡ false
