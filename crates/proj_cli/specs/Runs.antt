-- What `run` says of its outcome, for each form of the words.
use Rattle.std.specs.Prelude.{◌≡◌, ◌⊎◌, List}
use Rattle.git_objects.specs.Paths.{Bytes}
use Rattle.proj_words.specs.Words.{Command, Batch, Trial}
use Rattle.proj_words.specs.declared.outcome.Outcome.{Outcome}
use Rattle.proj_cli.specs.Answers.{Devices, IsCommandAnswer, IsCommandComplete}
use Rattle.proj_cli.specs.Batches.{BatchLeaves, IsBatchAnswer, IsBatchComplete}
use Rattle.proj_cli.specs.Stopped.{IsLengthened}
use Rattle.proj_cli.specs.Trials.{IsTrialAnswer, IsTrialComplete}
use Rattle.proj_cli.specs.Turns.{begun}

-- a batch and a trial are made of commands; each other form is one
abbrev pub IsAnswer : Command → Devices → Devices → Outcome → Type 0
IsAnswer Batch before after outcome = IsBatchAnswer before after outcome
IsAnswer (Trial n) before after outcome = IsTrialAnswer n before after outcome
IsAnswer asked before after outcome = IsCommandAnswer asked before after outcome

-- where no device failed, the outcome is the one that is expected, or there was no memory, or two objects in hand have one name
abbrev pub IsComplete : Command → Devices → Devices → Outcome → Type 0
IsComplete Batch before after outcome = IsBatchComplete before after outcome
IsComplete (Trial n) before after outcome = IsTrialComplete n before after outcome
IsComplete asked before after outcome = IsCommandComplete asked before after outcome

-- what a stop may leave that isn't the items at entry
abbrev pub LeavesMore : Command → List Bytes → Bytes → List Bytes → Type 0
LeavesMore Batch items input list = BatchLeaves items (begun items input) list
LeavesMore (Trial n) items input list = ⊥
LeavesMore asked items input list = IsLengthened asked items input list

-- a stop leaves the items as they are, or with the command's item behind them, whole; or with those of a batch's first entries
abbrev pub MayLeave : Command → List Bytes → Bytes → List Bytes → Type 0
MayLeave asked items input list = (list ≡ items) ⊎ LeavesMore asked items input list
