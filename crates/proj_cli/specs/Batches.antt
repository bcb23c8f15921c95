-- What comes of a batch: which of its entries were answered, what has then been written, and what the store has got.
use Rattle.std.specs.Prelude.{◌≡◌, ◌≢◌, ◌⊎◌, ℕ, false, List, [], ◌∷◌, ◌++◌, take, Option, Some, None, Result, Ok, Err, IfSome}
use Rattle.git_objects.specs.Paths.{Bytes}
use Rattle.proj_io.specs.Counts.{Rose}
use Rattle.proj_words.specs.Entries.{Entry}
use Rattle.proj_words.specs.declared.outcome.Outcome.{Outcome}
use Rattle.proj_words.specs.declared.outcome.Outcome.TheVariants.{Done, OutOfMemory, ReadFault, WriteFault, StoreFault}
use Rattle.proj_cli.specs.Answers.{Devices, Got, Idle, IsCaused, NoneFailed, Wrote}
use Rattle.proj_commands.specs.Cases.{is_verdict}
use Rattle.proj_cli.specs.Turns.{AreTurns, IsLastTurn, IsSafeTurn, IsTurn, Turn, appended, begun, entries_of, items_after, turn_text, turn_texts}
use Rattle.fast_import.specs.Waited.{TakesWithin}

-- the turns whose replies were written whole, and behind them the one that was begun then, if one was
abbrev pub all_turns : List Turn → Option Turn → List Turn
all_turns ts None = ts
all_turns ts (Some t) = t ∷ ts

-- the replies to these, and a front of the reply to the last
abbrev pub BeganReply : List Turn → Turn → Devices → Devices → Type 0
BeganReply ts t before after = (n : ℕ) × Wrote (turn_texts ts ++ take n (turn_text t)) before after

-- the replies to all of them, where the output didn't fail
abbrev pub RepliesUnlessFailed : List Turn → Turn → Devices → Devices → Type 0
RepliesUnlessFailed ts t before after =
    ¬ Rose before.out.faults after.out.faults → ¬ Rose before.out.refusals after.out.refusals → Wrote (turn_texts (t ∷ ts)) before after

-- How it ended, behind these turns, with these entries left. The store, the input and want of memory may end it where no entry is being
-- answered. A reply that isn't written whole ends it, and so does an entry in which the store failed, with its reply.
abbrev pub IsEnded : List Turn → Option Turn → List Entry → Devices → Devices → Outcome → Type 0
IsEnded ts None left before after Done = (left ≡ []) × Wrote (turn_texts ts) before after
IsEnded ts None left before after OutOfMemory = Wrote (turn_texts ts) before after
IsEnded ts None left before after ReadFault = (ts ≡ []) × Wrote (turn_texts ts) before after
IsEnded ts None left before after StoreFault = (ts ≡ []) × Wrote (turn_texts ts) before after
IsEnded ts (Some t) left before after OutOfMemory = Rose before.out.refusals after.out.refusals × (t.outcome ≢ StoreFault) × BeganReply ts t before after
IsEnded ts (Some t) left before after WriteFault = (t.outcome ≢ StoreFault) × BeganReply ts t before after
IsEnded ts (Some t) left before after StoreFault = (t.outcome ≡ StoreFault) × BeganReply ts t before after × RepliesUnlessFailed ts t before after
IsEnded ts last left before after outcome = ⊥

-- How a batch with these entries went upon items that spell a state.
pub record IsRun (items : List Bytes) (es : List Entry) (before after : Devices) (outcome : Outcome) : Type 0 where
  pub turns : List Turn
  pub last : Option Turn
  pub left : List Entry
  pub front : es ≡ entries_of (all_turns turns last) ++ left
  pub ended : IsEnded turns last left before after outcome
  pub got : Got (appended (all_turns turns last)) before after
  pub safe : AreTurns (IsSafeTurn items) (all_turns turns last)
  pub in_turn : AreTurns (IsTurn items) turns × IfSome last (IsLastTurn items turns)

-- a refusal before any entry is begun: this one, or want of memory, or a fault of the input or the store
abbrev pub IsUnbegun : Outcome → Outcome → Type 0
IsUnbegun e outcome = (outcome ≡ e) ⊎ (outcome ≡ OutOfMemory) ⊎ (outcome ≡ ReadFault) ⊎ (outcome ≡ StoreFault)

abbrev pub IsBatchBy : List Bytes → Result (List Entry) Outcome → Devices → Devices → Outcome → Type 0
IsBatchBy items (Ok es) before after outcome = IsRun items es before after outcome
IsBatchBy items (Err e) before after outcome = IsUnbegun e outcome × Idle before after

-- for the input, which is what the source told
pub record HasRun (items : List Bytes) (before after : Devices) (outcome : Outcome) : Type 0 where
  pub input : Bytes
  pub told : IfSome before.input.left (λ l. input ≡ l)
  pub run : IsBatchBy items (begun items input) before after outcome

-- what `run` says of the outcome of a batch, and of its run upon items that the store tells
pub record IsBatchAnswer (before after : Devices) (outcome : Outcome) : Type 0 where
  pub cause : IsCaused before after outcome
  -- words without a form and faults of a filter are told of entries
  pub judged : is_verdict outcome ≡ false
  -- It takes at most 2^29 bytes of its input and one more, whatever the items are: they are loaded after it is read.
  pub taken : TakesWithin before.input.left after.input.left
  pub run : (items : List Bytes) → before.store.items ≡ Some items → HasRun items before after outcome

-- that it is done, or the first refusal before its entries
abbrev pub begun_outcome : Result (List Entry) Outcome → Outcome
begun_outcome (Ok es) = Done
begun_outcome (Err e) = e

-- Where items and input are told and no device failed, a batch is done, or refused before its entries, or there was no memory.
abbrev pub IsBatchComplete : Devices → Devices → Outcome → Type 0
IsBatchComplete before after outcome = (items : List Bytes) (input : Bytes) → before.store.items ≡ Some items → before.input.left ≡ Some input
    → NoneFailed before after → (outcome ≡ OutOfMemory) ⊎ (outcome ≡ begun_outcome (begun items input))

-- ---- stops

-- A stop leaves what some of the first entries left: they are turns, and this is behind them.
pub record IsLeftBy (items : List Bytes) (es : List Entry) (list : List Bytes) : Type 0 where
  pub turns : List Turn
  pub left : List Entry
  pub front : es ≡ entries_of turns ++ left
  pub behind : list ≡ items_after items turns
  pub safe : AreTurns (IsSafeTurn items) turns
  pub in_turn : AreTurns (IsTurn items) turns

abbrev pub BatchLeaves : List Bytes → Result (List Entry) Outcome → List Bytes → Type 0
BatchLeaves items (Ok es) list = IsLeftBy items es list
BatchLeaves items (Err e) list = list ≡ items
