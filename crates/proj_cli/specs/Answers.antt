-- When each outcome is answered, what has then been written, and what the store has got.
use Rattle.std.specs.Prelude.{◌≡◌, ◌≢◌, ◌⊎◌, ◌+◌, ◌≤◌, ⊤, ℕ, Bool, true, false, List, [], ◌++◌, length, map, take, All, Option, Some, None, Result, Ok, Err, IsErr, IsOk, IfSome}
use Rattle.std.specs.Io.KnownBytes.{Appends, Keeps}
use Rattle.git_objects.specs.Paths.{Bytes}
use Rattle.object_store.specs.Objects.{Object}
use Rattle.proj_io.specs.Counts.{Counts, Rose}
use Rattle.proj_io.specs.Views.{SourceView, SinkView, KeeperView}
use Rattle.state_items.specs.Items.{Held, read_items}
use Rattle.state_items.specs.Changes.{Plan, held_after, plan_items, NoPlan, room_of}
use Rattle.state_items.specs.Hands.{IsTwice}
use Rattle.repo_ground.specs.Changes.{KeepsItems}
use Rattle.proj_words.specs.Words.{Command, As, Export, ExportTags, loads, reads, writes}
use Rattle.proj_words.specs.declared.outcome.Outcome.{Outcome}
use Rattle.proj_words.specs.declared.outcome.Outcome.TheVariants.{Done, OutOfMemory, Collision, ReadFault, WriteFault, StoreFault}
use Rattle.proj_commands.specs.Cases.{IsJudgedRightly, Made, loaded}
use Rattle.proj_commands.specs.Steps.{case, hand, IsLawful, cases, step, ArePlanned}
use Rattle.proj_commands.specs.Hands.{IsInHands}
use Rattle.proj_commands.specs.Intake.{TakesUpTo, waited_by}
use Rattle.proj_commands.specs.Plans.{AreKept, HoldWhatTheyShould, IsSameState, changes_state}
use Rattle.proj_commands.specs.Makes.{OfProject, recalled_line, IsKeepPlanOf}
use Rattle.filter_text.specs.Filters.{Filter}

-- ---- devices

-- what a call has, before it or after it
pub record Devices : Type 0 where
  pub input : SourceView
  pub out : SinkView
  pub store : KeeperView

-- no count has fallen, and a fault of a device is answered only where its own count rose
pub record IsCaused (before after : Devices) (outcome : Outcome) : Type 0 where
  pub read : Counts before.input.faults after.input.faults (outcome ≡ ReadFault)
  pub write : Counts before.out.faults after.out.faults (outcome ≡ WriteFault)
  pub keep : Counts before.store.faults after.store.faults (outcome ≡ StoreFault)
  pub memory : before.out.refusals ≤ after.out.refusals

-- no device failed
pub record NoneFailed (before after : Devices) : Type 0 where
  pub read : ¬ Rose before.input.faults after.input.faults
  pub write : ¬ Rose before.out.faults after.out.faults
  pub keep : ¬ Rose before.store.faults after.store.faults

-- ---- what was written, and what the store has got

abbrev pub Wrote : Bytes → Devices → Devices → Type 0
Wrote report before after = Appends before.out.written after.out.written report

abbrev pub WroteNothing : Devices → Devices → Type 0
WroteNothing before after = Keeps before.out.written after.out.written

-- a front of the report
abbrev pub Began : Bytes → Devices → Devices → Type 0
Began report before after = (n : ℕ) × Wrote (take n report) before after

-- known items have these behind them
abbrev pub GetsAll : Option (List Bytes) → List Bytes → Option (List Bytes) → Type 0
GetsAll None more new = ⊤
GetsAll (Some items) more None = ⊥
GetsAll (Some items) more (Some new) = new ≡ items ++ more

abbrev pub Got : List Bytes → Devices → Devices → Type 0
Got more before after = (after.store.number ≡ before.store.number + length more) × GetsAll before.store.items more after.store.items

abbrev pub GotNothing : Devices → Devices → Type 0
GotNothing before after = KeepsItems before.store after.store

-- nothing was done at all
abbrev pub Idle : Devices → Devices → Type 0
Idle before after = WroteNothing before after × GotNothing before after

-- ---- one command

-- the outcome of a step
abbrev pub outcome_of : Result Made Outcome → Outcome
outcome_of (Ok m) = Done
outcome_of (Err e) = e

-- which outcome may stand in the place of the step's: want of memory, the faults of the devices, and two objects in hand of one name
abbrev pub IsOutcome : (Object → Type 0) → Outcome → Result Made Outcome → Type 0
IsOutcome hand Done r = IsOk r
IsOutcome hand OutOfMemory r = ⊤
IsOutcome hand ReadFault r = ⊤
IsOutcome hand StoreFault r = ⊤
IsOutcome hand WriteFault r = IsOk r
IsOutcome hand (Collision n) r = (r ≡ Err (Collision n)) ⊎ IsTwice hand n.0
IsOutcome hand outcome r = r ≡ Err outcome

-- whether a form writes its report while it is made
abbrev pub flows : Command → Bool
flows (Export r f) = true
flows (ExportTags r f) = true
flows (As u c) = flows c
flows asked = false

-- Where the report is this and these items are appended, none or one: what was done by each outcome. A report is written after the append.
-- An export may have written a front of it without memory, and so may a sink that has none itself.
abbrev pub IsDelivered : Command → Bytes → List Bytes → Devices → Devices → Outcome → Type 0
IsDelivered asked report items before after Done = Wrote report before after × Got items before after
IsDelivered asked report items before after WriteFault = Began report before after × Got items before after
IsDelivered asked report items before after OutOfMemory =
    Idle before after
    ⊎ ((flows asked ≡ true) × Began report before after × GotNothing before after)
    ⊎ (Rose before.out.refusals after.out.refusals × Began report before after × Got items before after)
IsDelivered asked report items before after StoreFault = WroteNothing before after × (GotNothing before after ⊎ Got items before after)
IsDelivered asked report items before after outcome = Idle before after

-- of a step that is refused nothing is delivered
abbrev pub IsStepDelivered : Command → Result Made Outcome → Plan → Devices → Devices → Outcome → Type 0
IsStepDelivered asked (Ok m) p before after outcome = IsDelivered asked m.output (plan_items p) before after outcome
IsStepDelivered asked (Err e) p before after outcome = Idle before after

-- Items that hold what they should still do: as they were, or with the plan's item behind them, and then they spell what is held after it.
abbrev pub Follows : List Bytes → Plan → List Bytes → Type 0
Follows items p after =
    (h : Held) → AreKept items h → (after ≡ items) ⊎ ((after ≡ items ++ plan_items p) × AreKept after (held_after h p))

-- what was done on a command for these items and this input
pub record IsAnswered (asked : Command) (items : List Bytes) (input : Bytes) (before after : Devices) (outcome : Outcome) : Type 0 where
  pub plan : Plan
  pub planned : ArePlanned items (cases asked items input) (step asked items input) plan
  pub delivered : IsStepDelivered asked (step asked items input) plan before after outcome
  pub lawful : outcome ≡ Done → All (IsLawful items plan) (cases asked items input)
  pub follows : before.store.items ≡ Some items → IfSome after.store.items (Follows items plan)

-- The answer for these items and the input, which is what the source told. The outcome is the step's whatever is kept; what is kept decides
-- what a projection gives.
pub record HasAnswer (asked : Command) (items : List Bytes) (before after : Devices) (outcome : Outcome) : Type 0 where
  pub input : Bytes
  pub told : IfSome before.input.left (λ l. input ≡ l)
  pub allowed : IsOutcome (IsInHands (map hand (cases asked items input))) outcome (step asked items input)
  pub answered : HoldWhatTheyShould asked items → IsAnswered asked items input before after outcome

-- which items a clause speaks of: those that the store tells; and any for a form that doesn't load them
abbrev pub AreItems : Command → Devices → List Bytes → Type 0
AreItems asked before items = loads asked ≡ true → before.store.items ≡ Some items

-- items that have more behind them spell a state, which a form that doesn't change it has left
pub record IsLonger (asked : Command) (items more : List Bytes) (h : Held) (now : List Bytes) : Type 0 where
  pub behind : now ≡ items ++ more
  pub state : Held
  pub spelled : read_items now ≡ Ok state
  pub stays : changes_state asked ≡ false → IsSameState h state

-- Whatever is kept in items that spell a state, true or not: after a refusal nothing was done, and the items spell a state still, as they
-- were or with the command's behind them.
pub record IsSafe (asked : Command) (items : List Bytes) (h : Held) (before after : Devices) (outcome : Outcome) : Type 0 where
  pub report : Bytes
  pub more : List Bytes
  pub delivered : IsDelivered asked report more before after outcome
  pub spelled : IfSome after.store.items (λ now. (now ≡ items) ⊎ IsLonger asked items more h now)

-- ---- what is kept decides what is projected

-- Of a projection, whatever is kept, true or not: what is appended is nothing, or what may be kept then; and the line is the one that what is
-- kept leads to.
pub record IsRecalledDone (asked : Command) (items : List Bytes) (before after : Devices) (outcome : Outcome) (h : Held) (f : Filter) (n : Bytes) : Type 0 where
  pub plan : Plan
  pub planned : (plan ≡ NoPlan) ⊎ IsKeepPlanOf h f n (room_of items) plan
  pub done : outcome ≡ Done → IsKeepPlanOf h f n (room_of items) plan
  pub delivered : IsDelivered asked (recalled_line h f n) (plan_items plan) before after outcome

abbrev pub IsRecalled : Command → Devices → Devices → Outcome → Type 0
IsRecalled asked before after outcome =
    (items : List Bytes) → before.store.items ≡ Some items → OfProject (case asked (loaded items) []) (IsRecalledDone asked items before after outcome)

-- ---- the whole answer

-- what `run` says of the outcome of a command
pub record IsCommandAnswer (asked : Command) (before after : Devices) (outcome : Outcome) : Type 0 where
  pub cause : IsCaused before after outcome
  -- words without a form and faults of a filter are told only where they are
  pub judged : IsJudgedRightly asked outcome
  -- a form that doesn't read or load is at no fault of the input or the store
  pub unread : reads asked ≡ false → outcome ≢ ReadFault
  pub unloaded : loads asked ≡ false → outcome ≢ StoreFault
  -- a form that doesn't write leaves the items
  pub unwritten : writes asked ≡ false → GotNothing before after
  pub answered : (items : List Bytes) → AreItems asked before items → HasAnswer asked items before after outcome
  pub safe : (items : List Bytes) (h : Held) → before.store.items ≡ Some items → read_items items ≡ Ok h → IsSafe asked items h before after outcome
  pub recalled : IsRecalled asked before after outcome
  -- It reads no further than it has to: at most 2^25 bytes behind its stream's last line, or behind the first fault.
  pub taken : (items : List Bytes) → (loads asked ≡ true → before.store.items ≡ Some items) → TakesUpTo (waited_by (case asked (loaded items))) before.input.left after.input.left
  -- Where no case comes up, whatever is read, nothing is read: a command that is refused for its filter, the items or its ref leaves the input.
  pub caseless : (items : List Bytes) → (loads asked ≡ true → before.store.items ≡ Some items) → ((all : Bytes) → IsErr (case asked (loaded items) all))
      → after.input ≡ before.input

-- two objects in hand have this name
abbrev pub IsCollision : Command → List Bytes → Bytes → Outcome → Type 0
IsCollision asked items input (Collision n) = IsTwice (IsInHands (map hand (cases asked items input))) n.0
IsCollision asked items input outcome = ⊥

-- Where items and input are told and no device failed, the outcome is the step's, or there was no memory, or two objects in hand have
-- one name.
abbrev pub IsCommandComplete : Command → Devices → Devices → Outcome → Type 0
IsCommandComplete asked before after outcome = (items : List Bytes) (input : Bytes) → AreItems asked before items → before.input.left ≡ Some input
    → NoneFailed before after → (outcome ≡ OutOfMemory) ⊎ (outcome ≡ outcome_of (step asked items input)) ⊎ IsCollision asked items input outcome

-- the line was written, where the error stream tells and neither of its counts rose
pub record GetsText (before after : SinkView) (line : Bytes) : Type 0 where
  pub faults : before.faults ≤ after.faults
  pub refusals : before.refusals ≤ after.refusals
  pub text : ¬ Rose before.faults after.faults → ¬ Rose before.refusals after.refusals → Appends before.written after.written line
