-- What is made of a form of the words, before anything is written to the output.
use Rattle.std.specs.Prelude.{◌≡◌, ◌≢◌, ◌⊎◌, ◌++◌, Bool, true, false, List, Some, Result, Ok, Err, IsErr, All}
use Rattle.std.specs.Io.KnownBytes.{Keeps}
use Rattle.std.specs.Option.{option_to_list}
use Rattle.std.specs.Result.{result_ok}
use Rattle.git_objects.specs.Paths.{Bytes}
use Rattle.git_objects.specs.Results.{◌>>=◌}
use Rattle.object_store.specs.Objects.{Object, IsStore}
use Rattle.filter_text.specs.Filters.{Filter}
use Rattle.proj_gate.specs.Policies.{See}
use Rattle.proj_io.specs.Counts.{Counts}
use Rattle.proj_io.specs.Views.{SourceView, SinkView, KeeperView}
use Rattle.state_items.specs.Items.{Held, read_items}
use Rattle.state_items.specs.Changes.{NoPlan, Plan, Room, plan_items, room_of}
use Rattle.repo_ground.specs.Changes.{KeepsItems}
use Rattle.repo_ground.specs.declared.state.LoadError.{LoadError}
use Rattle.repo_ground.specs.declared.state.LoadError.TheVariants as load
use Rattle.proj_words.specs.Words.{Command, loads, reads, writes}
use Rattle.proj_words.specs.declared.outcome.Outcome.{Outcome}
use Rattle.proj_words.specs.declared.outcome.Outcome.TheVariants.{Collision, Damaged, OutOfMemory, ReadFault, StoreFault, WriteFault, Done}
use Rattle.proj_commands.specs.Cases.{Case, IsJudgedRightly, Made, loaded}
use Rattle.proj_commands.specs.Steps.{case, hand, IsLawful}
use Rattle.proj_commands.specs.Export.{export_case}
use Rattle.proj_commands.specs.Hands.{IsInHands}
use Rattle.proj_commands.specs.Intake.{TakesUpTo, waited_by}
use Rattle.proj_commands.specs.Policy.{granted}
use Rattle.proj_commands.specs.Makes.{IsFlowed, IsGoodPlan, IsPlanned, IsRefusal, IsReported, IsStored, hands_of, step_in}
use Rattle.proj_commands.specs.Inputs.{ForInput}

-- ---- before a case comes up

abbrev pub load_outcome : LoadError → Outcome
load_outcome load.StoreFault = StoreFault
load_outcome (load.Damaged item at) = Damaged item at
load_outcome (load.Collision n) = Collision n
load_outcome load.OutOfMemory = OutOfMemory

-- why nothing is loaded: the refusal of the items, want of memory, or a fault of the store
abbrev pub IsEarly : {A : Type 0} → Result A Outcome → Outcome → Type 0
IsEarly r e = (e ≡ OutOfMemory) ⊎ (e ≡ StoreFault) ⊎ (r ≡ Err e)

-- neither the input nor the output has failed
abbrev pub IsBeforeDevices : {A : Type 0} → Result A Outcome → Type 0
IsBeforeDevices result = (result ≢ Err WriteFault) × (result ≢ Err ReadFault)

-- ---- reports

-- A plan comes of the case that came up, and what is held there is a store.
pub record IsFormPlanned (room : Room) (r : Result Case Outcome) (p : Plan) : Type 0 where
  pub planned : IsPlanned room r p
  pub store : IsStore (hand planned.case).held

-- Where there is a report, the plan comes of the case. Where the store failed, it does, or nothing is planned: it may have failed while
-- it was loaded. Else nothing is planned.
abbrev pub FormPlan : Room → Result Case Outcome → Plan → Result Bytes Outcome → Type 0
FormPlan room r p (Ok report) = IsFormPlanned room r p
FormPlan room r p (Err StoreFault) = (p ≡ NoPlan) ⊎ IsFormPlanned room r p
FormPlan room r p (Err e) = p ≡ NoPlan

-- What became of a case for these items, or of its refusal: its report, and its plan, which is appended.
pub record IsFormMade (r : Result Case Outcome) (items : List Bytes) (before after : KeeperView) (p : Plan) (result : Result Bytes Outcome) : Type 0 where
  pub reported : IsReported (IsInHands (hands_of r)) (step_in (room_of items) r) result
  pub planned : FormPlan (room_of items) r p result
  pub good : (h : Held) → read_items items ≡ Ok h → IsGoodPlan items h (room_of items) p
  pub stored : IsStored result p before after

-- what a stop leaves of these items while a plan is appended: them, or them with the plan's item
abbrev pub IsFormStop : List Bytes → Plan → List Bytes → Type 0
IsFormStop items p list = (list ≡ items) ⊎ (list ≡ items ++ plan_items p)

-- What became of a form for these items and this input. What a stop may leave since then is of a kind.
pub record IsForm (asked : Command) (items : List Bytes) (input : Bytes) (before after : KeeperView) (Adds : (List Bytes → Type 0) → Type 0) (result : Result Bytes Outcome) : Type 0 where
  pub plan : Plan
  pub made : IsFormMade (case asked (loaded items) input) items before after plan result
  pub stops : Adds (IsFormStop items plan)

-- What became of a form that gives a report.
pub record IsMade (asked : Command) (input input_now : SourceView) (store store_now : KeeperView) (Adds : (List Bytes → Type 0) → Type 0) (result : Result Bytes Outcome) : Type 0 where
  pub read : Counts input.faults input_now.faults (result ≡ Err ReadFault)
  pub keep : Counts store.faults store_now.faults (result ≡ Err StoreFault)
  pub early : result ≢ Err WriteFault
  pub judged : (e : Outcome) → result ≡ Err e → IsJudgedRightly asked e
  -- a form that doesn't read or load is at no fault of the input or the store
  pub unread : reads asked ≡ false → result ≢ Err ReadFault
  pub unloaded : loads asked ≡ false → result ≢ Err StoreFault
  -- a form that doesn't write leaves the items
  pub unwritten : writes asked ≡ false → KeepsItems store store_now
  -- it reads no further than it has to
  pub taken : (items : List Bytes) → (loads asked ≡ true → store.items ≡ Some items) → TakesUpTo (waited_by (case asked (loaded items))) input.left input_now.left
  -- where no case comes up, whatever is read, nothing is read
  pub caseless : (items : List Bytes) → (loads asked ≡ true → store.items ≡ Some items) → ((all : Bytes) → IsErr (case asked (loaded items) all)) → input_now ≡ input
  -- of the items that the store tells, and of any for a form that doesn't load them
  pub formed : (items : List Bytes) → (loads asked ≡ true → store.items ≡ Some items)
      → ForInput input.left (λ all. IsForm asked items all store store_now Adds result)

-- ---- reports that are written while they are made

-- nothing was written before a refusal, or what was written is of the step
abbrev pub IsFormFlowed : (Object → Type 0) → Result Made Outcome → SinkView → SinkView → Outcome → Type 0
IsFormFlowed hand r before after outcome = (IsRefusal hand outcome r × Keeps before.written after.written) ⊎ IsFlowed hand r before after outcome

-- the case of an export of what is loaded, with tags or without
abbrev pub exported_case : Bool → Result Held Outcome → Filter → Bytes → Result Case Outcome
exported_case tagged loading f refname = loading >>= λ h. export_case tagged h f refname

-- that of a user, whom the policy has to let see it
abbrev pub user_exported_case : Result Held Outcome → Bytes → Filter → Bytes → Result Case Outcome
user_exported_case loading user f refname = loading >>= λ h. granted h user See refname f >>= λ _. export_case false h f refname

-- What became of an export for these items. It is lawful where it is done.
pub record IsExport (r : Result Case Outcome) (items : List Bytes) (before after : SinkView) (outcome : Outcome) : Type 0 where
  pub flowed : IsFormFlowed (IsInHands (hands_of r)) (step_in (room_of items) r) before after outcome
  pub lawful : outcome ≡ Done → All (IsLawful items NoPlan) (option_to_list (result_ok r))
