-- What is made of a case upon a state, before anything is written to the output.
use Rattle.std.specs.Prelude.{◌≡◌, ◌⊎◌, ⊤, ◌+◌, ◌*◌, ◌^◌, ◌<◌, ◌≤◌, true, false, List, [], ◌++◌, length, map, reverse, All, Contains, None, Result, Ok, Err, ℕ, take}
use Rattle.std.specs.List.{list_any}
use Rattle.std.specs.Option.{option_to_list}
use Rattle.std.specs.Result.{result_ok}
use Rattle.std.specs.Io.KnownBytes.{Appends, Keeps}
use Rattle.git_objects.specs.Paths.{Bytes}
use Rattle.git_objects.specs.Results.{◌>>=◌}
use Rattle.git_objects.specs.Snapshots.{snapshot_name}
use Rattle.object_store.specs.Growth.{IsGrownBy}
use Rattle.object_store.specs.Objects.{Object}
use Rattle.filter_text.specs.Filters.{Filter}
use Rattle.filter_text.specs.Printing.{printed}
use Rattle.commit_map.specs.Shown.{Entries}
use Rattle.projection_ground.specs.Grounds.{IsGround}
use Rattle.proj_io.specs.Views.{SinkView, KeeperView}
use Rattle.state_items.specs.Appending.{IsAddition}
use Rattle.state_items.specs.Hands.{IsTwice}
use Rattle.state_items.specs.Items.{Held, is_canonical, is_of}
use Rattle.state_items.specs.Repos.{repo}
use Rattle.state_items.specs.Changes.{KeepPlan, NoPlan, Plan, Room, passed, plan_items, held_after, room_of}
use Rattle.repo_ground.specs.Changes.{GetsItems, KeepsItems, IsStopOf}
use Rattle.repo_ground.specs.Contents.{Contents, IsCurrent, Spells, room_in}
use Rattle.proj_words.specs.declared.outcome.Outcome.{Outcome}
use Rattle.proj_words.specs.declared.outcome.Outcome.TheVariants.{Done, OutOfMemory, Collision, ReadFault, WriteFault, StoreFault}
use Rattle.proj_words.specs.Words.{Command, loads}
use Rattle.proj_commands.specs.Cases.{Case, ExportCase, ProjectCase, PushCase, QueryCase, VerifyCase, Made, unchanged}
use Rattle.proj_commands.specs.Steps.{made, hand, IsLawful, case}
use Rattle.proj_commands.specs.Project.{in_order_of}
use Rattle.proj_commands.specs.Lines.{name_line}
use Rattle.proj_commands.specs.Filters.{entries_of, recalled}
use Rattle.proj_commands.specs.Hands.{Hand, IsInHands}
use Rattle.proj_commands.specs.Export.{IsExportOf}
use Rattle.proj_commands.specs.Push.{IsPushed}
use Rattle.proj_commands.specs.Queries.{IsLawfulSight}
use Rattle.proj_commands.specs.Verify.{IsVerified}
use Rattle.proj_commands.specs.Plans.{AreKept}

-- ---- states

-- The items spell what is held, and the state has it.
pub record IsStateOf (items : List Bytes) (h : Held) (s : Contents) : Type 0 where
  pub current : IsCurrent items h s
  pub spells : Spells h s
  pub ground : IsGround s.basis

abbrev pub IsState : Contents → Type 0
IsState s = (items : List Bytes) × (h : Held) × IsStateOf items h s

-- ---- steps

-- The line of a projection: that of the recursion in which the entries of its filter and of the state's rule are taken for projections,
-- true or not.
abbrev pub recalled_line : Held → Filter → Bytes → Bytes
recalled_line h f n = name_line (recalled (entries_of h f) h.rule f (repo h).commits n)

-- what is said of a projection's case
abbrev pub OfProject : Result Case Outcome → (Held → Filter → Bytes → Type 0) → Type 0
OfProject (Ok (ProjectCase h f n)) Says = Says h f n
OfProject other Says = ⊤

-- What comes of a case, with what is kept taken for projections.
abbrev pub recalled_made : Room → Case → Result Made Outcome
recalled_made room (ProjectCase h f n) = Ok (unchanged h (recalled_line h f n))
recalled_made room other = made room other

-- of a case that comes up, or its refusal
abbrev pub step_in : Room → Result Case Outcome → Result Made Outcome
step_in room r = r >>= recalled_made room

-- what is in hand there
abbrev pub hands_of : Result Case Outcome → List Hand
hands_of r = map hand (option_to_list (result_ok r))

-- it is in a store, or in hand
abbrev pub IsAtHand : List Object → Result Case Outcome → Object → Type 0
IsAtHand S r o = Contains S o ⊎ IsInHands (hands_of r) o

-- ---- reports

-- neither the input nor the store has failed
abbrev pub NoFault : Outcome → Type 0
NoFault ReadFault = ⊥
NoFault StoreFault = ⊥
NoFault e = ⊤

-- why there is no report, by a step: its refusal; or want of memory, a fault of the input or of the store, or two objects at hand of one
-- name
abbrev pub IsRefusal : (Object → Type 0) → Outcome → Result Made Outcome → Type 0
IsRefusal at_hand Done r = ⊥
IsRefusal at_hand WriteFault r = ⊥
IsRefusal at_hand OutOfMemory r = ⊤
IsRefusal at_hand ReadFault r = ⊤
IsRefusal at_hand StoreFault r = ⊤
IsRefusal at_hand (Collision n) r = (r ≡ Err (Collision n)) ⊎ IsTwice at_hand n.0
IsRefusal at_hand outcome r = r ≡ Err outcome

-- a step's report, or why there is none
abbrev pub IsReported : (Object → Type 0) → Result Made Outcome → Result Bytes Outcome → Type 0
IsReported at_hand (Ok m) (Ok report) = m.output ≡ report
IsReported at_hand (Err e) (Ok report) = ⊥
IsReported at_hand r (Err e) = IsRefusal at_hand e r

-- ---- plans

-- Projections that are added for a filter under the state's rule, with what is kept taken for projections: of commits in their order,
-- none of them kept already; and no limit is passed.
pub record IsKeepOf (h : Held) (f : Filter) (room : Room) (es : Entries) : Type 0 where
  pub canonical : is_canonical (printed f) ≡ true
  pub some : (es ≡ []) → ⊥
  pub order : in_order_of (map (λ e. e.0) es) (map snapshot_name (reverse (repo h).commits)) ≡ true
  pub fresh : list_any (λ e. list_any (is_of (printed f) h.rule e.0) h.kept) es ≡ false
  pub values : All (λ e. e.1 ≡ recalled (entries_of h f) h.rule f (repo h).commits e.0) es
  pub within : passed h room (KeepPlan h.rule (printed f) es) ≡ None
  pub addition : IsAddition h (KeepPlan h.rule (printed f) es)

-- The commit's projection is held then, where the filter's text is canonical and there is room for an entry of each commit.
abbrev pub HoldsEntry : Held → Filter → Bytes → Room → Plan → Type 0
HoldsEntry h f n room p =
    is_canonical (printed f) ≡ true → room.number < 2 ^ 20 → room.size + 61 * length (repo h).commits + 8192 ≤ 2 ^ 31
    → list_any (is_of (printed f) h.rule n) (held_after h p).kept ≡ true

-- Nothing, or projections that are kept; and then that of this commit is held.
pub record IsKeepPlanOf (h : Held) (f : Filter) (n : Bytes) (room : Room) (p : Plan) : Type 0 where
  pub plan : (p ≡ NoPlan) ⊎ ((es : Entries) × (p ≡ KeepPlan h.rule (printed f) es) × IsKeepOf h f room es)
  pub holds : HoldsEntry h f n room p

-- what a case appends: its step's plan, but for projections that are kept; and the law of its command
abbrev pub IsPlanIn : Room → Case → Made → Plan → Type 0
IsPlanIn room (ProjectCase h f n) m p = IsKeepPlanOf h f n room p
IsPlanIn room (ExportCase tagged h f refname n) m p = (p ≡ m.plan) × IsExportOf tagged h f refname n
IsPlanIn room (QueryCase h x) m p = (p ≡ m.plan) × IsLawfulSight h x
IsPlanIn room (VerifyCase f n q text) m p = (p ≡ m.plan) × IsVerified f n q text
IsPlanIn room (PushCase k w h f refname n x) m p = (p ≡ m.plan) × IsPushed k h (held_after h p) f refname n x
IsPlanIn room other m p = p ≡ m.plan

-- A plan comes of the case that came up.
pub record IsPlanned (room : Room) (r : Result Case Outcome) (p : Plan) : Type 0 where
  pub case : Case
  pub came_up : r ≡ Ok case
  pub step : Made
  pub done : recalled_made room case ≡ Ok step
  pub planned : IsPlanIn room case step p

-- Items with the plan's item behind them spell what is held after it, and hold what they should where they did.
pub record IsGoodPlan (items : List Bytes) (h : Held) (room : Room) (p : Plan) : Type 0 where
  pub within : passed h room p ≡ None
  pub addition : IsAddition h p
  pub kept : AreKept items h → AreKept (items ++ plan_items p) (held_after h p)

-- where there is a report, or the store failed, the plan comes of the case; else nothing is planned
abbrev pub PlansFor : Room → Result Case Outcome → Plan → Result Bytes Outcome → Type 0
PlansFor room r p (Ok report) = IsPlanned room r p
PlansFor room r p (Err StoreFault) = IsPlanned room r p
PlansFor room r p (Err e) = p ≡ NoPlan

-- where there is a report the store has the plan's item, and after its own fault it may have it or not
abbrev pub IsStored : Result Bytes Outcome → Plan → KeeperView → KeeperView → Type 0
IsStored (Ok report) p before after = GetsItems (plan_items p) before after
IsStored (Err StoreFault) p before after = KeepsItems before after ⊎ GetsItems (plan_items p) before after
IsStored (Err e) p before after = KeepsItems before after

-- With a report the state has the plan, and after a refusal all is as before. After want of memory or a fault of the store it is of no
-- more use.
abbrev pub IsStateAfter : List Bytes → Held → Contents → Plan → Result Bytes Outcome → Type 0
IsStateAfter items h s p (Ok report) = IsStateOf (items ++ plan_items p) (held_after h p) s
IsStateAfter items h s p (Err StoreFault) = ⊤
IsStateAfter items h s p (Err OutOfMemory) = ⊤
IsStateAfter items h s p (Err e) = IsStateOf items h s

-- What became of a case upon a state, or of its refusal: its report, and its plan, which is appended.
pub record IsMadeOf (r : Result Case Outcome) (items : List Bytes) (h : Held) (s s' : Contents) (before after : KeeperView) (p : Plan) (result : Result Bytes Outcome) : Type 0 where
  pub reported : IsReported (IsAtHand s.basis.store r) (step_in (room_in s) r) result
  pub planned : PlansFor (room_in s) r p result
  pub good : IsGoodPlan items h (room_in s) p
  pub stored : IsStored result p before after
  pub state : IsStateAfter items h s' p result
  pub grown : IsGrownBy (IsInHands (hands_of r)) s.basis.store s'.basis.store

-- ---- commands

-- What a command made of a state: of its case, or of the refusal before one. What a stop may leave since then is of a kind. A form that
-- doesn't load has no object of the state in hand.
pub record IsCommandMade (asked : Command) (input : Bytes) (items : List Bytes) (h : Held) (s s' : Contents) (before after : KeeperView) (Adds : (List Bytes → Type 0) → Type 0) (result : Result Bytes Outcome) : Type 0 where
  pub plan : Plan
  pub made : IsMadeOf (case asked (Ok h) input) items h s s' before after plan result
  pub stops : Adds (IsStopOf h s plan before.items)
  pub unloaded : loads asked ≡ false → IsReported (IsInHands (hands_of (case asked (Ok h) input))) (step_in (room_of items) (case asked (Ok h) input)) result

-- ---- reports that are written while they are made

-- a front of the report was written
abbrev pub Fronts : Bytes → SinkView → SinkView → Type 0
Fronts report before after = (n : ℕ) × Appends before.written after.written (take n report)

-- what was written of a step's report by each outcome; of a refusal nothing
abbrev pub IsFlowed : (Object → Type 0) → Result Made Outcome → SinkView → SinkView → Outcome → Type 0
IsFlowed at_hand (Ok m) before after Done = Appends before.written after.written m.output
IsFlowed at_hand (Ok m) before after WriteFault = Fronts m.output before after
IsFlowed at_hand (Ok m) before after OutOfMemory = Fronts m.output before after
IsFlowed at_hand (Err e) before after OutOfMemory = Keeps before.written after.written
IsFlowed at_hand r before after e = IsRefusal at_hand e r × NoFault e × Keeps before.written after.written

-- What became of an export: exactly its step's report is written, and it is lawful where it is done.
pub record IsExported (r : Result Case Outcome) (items : List Bytes) (h : Held) (s s' : Contents) (before after : SinkView) (outcome : Outcome) : Type 0 where
  pub flowed : IsFlowed (IsAtHand s.basis.store r) (step_in (room_in s) r) before after outcome
  pub lawful : outcome ≡ Done → All (IsLawful items NoPlan) (option_to_list (result_ok r))
  pub state : IsStateOf items h s'
  pub grown : IsGrownBy (IsInHands (hands_of r)) s.basis.store s'.basis.store

-- ---- without a state

-- how many items there are, and their bytes, where none are
abbrev pub no_room : Room
no_room = record { number = 0; size = 0 }

-- What became of a case that has no state: its report, or why there is none.
abbrev pub IsReportOf : Result Case Outcome → Result Bytes Outcome → Type 0
IsReportOf r result = IsReported (IsInHands (hands_of r)) (step_in no_room r) result
