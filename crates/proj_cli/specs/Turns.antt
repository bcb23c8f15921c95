-- The turns of a batch: its entries, answered one after another, each on the items that those before it left.
use Rattle.std.specs.Prelude.{◌≡◌, ◌≢◌, ◌⊎◌, ⊤, false, List, [], ◌∷◌, ◌++◌, map, reverse, All, Result, Ok, Err, IsOk}
use Rattle.git_objects.specs.Paths.{Bytes}
use Rattle.git_objects.specs.Results.{◌>>=◌}
use Rattle.object_store.specs.Objects.{Object}
use Rattle.state_items.specs.Changes.{Plan, held_after, plan_items, NoPlan, room_of}
use Rattle.state_items.specs.Hands.{IsTwice}
use Rattle.state_items.specs.Items.{Held, read_items}
use Rattle.proj_words.specs.Entries.{Entry, entries, reply_text}
use Rattle.proj_words.specs.Words.{Command, line_command, writes}
use Rattle.proj_words.specs.declared.outcome.Outcome.{Outcome}
use Rattle.proj_words.specs.declared.outcome.Outcome.TheVariants.{Done, OutOfMemory, Collision, ReadFault, WriteFault, StoreFault}
use Rattle.proj_cli.specs.Answers.{IsLonger}
use Rattle.proj_commands.specs.Cases.{Case, Made, loaded}
use Rattle.proj_commands.specs.Steps.{case, IsLawful, IsPlanOf, cases, step}
use Rattle.proj_commands.specs.Hands.{Hand, IsInHands}
use Rattle.proj_commands.specs.Makes.{hands_of, OfProject, recalled_line, IsKeepPlanOf}
use Rattle.proj_commands.specs.Plans.{AreKept, HoldWhatTheyShould}
use Rattle.filter_text.specs.Filters.{Filter}

-- An entry that was begun: how it ended, what it gave, and the items that it appended, none or one.
pub record Turn : Type 0 where
  pub entry : Entry
  pub outcome : Outcome
  pub output : Bytes
  pub appended : List Bytes

-- ---- turns, from the newest to the oldest

abbrev pub turn_text : Turn → Bytes
turn_text t = reply_text t.outcome t.output

-- their replies, in the order in which they are written
abbrev pub turn_texts : List Turn → Bytes
turn_texts [] = []
turn_texts (t ∷ ts) = turn_texts ts ++ turn_text t

-- all that they appended
abbrev pub appended : List Turn → List Bytes
appended [] = []
appended (t ∷ ts) = appended ts ++ t.appended

-- the items behind them
abbrev pub items_after : List Bytes → List Turn → List Bytes
items_after items [] = items
items_after items (t ∷ ts) = items_after items ts ++ t.appended

-- their entries, in order
abbrev pub entries_of : List Turn → List Entry
entries_of ts = reverse (map (λ t. t.entry) ts)

-- what an entry asks for
abbrev pub asked_by : Entry → Command
asked_by e = line_command e.words

-- its case on the items that stand when it begins
abbrev pub turn_case : List Bytes → Entry → Result Case Outcome
turn_case items e = case (asked_by e) (loaded items) e.input

abbrev pub turn_step : List Bytes → Entry → Result Made Outcome
turn_step items e = step (asked_by e) items e.input

abbrev pub turn_cases : List Bytes → Entry → List Case
turn_cases items e = cases (asked_by e) items e.input

-- what they bring together
abbrev pub turn_hands : List Bytes → List Turn → List Hand
turn_hands items [] = []
turn_hands items (t ∷ ts) = turn_hands items ts ++ hands_of (turn_case (items_after items ts) t.entry)

-- of each turn, with all turns before it, something is said
abbrev pub AreTurns : (List Turn → Turn → Type 0) → List Turn → Type 0
AreTurns Says [] = ⊤
AreTurns Says (t ∷ ts) = AreTurns Says ts × Says ts t

-- ---- an entry that is answered

-- The step is done, and its command may have appended this.
pub record IsTurnMade (items : List Bytes) (e : Entry) (m : Made) (more : List Bytes) : Type 0 where
  pub done : turn_step items e ≡ Ok m
  pub plan : Plan
  pub planned : All (λ c. IsPlanOf items c m plan) (turn_cases items e)
  pub item : more ≡ plan_items plan
  pub lawful : All (IsLawful items plan) (turn_cases items e)
  pub kept : (h : Held) → AreKept items h → AreKept (items ++ more) (held_after h plan)

-- The step's outcome, or two objects of one name that this entry and those before it brought together. No device is at fault, and there
-- is memory: where there is none the batch ends.
abbrev pub IsTurnOutcome : (Object → Type 0) → Outcome → Result Made Outcome → Type 0
IsTurnOutcome hand Done r = IsOk r
IsTurnOutcome hand OutOfMemory r = ⊥
IsTurnOutcome hand ReadFault r = ⊥
IsTurnOutcome hand WriteFault r = ⊥
IsTurnOutcome hand StoreFault r = ⊥
IsTurnOutcome hand (Collision n) r = (r ≡ Err (Collision n)) ⊎ IsTwice hand n.0
IsTurnOutcome hand outcome r = r ≡ Err outcome

-- The outcome is the step's whatever is kept; what is kept decides what a projection gives.
pub record IsTurn (items : List Bytes) (ts : List Turn) (t : Turn) : Type 0 where
  pub allowed : IsTurnOutcome (IsInHands (turn_hands items (t ∷ ts))) t.outcome (turn_step (items_after items ts) t.entry)
  pub made : t.outcome ≡ Done → HoldWhatTheyShould (asked_by t.entry) (items_after items ts)
      → (m : Made) × IsTurnMade (items_after items ts) t.entry m t.appended × (t.output ≡ m.output)

-- what the step appends, which is done
pub record IsTurnStored (items : List Bytes) (t : Turn) : Type 0 where
  pub allowed : IsOk (turn_step items t.entry)
  pub made : HoldWhatTheyShould (asked_by t.entry) items → (m : Made) × IsTurnMade items t.entry m t.appended

-- The store failed: nothing was given; and nothing was appended, or what the step appends.
pub record IsBrokenTurn (items : List Bytes) (t : Turn) : Type 0 where
  pub outcome : t.outcome ≡ StoreFault
  pub output : t.output ≡ []
  pub appended : (t.appended ≡ []) ⊎ IsTurnStored items t

-- the last of them may be one in which the store failed
abbrev pub IsLastTurn : List Bytes → List Turn → Turn → Type 0
IsLastTurn items ts t = IsTurn items ts t ⊎ IsBrokenTurn (items_after items ts) t

-- Of a projection, whatever is kept, true or not: what it appended is nothing, or what may be kept then; and its output is the line that what
-- is kept leads to.
pub record IsRecalledTurn (items : List Bytes) (t : Turn) (h : Held) (f : Filter) (n : Bytes) : Type 0 where
  pub plan : Plan
  pub planned : (plan ≡ NoPlan) ⊎ IsKeepPlanOf h f n (room_of items) plan
  pub item : t.appended ≡ plan_items plan
  pub done : t.outcome ≡ Done → IsKeepPlanOf h f n (room_of items) plan × (t.output ≡ recalled_line h f n)

-- Whatever is kept in items that spell a state: a refused entry gives and appends nothing, nor does one append whose form doesn't write;
-- the items spell a state behind it, the same where the form doesn't change it; and those that hold what they should still do.
pub record IsSafeTurn (items : List Bytes) (ts : List Turn) (t : Turn) : Type 0 where
  pub silent : t.outcome ≢ Done → t.output ≡ []
  pub idle : t.outcome ≢ Done → t.outcome ≢ StoreFault → t.appended ≡ []
  pub unwritten : writes (asked_by t.entry) ≡ false → t.appended ≡ []
  pub held : Held
  pub spelled : read_items (items_after items ts) ≡ Ok held
  pub longer : IsLonger (asked_by t.entry) (items_after items ts) t.appended held (items_after items (t ∷ ts))
  pub kept : (h : Held) → AreKept (items_after items ts) h → (g : Held) × AreKept (items_after items (t ∷ ts)) g
  -- a projection takes what is kept for projections, true or not
  pub recalled : OfProject (turn_case (items_after items ts) t.entry) (IsRecalledTurn (items_after items ts) t)

-- ---- how a batch begins

-- these entries, or the refusal of loading
abbrev pub loading : List Bytes → List Entry → Result (List Entry) Outcome
loading items es = loaded items >>= λ _. Ok es

-- The entries of the input, or the first refusal before any of them is begun: of the input, and of loading.
abbrev pub begun : List Bytes → Bytes → Result (List Entry) Outcome
begun items input = do
  es ← entries input
  loading items es
