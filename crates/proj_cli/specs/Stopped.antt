-- What a stop during a command may leave of the items.
use Rattle.std.specs.Prelude.{◌≡◌, ◌≢◌, ◌⊎◌, [], ◌++◌, List, Ok, IsOk, Some, Option}
use Rattle.git_objects.specs.Paths.{Bytes}
use Rattle.state_items.specs.Items.{Held, read_items}
use Rattle.state_items.specs.Changes.{Plan, held_after, plan_items, room_of}
use Rattle.proj_words.specs.Words.{Command}
use Rattle.proj_cli.specs.Answers.{IsLonger}
use Rattle.proj_commands.specs.Cases.{Made, loaded}
use Rattle.proj_commands.specs.Plans.{AreKept, HoldWhatTheyShould}
use Rattle.proj_commands.specs.Steps.{cases, step, ArePlanned, case}
use Rattle.proj_commands.specs.Makes.{IsKeepPlanOf, OfProject}

-- The list is the items with a plan's item behind them. Where the items spell a state, so does the list. The step is done, and the plan is
-- one of its case, where the items hold what they should or the form takes nothing that is kept for a projection. Where they hold what they
-- should, so does the list.
pub record IsLengthened (asked : Command) (items : List Bytes) (input : Bytes) (list : List Bytes) : Type 0 where
  pub plan : Plan
  pub says : plan_items plan ≢ []
  pub behind : list ≡ items ++ plan_items plan
  pub spelled : (h : Held) → read_items items ≡ Ok h → IsLonger asked items (plan_items plan) h list
  pub allowed : IsOk (step asked items input)
  pub done : HoldWhatTheyShould asked items → (m : Made) × (step asked items input ≡ Ok m) × ArePlanned items (cases asked items input) (Ok m) plan
  pub kept : (h : Held) → AreKept items h → AreKept list (held_after h plan)
  -- of a projection it is what may be kept, whatever is kept already, true or not
  pub recalled : OfProject (case asked (loaded items) input) (λ h f n. IsKeepPlanOf h f n (room_of items) plan)

-- a stop leaves the items as they are, or with the command's item behind them, whole
abbrev pub CommandLeaves : Command → List Bytes → Bytes → List Bytes → Type 0
CommandLeaves asked items input list = (list ≡ items) ⊎ IsLengthened asked items input list

-- ---- beside what is there then

-- a list is a front of another
abbrev pub IsFront : List Bytes → List Bytes → Type 0
IsFront front all = (more : List Bytes) × (all ≡ front ++ more)

-- it has a list in front, and is a front of another
abbrev pub IsBetween : List Bytes → List Bytes → List Bytes → Type 0
IsBetween items all list = IsFront items list × IsFront list all

-- These items are there still, with others behind them or none; and a stop since then has left, or may leave, only what is between the two.
pub record OnlyGrows (items : List Bytes) (now : Option (List Bytes)) (Adds : (List Bytes → Type 0) → Type 0) : Type 0 where
  pub all : List Bytes
  pub told : now ≡ Some all
  pub behind : IsFront items all
  pub stops : Adds (IsBetween items all)
