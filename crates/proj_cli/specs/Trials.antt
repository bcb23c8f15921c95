-- The trial: an import and three pushes, one after another on items of their own, and the lengths of three histories behind them.
use Rattle.std.specs.Prelude.{◌≡◌, ◌≢◌, ◌⊎◌, false, ℕ, ◌+◌, List, [], ◌∷◌, ◌++◌, length, codes, decimal, Result, Ok, Err}
use Rattle.std.specs.Option.{option_map}
use Rattle.git_objects.specs.Paths.{Bytes}
use Rattle.git_objects.specs.Results.{◌>>=◌}
use Rattle.filter_text.specs.Printing.{printed}
use Rattle.state_items.specs.Changes.{NoPlan, plan_items}
use Rattle.state_items.specs.Hands.{IsTwice}
use Rattle.state_items.specs.Items.{Held, nothing}
use Rattle.state_items.specs.Repos.{repo}
use Rattle.proj_words.specs.TrialTexts.{TrialPush, first_push, main, push_stream, second_push, third_push, trial_stream}
use Rattle.proj_words.specs.Words.{Command, Export, Import, Push, Trial}
use Rattle.proj_words.specs.declared.outcome.Outcome.{Outcome}
use Rattle.proj_words.specs.declared.outcome.Outcome.TheVariants.{Collision, OutOfMemory, ReadFault, StoreFault}
use Rattle.proj_cli.specs.Answers.{Devices, GotNothing, IsCaused, IsOutcome, IsStepDelivered, NoneFailed, outcome_of}
use Rattle.proj_commands.specs.Cases.{Made, head_of, loaded, unchanged}
use Rattle.proj_commands.specs.Steps.{case, step}
use Rattle.proj_commands.specs.Filters.{history, projected, sound}
use Rattle.proj_commands.specs.Hands.{Hand, IsInHands}
use Rattle.proj_commands.specs.Makes.{hands_of}

-- ---- its commands

-- the items behind a command that is done, or its refusal
abbrev pub left_by : Command → List Bytes → Bytes → Result (List Bytes) Outcome
left_by asked items input = step asked items input >>= λ m. Ok (items ++ plan_items m.plan)

-- the stream of a push, upon what the ref's commit is projected to then
abbrev pub push_input : TrialPush → ℕ → List Bytes → Result Bytes Outcome
push_input p seconds items = do
  f ← sound p.filter
  h ← loaded items
  n ← head_of main h.refs
  Ok (push_stream seconds p (option_map (λ s. s.commit) (projected h f n)))

abbrev pub push_left : TrialPush → ℕ → List Bytes → Result (List Bytes) Outcome
push_left p seconds items = push_input p seconds items >>= λ input. left_by (Push main p.filter) items input

abbrev pub import_left : ℕ → Result (List Bytes) Outcome
import_left n = left_by (Import false) [] (trial_stream n)

abbrev pub first_left : ℕ → Result (List Bytes) Outcome
first_left n = import_left n >>= push_left first_push (1700000000 + n)

abbrev pub second_left : ℕ → Result (List Bytes) Outcome
second_left n = first_left n >>= push_left second_push (1700000001 + n)

-- the items behind the import and the pushes
abbrev pub third_left : ℕ → Result (List Bytes) Outcome
third_left n = second_left n >>= push_left third_push (1700000002 + n)

-- ---- its report

-- a filter's canonical text, and how many commits its history has
abbrev pub history_line : Held → Bytes → Bytes → Result Bytes Outcome
history_line h n text = sound text >>= λ f. Ok (printed f ++ 32 ∷ (decimal (length (history h.rule f (repo h).commits n)) ++ 10 ∷ []))

abbrev pub report_of : List Bytes → Result Bytes Outcome
report_of items = do
  h ← loaded items
  n ← head_of main h.refs
  first ← history_line h n first_push.filter
  second ← history_line h n second_push.filter
  third ← history_line h n third_push.filter
  Ok (codes "commits " ++ decimal (length (repo h).commits) ++ 10 ∷ (first ++ second ++ third))

-- what a trial of so many commits writes, or the first refusal of its commands
abbrev pub trial_made : ℕ → Result Made Outcome
trial_made n = third_left n >>= report_of >>= λ report. Ok (unchanged nothing report)

-- ---- its objects in hand

abbrev pub hands_on : {A : Type 0} → Result A Outcome → (A → List Hand) → List Hand
hands_on (Ok x) next = next x
hands_on (Err e) next = []

abbrev pub push_hands : TrialPush → ℕ → List Bytes → List Hand
push_hands p seconds items = hands_on (push_input p seconds items) (λ input. hands_of (case (Push main p.filter) (loaded items) input))

-- of the three histories
abbrev pub report_hands : List Bytes → List Hand
report_hands items =
    hands_of (case (Export main first_push.filter) (loaded items) [])
    ++ hands_of (case (Export main second_push.filter) (loaded items) [])
    ++ hands_of (case (Export main third_push.filter) (loaded items) [])

-- of each command, and of those before it
abbrev pub import_hands : ℕ → List Hand
import_hands n = hands_of (case (Import false) (loaded []) (trial_stream n))

abbrev pub first_hands : ℕ → List Hand
first_hands n = import_hands n ++ hands_on (import_left n) (push_hands first_push (1700000000 + n))

abbrev pub second_hands : ℕ → List Hand
second_hands n = first_hands n ++ hands_on (first_left n) (push_hands second_push (1700000001 + n))

abbrev pub third_hands : ℕ → List Hand
third_hands n = second_hands n ++ hands_on (second_left n) (push_hands third_push (1700000002 + n))

abbrev pub trial_hands : ℕ → List Hand
trial_hands n = third_hands n ++ hands_on (third_left n) report_hands

-- ---- its answer

-- What `run` says of the outcome of a trial: the report is written, or the first refusal answered. Input and store aren't looked at.
pub record IsTrialAnswer (n : ℕ) (before after : Devices) (outcome : Outcome) : Type 0 where
  pub cause : IsCaused before after outcome
  pub unread : outcome ≢ ReadFault
  pub unloaded : outcome ≢ StoreFault
  pub unwritten : GotNothing before after
  pub allowed : IsOutcome (IsInHands (trial_hands n)) outcome (trial_made n)
  pub delivered : IsStepDelivered (Trial n) (trial_made n) NoPlan before after outcome

-- two objects in hand have this name
abbrev pub IsTrialCollision : ℕ → Outcome → Type 0
IsTrialCollision n (Collision m) = IsTwice (IsInHands (trial_hands n)) m.0
IsTrialCollision n outcome = ⊥

-- Where no device failed, the outcome is that of the trial, or there was no memory, or two objects in hand have one name.
abbrev pub IsTrialComplete : ℕ → Devices → Devices → Outcome → Type 0
IsTrialComplete n before after outcome =
    NoneFailed before after → (outcome ≡ OutOfMemory) ⊎ (outcome ≡ outcome_of (trial_made n)) ⊎ IsTrialCollision n outcome
