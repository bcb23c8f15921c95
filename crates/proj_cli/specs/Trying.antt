-- What becomes of a trial, from one of its commands to the next.
use Rattle.std.specs.Prelude.{◌≡◌, ◌⊎◌, ◌++◌, ⊤, List, Contains, Option, Result, Ok, Err}
use Rattle.std.specs.Option.{option_map}
use Rattle.git_objects.specs.Parts.{name_bytes}
use Rattle.git_objects.specs.Paths.{Bytes}
use Rattle.git_objects.specs.Results.{◌>>=◌}
use Rattle.git_objects.specs.declared.name.Name.{Name}
use Rattle.object_store.specs.Objects.{Object}
use Rattle.filter_text.specs.Filters.{Filter}
use Rattle.state_items.specs.Hands.{IsTwice}
use Rattle.state_items.specs.Items.{Held}
use Rattle.repo_ground.specs.Contents.{Contents}
use Rattle.proj_words.specs.declared.outcome.Outcome.{Outcome}
use Rattle.proj_words.specs.declared.outcome.Outcome.TheVariants.{Done, OutOfMemory, Collision, ReadFault, WriteFault, StoreFault}
use Rattle.proj_commands.specs.Cases.{head_of}
use Rattle.proj_commands.specs.Filters.{projected}
use Rattle.proj_commands.specs.Hands.{Hand, IsInHands}
use Rattle.proj_commands.specs.Makes.{IsStateOf}
use Rattle.proj_cli.specs.Trials.{history_line}

-- ---- the state between two commands

-- It has what the items spell, and in its store is nothing but what the trial brought together.
pub record IsTried (items : List Bytes) (h : Held) (hands : List Hand) (s : Contents) : Type 0 where
  pub state : IsStateOf items h s
  pub brought : (o : Object) → Contains s.basis.store o → IsInHands hands o

abbrev pub IsTriedState : Contents → Type 0
IsTriedState s = (items : List Bytes) × (h : Held) × (hands : List Hand) × IsTried items h hands s

-- ---- how a part of it ends

-- Why it gives nothing, by what it should give: the refusal of that, want of memory, or two objects in hand of one name. No device is
-- at fault.
abbrev pub IsEnded : {A : Type 0} → List Hand → Result A Outcome → Outcome → Type 0
IsEnded hands r Done = ⊥
IsEnded hands r WriteFault = ⊥
IsEnded hands r ReadFault = ⊥
IsEnded hands r StoreFault = ⊥
IsEnded hands r OutOfMemory = ⊤
IsEnded hands r (Collision n) = (r ≡ Err (Collision n)) ⊎ IsTwice (IsInHands hands) n.0
IsEnded hands r outcome = r ≡ Err outcome

-- the state has the items that should be there
abbrev pub IsLeft : List Hand → Result (List Bytes) Outcome → Contents → Result (Unit {0}) Outcome → Type 0
IsLeft hands left s (Ok _) = (items : List Bytes) × (h : Held) × (left ≡ Ok items) × IsTried items h hands s
IsLeft hands left s (Err e) = IsEnded hands left e

-- this text is what it should give
abbrev pub IsToldOf : List Hand → Result Bytes Outcome → Result Bytes Outcome → Type 0
IsToldOf hands r (Ok text) = r ≡ Ok text
IsToldOf hands r (Err e) = IsEnded hands r e

-- ---- projections of a ref's commit

abbrev pub from_of : Held → Filter → Bytes → Result (Option Bytes) Outcome
from_of h f refname = head_of refname h.refs >>= λ n. Ok (option_map (λ s. s.commit) (projected h f n))

-- this is the projection's name, if there is one, and the state has these items still
abbrev pub IsFrom : List Bytes → Held → List Hand → Result (Option Bytes) Outcome → Contents → Result (Option Name) Outcome → Type 0
IsFrom items h hands r s (Ok from) = (r ≡ Ok (option_map name_bytes from)) × IsTried items h hands s
IsFrom items h hands r s (Err e) = IsEnded hands r e

-- ---- lines

abbrev pub line_of : Held → Bytes → Bytes → Result Bytes Outcome
line_of h refname text = head_of refname h.refs >>= λ n. history_line h n text

-- the line is added, and the state has these items still
abbrev pub IsLine : List Bytes → Held → List Hand → Result Bytes Outcome → Bytes → Bytes → Contents → Result (Unit {0}) Outcome → Type 0
IsLine items h hands r before after s (Ok _) = (line : Bytes) × (r ≡ Ok line) × (after ≡ before ++ line) × IsTried items h hands s
IsLine items h hands r before after s (Err e) = IsEnded hands r e
