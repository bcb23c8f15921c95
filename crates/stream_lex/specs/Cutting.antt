-- Readers of an input that may go on: more of the input changes nothing that could be told before.
use Rattle.std.specs.Prelude.{◌≡◌, ◌+◌, ◌-◌, ◌≤◌, ℕ, Bool, true, false, Option, Some, None, Result, Ok, Err, ◌++◌, length, drop}
use Rattle.git_objects.specs.Paths.{Bytes}
use Rattle.git_objects.specs.Results.{◌>>=◌}
use Rattle.git_objects.specs.declared.limits.TheConstants.{STREAM_BYTES}
use Rattle.stream_lex.specs.declared.stop.Stop.{Stop}
use Rattle.stream_lex.specs.declared.stop.Wanted.{Wanted}
use Rattle.stream_lex.specs.declared.stop.Wanted.TheVariants as wants
use Rattle.stream_lex.specs.declared.stop.Stop.TheVariants.{More, Fault}
use Rattle.stream_lex.specs.Lines.{Input, Read, Lex, line_at, block_at}

abbrev pub grown : Bytes → Input → Input
grown more i = record { at = i.at; rest = i.rest ++ more }

-- A reader of an input: of whether all has come, and of what is left. E are the faults that it may tell.
abbrev pub Reader : Type 0 → Type 0 → Type 0
Reader E A = Bool → Input → Read E A

-- ---- readers one after another: what is met first is told first

infixl 10 ◌then◌
abbrev pub ◌then◌ : {E A B : Type 0} → Reader E A → (A → Reader E B) → Reader E B
(f then g) ended i = f ended i >>= λ x. g x.0 ended x.1

abbrev pub pure : {E A : Type 0} → A → Reader E A
pure x ended i = Ok (x, i)

abbrev pub refuse : {E A : Type 0} → E → Reader E A
refuse f ended i = Err (Fault f)

-- what was judged already
abbrev pub judged : {E A : Type 0} → Result A (Stop E) → Reader E A
judged r ended i = r >>= λ x. Ok (x, i)

-- ---- what more of the input changes

-- What was told before is told again, with more left.
abbrev pub Agrees : {E A : Type 0} → Bytes → Read E A → Read E A → Type 0
Agrees more (Ok x) later = later ≡ Ok (x.0, grown more x.1)
Agrees more (Err (More w)) later = Unit {0}
Agrees more (Err (Fault f)) later = later ≡ Err (Fault f)

abbrev pub Settles : {E A : Type 0} → Reader E A → Type 0
Settles f = (ended : Bool) (more : Bytes) (i : Input) → Agrees more (f false i) (f ended (grown more i))

-- j is i behind some of its bytes
pub record Advances (i j : Input) : Type 0 where
  pub by : ℕ
  pub at : j.at ≡ i.at + by
  pub rest : j.rest ≡ drop by i.rest
  pub within : by ≤ length i.rest

abbrev pub Steps : {E A : Type 0} → Input → Read E A → Type 0
Steps i (Ok x) = Advances i x.1
Steps i (Err e) = Unit {0}

-- a value or a fault
abbrev pub IsTold : {E A : Type 0} → Result A (Stop E) → Type 0
IsTold (Ok x) = Unit {0}
IsTold (Err (More w)) = ⊥
IsTold (Err (Fault f)) = Unit {0}

-- ---- what is waited for

abbrev pub place : Wanted → ℕ
place (wants.Line at) = at
place (wants.Block at n) = at

-- what is left from a place on
abbrev pub from_place : ℕ → Input → Input
from_place at i = record { at = at; rest = drop (at - i.at) i.rest }

-- the line or the block isn't there yet, and v is waited for
abbrev pub StillWants : Wanted → Input → Wanted → Type 0
StillWants (wants.Line at) i v = line_at false (from_place at i) ≡ Err (More v)
StillWants (wants.Block at n) i v = block_at n false (from_place at i) ≡ Err (More v)

abbrev pub more_of : {A : Type 0} → Lex A → Option Wanted
more_of (Ok x) = None
more_of (Err (More v)) = Some v
more_of (Err (Fault f)) = None

-- what is waited for now, none where the line or the block can be told
abbrev pub still_wanted : Wanted → Bool → Input → Option Wanted
still_wanted (wants.Line at) ended i = more_of (line_at ended (from_place at i))
still_wanted (wants.Block at n) ended i = more_of (block_at n ended (from_place at i))

-- w is waited for in i: as long as it isn't there, nothing can be told, however much has come; and what has come is within
-- the stream's limit.
pub record WaitsOn {E A : Type 0} (told : Bytes → Read E A) (i : Input) (w : Wanted) : Type 0 where
  pub from : i.at ≤ place w
  pub room : place w ≤ i.at + length i.rest
  pub few : i.at + length i.rest ≤ STREAM_BYTES
  pub still : (more : Bytes) (v : Wanted) → StillWants w (grown more i) v → told more ≡ Err (More v)

-- What was told stays told, what is left is what was there behind some bytes, of a whole input nothing is left open, and
-- where more must come it is known what is waited for.
pub record IsReader {E A : Type 0} (f : Reader E A) : Type 0 where
  pub settles : Settles f
  pub steps : (ended : Bool) (i : Input) → Steps i (f ended i)
  pub told : (i : Input) → IsTold (f true i)
  pub waits : (i : Input) (w : Wanted) → f false i ≡ Err (More w) → WaitsOn (λ more. f false (grown more i)) i w
