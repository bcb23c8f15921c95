-- The next command, behind lines that give none.
use Rattle.std.proofs.Common.{◌≡◌, ◌+◌, ◌<◌, ◌≤◌, ℕ, zero, suc, Bool, true, false, ◌++◌, length, Option, Some, None, Ok, Err, refl, sym, ap, subst, ◌∙◌, arith, length-append}
use Rattle.git_objects.specs.Paths.{Bytes}
use Rattle.stream_lex.specs.Lines.{Input}
use Rattle.stream_lex.specs.Cutting.{grown}
use Rattle.stream_lex.proofs.Combining.{stays}
use Rattle.stream_lex.specs.declared.stop.Wanted.{Wanted}
use Rattle.stream_lex.specs.declared.stop.Stop.TheVariants as stops
use Rattle.stream_reader.specs.declared.command.Placed.{Placed}
use Rattle.stream_reader.specs.declared.progress.Progress.{Progress}
use Rattle.stream_reader.specs.declared.progress.Event.{Event}
use Rattle.stream_reader.specs.declared.progress.Event.TheVariants.{Gives, Skips, Ends}
use Rattle.git_objects.specs.Results.{◌>>=◌}
use Rattle.stream_lex.specs.Cutting.{◌then◌}
use Rattle.stream_reader.specs.Reading.{Read, Reader}
use Rattle.stream_reader.specs.Commands.{Turn, Told, turn, by_event, turn_on, command_within, read_command}
use Rattle.stream_reader.specs.Verdicts.{size}
use Rattle.stream_lex.specs.Cutting.{Agrees, Settles, Advances, IsTold, Steps, WaitsOn, IsReader}
use Rattle.stream_lex.proofs.Combining.{bind_agrees, bind_steps, bind_waits, waits_later, waits_as}
use Rattle.stream_reader.proofs.Turning.{turn-reader}
use Rattle.stream_reader.proofs.Lowering.{Lowers, TurnLowers, turn_lowers}

-- ---- more changes nothing

event_agrees : (f g : Progress → Reader Told) (ended : Bool) (more : Bytes) → ((p : Progress) (i : Input) → Agrees more (f p false i) (g p ended (grown more i))) →
    (e : Event) (p : Progress) (i : Input) → Agrees more (by_event f e p false i) (by_event g e p ended (grown more i))
event_agrees f g ended more h (Gives c) p i = refl
event_agrees f g ended more h Skips p i = h p i
event_agrees f g ended more h Ends p i = refl

within_agrees : (n m : ℕ) → n ≤ m → (ended : Bool) (more : Bytes) (p : Progress) (i : Input) → Agrees more (command_within n p false i) (command_within m p ended (grown more i))
within_agrees zero m h ended more p i = tt
within_agrees (suc n) zero h ended more p i = absurd (omega arith)
within_agrees (suc n) (suc m) h ended more p i =
    bind_agrees more (turn p false i) (turn p ended (grown more i)) (λ x. turn_on (command_within n) x.0 false x.1) (λ x. turn_on (command_within m) x.0 ended x.1)
    ((turn-reader p).settles ended more i)
    (λ t j. event_agrees (command_within n) (command_within m) ended more (within_agrees n m (omega arith) ended more) t.event t.progress j)

-- ---- what is left is behind

event_steps : (f : Progress → Reader Told) (ended : Bool) → ((p : Progress) (i : Input) → Steps i (f p ended i)) → (e : Event) (p : Progress) (i : Input) → Steps i (by_event f e p ended i)
event_steps f ended h (Gives c) p i = stays i
event_steps f ended h Skips p i = h p i
event_steps f ended h Ends p i = stays i

within_steps : (n : ℕ) (ended : Bool) (p : Progress) (i : Input) → Steps i (command_within n p ended i)
within_steps zero ended p i = tt
within_steps (suc n) ended p i =
    bind_steps i (turn p ended i) (λ x. turn_on (command_within n) x.0 ended x.1) ((turn-reader p).steps ended i)
    (λ t j. event_steps (command_within n) ended (within_steps n ended) t.event t.progress j)

-- ---- of a whole stream nothing is left open

event_told : (f : Progress → Reader Told) (p : Progress) (i : Input) → ((q : Progress) (j : Input) → length j.rest < length i.rest → IsTold (f q true j)) →
    (e : Event) (q : Progress) (j : Input) → Lowers p i e q j → IsTold (by_event f e q true j)
event_told f p i h (Gives c) q j l = tt
event_told f p i h Skips q j l = h q j l.0
event_told f p i h Ends q j l = tt

turn_told : (f : Progress → Reader Told) (p : Progress) (i : Input) → ((q : Progress) (j : Input) → length j.rest < length i.rest → IsTold (f q true j)) →
    (r : Read Turn) → TurnLowers p i r → IsTold r → IsTold (r >>= λ x. turn_on f x.0 true x.1)
turn_told f p i h (Ok x) l t = event_told f p i h x.0.event x.0.progress x.1 l
turn_told f p i h (Err (stops.More w)) l t = t
turn_told f p i h (Err (stops.Fault e)) l t = tt

within_told : (n : ℕ) (p : Progress) (i : Input) → length i.rest < n → IsTold (command_within n p true i)
within_told zero p i h = absurd (omega arith)
within_told (suc n) p i h =
    turn_told (command_within n) p i (λ q j k. within_told n q j (omega arith)) (turn p true i) (turn_lowers p true i) ((turn-reader p).told i)

-- ---- enough lines are allowed for

event_same : (f g : Progress → Reader Told) (p : Progress) (i : Input) (ended : Bool) → ((q : Progress) (j : Input) → length j.rest < length i.rest → f q ended j ≡ g q ended j) →
    (e : Event) (q : Progress) (j : Input) → Lowers p i e q j → by_event f e q ended j ≡ by_event g e q ended j
event_same f g p i ended h (Gives c) q j l = refl
event_same f g p i ended h Skips q j l = h q j l.0
event_same f g p i ended h Ends q j l = refl

turn_same : (f g : Progress → Reader Told) (p : Progress) (i : Input) (ended : Bool) → ((q : Progress) (j : Input) → length j.rest < length i.rest → f q ended j ≡ g q ended j) →
    (r : Read Turn) → TurnLowers p i r → (r >>= λ x. turn_on f x.0 ended x.1) ≡ (r >>= λ x. turn_on g x.0 ended x.1)
turn_same f g p i ended h (Ok x) l = event_same f g p i ended h x.0.event x.0.progress x.1 l
turn_same f g p i ended h (Err e) l = refl

same_within : (n m : ℕ) (ended : Bool) (p : Progress) (i : Input) → length i.rest < n → length i.rest < m → command_within n p ended i ≡ command_within m p ended i
same_within zero m ended p i h g = absurd (omega arith)
same_within (suc n) zero ended p i h g = absurd (omega arith)
same_within (suc n) (suc m) ended p i h g =
    turn_same (command_within n) (command_within m) p i ended (λ q j k. same_within n m ended q j (omega arith) (omega arith)) (turn p ended i) (turn_lowers p ended i)

-- the next command is that of the next line or command, and behind a line that gives none the next one
pub command-is : (p : Progress) (ended : Bool) (i : Input) → read_command p ended i ≡ (turn p then turn_on read_command) ended i
unfolding read_command
command-is p ended i =
    ap (λ n. command_within n p ended i) (let k : length i.rest + 1 ≡ suc (length i.rest) = omega arith in k)
    ∙ turn_same (command_within (length i.rest)) (λ q e j. command_within (length j.rest + 1) q e j) p i ended
    (λ q j k. same_within (length i.rest) (length j.rest + 1) ended q j (omega arith) (omega arith)) (turn p ended i) (turn_lowers p ended i)

-- ---- what is waited for

event_waits : (p : Progress) (i : Input) (w : Wanted) → ((q : Progress) (j : Input) → length j.rest < length i.rest → read_command q false j ≡ Err (stops.More w) → WaitsOn (λ more. read_command q false (grown more j)) j w) →
    (e : Event) (q : Progress) (j : Input) → Lowers p i e q j → Advances i j → by_event read_command e q false j ≡ Err (stops.More w) → WaitsOn (λ more. by_event read_command e q false (grown more j)) i w
event_waits p i w next (Gives c) q j l s e = let no : ⊥ = cc in absurd no
event_waits p i w next Skips q j l s e = waits_later (λ more. read_command q false (grown more j)) i j w s (next q j l.0 e)
event_waits p i w next Ends q j l s e = let no : ⊥ = cc in absurd no

within_waits : (n : ℕ) (p : Progress) (i : Input) → length i.rest < n → (w : Wanted) → read_command p false i ≡ Err (stops.More w) → WaitsOn (λ more. read_command p false (grown more i)) i w
within_waits zero p i h w e = absurd (omega arith)
within_waits (suc n) p i h w e =
    waits_as (λ more. turn p false (grown more i) >>= λ x. turn_on read_command x.0 false x.1) (λ more. read_command p false (grown more i)) i w
    (λ more v a. command-is p false (grown more i) ∙ a)
    (bind_waits i w (turn p false i) (λ more. turn p false (grown more i)) (λ x. turn_on read_command x.0 false x.1) (λ more x. turn_on read_command x.0 false x.1)
    (λ more. (turn-reader p).settles false more i) ((turn-reader p).waits i)
    (λ t j q. event_waits p i w (λ r k l. within_waits n r k (omega (arith, h, l)) w) t.event t.progress j
    (subst (TurnLowers p i) q (turn_lowers p false i)) (subst (Steps i) q ((turn-reader p).steps false i)))
    (sym (command-is p false i) ∙ e))

command-waits : (p : Progress) (i : Input) (w : Wanted) → read_command p false i ≡ Err (stops.More w) → WaitsOn (λ more. read_command p false (grown more i)) i w
command-waits p i w e = within_waits (length i.rest + 1) p i (omega arith) w e

-- what the next command reads is a reader's
module _ (p : Progress) where
  settles : Settles (read_command p)
  unfolding read_command
  settles e more i = within_agrees (length i.rest + 1) (length (i.rest ++ more) + 1) (omega (arith, length-append i.rest more)) e more p i

  steps : (ended : Bool) (i : Input) → Steps i (read_command p ended i)
  unfolding read_command
  steps e i = within_steps (length i.rest + 1) e p i

  told : (i : Input) → IsTold (read_command p true i)
  unfolding read_command
  told i = within_told (length i.rest + 1) p i (omega arith)

  pub command-reader : IsReader (read_command p)
  command-reader = record { settles = settles; steps = steps; told = told; waits = command-waits p }

-- ---- a command lowers the size

abbrev pub IfCommand : Option Placed → Type 0 → Type 0
IfCommand (Some c) t = t
IfCommand None t = Unit {0}

abbrev pub CommandLowers : Progress → Input → Read Told → Type 0
CommandLowers p i (Ok x) = IfCommand x.0.command (size x.0.progress x.1 < size p i)
CommandLowers p i (Err e) = Unit {0}

weaker_command : (c : Option Placed) (a b n : ℕ) → a ≤ b → IfCommand c (n < a) → IfCommand c (n < b)
weaker_command (Some c) a b n h k = omega arith
weaker_command None a b n h k = tt

weaker : (p q : Progress) (i j : Input) (r : Read Told) → size q j < size p i → CommandLowers q j r → CommandLowers p i r
weaker p q i j (Ok x) h k = weaker_command x.0.command (size q j) (size p i) (size x.0.progress x.1) (omega arith) k
weaker p q i j (Err e) h k = tt

event_lowers : (f : Progress → Reader Told) (p : Progress) (i : Input) (ended : Bool) → ((q : Progress) (j : Input) → CommandLowers q j (f q ended j)) →
    (e : Event) (q : Progress) (j : Input) → Lowers p i e q j → CommandLowers p i (by_event f e q ended j)
event_lowers f p i ended h (Gives c) q j l = l
event_lowers f p i ended h Skips q j l = weaker p q i j (f q ended j) l.1 (h q j)
event_lowers f p i ended h Ends q j l = tt

turned_lowers : (f : Progress → Reader Told) (p : Progress) (i : Input) (ended : Bool) → ((q : Progress) (j : Input) → CommandLowers q j (f q ended j)) →
    (r : Read Turn) → TurnLowers p i r → CommandLowers p i (r >>= λ x. turn_on f x.0 ended x.1)
turned_lowers f p i ended h (Ok x) l = event_lowers f p i ended h x.0.event x.0.progress x.1 l
turned_lowers f p i ended h (Err e) l = tt

within_lowers : (n : ℕ) (ended : Bool) (p : Progress) (i : Input) → CommandLowers p i (command_within n p ended i)
within_lowers zero ended p i = tt
within_lowers (suc n) ended p i = turned_lowers (command_within n) p i ended (within_lowers n ended) (turn p ended i) (turn_lowers p ended i)

pub command_lowers : (p : Progress) (ended : Bool) (i : Input) → CommandLowers p i (read_command p ended i)
unfolding read_command
command_lowers p ended i = within_lowers (length i.rest + 1) ended p i
