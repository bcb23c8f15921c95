-- What reading and replaying give from a place of a stream on.
use Rattle.std.proofs.Common.{◌≡◌, ◌≢◌, ℕ, Bool, true, false, Result, Ok, Err, refl, sym, ap, ◌∙◌, subst}
use Rattle.git_objects.specs.declared.quantity.Quantity.{Quantity}
use Rattle.stream_lex.specs.Lines.{Input}
use Rattle.stream_reader.specs.declared.fault.StreamFault.{StreamFault}
use Rattle.stream_reader.specs.declared.fault.StreamFault.TheVariants.{Limit}
use Rattle.stream_lex.specs.declared.stop.Stop.TheVariants as stops
use Rattle.stream_reader.specs.declared.command.Command.{Command}
use Rattle.stream_reader.specs.declared.command.Placed.{Placed}
use Rattle.stream_reader.specs.declared.progress.Progress.{Progress}
use Rattle.stream_reader.specs.declared.progress.Event.TheVariants.{Gives, Skips, Ends}
use Rattle.git_objects.specs.Results.{◌>>=◌}
use Rattle.stream_lex.specs.Cutting.{◌then◌, judged}
use Rattle.stream_reader.specs.Reading.{Judged, Read as ReadOf, Reader}
use Rattle.stream_reader.specs.Commands.{Turn, turn, turn_on, read_command}
use Rattle.stream_reader.specs.Verdicts.{Verdict, with_command, go_on, verdict_from}
use Rattle.stream_reader.proofs.Commanding.{command-is}
use Rattle.stream_reader.proofs.Iterating.{verdict-is}
use Rattle.fast_import.specs.Replays.{Replay, Ran, gone_on, ran_by, reached, step, empty_base}
use Rattle.fast_export.proofs.Manners.{taking, turn_same, limit_same}

-- ---- what a reader gives, unless a limit is met

pub data Reads {A : Type 0} (r : Judged (A × Input)) (P : A → Type 0) (j : Input) : Type 0 where
  Read : (x : A) → r ≡ Ok (x, j) → P x → Reads r P j
  Limited : (at : ℕ) (which : Quantity) → r ≡ Err (stops.Fault (Limit at which)) → Reads r P j

pub data Says {A : Type 0} (r : Judged A) (P : A → Type 0) : Type 0 where
  Said : (x : A) → r ≡ Ok x → P x → Says r P
  Over : (at : ℕ) (which : Quantity) → r ≡ Err (stops.Fault (Limit at which)) → Says r P

pub then_reads : {A B : Type 0} (f : Reader A) (g : A → Reader B) (i j k : Input) (P : A → Type 0) (Q : B → Type 0) →
    Reads (f true i) P j → ((x : A) → P x → Reads (g x true j) Q k) → Reads ((f then g) true i) Q k
then_reads f g i j k P Q (Read x e p) h = next (h x p)
  where
    next : Reads (g x true j) Q k → Reads ((f then g) true i) Q k
    next (Read y d q) = Read y (ap (λ r. r >>= λ z. g z.0 true z.1) e ∙ d) q
    next (Limited at which d) = Limited at which (ap (λ r. r >>= λ z. g z.0 true z.1) e ∙ d)
then_reads f g i j k P Q (Limited at which e) h = Limited at which (ap (λ r. r >>= λ z. g z.0 true z.1) e)

pub judged_reads : {A : Type 0} (r : Judged A) (i : Input) (P : A → Type 0) → Says r P → Reads (judged r true i) P i
judged_reads r i P (Said x e p) = Read x (ap (λ s. s >>= λ x. Ok (x, i)) e) p
judged_reads r i P (Over at which e) = Limited at which (ap (λ s. s >>= λ x. Ok (x, i)) e)

pub bind_says : {A B : Type 0} (r : Judged A) (f : A → Judged B) (P : A → Type 0) (Q : B → Type 0) → Says r P → ((x : A) → P x → Says (f x) Q) → Says (r >>= f) Q
bind_says r f P Q (Said x e p) h = next (h x p)
  where
    next : Says (f x) Q → Says (r >>= f) Q
    next (Said y d q) = Said y (ap (λ s. s >>= f) e ∙ d) q
    next (Over at which d) = Over at which (ap (λ s. s >>= f) e ∙ d)
bind_says r f P Q (Over at which e) h = Over at which (ap (λ s. s >>= f) e)

-- ---- the result of what is left

abbrev pub fold : Verdict → Replay → Result Replay StreamFault
fold v r = reached (ran_by (step empty_base) v.fault r v.commands).state (ran_by (step empty_base) v.fault r v.commands).fault

abbrev left_from : Progress → Input → Replay → Result Replay StreamFault
left_from p i r = fold (verdict_from p i) r

-- by a reader that reads tags, or one that refuses them
abbrev pub result : Bool → Progress → Input → Replay → Result Replay StreamFault
result t p i r = left_from (taking t p) i r

abbrev pub later : (Replay → Result Replay StreamFault) → Result Replay StreamFault → Result Replay StreamFault
later next (Ok s) = next s
later next (Err f) = Err f

gone : (c : Placed) (r : Replay) (next : Replay → Ran StreamFault) (o : Result Replay StreamFault) →
    reached (gone_on c r next o).state (gone_on c r next o).fault ≡ later (λ s. reached (next s).state (next s).fault) o
gone c r next (Ok s) = refl
gone c r next (Err f) = refl

fold_more : (c : Placed) (v : Verdict) (r : Replay) → fold (with_command c v) r ≡ later (fold v) (step empty_base r c)
fold_more c v r = gone c r (λ s. ran_by (step empty_base) v.fault s v.commands) (step empty_base r c)

on_turn : (p : Progress) (i : Input) (r : Replay) (t : ReadOf Turn) → turn p true i ≡ t → left_from p i r ≡ fold (go_on verdict_from (t >>= λ x. turn_on read_command x.0 true x.1)) r
on_turn p i r t e = ap (λ v. fold v r) (verdict-is p i ∙ ap (go_on verdict_from) (command-is p true i ∙ ap (λ t. t >>= λ x. turn_on read_command x.0 true x.1) e))

pub on_told : (p q : Progress) (i j : Input) (r : Replay) (c : Placed) → turn p true i ≡ Ok (record { event = Gives c; progress = q }, j) → left_from p i r ≡ later (left_from q j) (step empty_base r c)
on_told p q i j r c e = on_turn p i r (Ok (record { event = Gives c; progress = q }, j)) e ∙ fold_more c (verdict_from q j) r

-- what a reader that refuses tags reads, each of both reads
module _ (t : Bool) (p : Progress) (i : Input) (r : Replay) where
  pub on_command : (q : Progress) (j : Input) (c : Placed) → turn (taking false p) true i ≡ Ok (record { event = Gives c; progress = q }, j) → result t p i r ≡ later (result t q j) (step empty_base r c)
  on_command q j c e = on_told (taking t p) (taking t q) i j r c (turn_same t p true i (record { event = Gives c; progress = q }) j e)

  pub on_skip : (q : Progress) (j : Input) → turn (taking false p) true i ≡ Ok (record { event = Skips; progress = q }, j) → result t p i r ≡ result t q j r
  on_skip q j e =
      on_turn (taking t p) i r (Ok (record { event = Skips; progress = taking t q }, j)) (turn_same t p true i (record { event = Skips; progress = q }) j e)
      ∙ ap (λ v. fold v r) (sym (verdict-is (taking t q) j))

  pub on_end : (q : Progress) (j : Input) → turn (taking false p) true i ≡ Ok (record { event = Ends; progress = q }, j) → result t p i r ≡ Ok r
  on_end q j e = on_turn (taking t p) i r (Ok (record { event = Ends; progress = taking t q }, j)) (turn_same t p true i (record { event = Ends; progress = q }) j e)

  pub on_limit : (at : ℕ) (which : Quantity) → turn (taking false p) true i ≡ Err (stops.Fault (Limit at which)) → result t p i r ≡ Err (Limit at which)
  on_limit at which e = on_turn (taking t p) i r (Err (stops.Fault (Limit at which))) (limit_same t p true i at which e)

pub on_told_limit : (p : Progress) (i : Input) (r : Replay) (at : ℕ) (which : Quantity) → turn p true i ≡ Err (stops.Fault (Limit at which)) → left_from p i r ≡ Err (Limit at which)
on_told_limit p i r at which e = on_turn p i r (Err (stops.Fault (Limit at which))) e

-- ---- from one place to the next

abbrev pub NoLimit : {A : Type 0} → Result A StreamFault → Type 0
NoLimit o = (at : ℕ) (which : Quantity) → o ≢ Err (Limit at which)

-- where no limit is met, reading and replaying come to j with a state such as S says
pub record Arrived (t : Bool) (p : Progress) (i : Input) (r : Replay) (q : Progress) (j : Input) (S : Replay → Type 0) : Type 0 where
  pub state : Replay
  pub same : result t p i r ≡ result t q j state
  pub such : S state

-- whether tags are read or refused
abbrev pub Arrives : Progress → Input → Replay → Progress → Input → (Replay → Type 0) → Type 0
Arrives p i r q j S = (t : Bool) → NoLimit (result t p i r) → Arrived t p i r q j S

pub stays : (p : Progress) (i : Input) (r : Replay) (S : Replay → Type 0) → S r → Arrives p i r p i S
stays p i r S h t n = record { state = r; same = refl; such = h }

pub goes : (p q w : Progress) (i j k : Input) (r : Replay) (S T : Replay → Type 0) → Arrives p i r q j S → ((s : Replay) → S s → Arrives q j s w k T) → Arrives p i r w k T
goes p q w i j k r S T a b t n =
    let x = a t n in
    let m : NoLimit (result t q j x.state) = subst NoLimit x.same n in
    let y = b x.state x.such t m in
    record { state = y.state; same = x.same ∙ y.same; such = y.such }

-- what replaying one command gives, unless a limit is met
pub data Steps (o : Result Replay StreamFault) (S : Replay → Type 0) : Type 0 where
  Stepped : (s : Replay) → o ≡ Ok s → S s → Steps o S
  TooMuch : (at : ℕ) (which : Quantity) → o ≡ Err (Limit at which) → Steps o S

abbrev pub is_command : (Command → Type 0) → Progress → Turn → Type 0
is_command C q t = (c : Placed) × (t ≡ record { event = Gives c; progress = q }) × C c.command

pub command_goes : (p q : Progress) (i j : Input) (r : Replay) (C : Command → Type 0) (S : Replay → Type 0) → Reads (turn (taking false p) true i) (is_command C q) j →
    ((c : Placed) → C c.command → Steps (step empty_base r c) S) → Arrives p i r q j S
command_goes p q i j r C S (Limited at which e) h t n = absurd (n at which (on_limit t p i r at which e))
command_goes p q i j r C S (Read x e g) h t n = next (h g.0 g.2)
  where
    there : result t p i r ≡ later (result t q j) (step empty_base r g.0)
    there = on_command t p i r q j g.0 (e ∙ (λ k. Ok (g.1 k, j)))

    next : Steps (step empty_base r g.0) S → Arrived t p i r q j S
    next (Stepped s d x) = record { state = s; same = there ∙ ap (later (result t q j)) d; such = x }
    next (TooMuch at which d) = absurd (n at which (there ∙ ap (later (result t q j)) d))
