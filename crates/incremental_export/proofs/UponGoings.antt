-- What reading and replaying upon a base give from a place of a stream on.
use Rattle.std.proofs.Common.{◌≡◌, ℕ, Bool, true, false, Result, Ok, Err, refl, sym, ap, ◌∙◌, subst}
use Rattle.git_objects.specs.declared.quantity.Quantity.{Quantity}
use Rattle.stream_lex.specs.Lines.{Input}
use Rattle.stream_reader.specs.declared.fault.StreamFault.{StreamFault}
use Rattle.stream_reader.specs.declared.fault.StreamFault.TheVariants.{Limit}
use Rattle.stream_lex.specs.declared.stop.Stop.TheVariants as stops
use Rattle.stream_reader.specs.declared.command.Command.{Command}
use Rattle.stream_reader.specs.declared.command.Placed.{Placed}
use Rattle.stream_reader.specs.declared.progress.Progress.{Progress}
use Rattle.stream_reader.specs.declared.progress.Event.TheVariants.{Gives, Skips, Ends}
use Rattle.git_objects.specs.Results.{◌>>=◌}
use Rattle.stream_reader.specs.Reading.{Read as ReadOf}
use Rattle.stream_reader.specs.Commands.{Turn, turn, turn_on, read_command}
use Rattle.stream_reader.specs.Verdicts.{Verdict, with_command, go_on, verdict_from}
use Rattle.stream_reader.proofs.Commanding.{command-is}
use Rattle.stream_reader.proofs.Iterating.{verdict-is}
use Rattle.fast_import.specs.Replays.{Base, Replay, Ran, gone_on, ran_by, reached, step}
use Rattle.fast_export.proofs.Goings.{Reads, Read, Limited, NoLimit, Steps, Stepped, TooMuch, is_command, later}
use Rattle.fast_export.proofs.Manners.{taking, turn_same, limit_same}

-- ---- the result of what is left

abbrev fold : Base → Verdict → Replay → Result Replay StreamFault
fold base v r = reached (ran_by (step base) v.fault r v.commands).state (ran_by (step base) v.fault r v.commands).fault

abbrev left_from : Base → Progress → Input → Replay → Result Replay StreamFault
left_from base p i r = fold base (verdict_from p i) r

-- by a reader that reads tags, or one that refuses them
abbrev pub result : Base → Bool → Progress → Input → Replay → Result Replay StreamFault
result base t p i r = left_from base (taking t p) i r

gone : (c : Placed) (r : Replay) (next : Replay → Ran StreamFault) (o : Result Replay StreamFault) →
    reached (gone_on c r next o).state (gone_on c r next o).fault ≡ later (λ s. reached (next s).state (next s).fault) o
gone c r next (Ok s) = refl
gone c r next (Err f) = refl

-- where no limit is met, reading and replaying come to j with a state such as S says
pub record Arrived (base : Base) (t : Bool) (p : Progress) (i : Input) (r : Replay) (q : Progress) (j : Input) (S : Replay → Type 0) : Type 0 where
  pub state : Replay
  pub same : result base t p i r ≡ result base t q j state
  pub such : S state

-- whether tags are read or refused
abbrev pub Arrives : Base → Progress → Input → Replay → Progress → Input → (Replay → Type 0) → Type 0
Arrives base p i r q j S = (t : Bool) → NoLimit (result base t p i r) → Arrived base t p i r q j S

module _ (base : Base) where
  fold_more : (c : Placed) (v : Verdict) (r : Replay) → fold base (with_command c v) r ≡ later (fold base v) (step base r c)
  fold_more c v r = gone c r (λ s. ran_by (step base) v.fault s v.commands) (step base r c)

  on_turn : (p : Progress) (i : Input) (r : Replay) (t : ReadOf Turn) → turn p true i ≡ t →
      left_from base p i r ≡ fold base (go_on verdict_from (t >>= λ x. turn_on read_command x.0 true x.1)) r
  on_turn p i r t e =
      ap (λ v. fold base v r) (verdict-is p i ∙ ap (go_on verdict_from) (command-is p true i ∙ ap (λ t. t >>= λ x. turn_on read_command x.0 true x.1) e))

  pub on_told : (p q : Progress) (i j : Input) (r : Replay) (c : Placed) → turn p true i ≡ Ok (record { event = Gives c; progress = q }, j) →
      left_from base p i r ≡ later (left_from base q j) (step base r c)
  on_told p q i j r c e = on_turn p i r (Ok (record { event = Gives c; progress = q }, j)) e ∙ fold_more c (verdict_from q j) r

  pub on_told_limit : (p : Progress) (i : Input) (r : Replay) (at : ℕ) (which : Quantity) → turn p true i ≡ Err (stops.Fault (Limit at which)) →
      left_from base p i r ≡ Err (Limit at which)
  on_told_limit p i r at which e = on_turn p i r (Err (stops.Fault (Limit at which))) e

  -- what a reader that refuses tags reads, each of both reads
  module _ (t : Bool) (p : Progress) (i : Input) (r : Replay) where
    on_command : (q : Progress) (j : Input) (c : Placed) → turn (taking false p) true i ≡ Ok (record { event = Gives c; progress = q }, j) →
        result base t p i r ≡ later (result base t q j) (step base r c)
    on_command q j c e = on_told (taking t p) (taking t q) i j r c (turn_same t p true i (record { event = Gives c; progress = q }) j e)

    pub on_skip : (q : Progress) (j : Input) → turn (taking false p) true i ≡ Ok (record { event = Skips; progress = q }, j) →
        result base t p i r ≡ result base t q j r
    on_skip q j e =
        on_turn (taking t p) i r (Ok (record { event = Skips; progress = taking t q }, j)) (turn_same t p true i (record { event = Skips; progress = q }) j e)
        ∙ ap (λ v. fold base v r) (sym (verdict-is (taking t q) j))

    pub on_end : (q : Progress) (j : Input) → turn (taking false p) true i ≡ Ok (record { event = Ends; progress = q }, j) → result base t p i r ≡ Ok r
    on_end q j e =
        on_turn (taking t p) i r (Ok (record { event = Ends; progress = taking t q }, j)) (turn_same t p true i (record { event = Ends; progress = q }) j e)

    pub on_limit : (at : ℕ) (which : Quantity) → turn (taking false p) true i ≡ Err (stops.Fault (Limit at which)) → result base t p i r ≡ Err (Limit at which)
    on_limit at which e = on_turn (taking t p) i r (Err (stops.Fault (Limit at which))) (limit_same t p true i at which e)

  -- ---- from one place to the next

  pub stays : (p : Progress) (i : Input) (r : Replay) (S : Replay → Type 0) → S r → Arrives base p i r p i S
  stays p i r S h t n = record { state = r; same = refl; such = h }

  pub goes : (p q w : Progress) (i j k : Input) (r : Replay) (S T : Replay → Type 0) → Arrives base p i r q j S → ((s : Replay) → S s → Arrives base q j s w k T) →
      Arrives base p i r w k T
  goes p q w i j k r S T a b t n =
      let x = a t n in
      let m : NoLimit (result base t q j x.state) = subst NoLimit x.same n in
      let y = b x.state x.such t m in
      record { state = y.state; same = x.same ∙ y.same; such = y.such }

  pub arrives_so : (p q : Progress) (i j : Input) (r : Replay) (S U : Replay → Type 0) → ((s : Replay) → S s → U s) → Arrives base p i r q j S →
      Arrives base p i r q j U
  arrives_so p q i j r S U h a t n = let x = a t n in record { state = x.state; same = x.same; such = h x.state x.such }

  pub command_goes : (p q : Progress) (i j : Input) (r : Replay) (C : Command → Type 0) (S : Replay → Type 0) →
      Reads (turn (taking false p) true i) (is_command C q) j → ((c : Placed) → C c.command → Steps (step base r c) S) → Arrives base p i r q j S
  command_goes p q i j r C S (Limited at which e) h t n = absurd (n at which (on_limit t p i r at which e))
  command_goes p q i j r C S (Read x e g) h t n = next (h g.0 g.2)
    where
      there : result base t p i r ≡ later (result base t q j) (step base r g.0)
      there = on_command t p i r q j g.0 (e ∙ (λ k. Ok (g.1 k, j)))

      next : Steps (step base r g.0) S → Arrived base t p i r q j S
      next (Stepped s d x) = record { state = s; same = there ∙ ap (later (result base t q j)) d; such = x }
      next (TooMuch at which d) = absurd (n at which (there ∙ ap (later (result base t q j)) d))

  pub skips : (p q : Progress) (i j : Input) (r : Replay) (S : Replay → Type 0) → S r →
      Reads (turn (taking false p) true i) (λ t. t ≡ record { event = Skips; progress = q }) j → Arrives base p i r q j S
  skips p q i j r S h (Read x e g) t n = record { state = r; same = on_skip t p i r q j (e ∙ (λ k. Ok (g k, j))); such = h }
  skips p q i j r S h (Limited at which e) t n = absurd (n at which (on_limit t p i r at which e))
