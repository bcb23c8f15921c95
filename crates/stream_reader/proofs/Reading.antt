-- What a reader is told step by step.
use Rattle.std.proofs.Common.{◌≡◌, ◌+◌, ◌-◌, ◌<◌, ◌≤◌, Bool, true, false, [], length, drop, Some, None, Ok, Err, refl, sym, ap, ◌∙◌, arith, subst, inl, inr}
use Rattle.std.specs.Prelude.{◌⊎◌, Result}
use Rattle.std.proofs.lemmas.List.{length-drop}
use Rattle.git_objects.specs.Paths.{Bytes}
use Rattle.stream_lex.specs.Lines.{Input}
use Rattle.stream_lex.specs.Cutting.{grown, Advances}
use Rattle.stream_lex.proofs.Passing.{grown_none}
use Rattle.stream_reader.specs.declared.fault.StreamFault.{StreamFault}
use Rattle.stream_reader.specs.declared.fault.StreamFault.TheVariants.{OutOfMemory}
use Rattle.stream_lex.specs.declared.stop.Stop.{Stop}
use Rattle.stream_lex.specs.declared.stop.Stop.TheVariants as stops
use Rattle.stream_reader.specs.declared.command.Placed.{Placed}
use Rattle.stream_reader.specs.declared.progress.Progress.{Progress}
use Rattle.stream_reader.specs.declared.progress.Event.TheVariants.{Gives, Skips, Ends}
use Rattle.stream_reader.specs.declared.reader.Next.{Next}
use Rattle.stream_reader.specs.declared.reader.Next.TheVariants as nexts
use Rattle.git_objects.specs.Results.{◌>>=◌}
use Rattle.stream_reader.specs.Reading.{Read}
use Rattle.stream_reader.specs.Commands.{Turn, turn, turn_on, read_command}
use Rattle.stream_reader.specs.Readers.{Reading, next_command, fed, MayFollow, IsBefore, TellsNext}
use Rattle.stream_reader.specs.Laws.{FaultLaw}
use Rattle.stream_lex.specs.Cutting.{Agrees, Steps}
use Rattle.stream_reader.proofs.Turning.{turn-reader}
use Rattle.stream_reader.proofs.Lowering.{TurnLowers, turn_lowers}
use Rattle.stream_reader.proofs.Commanding.{command-is, command-reader}

-- ---- what is read is behind

pub turned : (p : Progress) (e : Bool) (i : Input) (t : Turn) (j : Input) → turn p e i ≡ Ok (t, j) → Advances i j
turned p e i t j h = subst (Steps i) h ((turn-reader p).steps e i)

-- as many bytes have come
pub came_along : (i j : Input) → Advances i j → j.at + length j.rest ≡ i.at + length i.rest
came_along i j h = omega (arith, h.at, h.within, ap length h.rest, length-drop h.by i.rest)

-- ---- lines that give no command

pub before_itself : (r : Reading) → IsBefore r r
before_itself r = record { same = λ e more h. refl; ended = refl; came = refl }

-- what a reading is told is told where nothing more came
may_be_now : (r : Reading) → MayFollow r [] r.ended
may_be_now r h = (refl, h)

pub now_same : (a b : Reading) → IsBefore a b → next_command a ≡ next_command b
now_same a b h =
    ap (read_command a.progress a.ended) (sym (grown_none a.input)) ∙ h.same a.ended [] (may_be_now a) ∙ ap (read_command b.progress a.ended) (grown_none b.input)
    ∙ ap (λ e. read_command b.progress e b.input) (sym h.ended)

-- what may follow, where it is all
module _ (p : Progress) (i : Input) (q : Progress) (j : Input) where
  abbrev skipped : Read Turn
  skipped = Ok (record { event = Skips; progress = q }, j)

  now_skipped : (ended : Bool) (more : Bytes) → turn p ended (grown more i) ≡ Ok (record { event = Skips; progress = q }, grown more j) →
      read_command p ended (grown more i) ≡ read_command q ended (grown more j)
  now_skipped ended more e = command-is p ended (grown more i) ∙ ap (λ r. r >>= λ x. turn_on read_command x.0 ended x.1) e

  pub skip_same : (ended : Bool) → turn p ended i ≡ skipped → (later : Bool) (more : Bytes) → (ended ≡ true → (more ≡ []) × (later ≡ true)) →
      read_command p later (grown more i) ≡ read_command q later (grown more j)
  skip_same false e later more h = now_skipped later more (subst (λ r. Agrees more r (turn p later (grown more i))) e ((turn-reader p).settles later more i))
  skip_same true e later more h =
      let g = h refl in
      let t : turn p true (grown [] i) ≡ Ok (record { event = Skips; progress = q }, grown [] j) =
      ap (turn p true) (grown_none i) ∙ e ∙ (λ k. Ok (record { event = Skips; progress = q }, sym (grown_none j) k)) in
      subst (λ m. read_command p later (grown m i) ≡ read_command q later (grown m j)) (sym g.0)
      (subst (λ b. read_command p b (grown [] i) ≡ read_command q b (grown [] j)) (sym g.1) (now_skipped true [] t))

-- behind a line that gives no command
pub skipped_before : (a b c : Reading) → IsBefore a b → turn b.progress b.ended b.input ≡ Ok (record { event = Skips; progress = c.progress }, c.input) →
    c.ended ≡ b.ended → IsBefore a c
skipped_before a b c h e g = record {
  same = λ later more m.
      h.same later more m ∙ skip_same b.progress b.input c.progress c.input b.ended e later more (λ t. m (sym h.ended ∙ t));
  ended = g ∙ h.ended;
  came = came_along b.input c.input (turned b.progress b.ended b.input _ c.input e) ∙ h.came;
}

pub shorter : (b c : Reading) → turn b.progress b.ended b.input ≡ Ok (record { event = Skips; progress = c.progress }, c.input) → length c.input.rest < length b.input.rest
shorter b c e = (subst (TurnLowers b.progress b.input) e (turn_lowers b.progress b.ended b.input)).0

-- ---- what is told then

module _ (a b : Reading) (h : IsBefore a b) where
  told : (r : Read Turn) → turn b.progress b.ended b.input ≡ r → next_command a ≡ r >>= λ x. turn_on read_command x.0 b.ended x.1
  told r e = now_same a b h ∙ command-is b.progress b.ended b.input ∙ ap (λ r. r >>= λ x. turn_on read_command x.0 b.ended x.1) e

  pub told_command : (p : Placed) (q : Progress) (j : Input) → turn b.progress b.ended b.input ≡ Ok (record { event = Gives p; progress = q }, j) →
      next_command a ≡ Ok (record { command = Some p; progress = q }, j)
  told_command p q j e = told (Ok (record { event = Gives p; progress = q }, j)) e

  pub told_end : (q : Progress) (j : Input) → turn b.progress b.ended b.input ≡ Ok (record { event = Ends; progress = q }, j) →
      next_command a ≡ Ok (record { command = None; progress = q }, j)
  told_end q j e = told (Ok (record { event = Ends; progress = q }, j)) e

  pub told_halt : (s : Stop StreamFault) → turn b.progress b.ended b.input ≡ Err s → next_command a ≡ Err s
  told_halt s e = told (Err s) e

pub before_same : (a b c : Reading) → IsBefore a b → c ≡ b → IsBefore a c
before_same a b c h e = subst (IsBefore a) (sym e) h

-- ---- the cursor of a lexer

pub next_input : (i j : Input) → Advances i j → j ≡ record { at = j.at; rest = drop (j.at - i.at) i.rest }
next_input i j h = let k : h.by ≡ j.at - i.at = omega (arith, h.at) in λ d. record { at = j.at; rest = (h.rest ∙ ap (λ n. drop n i.rest) k) d }

pub next_room : (i j : Input) → Advances i j → (i.at ≤ j.at) × (j.at ≤ i.at + length i.rest)
next_room i j h = (omega (arith, h.at), omega (arith, h.at, h.within))

-- ---- a fault stays

fault_again : (f : StreamFault) (a b : Reading) (more : Bytes) (ended : Bool) → next_command a ≡ Err (stops.Fault f) → IsBefore a b → MayFollow a more ended →
    next_command (fed more ended b) ≡ Err (stops.Fault f)
fault_again f a b more ended e h m = sym (h.same ended more m) ∙ grown_fault a.ended refl
  where
    grown_fault : (c : Bool) → a.ended ≡ c → read_command a.progress ended (grown more a.input) ≡ Err (stops.Fault f)
    grown_fault false g =
        subst (λ r. Agrees more r (read_command a.progress ended (grown more a.input))) (ap (λ c. read_command a.progress c a.input) (sym g) ∙ e)
        ((command-reader a.progress).settles ended more a.input)
    grown_fault true g =
        let k = m g in
        (λ t. read_command a.progress (k.1 t) (grown (k.0 t) a.input)) ∙ ap (read_command a.progress true) (grown_none a.input) ∙ ap (λ c. read_command a.progress c a.input) (sym g) ∙ e

answer_again : (f : StreamFault) (b c : Reading) → next_command b ≡ Err (stops.Fault f) → (answer : Result Next StreamFault) → TellsNext answer b c → (answer ≡ Err f) ⊎ (answer ≡ Err OutOfMemory)
answer_again f b c e (Ok (nexts.Command p)) h = let k : ⊥ = cc in absurd k
answer_again f b c e (Ok nexts.More) h = let k : ⊥ = cc in absurd k
answer_again f b c e (Ok nexts.Ended) h = let k : ⊥ = cc in absurd k
answer_again f b c e (Err g) h = elim h [ inl k ↦ inr (ap Err k) | inr k ↦ inl (let m : g ≡ f = cc in ap Err m) ]

pub fault_law : FaultLaw
fault_law f old new later more ended answer e h m t = answer_again f (fed more ended new) later (fault_again f old new more ended e h m) answer t
