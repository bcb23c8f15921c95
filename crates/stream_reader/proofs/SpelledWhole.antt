-- The verdict of a whole stream without a fault is what it spells.
use Rattle.std.proofs.Common.{◌≡◌, inl, inr, ℕ, zero, suc, true, false, List, [], ◌∷◌, Option, Some, None, Ok, Err, refl, sym, ap, ◌∙◌, subst}
use Rattle.stream_lex.specs.Lines.{Input, line_at}
use Rattle.stream_lex.proofs.Spelled.{line_at-none}
use Rattle.stream_reader.specs.declared.fault.StreamFault.{StreamFault}
use Rattle.stream_lex.specs.declared.stop.Stop.TheVariants as stops
use Rattle.stream_reader.specs.declared.command.Placed.{Placed}
use Rattle.stream_reader.specs.declared.progress.Manner.{Manner}
use Rattle.stream_reader.specs.declared.progress.Phase.TheVariants.{Between, Finished}
use Rattle.stream_reader.specs.declared.progress.Progress.{Progress}
use Rattle.stream_reader.specs.declared.progress.Event.{Event}
use Rattle.stream_reader.specs.declared.progress.Event.TheVariants.{Gives, Skips, Ends}
use Rattle.git_objects.specs.Results.{◌>>=◌}
use Rattle.stream_reader.specs.Reading.{Read, Reader, lifted}
use Rattle.stream_reader.specs.Commands.{Turn, turned, Told, ends_at, between_at, turn, by_event, turn_on, command_within, read_command}
use Rattle.stream_reader.specs.Spelling.{Spells, behind, PassesLines, Reaches, EndsHere, SpellsAll}
use Rattle.stream_reader.specs.Verdicts.{Verdict, stopped, with_command, told_then, go_on, from_start, verdict_from}
use Rattle.stream_lex.specs.Cutting.{IsTold}
use Rattle.stream_reader.specs.Laws.{SpellingLaw}
use Rattle.stream_reader.proofs.Commanding.{command-is, command-reader}
use Rattle.stream_reader.proofs.Iterating.{verdict-is}
use Rattle.stream_reader.proofs.SpelledTurns.{EventSpelled, TurnSpelled, turn_spelled, turn_again, turn_passes, here}

-- ---- the next command is spelled behind lines that give none

abbrev TellsSpelled : Progress → Input → Option Placed → Progress → Input → Type 0
TellsSpelled p i (Some c) q j = (r : Progress) × (k : Input) × Reaches p i r k × Spells r.manner r.phase k c.at c.command j × (q ≡ behind r c.command)
TellsSpelled p i None q j = (r : Progress) × (k : Input) × Reaches p i r k × EndsHere r k

abbrev CommandSpelled : Progress → Input → Read Told → Type 0
CommandSpelled p i (Ok x) = TellsSpelled p i x.0.command x.0.progress x.1
CommandSpelled p i (Err e) = Unit {0}

-- one line more in front
reached : (p q : Progress) (i j : Input) → EventSpelled p i Skips q j → (r : Progress) (k : Input) → Reaches q j r k → Reaches p i r k
reached p q i j h r k g = (suc g.0, (h.0, j, q.manner, h.2, subst (λ ph. PassesLines g.0 (record { phase = ph; manner = q.manner }) j r k) h.1 g.1))

tells_in_front : (p q : Progress) (i j : Input) → EventSpelled p i Skips q j → (c : Option Placed) (s : Progress) (l : Input) → TellsSpelled q j c s l → TellsSpelled p i c s l
tells_in_front p q i j h (Some c) s l g = (g.0, g.1, reached p q i j h g.0 g.1 g.2, g.3, g.4)
tells_in_front p q i j h None s l g = (g.0, g.1, reached p q i j h g.0 g.1 g.2, g.3)

in_front : (p q : Progress) (i j : Input) → EventSpelled p i Skips q j → (r : Read Told) → CommandSpelled q j r → CommandSpelled p i r
in_front p q i j h (Ok x) g = tells_in_front p q i j h x.0.command x.0.progress x.1 g
in_front p q i j h (Err e) g = tt

event_spelled : (f : Progress → Reader Told) → ((q : Progress) (j : Input) → CommandSpelled q j (f q true j)) → (p : Progress) (i : Input) (e : Event) (q : Progress) (j : Input) → EventSpelled p i e q j →
    CommandSpelled p i (by_event f e q true j)
event_spelled f h p i (Gives c) q j g = (p, i, (zero, (refl, refl)), g.0, g.1)
event_spelled f h p i Skips q j g = in_front p q i j g (f q true j) (h q j)
event_spelled f h p i Ends q j g = (p, i, (zero, (refl, refl)), g)

turned_spelled : (f : Progress → Reader Told) → ((q : Progress) (j : Input) → CommandSpelled q j (f q true j)) → (p : Progress) (i : Input) (r : Read Turn) → TurnSpelled p i r →
    CommandSpelled p i (r >>= λ x. turn_on f x.0 true x.1)
turned_spelled f h p i (Ok x) g = event_spelled f h p i x.0.event x.0.progress x.1 g
turned_spelled f h p i (Err e) g = tt

within_spelled : (n : ℕ) (p : Progress) (i : Input) → CommandSpelled p i (command_within n p true i)
within_spelled zero p i = tt
within_spelled (suc n) p i = turned_spelled (command_within n) (within_spelled n) p i (turn p true i) (turn_spelled p i)

command_spelled : (p : Progress) (i : Input) → CommandSpelled p i (read_command p true i)
unfolding read_command
command_spelled p i = within_spelled _ p i

-- ---- and what is spelled there is the next command

reach_same : (n : ℕ) (p : Progress) (i : Input) (q : Progress) (j : Input) → PassesLines n p i q j → read_command p true i ≡ read_command q true j
reach_same zero p i q j h = λ k. read_command (h.0 k) true (h.1 k)
reach_same (suc n) p i q j h =
    let t : turn p true i ≡ Ok (turned Skips Between h.2, h.1) =
    subst (λ ph. turn (record { phase = ph; manner = p.manner }) true i ≡ Ok (turned Skips Between h.2, h.1)) (sym h.0) (turn_passes p.manner h.2 i h.1 h.3) in
    command-is p true i ∙ ap (λ r. r >>= λ x. turn_on read_command x.0 true x.1) t ∙ reach_same n (here Between h.2) h.1 q j h.4

command_again : (p : Progress) (i : Input) (q : Progress) (k j : Input) (c : Placed) → Reaches p i q k → Spells q.manner q.phase k c.at c.command j →
    read_command p true i ≡ Ok (record { command = Some c; progress = behind q c.command }, j)
command_again p i q k j c h s =
    reach_same h.0 p i q k h.1 ∙ command-is q true k ∙ ap (λ r. r >>= λ x. turn_on read_command x.0 true x.1) (turn_again q k j c s)

-- where the reading ends
abbrev IsEnd : Read Told → Type 0
IsEnd r = (q : Progress) × (j : Input) × (r ≡ Ok (record { command = None; progress = q }, j))

finished : (d : Manner) (i : Input) → turn (here Finished d) true i ≡ Ok (turned Ends Finished d, i)
unfolding turn
finished d i = refl

at_the_last : (d : Manner) (i j : Input) → d.wants_done ≡ false → line_at true i ≡ Ok (None, j) → turn (here Between d) true i ≡ Ok (turned Ends Between d, j)
unfolding turn
at_the_last d i j o e = ap (λ r. lifted r >>= between_at d true) e ∙ ap (λ b. ends_at j.at d b true j) o

turn_ends : (p : Progress) (i : Input) → EndsHere p i → (q : Progress) × (j : Input) × (turn p true i ≡ Ok (record { event = Ends; progress = q }, j))
turn_ends p i h =
    elim h [
      | inl e ↦ (here Finished p.manner, i, subst (λ ph. turn (record { phase = ph; manner = p.manner }) true i ≡ Ok (turned Ends Finished p.manner, i)) (sym e) (finished p.manner i))
      | inr g ↦ (
        here Between p.manner,
        g.2,
        subst (λ ph. turn (record { phase = ph; manner = p.manner }) true i ≡ Ok (turned Ends Between p.manner, g.2)) (sym g.0) (at_the_last p.manner i g.2 g.1 (line_at-none i g.2 g.3)),
      )
    ]

end_again : (p : Progress) (i : Input) (q : Progress) (k : Input) → Reaches p i q k → EndsHere q k → IsEnd (read_command p true i)
end_again p i q k h e =
    let t = turn_ends q k e in
    (t.0, t.1, reach_same h.0 p i q k h.1 ∙ command-is q true k ∙ ap (λ r. r >>= λ x. turn_on read_command x.0 true x.1) t.2)

-- ---- whole streams

whole_again : (cs : List Placed) (p : Progress) (i : Input) → SpellsAll cs p i → verdict_from p i ≡ record { commands = cs; fault = None }
whole_again [] p i h = let e = end_again p i h.0 h.1 h.2 h.3 in verdict-is p i ∙ ap (go_on verdict_from) e.2
whole_again (c ∷ cs) p i h =
    verdict-is p i ∙ ap (go_on verdict_from) (command_again p i h.0 h.1 h.2 c h.3 h.4) ∙ ap (with_command c) (whole_again cs (behind h.0 c.command) h.2 h.5)

abbrev Whole : List Placed → Verdict
Whole cs = record { commands = cs; fault = None }

-- the first of the commands
first_of_all : (p : Progress) (i : Input) (cs : List Placed) (c : Placed) (q : Progress) (j : Input) → TellsSpelled p i (Some c) q j → SpellsAll cs q j → SpellsAll (c ∷ cs) p i
first_of_all p i cs c q j h g = (h.0, h.1, j, h.2, h.3, subst (λ r. SpellsAll cs r j) h.4 g)

commands_are : (v w : Verdict) → v ≡ w → (v.commands ≡ w.commands) × (v.fault ≡ w.fault)
commands_are v w e = (ap (λ (x : Verdict). x.commands) e, ap (λ (x : Verdict). x.fault) e)

no_fault : (f : StreamFault) (o : Option StreamFault) → o ≡ Some f → o ≡ None → ⊥
no_fault f o e g = cc

no_tail : (c : Placed) (cs : List Placed) → c ∷ cs ≡ [] → ⊥
no_tail c cs e = cc

heads_same : (c d : Placed) (cs ds : List Placed) → c ∷ cs ≡ d ∷ ds → c ≡ d
heads_same c d cs ds e = cc

tails_same : (c d : Placed) (cs ds : List Placed) → c ∷ cs ≡ d ∷ ds → cs ≡ ds
tails_same c d cs ds e = cc

-- no command is told
none_ends : (p : Progress) (i : Input) (c : Option Placed) (q : Progress) (j : Input) → TellsSpelled p i c q j → told_then verdict_from c q j ≡ Whole [] → SpellsAll [] p i
none_ends p i None q j h e = h
none_ends p i (Some c) q j h e = absurd (no_tail c (verdict_from q j).commands (commands_are (with_command c (verdict_from q j)) (Whole []) e).0)

none_was : (p : Progress) (i : Input) (r : Read Told) → CommandSpelled p i r → IsTold r → go_on verdict_from r ≡ Whole [] → SpellsAll [] p i
none_was p i (Ok x) h t e = none_ends p i x.0.command x.0.progress x.1 h e
none_was p i (Err (stops.More w)) h t e = absurd t
none_was p i (Err (stops.Fault f)) h t e = absurd (no_fault f (Some f) refl (commands_are (stopped (Some f)) (Whole []) e).1)

module _ (c : Placed) (cs : List Placed) (later : (q : Progress) (j : Input) → verdict_from q j ≡ Whole cs → SpellsAll cs q j) where
  some_first : (p : Progress) (i : Input) (d : Option Placed) (q : Progress) (j : Input) → TellsSpelled p i d q j → told_then verdict_from d q j ≡ Whole (c ∷ cs) → SpellsAll (c ∷ cs) p i
  some_first p i None q j h e = absurd (no_tail c cs (sym (commands_are (stopped None) (Whole (c ∷ cs)) e).0))
  some_first p i (Some d) q j h e =
      let v : Verdict = verdict_from q j in
      let s = commands_are (with_command d v) (Whole (c ∷ cs)) e in
      let w : v ≡ Whole cs = λ k. record { commands = tails_same d c v.commands cs s.0 k; fault = s.1 k } in
      subst (λ x. SpellsAll (x ∷ cs) p i) (heads_same d c v.commands cs s.0) (first_of_all p i cs d q j h (later q j w))

  some_was : (p : Progress) (i : Input) (r : Read Told) → CommandSpelled p i r → IsTold r → go_on verdict_from r ≡ Whole (c ∷ cs) → SpellsAll (c ∷ cs) p i
  some_was p i (Ok x) h t e = some_first p i x.0.command x.0.progress x.1 h e
  some_was p i (Err (stops.More w)) h t e = absurd t
  some_was p i (Err (stops.Fault f)) h t e = absurd (no_fault f (Some f) refl (commands_are (stopped (Some f)) (Whole (c ∷ cs)) e).1)

whole_was : (cs : List Placed) (p : Progress) (i : Input) → verdict_from p i ≡ Whole cs → SpellsAll cs p i
whole_was [] p i e = none_was p i (read_command p true i) (command_spelled p i) ((command-reader p).told i) (sym (verdict-is p i) ∙ e)
whole_was (c ∷ cs) p i e = some_was c cs (whole_was cs) p i (read_command p true i) (command_spelled p i) ((command-reader p).told i) (sym (verdict-is p i) ∙ e)

-- ---- faults

fault_told : (p : Progress) (i : Input) (f : StreamFault) → turn p true i ≡ Err (stops.Fault f) → verdict_from p i ≡ stopped (Some f)
fault_told p i f e = verdict-is p i ∙ ap (go_on verdict_from) (command-is p true i ∙ ap (λ r. r >>= λ x. turn_on read_command x.0 true x.1) e)

none_spelled : (p : Progress) (i : Input) (f : StreamFault) → turn p true i ≡ Err (stops.Fault f) → (j : Input) (c : Placed) → ¬ Spells p.manner p.phase i c.at c.command j
none_spelled p i f e j c h = let g = turn_again p i j c h in absurd cc

not_whole : (p : Progress) (i : Input) (f : StreamFault) → turn p true i ≡ Err (stops.Fault f) → (cs : List Placed) → ¬ SpellsAll cs p i
not_whole p i f e cs h = no_fault f (Some f) refl (commands_are (stopped (Some f)) (Whole cs) (sym (fault_told p i f e) ∙ whole_again cs p i h)).1

pub spelling_law : SpellingLaw
spelling_law = record {
  whole = λ p b cs. (whole_was cs p (from_start b), whole_again cs p (from_start b));
  spelled = λ p q i j c e. subst (TurnSpelled p i) e (turn_spelled p i);
  read = turn_again;
  passed = λ p q i j e. subst (TurnSpelled p i) e (turn_spelled p i);
  passes = turn_passes;
  ended = λ p q i j e. subst (TurnSpelled p i) e (turn_spelled p i);
  fault = λ p i f e. (none_spelled p i f e, not_whole p i f e);
  next = command-is;
}
