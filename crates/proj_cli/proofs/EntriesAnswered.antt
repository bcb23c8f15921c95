-- What became of an entry's command, and what came of writing its reply, is how the entry is answered.
use Rattle.std.proofs.Common.{◌≡◌, ◌≢◌, ◌⊎◌, inl, inr, ◌+◌, ◌++◌, ℕ, List, [], ◌∷◌, length, append-nil, length-append, Option, None, Some, Result, Ok, Err, refl, sym, ap, subst, ◌∙◌, arith}
use Rattle.std.specs.Prelude.{take}
use Rattle.std.specs.Io.KnownBytes.{Appends}
use Rattle.std.proofs.KnownBytes.{Keeps-refl}
use Rattle.std.proofs.Math.Seq.{take-length}
use Rattle.git_objects.specs.Paths.{Bytes}
use Rattle.proj_io.specs.Counts.{Counts, Rose}
use Rattle.proj_io.specs.Stops.{OnlyAdds, adds_as}
use Rattle.proj_io.specs.Views.{SourceView, SinkView, KeeperView}
use Rattle.state_items.specs.Items.{Held, read_items}
use Rattle.state_items.specs.Changes.{NoPlan, Plan, held_after, plan_items, room_of}
use Rattle.repo_ground.specs.Changes.{GetsItems, IsStopOf, KeepsItems}
use Rattle.repo_ground.specs.Contents.{Contents}
use Rattle.proj_words.specs.Entries.{Entry, reply_text}
use Rattle.proj_words.specs.declared.outcome.Outcome.{Outcome}
use Rattle.proj_words.specs.declared.outcome.Outcome.TheVariants.{Done, OutOfMemory, ReadFault, WriteFault, StoreFault}
use Rattle.proj_cli.specs.Answers.{Got}
use Rattle.proj_commands.specs.Hands.{IsInHands}
use Rattle.proj_commands.specs.Makes.{IsGoodPlan, IsPlanned, IsStateOf, PlansFor, hands_of, step_in, IsCommandMade}
use Rattle.proj_commands.specs.Plans.{RecallLaw}
use Rattle.proj_cli.specs.Running.{HasTurn, IsBrokenOf, IsEntryAnswered, IsStateBehind, IsTurnOf, IsTurnStop}
use Rattle.proj_cli.specs.Sent.{IsReplied, IsSent}
use Rattle.proj_cli.specs.Turns.{Turn, asked_by, items_after, turn_case, turn_hands, turn_text}
use Rattle.proj_cli.proofs.Delivering.{after, before, got}
use Rattle.proj_commands.proofs.Refusing.{refusal-of}
use Rattle.proj_cli.proofs.TurnsMade.{GoesOn, broken_turn, done_turn, good-behind, plans-behind, refused-keeps, refused-state, refused_turn, reported-behind, state-behind, store-behind, turn-broken, turn-done, turn-failed, turn-refused}
use Rattle.proj_cli.proofs.Answering.{planned-output}

no-more : (items : List Bytes) (p : Plan) → p ≡ NoPlan → items ++ plan_items p ≡ items
no-more items p none = ap (λ (x : Plan). items ++ plan_items x) none ∙ append-nil items

module _ (law : RecallLaw) (items : List Bytes) (ts : List Turn) (e : Entry) (s : Contents) (b : IsStateBehind items ts s) (i j : SourceView) (o q : SinkView) where
  abbrev now : List Bytes
  now = items_after items ts

  -- ---- a reply that is written as far as the sink took it

  module _ (s' : Contents) (k l : KeeperView) where
    abbrev has-turn : (Is : Turn → Type 0) (t : Turn) → t.entry ≡ e → Is t → Got t.appended (before i j o q k l) (after i j o q k l) → HasTurn Is e (before i j o q k l) (after i j o q k l)
    has-turn Is t same is g = record { turn = t; entry = same; is = is; got = g }

    turn-answered : (t : Turn) → t.entry ≡ e → IsTurnOf items ts t → Got t.appended (before i j o q k l) (after i j o q k l) → IsStateBehind items (t ∷ ts) s'
        → (outcome : Outcome) → IsSent outcome (turn_text t) o q → IsEntryAnswered items ts e s' (before i j o q k l) (after i j o q k l) outcome
    turn-answered t same is g state Done sent = (has-turn (IsTurnOf items ts) t same is g, sent, state)
    turn-answered t same is g state WriteFault sent = (has-turn (IsTurnOf items ts) t same is g, sent)
    turn-answered t same is g state OutOfMemory sent = inr (sent.0, (has-turn (IsTurnOf items ts) t same is g, sent.1))
    turn-answered t same is g state _ sent = absurd sent

    -- a front of a reply is written, and all of it where the sink is at no fault
    began : (t : Turn) (outcome : Outcome) → IsSent outcome (turn_text t) o q → (n : ℕ) × Appends o.written q.written (take n (turn_text t))
    began t Done sent = (length (turn_text t), subst (Appends o.written q.written) (sym (take-length (turn_text t))) sent)
    began t WriteFault sent = sent
    began t OutOfMemory sent = sent.1
    began t _ sent = absurd sent

    unless-failed : (t : Turn) (outcome : Outcome) → IsSent outcome (turn_text t) o q → Counts o.faults q.faults (outcome ≡ WriteFault) → ¬ Rose o.faults q.faults → ¬ Rose o.refusals q.refusals
        → Appends o.written q.written (turn_text t)
    unless-failed t Done sent c f r = sent
    unless-failed t WriteFault sent c f r = absurd (f (c.rose refl))
    unless-failed t OutOfMemory sent c f r = absurd (r sent.0)
    unless-failed t _ sent c f r = absurd sent

    broken-answered : (t : Turn) → t.entry ≡ e → IsBrokenOf items ts t → Got t.appended (before i j o q k l) (after i j o q k l) → (outcome : Outcome) → IsSent outcome (turn_text t) o q
        → Counts o.faults q.faults (outcome ≡ WriteFault) → IsEntryAnswered items ts e s' (before i j o q k l) (after i j o q k l) StoreFault
    broken-answered t same is g outcome sent c = (has-turn (IsBrokenOf items ts) t same is g, began t outcome sent, unless-failed t outcome sent c)

  -- ---- by what the command made

  module _ (s' : Contents) (k l : KeeperView) (Adds : (List Bytes → Type 0) → Type 0) where
    pub made-answered : (report : Bytes) → IsCommandMade (asked_by e) e.input (items_after items ts) b.held s s' k l Adds (Ok report)
        → (outcome : Outcome) → IsSent outcome (reply_text Done report) o q → IsEntryAnswered items ts e s' (before i j o q k l) (after i j o q k l) outcome
    made-answered report w outcome sent =
        let planned = plans-behind items ts e s b s' k l Adds (Ok report) w in
        turn-answered s' k l (done_turn e report w.plan) refl
        (turn-done law items ts e b.held b.state.current.read (store-behind items ts e s b) w.plan (good-behind items ts e s b w.plan w.made.good) planned report
        (planned-output (IsInHands (turn_hands items ts ++ hands_of (turn_case now e))) (room_of now) (turn_case now e) w.plan report planned (reported-behind items ts e s b s' k l Adds (Ok report) w)))
        (got i j o q k l w.plan w.made.stored)
        (state-behind items ts e s b s' k l Adds (Ok report) w (done_turn e report w.plan) w.plan refl w.made.state)
        outcome sent

    pub refused-answered : (x : Outcome) → GoesOn x → IsCommandMade (asked_by e) e.input (items_after items ts) b.held s s' k l Adds (Err x)
        → (outcome : Outcome) → IsSent outcome (reply_text x []) o q → IsEntryAnswered items ts e s' (before i j o q k l) (after i j o q k l) outcome
    refused-answered x n w outcome sent =
        turn-answered s' k l (refused_turn e x) refl
        (turn-refused law items ts e b.held b.state.current.read (store-behind items ts e s b) x n
        (refusal-of (IsInHands (turn_hands items ts ++ hands_of (turn_case now e))) (step_in (room_of now) (turn_case now e)) x (reported-behind items ts e s b s' k l Adds (Err x) w)))
        (got i j o q k l NoPlan (refused-keeps x w.plan k l n w.made.stored))
        (state-behind items ts e s b s' k l Adds (Err x) w (refused_turn e x) NoPlan refl
        (subst (λ (xs : List Bytes). IsStateOf xs b.held s') (sym (append-nil now)) (refused-state now b.held s' w.plan x n w.made.state)))
        outcome sent

    pub broken-made : IsCommandMade (asked_by e) e.input (items_after items ts) b.held s s' k l Adds (Err StoreFault) → (outcome : Outcome) → IsSent outcome (reply_text StoreFault []) o q
        → Counts o.faults q.faults (outcome ≡ WriteFault) → IsEntryAnswered items ts e s' (before i j o q k l) (after i j o q k l) StoreFault
    broken-made w outcome sent c = by w.made.stored
      where
        by : KeepsItems k l ⊎ GetsItems (plan_items w.plan) k l → IsEntryAnswered items ts e s' (before i j o q k l) (after i j o q k l) StoreFault
        by (inl kept) =
            broken-answered s' k l (refused_turn e StoreFault) refl (turn-failed law items ts e b.held b.state.current.read (store-behind items ts e s b)) (got i j o q k l NoPlan kept) outcome sent c
        by (inr more) =
            broken-answered s' k l (broken_turn e w.plan) refl
            (turn-broken law items ts e b.held b.state.current.read (store-behind items ts e s b) w.plan (good-behind items ts e s b w.plan w.made.good) (plans-behind items ts e s b s' k l Adds (Err StoreFault) w))
            (got i j o q k l w.plan more) outcome sent c

-- where there was no memory, nothing was done
pub idle-answered : (items : List Bytes) (ts : List Turn) (e : Entry) (s' : Contents) (i j : SourceView) (o : SinkView) (k l : KeeperView) → KeepsItems k l
    → IsEntryAnswered items ts e s' (before i j o o k l) (after i j o o k l) OutOfMemory
idle-answered items ts e s' i j o k l kept = inl (Keeps-refl o.written, kept)

-- ---- numbers

number-got : (p : Plan) (k l : KeeperView) → GetsItems (plan_items p) k l → l.number ≡ k.number + length (plan_items p)
number-got p k l g =
    (got (record { left = None; faults = 0 }) (record { left = None; faults = 0 }) (record { written = None; faults = 0; refusals = 0 }) (record { written = None; faults = 0; refusals = 0 }) k l p g).0

-- the state and the store have as many items still
pub number-behind : (items : List Bytes) (h g : Held) (s s' : Contents) (p : Plan) (k l : KeeperView) → IsStateOf items h s → IsStateOf (items ++ plan_items p) g s' → GetsItems (plan_items p) k l → s.number ≡ k.number
    → s'.number ≡ l.number
number-behind items h g s s' p k l then now more same =
    let a = then.current.number in
    let c = now.current.number in
    let d = length-append items (plan_items p) in
    let f = number-got p k l more in
    omega (arith, a, c, d, f, same)

pub number-still : (items : List Bytes) (h g : Held) (s s' : Contents) (k l : KeeperView) → IsStateOf items h s → IsStateOf items g s' → KeepsItems k l → s.number ≡ k.number → s'.number ≡ l.number
number-still items h g s s' k l then now kept same = now.current.number ∙ sym then.current.number ∙ same ∙ sym kept.0

-- ---- by what was replied

module _ (o q : SinkView) (outcome : Outcome) where
  pub replied-other : (x : Outcome) → x ≢ OutOfMemory → x ≢ StoreFault → IsSent outcome (reply_text x []) o q → IsReplied (Err x) outcome o q
  replied-other OutOfMemory m f sent = absurd (m refl)
  replied-other StoreFault m f sent = absurd (f refl)
  replied-other x m f sent = sent

  none-stored : (report : Bytes) → outcome ≡ StoreFault → IsSent outcome report o q → ⊥
  none-stored report e sent = subst (λ (x : Outcome). IsSent x report o q) e sent

  no-memory-store : outcome ≡ OutOfMemory → outcome ≡ StoreFault → ⊥
  no-memory-store e f = let no : OutOfMemory ≡ StoreFault = sym e ∙ f in cc

  -- a fault of the store is the command's
  pub store-made : (result : Result Bytes Outcome) → IsReplied result outcome o q → outcome ≡ StoreFault → result ≡ Err StoreFault
  store-made (Ok report) sent e = absurd (none-stored (reply_text Done report) e sent)
  store-made (Err OutOfMemory) sent e = absurd (no-memory-store sent.0 e)
  store-made (Err StoreFault) sent e = refl
  store-made (Err x) sent e = absurd (none-stored (reply_text x []) e sent)

  store-kept : IsReplied (Err StoreFault) outcome o q → outcome ≡ StoreFault
  store-kept sent = sent.0

  pub store-told : (result : Result Bytes Outcome) → IsReplied result outcome o q → result ≡ Err StoreFault → outcome ≡ StoreFault
  store-told result sent e = store-kept (subst (λ (r : Result Bytes Outcome). IsReplied r outcome o q) e sent)

module _ (law : RecallLaw) (items : List Bytes) (ts : List Turn) (e : Entry) (s : Contents) (b : IsStateBehind items ts s) (i j : SourceView) (o q : SinkView) (s' : Contents) (k l : KeeperView)
    (Adds : (List Bytes → Type 0) → Type 0) (outcome : Outcome) where
  -- no command is refused as done
  never-done : IsCommandMade (asked_by e) e.input (items_after items ts) b.held s s' k l Adds (Err Done) → ⊥
  never-done w =
      refusal-of (IsInHands (turn_hands items ts ++ hands_of (turn_case (items_after items ts) e))) (step_in (room_of (items_after items ts)) (turn_case (items_after items ts) e)) Done
      (reported-behind items ts e s b s' k l Adds (Err Done) w)

  abbrev IsNoDevice : Result Bytes Outcome → Type 0
  IsNoDevice result = (result ≢ Err WriteFault) × (result ≢ Err ReadFault)

  refusal-replied : (x : Outcome) → IsCommandMade (asked_by e) e.input (items_after items ts) b.held s s' k l Adds (Err x) → IsNoDevice (Err x) → IsReplied (Err x) outcome o q
      → IsEntryAnswered items ts e s' (before i j o q k l) (after i j o q k l) outcome
  refusal-replied OutOfMemory w quiet sent =
      subst (IsEntryAnswered items ts e s' (before i j o q k l) (after i j o q k l)) (sym sent.0)
      (subst (λ (y : SinkView). IsEntryAnswered items ts e s' (before i j o y k l) (after i j o y k l) OutOfMemory) (sym sent.1) (idle-answered items ts e s' i j o k l w.made.stored))
  refusal-replied StoreFault w quiet sent =
      subst (IsEntryAnswered items ts e s' (before i j o q k l) (after i j o q k l)) (sym sent.0) (broken-made law items ts e s b i j o q s' k l Adds w sent.1.0 sent.1.1 sent.1.2)
  refusal-replied WriteFault w quiet sent = absurd (quiet.0 refl)
  refusal-replied ReadFault w quiet sent = absurd (quiet.1 refl)
  refusal-replied Done w quiet sent = absurd (never-done w)
  refusal-replied x w quiet sent = refused-answered law items ts e s b i j o q s' k l Adds x tt w outcome sent

  pub entry-replied : (result : Result Bytes Outcome) → IsCommandMade (asked_by e) e.input (items_after items ts) b.held s s' k l Adds result → IsNoDevice result → IsReplied result outcome o q
      → IsEntryAnswered items ts e s' (before i j o q k l) (after i j o q k l) outcome
  entry-replied (Ok report) w quiet sent = made-answered law items ts e s b i j o q s' k l Adds report w outcome sent
  entry-replied (Err x) w quiet sent = refusal-replied x w quiet sent

  -- where the batch goes on, the state and the store have as many items still
  number-refused : (x : Outcome) → IsCommandMade (asked_by e) e.input (items_after items ts) b.held s s' k l Adds (Err x) → IsNoDevice (Err x) → IsReplied (Err x) outcome o q → outcome ≡ Done → s.number ≡ k.number
      → s'.number ≡ l.number
  number-refused OutOfMemory w quiet sent done same = absurd (let none : OutOfMemory ≡ Done = sym sent.0 ∙ done in cc)
  number-refused StoreFault w quiet sent done same = absurd (let none : StoreFault ≡ Done = sym sent.0 ∙ done in cc)
  number-refused WriteFault w quiet sent done same = absurd (quiet.0 refl)
  number-refused ReadFault w quiet sent done same = absurd (quiet.1 refl)
  number-refused Done w quiet sent done same = absurd (never-done w)
  number-refused x w quiet sent done same =
      number-still (items_after items ts) b.held b.held s s' k l b.state (refused-state (items_after items ts) b.held s' w.plan x tt w.made.state) (refused-keeps x w.plan k l tt w.made.stored) same

  pub number-replied : (result : Result Bytes Outcome) → IsCommandMade (asked_by e) e.input (items_after items ts) b.held s s' k l Adds result → IsNoDevice result → IsReplied result outcome o q → outcome ≡ Done
      → s.number ≡ k.number → s'.number ≡ l.number
  number-replied (Ok report) w quiet sent done same = number-behind (items_after items ts) b.held (held_after b.held w.plan) s s' w.plan k l b.state w.made.state w.made.stored same
  number-replied (Err x) w quiet sent done same = number-refused x w quiet sent done same

-- ---- stops

module _ (law : RecallLaw) (items : List Bytes) (ts : List Turn) (e : Entry) (s : Contents) (b : IsStateBehind items ts s) (s' : Contents) (k l : KeeperView) (Adds : (List Bytes → Type 0) → Type 0) where
  abbrev there : List Bytes
  there = items_after items ts

  stop-done : (p : Plan) → ((g : Held) → read_items there ≡ Ok g → IsGoodPlan there g (room_of there) p) → IsPlanned (room_of there) (turn_case there e) p → (list : List Bytes) → list ≡ there ++ plan_items p
      → IsTurnStop items ts e list
  stop-done p good planned list is =
      inr (done_turn e planned.step.output p, refl, turn-done law items ts e b.held b.state.current.read (store-behind items ts e s b) p good planned planned.step.output refl, is)

  stop-more : (p : Plan) (result : Result Bytes Outcome) → ((g : Held) → read_items there ≡ Ok g → IsGoodPlan there g (room_of there) p) → PlansFor (room_of there) (turn_case there e) p result → (list : List Bytes)
      → list ≡ there ++ plan_items p → IsTurnStop items ts e list
  stop-more p (Ok report) good planned list is = stop-done p good planned list is
  stop-more p (Err StoreFault) good planned list is = stop-done p good planned list is
  stop-more p (Err _) good none list is = inl (is ∙ no-more there p none)

  turn-stop : (result : Result Bytes Outcome) → (w : IsCommandMade (asked_by e) e.input (items_after items ts) b.held s s' k l Adds result) → (o : Option (List Bytes)) → o ≡ Some (items_after items ts)
      → (list : List Bytes) → IsStopOf b.held s w.plan o list → IsTurnStop items ts e list
  turn-stop result w o told list stop = by (subst (λ (x : Option (List Bytes)). IsStopOf b.held s w.plan x list) told stop)
    where
      by : IsStopOf b.held s w.plan (Some there) list → IsTurnStop items ts e list
      by (inl was) = inl was
      by (inr more) = stop-more w.plan result (good-behind items ts e s b w.plan w.made.good) (plans-behind items ts e s b s' k l Adds result w) list more.1

pub turn-adds : RecallLaw → (items : List Bytes) (ts : List Turn) (e : Entry) (s : Contents) (b : IsStateBehind items ts s) (s' : Contents) (k l : KeeperView) (x y : ℕ) (past since : ℕ → List Bytes → Type 0) (result : Result Bytes Outcome)
    → IsCommandMade (asked_by e) e.input (items_after items ts) b.held s s' k l (OnlyAdds x y past since) result → k.items ≡ Some (items_after items ts)
    → OnlyAdds x y past since (IsTurnStop items ts e)
turn-adds law items ts e s b s' k l x y past since result w told =
    adds_as x y past since (IsStopOf b.held s w.plan k.items) (IsTurnStop items ts e) (turn-stop law items ts e s b s' k l (OnlyAdds x y past since) result w k.items told) w.stops
