-- What is said of each form of the words: of a batch, of a trial, and of every other form as of a single command.
use Rattle.std.proofs.Common.{◌≡◌, ◌≢◌, ◌⊎◌, inl, inr, ◌≤◌, ℕ, true, List, Option, None, Some, Result, Ok, Err, IfSome, IsErr, refl, sym, ap, subst, ◌∙◌, arith, true≢false}
use Rattle.std.specs.Io.KnownBytes.{Keeps}
use Rattle.std.proofs.KnownBytes.{Keeps-refl}
use Rattle.git_objects.specs.Paths.{Bytes}
use Rattle.object_store.specs.Objects.{Object}
use Rattle.proj_io.specs.Stops.{OnlyAdds, adds_as}
use Rattle.proj_io.specs.Views.{SourceView, SinkView, KeeperView}
use Rattle.state_items.specs.Changes.{NoPlan}
use Rattle.proj_words.specs.Entries.{Entry}
use Rattle.proj_words.specs.Words.{Command, Batch, Trial}
use Rattle.proj_words.specs.Outcomes.{is_plain as has_plain_text}
use Rattle.proj_words.specs.declared.outcome.Outcome.{Outcome}
use Rattle.proj_words.specs.declared.outcome.Outcome.TheVariants.{Done, OutOfMemory, ReadFault, WriteFault, StoreFault}
use Rattle.proj_cli.specs.Answers.{Devices, IsCaused, IsCommandAnswer, IsOutcome, IsStepDelivered}
use Rattle.proj_cli.specs.Batches.{BatchLeaves, IsBatchAnswer, IsBatchBy, IsBatchComplete, IsEnded, IsUnbegun, begun_outcome}
use Rattle.proj_commands.specs.Cases.{Made, is_one}
use Rattle.proj_commands.specs.Hands.{IsInHands}
use Rattle.proj_commands.specs.Judging.{IsJudged}
use Rattle.proj_commands.specs.Makes.{IsRefusal, IsReported}
use Rattle.proj_cli.specs.Runs.{IsAnswer, IsComplete, MayLeave}
use Rattle.proj_cli.specs.Sent.{IsConcluded, TakesMemory}
use Rattle.proj_cli.specs.Stopped.{CommandLeaves}
use Rattle.proj_cli.specs.Trials.{IsTrialAnswer, IsTrialCollision, IsTrialComplete, trial_hands, trial_made}
use Rattle.proj_cli.specs.Turns.{Turn, begun}
use Rattle.proj_commands.specs.declared.judging.Judged.{Judged}
use Rattle.proj_commands.specs.declared.judging.Judged.TheVariants as judged
use Rattle.proj_cli.proofs.Delivering.{after, before, idle-step, refusal-outcome, sent-delivered, sent-outcome}
use Rattle.proj_commands.proofs.Forming.{keeps-self}
use Rattle.proj_cli.proofs.Joining.{command-complete, command-finished, not-kept, not-read, settled, step-memory}
use Rattle.proj_commands.proofs.Refusing.{refusal-of}
use Rattle.proj_commands.specs.Inputs.{ForInput}

-- ---- single commands

-- its answer
pub one-answer : (asked : Command) (b a : Devices) (outcome : Outcome) → is_one asked ≡ true → IsCommandAnswer asked b a outcome → IsAnswer asked b a outcome
one-answer Batch b a outcome one answer = absurd (true≢false (sym one))
one-answer (Trial n) b a outcome one answer = absurd (true≢false (sym one))
one-answer _ b a outcome one answer = answer

-- and what a stop leaves
one-leaves : (asked : Command) (items : List Bytes) (input : Bytes) (list : List Bytes) → is_one asked ≡ true → CommandLeaves asked items input list → MayLeave asked items input list
one-leaves Batch items input list one leaves = absurd (true≢false (sym one))
one-leaves (Trial n) items input list one leaves = absurd (true≢false (sym one))
one-leaves _ items input list one leaves = leaves

-- a command that is judged is one
pub judged-one : (asked : Command) (j : Judged) → IsJudged asked j → is_one asked ≡ true
judged-one asked (judged.Import force) w = ap is_one w
judged-one asked (judged.Project s) w = ap is_one w.asked_is
judged-one asked (judged.Push s) w = ap is_one w.asked_is
judged-one asked (judged.PushMerges s) w = ap is_one w.asked_is
judged-one asked (judged.Export s) w = ap is_one w.asked_is
judged-one asked (judged.ExportTags s) w = ap is_one w.asked_is
judged-one asked (judged.Name s) w = ap is_one w.asked_is
judged-one asked (judged.Rule r) w = ap is_one w
judged-one asked (judged.Ask q) w = ap is_one w.asked_is
judged-one asked (judged.Verify c) w = ap is_one w.asked_is
judged-one asked (judged.AsProject u s) w = ap is_one w.asked_is
judged-one asked (judged.AsPush u s) w = ap is_one w.asked_is
judged-one asked (judged.AsExport u s) w = ap is_one w.asked_is

module _ (left : Option Bytes) (items : List Bytes) (a b : ℕ) (x y : ℕ → List Bytes → Type 0) where
  pub one-adds : (asked : Command) → is_one asked ≡ true → ForInput left (λ all. OnlyAdds a b x y (CommandLeaves asked items all)) → ForInput left (λ all. OnlyAdds a b x y (MayLeave asked items all))
  one-adds asked one adds = record {
    all = adds.all;
    told = adds.told;
    says = adds_as a b x y (CommandLeaves asked items adds.all) (MayLeave asked items adds.all) (λ list leaves. one-leaves asked items adds.all list one leaves) adds.says;
  }

  -- what a stop during a batch leaves
  pub batch-adds : ForInput left (λ all. OnlyAdds a b x y (BatchLeaves items (begun items all))) → ForInput left (λ all. OnlyAdds a b x y (MayLeave Batch items all))
  batch-adds adds = record {
    all = adds.all;
    told = adds.told;
    says = adds_as a b x y (BatchLeaves items (begun items adds.all)) (MayLeave Batch items adds.all) (λ list leaves. inr leaves) adds.says;
  }

-- ---- trials

module _ (n : ℕ) (i : SourceView) (o q : SinkView) (k : KeeperView) where
  abbrev Hand : Object → Type 0
  Hand = IsInHands (trial_hands n)

  report-answer : (s : Result Made Outcome) (report : Bytes) (outcome : Outcome) → IsReported Hand s (Ok report) → IsConcluded (Ok report) o q outcome
      → IsOutcome Hand outcome s × IsStepDelivered (Trial n) s NoPlan (before i i o q k k) (after i i o q k k) outcome
  report-answer (Ok m) report outcome same c =
      let sent = subst (λ (x : Bytes). IsConcluded (Ok x) o q outcome) (sym same) c in
      (sent-outcome Hand m.output o q outcome m sent.sent, sent-delivered i i o q k k (Trial n) m.output NoPlan outcome sent.sent (keeps-self k))
  report-answer (Err e) report outcome none c = absurd none

  refusal-answer : (s : Result Made Outcome) (e outcome : Outcome) → IsReported Hand s (Err e) → outcome ≡ e → Keeps o.written q.written
      → IsOutcome Hand outcome s × IsStepDelivered (Trial n) s NoPlan (before i i o q k k) (after i i o q k k) outcome
  refusal-answer s e outcome reported is same =
      let refused = subst (λ (x : Outcome). IsRefusal Hand x s) (sym is) (refusal-of Hand s e reported) in
      (refusal-outcome Hand outcome s refused, idle-step i i o q k k (Trial n) NoPlan s Hand s outcome refused same (keeps-self k))

  -- a trial that has its report, or is refused, and what was written
  pub trial-answer : (result : Result Bytes Outcome) (outcome : Outcome) → IsReported Hand (trial_made n) result
      → (result ≢ Err ReadFault) × (result ≢ Err WriteFault) × (result ≢ Err StoreFault) → IsConcluded result o q outcome → (IsErr result → q ≡ o)
      → IsTrialAnswer n (before i i o q k k) (after i i o q k k) outcome
  trial-answer (Ok report) outcome reported early c same =
      let says = report-answer (trial_made n) report outcome reported c in
      record {
        cause = record {
          read = record { later = omega arith; rose = λ e. absurd (not-read outcome report o q c.sent e) };
          write = c.cause;
          keep = record { later = omega arith; rose = λ e. absurd (not-kept outcome report o q c.sent e) };
          memory = c.memory;
        };
        unread = not-read outcome report o q c.sent;
        unloaded = not-kept outcome report o q c.sent;
        unwritten = keeps-self k;
        allowed = says.0;
        delivered = says.1;
      }
  trial-answer (Err e) outcome reported early c same =
      let says = refusal-answer (trial_made n) e outcome reported c (subst (λ (x : SinkView). Keeps o.written x.written) (sym (same refl)) (Keeps-refl o.written)) in
      record {
        cause = record {
          read = record { later = omega arith; rose = λ g. absurd (early.0 (ap Err (sym c ∙ g))) };
          write = record {
            later = subst (λ (x : SinkView). o.faults ≤ x.faults) (sym (same refl)) (omega arith);
            rose = λ g. absurd (early.1 (ap Err (sym c ∙ g)));
          };
          keep = record { later = omega arith; rose = λ g. absurd (early.2 (ap Err (sym c ∙ g))) };
          memory = subst (λ (x : SinkView). o.refusals ≤ x.refusals) (sym (same refl)) (omega arith);
        };
        unread = λ g. early.0 (ap Err (sym c ∙ g));
        unloaded = λ g. early.2 (ap Err (sym c ∙ g));
        unwritten = keeps-self k;
        allowed = says.0;
        delivered = says.1;
      }

-- ---- the text of an outcome

-- where there is no memory for it
no-cause : (b a : Devices) (outcome : Outcome) → IsCaused b a outcome → IsCaused b a OutOfMemory
no-cause b a outcome cause = record {
  read = record { later = cause.read.later; rose = λ e. absurd (let no : ⊥ = cc in no) };
  write = record { later = cause.write.later; rose = λ e. absurd (let no : ⊥ = cc in no) };
  keep = record { later = cause.keep.later; rose = λ e. absurd (let no : ⊥ = cc in no) };
  memory = cause.memory;
}

-- None of the outcomes that end a batch behind its input has a text that takes memory.
ended-plain : (ts : List Turn) (last : Option Turn) (left : List Entry) (b a : Devices) (outcome : Outcome) → IsEnded ts last left b a outcome → has_plain_text outcome ≡ true
ended-plain ts None left b a Done h = refl
ended-plain ts None left b a OutOfMemory h = refl
ended-plain ts None left b a StoreFault h = refl
ended-plain ts None left b a ReadFault h = refl
ended-plain ts None left b a _ h = absurd h
ended-plain ts (Some last) left b a OutOfMemory h = refl
ended-plain ts (Some last) left b a WriteFault h = refl
ended-plain ts (Some last) left b a StoreFault h = refl
ended-plain ts (Some last) left b a _ h = absurd h

run-memory : (items : List Bytes) (r : Result (List Entry) Outcome) (b a : Devices) (outcome : Outcome) → TakesMemory outcome → IsBatchBy items r b a outcome → IsBatchBy items r b a OutOfMemory
run-memory items (Ok es) b a outcome t run = absurd (true≢false (sym (ended-plain run.turns run.last run.left b a outcome run.ended) ∙ t))
run-memory items (Err e) b a outcome t h = (inr (inl refl), h.1)

batch-memory : (b a : Devices) (outcome : Outcome) → TakesMemory outcome → IsBatchAnswer b a outcome → IsBatchAnswer b a OutOfMemory
batch-memory b a outcome t answer = record {
  cause = no-cause b a outcome answer.cause;
  judged = refl;
  taken = answer.taken;
  run = λ items told.
      let h = answer.run items told in record { input = h.input; told = h.told; run = run-memory items (begun items h.input) b a outcome t h.run };
}

trial-memory : (n : ℕ) (b a : Devices) (outcome : Outcome) → TakesMemory outcome → IsTrialAnswer n b a outcome → IsTrialAnswer n b a OutOfMemory
trial-memory n b a outcome t answer = record {
  cause = no-cause b a outcome answer.cause;
  unread = λ e. cc;
  unloaded = λ e. cc;
  unwritten = answer.unwritten;
  allowed = tt;
  delivered = step-memory (Trial n) b a (trial_made n) NoPlan outcome t answer.delivered;
}

-- the answer with the outcome that is told
abbrev IsFinished : Outcome → Outcome → Type 0
IsFinished outcome result = (result ≡ outcome) ⊎ ((result ≡ OutOfMemory) × TakesMemory outcome)

by-memory : (Is : Outcome → Type 0) (outcome result : Outcome) → (TakesMemory outcome → Is outcome → Is OutOfMemory) → IsFinished outcome result → Is outcome → Is result
by-memory Is outcome result memory (inl e) answer = subst Is (sym e) answer
by-memory Is outcome result memory (inr h) answer = subst Is (sym h.0) (memory h.1 answer)

pub finished : (asked : Command) (b a : Devices) (outcome result : Outcome) → IsFinished outcome result → IsAnswer asked b a outcome → IsAnswer asked b a result
finished Batch b a outcome result told answer = by-memory (IsBatchAnswer b a) outcome result (batch-memory b a outcome) told answer
finished (Trial n) b a outcome result told answer = by-memory (IsTrialAnswer n b a) outcome result (trial-memory n b a outcome) told answer
finished asked b a outcome result told answer = command-finished asked b a outcome result told answer

-- ---- where no device failed

ended-complete : (ts : List Turn) (last : Option Turn) (left : List Entry) (b a : Devices) (outcome : Outcome) → IsEnded ts last left b a outcome
    → outcome ≢ ReadFault → outcome ≢ WriteFault → outcome ≢ StoreFault → (outcome ≡ OutOfMemory) ⊎ (outcome ≡ Done)
ended-complete ts None left b a Done h r w k = inr refl
ended-complete ts None left b a OutOfMemory h r w k = inl refl
ended-complete ts None left b a ReadFault h r w k = absurd (r refl)
ended-complete ts None left b a StoreFault h r w k = absurd (k refl)
ended-complete ts None left b a _ h r w k = absurd h
ended-complete ts (Some last) left b a OutOfMemory h r w k = inl refl
ended-complete ts (Some last) left b a WriteFault h r w k = absurd (w refl)
ended-complete ts (Some last) left b a StoreFault h r w k = absurd (k refl)
ended-complete ts (Some last) left b a _ h r w k = absurd h

unbegun-complete : (e outcome : Outcome) → IsUnbegun e outcome → outcome ≢ ReadFault → outcome ≢ StoreFault → (outcome ≡ OutOfMemory) ⊎ (outcome ≡ e)
unbegun-complete e outcome (inl same) r k = inr same
unbegun-complete e outcome (inr (inl none)) r k = inl none
unbegun-complete e outcome (inr (inr (inl read))) r k = absurd (r read)
unbegun-complete e outcome (inr (inr (inr keep))) r k = absurd (k keep)

run-complete : (items : List Bytes) (x : Result (List Entry) Outcome) (b a : Devices) (outcome : Outcome) → IsBatchBy items x b a outcome
    → outcome ≢ ReadFault → outcome ≢ WriteFault → outcome ≢ StoreFault → (outcome ≡ OutOfMemory) ⊎ (outcome ≡ begun_outcome x)
run-complete items (Ok es) b a outcome run r w k = ended-complete run.turns run.last run.left b a outcome run.ended r w k
run-complete items (Err e) b a outcome h r w k = unbegun-complete e outcome h.0 r k

batch-complete : (b a : Devices) (outcome : Outcome) → IsBatchAnswer b a outcome → IsBatchComplete b a outcome
batch-complete b a outcome answer items input these told none =
    let h = answer.run items these in
    let same : h.input ≡ input = subst (λ (left : Option Bytes). IfSome left (λ x. h.input ≡ x)) told h.told in
    subst (λ (x : Bytes). (outcome ≡ OutOfMemory) ⊎ (outcome ≡ begun_outcome (begun items x))) same
    (run-complete items (begun items h.input) b a outcome h.run (λ e. none.read (answer.cause.read.rose e)) (λ e. none.write (answer.cause.write.rose e)) (λ e. none.keep (answer.cause.keep.rose e)))

trial-complete : (n : ℕ) (b a : Devices) (outcome : Outcome) → IsTrialAnswer n b a outcome → IsTrialComplete n b a outcome
trial-complete n b a outcome answer none =
    settled (IsInHands (trial_hands n)) (trial_made n) (IsTrialCollision n) (λ m t. t) outcome answer.allowed answer.unread (λ e. none.write (answer.cause.write.rose e)) answer.unloaded

pub complete : (asked : Command) (b a : Devices) (outcome : Outcome) → IsAnswer asked b a outcome → IsComplete asked b a outcome
complete Batch b a outcome answer = batch-complete b a outcome answer
complete (Trial n) b a outcome answer = trial-complete n b a outcome answer
complete asked b a outcome answer = command-complete asked b a outcome answer
