-- What is said of a journal, said of the disk that it stands on.
use Rattle.std.proofs.Common.{◌≡◌, ◌≢◌, ◌≤◌, ℕ, true, false, List, [], length, None, Option, Some, IfSome, Result, Ok, Err, IsErr, sym, subst, arith}
use Rattle.git_objects.specs.Paths.{Bytes}
use Rattle.proj_io.specs.Counts.{Counts}
use Rattle.proj_io.specs.Views.{SourceView, SinkView, KeeperView}
use Rattle.proj_disk.specs.Disks.{DiskView}
use Rattle.proj_journal.specs.Journals.{items_of}
use Rattle.state_items.specs.Changes.{NoPlan, Plan, plan_items}
use Rattle.proj_words.specs.Entries.{Entry}
use Rattle.proj_words.specs.Words.{Batch, Command, Trial, Unknown, loads}
use Rattle.proj_words.specs.Outcomes.{code_of, text_of}
use Rattle.proj_words.specs.declared.outcome.Outcome.{Outcome}
use Rattle.proj_words.specs.declared.outcome.Outcome.TheVariants.{Done, OutOfMemory, ReadFault, StoreFault, Usage, WriteFault}
use Rattle.proj_cli.specs.Answers.{Devices, GetsText, HasAnswer, IsCaused, IsCommandAnswer, IsDelivered, IsStepDelivered, IsRecalledDone}
use Rattle.proj_cli.specs.Batches.{IsBatchAnswer, IsBatchBy, IsEnded}
use Rattle.proj_commands.specs.Cases.{Case, Made, is_one, loaded, verdict}
use Rattle.proj_commands.specs.Steps.{case, step}
use Rattle.proj_commands.specs.Makes.{OfProject, recalled_line}
use Rattle.proj_commands.proofs.CasePlans.{of-project}
use Rattle.proj_cli.specs.Runs.{IsAnswer}
use Rattle.proj_cli.specs.Served.{HasList, IsOnlyOpened, IsRan, IsSteady, Seen, over_disk}
use Rattle.proj_cli.specs.Trials.{IsTrialAnswer, trial_made}
use Rattle.proj_cli.specs.Turns.{Turn, begun}
use Rattle.proj_cli.proofs.Delivering.{after, before}
use Rattle.proj_cli.proofs.Dispatching.{complete}

-- ---- the count of faults at entry may be an earlier one

abbrev earlier : ℕ → KeeperView → KeeperView
earlier f k = record k { faults = f }

pub rose-before : (f g h : ℕ) (Answered : Type 0) → f ≤ g → Counts g h Answered → Counts f h Answered
rose-before f g h Answered le counts = record { later = omega (arith, le, counts.later); rose = λ e. omega (arith, le, counts.rose e) }

module _ (f : ℕ) (i j : SourceView) (o q : SinkView) (k l : KeeperView) where
  delivered-earlier : (asked : Command) (report : Bytes) (more : List Bytes) (outcome : Outcome) → IsDelivered asked report more (before i j o q k l) (after i j o q k l) outcome
      → IsDelivered asked report more (before i j o q (earlier f k) l) (after i j o q k l) outcome
  delivered-earlier asked report more Done h = h
  delivered-earlier asked report more WriteFault h = h
  delivered-earlier asked report more OutOfMemory h = h
  delivered-earlier asked report more StoreFault h = h
  delivered-earlier asked report more _ h = h

  step-earlier : (asked : Command) (s : Result Made Outcome) (p : Plan) (outcome : Outcome) → IsStepDelivered asked s p (before i j o q k l) (after i j o q k l) outcome
      → IsStepDelivered asked s p (before i j o q (earlier f k) l) (after i j o q k l) outcome
  step-earlier asked (Ok m) p outcome h = delivered-earlier asked m.output (plan_items p) outcome h
  step-earlier asked (Err e) p outcome h = h

  recalled-earlier : (asked : Command) (items : List Bytes) (outcome : Outcome) (r : Result Case Outcome) → OfProject r (IsRecalledDone asked items (before i j o q k l) (after i j o q k l) outcome)
      → OfProject r (IsRecalledDone asked items (before i j o q (earlier f k) l) (after i j o q k l) outcome)
  recalled-earlier asked items outcome r =
      of-project r (IsRecalledDone asked items (before i j o q k l) (after i j o q k l) outcome) (IsRecalledDone asked items (before i j o q (earlier f k) l) (after i j o q k l) outcome)
      (λ h x n w. record { plan = w.plan; planned = w.planned; done = w.done; delivered = delivered-earlier asked (recalled_line h x n) (plan_items w.plan) outcome w.delivered })

  has-earlier : (asked : Command) (items : List Bytes) (outcome : Outcome) → HasAnswer asked items (before i j o q k l) (after i j o q k l) outcome
      → HasAnswer asked items (before i j o q (earlier f k) l) (after i j o q k l) outcome
  has-earlier asked items outcome h = record {
    input = h.input;
    told = h.told;
    allowed = h.allowed;
    answered = λ kept.
        let a = h.answered kept in
        record { plan = a.plan; planned = a.planned; delivered = step-earlier asked (step asked items h.input) a.plan outcome a.delivered; lawful = a.lawful; follows = a.follows };
  }

  cause-earlier : (outcome : Outcome) → f ≤ k.faults → IsCaused (before i j o q k l) (after i j o q k l) outcome → IsCaused (before i j o q (earlier f k) l) (after i j o q k l) outcome
  cause-earlier outcome le cause = record { read = cause.read; write = cause.write; keep = rose-before f k.faults l.faults (outcome ≡ StoreFault) le cause.keep; memory = cause.memory }

  command-earlier : (asked : Command) (outcome : Outcome) → f ≤ k.faults → IsCommandAnswer asked (before i j o q k l) (after i j o q k l) outcome
      → IsCommandAnswer asked (before i j o q (earlier f k) l) (after i j o q k l) outcome
  command-earlier asked outcome le answer = record {
    cause = cause-earlier outcome le answer.cause;
    judged = answer.judged;
    unread = answer.unread;
    unloaded = answer.unloaded;
    unwritten = answer.unwritten;
    answered = λ items these. has-earlier asked items outcome (answer.answered items these);
    safe = λ items h told read.
        let s = answer.safe items h told read in record { report = s.report; more = s.more; delivered = delivered-earlier asked s.report s.more outcome s.delivered; spelled = s.spelled };
    taken = answer.taken;
    caseless = answer.caseless;
    recalled = λ items told. recalled-earlier asked items outcome (case asked (loaded items) []) (answer.recalled items told);
  }

  ended-earlier : (ts : List Turn) (last : Option Turn) (left : List Entry) (outcome : Outcome) → IsEnded ts last left (before i j o q k l) (after i j o q k l) outcome
      → IsEnded ts last left (before i j o q (earlier f k) l) (after i j o q k l) outcome
  ended-earlier ts None left Done h = h
  ended-earlier ts None left OutOfMemory h = h
  ended-earlier ts None left ReadFault h = h
  ended-earlier ts None left StoreFault h = h
  ended-earlier ts None left _ h = absurd h
  ended-earlier ts (Some last) left OutOfMemory h = h
  ended-earlier ts (Some last) left WriteFault h = h
  ended-earlier ts (Some last) left StoreFault h = h
  ended-earlier ts (Some last) left _ h = absurd h

  run-earlier : (items : List Bytes) (r : Result (List Entry) Outcome) (outcome : Outcome) → IsBatchBy items r (before i j o q k l) (after i j o q k l) outcome
      → IsBatchBy items r (before i j o q (earlier f k) l) (after i j o q k l) outcome
  run-earlier items (Ok es) outcome run = record {
    turns = run.turns;
    last = run.last;
    left = run.left;
    front = run.front;
    ended = ended-earlier run.turns run.last run.left outcome run.ended;
    got = run.got;
    safe = run.safe;
    in_turn = run.in_turn;
  }
  run-earlier items (Err e) outcome h = h

  batch-earlier : (outcome : Outcome) → f ≤ k.faults → IsBatchAnswer (before i j o q k l) (after i j o q k l) outcome
      → IsBatchAnswer (before i j o q (earlier f k) l) (after i j o q k l) outcome
  batch-earlier outcome le answer = record {
    cause = cause-earlier outcome le answer.cause;
    judged = answer.judged;
    taken = answer.taken;
    run = λ items told.
        let h = answer.run items told in record { input = h.input; told = h.told; run = run-earlier items (begun items h.input) outcome h.run };
  }

  trial-earlier : (n : ℕ) (outcome : Outcome) → f ≤ k.faults → IsTrialAnswer n (before i j o q k l) (after i j o q k l) outcome
      → IsTrialAnswer n (before i j o q (earlier f k) l) (after i j o q k l) outcome
  trial-earlier n outcome le answer = record {
    cause = cause-earlier outcome le answer.cause;
    unread = answer.unread;
    unloaded = answer.unloaded;
    unwritten = answer.unwritten;
    allowed = answer.allowed;
    delivered = step-earlier (Trial n) (trial_made n) NoPlan outcome answer.delivered;
  }

  answer-earlier : (asked : Command) (outcome : Outcome) → f ≤ k.faults → IsAnswer asked (before i j o q k l) (after i j o q k l) outcome
      → IsAnswer asked (before i j o q (earlier f k) l) (after i j o q k l) outcome
  answer-earlier Batch outcome le answer = batch-earlier outcome le answer
  answer-earlier (Trial n) outcome le answer = trial-earlier n outcome le answer
  answer-earlier asked outcome le answer = command-earlier asked outcome le answer

-- ---- a call over a journal, as one on its disk

-- the disk at entry, under the journal then, and at the end; how often it has failed; and how many items there are
module _ (asked : Command) (i j : SourceView) (o p : SinkView) (e f : SinkView) (entry opened end : Option DiskView) (faults faults_then faults_now number number_now : ℕ) (outcome : Outcome)
    (same : items_of opened ≡ items_of entry) where
  abbrev seen-before : Seen
  seen-before = record { input = i; out = o; err = e; content = entry; faults = faults }

  abbrev seen-after : Seen
  seen-after = record { input = j; out = p; err = f; content = end; faults = faults_now }

  abbrev journal-then : Devices
  journal-then = record { input = i; out = o; store = record { items = items_of opened; number = number; faults = faults_then } }

  answer-on : faults ≤ faults_then → IsAnswer asked journal-then (over_disk seen-after number_now) outcome
      → IsAnswer asked (over_disk seen-before number) (over_disk seen-after number_now) outcome
  answer-on le answer =
      subst (λ (items : Option (List Bytes)). IsAnswer asked (record { input = i; out = o; store = record { items = items; number = number; faults = faults } }) (over_disk seen-after number_now) outcome) same
      (answer-earlier faults i j o p (record { items = items_of opened; number = number; faults = faults_then }) (record { items = items_of end; number = number_now; faults = faults_now }) asked outcome le answer)

  pub ran_on : (exit : ℕ) → exit ≡ code_of outcome → HasList entry → IsOnlyOpened entry opened → faults ≤ faults_then
      → IfSome (items_of opened) (λ all. length all ≡ number) → IfSome (items_of end) (λ all. length all ≡ number_now)
      → IsAnswer asked journal-then (over_disk seen-after number_now) outcome
      → (loads asked ≡ false → end ≡ opened)
      → (is_one asked ≡ true → IsErr (verdict asked) → end ≡ opened)
      → (asked ≡ Unknown → outcome ≡ Usage)
      → GetsText e f (text_of outcome) → (outcome ≢ StoreFault → IfSome end IsSteady) → IsRan asked seen-before seen-after exit
  ran_on exit status list fresh le counted counted_now answer unloaded unjudged idle text settled = record {
    outcome = outcome;
    status = status;
    list = list;
    number = number;
    number_now = number_now;
    counted = subst (λ (items : Option (List Bytes)). IfSome items (λ all. length all ≡ number)) same counted;
    counted_now = counted_now;
    answer = answer-on le answer;
    complete = complete asked (over_disk seen-before number) (over_disk seen-after number_now) outcome (answer-on le answer);
    unloaded = λ no_load. subst (IsOnlyOpened entry) (sym (unloaded no_load)) fresh;
    unjudged = λ one refused. subst (IsOnlyOpened entry) (sym (unjudged one refused)) fresh;
    idle = idle;
    text = text;
    settled = settled;
  }
