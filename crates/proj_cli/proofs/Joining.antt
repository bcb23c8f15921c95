-- What a single command made, what came of writing it, and the text of the outcome are together the answer.
use Rattle.std.proofs.Common.{◌≡◌, ◌≢◌, ◌⊎◌, inl, inr, ◌≤◌, List, [], Option, Some, Result, Ok, Err, IfSome, IsErr, refl, sym, ap, subst, ◌∙◌, arith, false, true≢false}
use Rattle.std.specs.Prelude.{IsOk}
use Rattle.std.proofs.KnownBytes.{Keeps-refl}
use Rattle.git_objects.specs.Paths.{Bytes}
use Rattle.git_objects.specs.declared.name.Name.{Name as NameOf}
use Rattle.object_store.specs.Objects.{Object}
use Rattle.proj_io.specs.Views.{SourceView, SinkView, KeeperView}
use Rattle.state_items.specs.Items.{Held, read_items}
use Rattle.state_items.specs.Changes.{Plan, plan_items, room_of, NoPlan}
use Rattle.state_items.specs.Hands.{IsTwice}
use Rattle.proj_words.specs.Words.{Command, As, Import, Project, Push, PushMerges, Export, ExportTags, Name, Batch, Trial, Rule, Ask, Verify, Unknown}
use Rattle.proj_words.specs.declared.outcome.Outcome.{Outcome}
use Rattle.proj_words.specs.declared.outcome.Outcome.TheVariants.{Done, OutOfMemory, Collision, ReadFault, WriteFault, StoreFault}
use Rattle.proj_cli.specs.Answers.{AreItems, Devices, IsCommandAnswer, IsCollision, IsCommandComplete, IsDelivered, IsOutcome, IsRecalled, IsSafe, IsStepDelivered, HasAnswer, outcome_of, IsRecalledDone}
use Rattle.proj_commands.specs.Cases.{Case, ProjectCase, IsJudgedRightly, Made, loaded}
use Rattle.proj_commands.specs.Steps.{case, step}
use Rattle.proj_commands.specs.Forms.{IsForm, IsMade, FormPlan, IsFormMade, IsFormPlanned}
use Rattle.proj_commands.specs.Hands.{IsInHands}
use Rattle.proj_commands.specs.Makes.{hands_of, step_in, IsKeepPlanOf, IsPlanned, IsRefusal, IsStored, OfProject, recalled_line}
use Rattle.proj_commands.specs.Plans.{RecallLaw, recalls}
use Rattle.proj_cli.specs.Sent.{IsConcluded, IsSent, TakesMemory}
use Rattle.proj_cli.proofs.Answering.{form-allowed, form-answered, form-safe, planned-output, still}
use Rattle.proj_commands.proofs.CasePlans.{IsFrom, from, for-project, of-project, recalled-plan}
use Rattle.proj_cli.proofs.Delivering.{after, before, fault-delivered, idle-delivered, sent-delivered}
use Rattle.proj_commands.proofs.Refusing.{refusal-of}
use Rattle.proj_commands.specs.Inputs.{ForInput}
use Rattle.repo_ground.specs.Changes.{GetsItems, KeepsItems}
use Rattle.filter_text.specs.Filters.{Filter}

-- ---- outcomes of reports that are written

pub not-read : (outcome : Outcome) (report : Bytes) (o q : SinkView) → IsSent outcome report o q → outcome ≢ ReadFault
not-read Done report o q h = λ e. cc
not-read WriteFault report o q h = λ e. cc
not-read OutOfMemory report o q h = λ e. cc
not-read _ report o q h = absurd h

pub not-kept : (outcome : Outcome) (report : Bytes) (o q : SinkView) → IsSent outcome report o q → outcome ≢ StoreFault
not-kept Done report o q h = λ e. cc
not-kept WriteFault report o q h = λ e. cc
not-kept OutOfMemory report o q h = λ e. cc
not-kept _ report o q h = absurd h

-- no refusal of words or of a filter
not-verdict : (asked : Command) (outcome : Outcome) (report : Bytes) (o q : SinkView) → IsSent outcome report o q → IsJudgedRightly asked outcome
not-verdict asked Done report o q h = λ e. absurd (true≢false (sym e))
not-verdict asked WriteFault report o q h = λ e. absurd (true≢false (sym e))
not-verdict asked OutOfMemory report o q h = λ e. absurd (true≢false (sym e))
not-verdict asked _ report o q h = absurd h

-- ---- projections, whatever is kept

-- a form that takes nothing that is kept is none
not-recalling : (asked : Command) (items : List Bytes) (Says : Held → Filter → Bytes → Type 0) → recalls asked ≡ false → OfProject (case asked (loaded items) []) Says
not-recalling asked items Says none = by (case asked (loaded items) []) (λ c e. from asked items [] c e)
  where
    by : (r : Result Case Outcome) → ((c : Case) → r ≡ Ok c → IsFrom asked items c) → OfProject r Says
    by (Ok (ProjectCase h f n)) of = let w = of (ProjectCase h f n) refl in absurd (true≢false (sym w.takes_kept ∙ none))
    by _ of = tt

-- its case is that of every input
any-input : (asked : Command) (items : List Bytes) (all : Bytes) (Says : Held → Filter → Bytes → Type 0) → OfProject (case asked (loaded items) all) Says → OfProject (case asked (loaded items) []) Says
any-input (Project r t) items all Says w = w
any-input (As u (Project r t)) items all Says w = w
any-input (As u (Push x y)) items all Says w = not-recalling (As u (Push x y)) items Says refl
any-input (As u (Export x y)) items all Says w = not-recalling (As u (Export x y)) items Says refl
any-input (As u _) items all Says w = tt
any-input (Import force) items all Says w = not-recalling (Import force) items Says refl
any-input (Export x y) items all Says w = not-recalling (Export x y) items Says refl
any-input (ExportTags x y) items all Says w = not-recalling (ExportTags x y) items Says refl
any-input (Push x y) items all Says w = not-recalling (Push x y) items Says refl
any-input (PushMerges x y) items all Says w = not-recalling (PushMerges x y) items Says refl
any-input (Name x y) items all Says w = not-recalling (Name x y) items Says refl
any-input (Rule n) items all Says w = not-recalling (Rule n) items Says refl
any-input (Ask q) items all Says w = not-recalling (Ask q) items Says refl
any-input (Verify x y z) items all Says w = not-recalling (Verify x y z) items Says refl
any-input Batch items all Says w = not-recalling Batch items Says refl
any-input (Trial n) items all Says w = not-recalling (Trial n) items Says refl
any-input Unknown items all Says w = not-recalling Unknown items Says refl

module _ (asked : Command) (items : List Bytes) (r : Result Case Outcome) (i j : SourceView) (o : SinkView) (k l : KeeperView) (p : Plan) where
  abbrev Kept : IsPlanned (room_of items) r p → Held → Filter → Bytes → Type 0
  Kept w h f n = IsKeepPlanOf h f n (room_of items) p × (w.step.output ≡ recalled_line h f n)

  abbrev Recalled : SinkView → Outcome → Type 0
  Recalled q outcome = OfProject r (IsRecalledDone asked items (before i j o q k l) (after i j o q k l) outcome)

  sent-recalled : (q : SinkView) (report : Bytes) (outcome : Outcome) → IsFormMade r items k l p (Ok report) → IsSent outcome report o q → Recalled q outcome
  sent-recalled q report outcome w sent =
      of-project r (Kept w.planned.planned) (IsRecalledDone asked items (before i j o q k l) (after i j o q k l) outcome)
      (λ h f n x. record {
        plan = p;
        planned = inr x.0;
        done = λ _. x.0;
        delivered =
            subst (λ (line : Bytes). IsDelivered asked line (plan_items p) (before i j o q k l) (after i j o q k l) outcome)
            (sym (planned-output (IsInHands (hands_of r)) (room_of items) r p report w.planned.planned w.reported) ∙ x.1)
            (sent-delivered i j o q k l asked report p outcome sent w.stored);
      })
      (recalled-plan (room_of items) r p w.planned.planned)

  idle-recalled : (e : Outcome) → IsRefusal (IsInHands (hands_of r)) e (step_in (room_of items) r) → KeepsItems k l → Recalled o e
  idle-recalled e h g =
      for-project r (IsRecalledDone asked items (before i j o o k l) (after i j o o k l) e)
      (λ x f n. record {
        plan = NoPlan;
        planned = inl refl;
        done = λ is. absurd (subst (λ (y : Outcome). IsRefusal (IsInHands (hands_of r)) y (step_in (room_of items) r)) is h);
        delivered = idle-delivered i j o o k l asked (recalled_line x f n) [] (IsInHands (hands_of r)) (step_in (room_of items) r) e h (Keeps-refl o.written) g;
      })

  fault-recalled : IsFormPlanned (room_of items) r p → KeepsItems k l ⊎ GetsItems (plan_items p) k l → Recalled o StoreFault
  fault-recalled w g =
      of-project r (Kept w.planned) (IsRecalledDone asked items (before i j o o k l) (after i j o o k l) StoreFault)
      (λ h f n x. record {
        plan = p;
        planned = inr x.0;
        done = λ is. absurd (let no : ⊥ = cc in no);
        delivered = fault-delivered i j o o k l asked (recalled_line h f n) p (Keeps-refl o.written) g;
      })
      (recalled-plan (room_of items) r p w.planned)

  refused-recalled : (e : Outcome) → IsRefusal (IsInHands (hands_of r)) e (step_in (room_of items) r) → FormPlan (room_of items) r p (Err e) → IsStored (Err e) p k l → Recalled o e
  refused-recalled StoreFault h (inl n) g = idle-recalled StoreFault h (still k l StoreFault p n g)
  refused-recalled StoreFault h (inr w) g = fault-recalled w g
  refused-recalled e h n g = idle-recalled e h (still k l e p n g)

-- ---- reports

module _ (law : RecallLaw) (asked : Command) (i j : SourceView) (o q : SinkView) (k l : KeeperView) (Adds : (List Bytes → Type 0) → Type 0) where
  -- the report was written as far as it went, or the command was refused, and nothing was written
  abbrev Ends : Result Bytes Outcome → Outcome → Type 0
  Ends result outcome = ((report : Bytes) → result ≡ Ok report → IsSent outcome report o q) × ((e : Outcome) → result ≡ Err e → (outcome ≡ e) × (q ≡ o))

  ends : (result : Result Bytes Outcome) (outcome : Outcome) → IsConcluded result o q outcome → (IsErr result → q ≡ o) → Ends result outcome
  ends (Ok report) outcome c same = (λ x e. let g : report ≡ x = cc in subst (λ (y : Bytes). IsSent outcome y o q) g c.sent, λ x e. absurd (let no : ⊥ = cc in no))
  ends (Err e) outcome c same = (λ x g. absurd (let no : ⊥ = cc in no), λ x g. let d : e ≡ x = cc in (c ∙ d, same refl))

  recalled-made : (result : Result Bytes Outcome) (outcome : Outcome) → IsMade asked i j k l Adds result → Ends result outcome → IsRecalled asked (before i j o q k l) (after i j o q k l) outcome
  recalled-made result outcome made ended items told =
      any-input asked items form.all (IsRecalledDone asked items (before i j o q k l) (after i j o q k l) outcome) (by result ended form.says)
    where
      form : ForInput i.left (λ all. IsForm asked items all k l Adds result)
      form = made.formed items (λ _. told)

      by : (x : Result Bytes Outcome) → Ends x outcome → IsForm asked items form.all k l Adds x
          → OfProject (case asked (loaded items) form.all) (IsRecalledDone asked items (before i j o q k l) (after i j o q k l) outcome)
      by (Ok report) end f = sent-recalled asked items (case asked (loaded items) form.all) i j o k l f.plan q report outcome f.made (end.0 report refl)
      by (Err e) end f =
          let refused = end.1 e refl in
          subst (λ (x : Outcome). OfProject (case asked (loaded items) form.all) (IsRecalledDone asked items (before i j o q k l) (after i j o q k l) x)) (sym refused.0)
          (subst (λ (y : SinkView). OfProject (case asked (loaded items) form.all) (IsRecalledDone asked items (before i j o y k l) (after i j o y k l) e)) (sym refused.1)
          (refused-recalled asked items (case asked (loaded items) form.all) i j o k l f.plan e
          (refusal-of (IsInHands (hands_of (case asked (loaded items) form.all))) (step_in (room_of items) (case asked (loaded items) form.all)) e f.made.reported)
          f.made.planned f.made.stored))

  module _ (result : Result Bytes Outcome) (outcome : Outcome) (made : IsMade asked i j k l Adds result) (ended : Ends result outcome) where
    answered : (items : List Bytes) → AreItems asked (before i j o q k l) items → HasAnswer asked items (before i j o q k l) (after i j o q k l) outcome
    answered items these =
        let form = made.formed items these in
        record {
          input = form.all;
          told = form.told;
          allowed =
              form-allowed (IsInHands (hands_of (case asked (loaded items) form.all))) (room_of items) (case asked (loaded items) form.all) o q result outcome form.says.made.reported ended.0 ended.1;
          answered = λ kept. form-answered law asked items form.all kept i j o k l q form.says.plan result outcome form.says.made ended.0 ended.1;
        }

    safe : (items : List Bytes) (h : Held) → k.items ≡ Some items → read_items items ≡ Ok h → IsSafe asked items h (before i j o q k l) (after i j o q k l) outcome
    safe items h told read =
        let form = made.formed items (λ _. told) in
        form-safe asked items form.all i j o k l told h read q form.says.plan result outcome form.says.made ended.0 ended.1

  pub concluded : (result : Result Bytes Outcome) (outcome : Outcome) → IsMade asked i j k l Adds result → IsConcluded result o q outcome → (IsErr result → q ≡ o)
      → IsCommandAnswer asked (before i j o q k l) (after i j o q k l) outcome
  concluded (Ok report) outcome made c same = record {
    cause = record {
      read = record { later = made.read.later; rose = λ e. absurd (not-read outcome report o q c.sent e) };
      write = c.cause;
      keep = record { later = made.keep.later; rose = λ e. absurd (not-kept outcome report o q c.sent e) };
      memory = c.memory;
    };
    judged = not-verdict asked outcome report o q c.sent;
    unread = λ _ e. not-read outcome report o q c.sent e;
    unloaded = λ _ e. not-kept outcome report o q c.sent e;
    unwritten = made.unwritten;
    answered = answered (Ok report) outcome made (ends (Ok report) outcome c same);
    safe = safe (Ok report) outcome made (ends (Ok report) outcome c same);
    recalled = recalled-made (Ok report) outcome made (ends (Ok report) outcome c same);
    taken = made.taken;
    caseless = made.caseless;
  }
  concluded (Err e) outcome made c same = record {
    cause = record {
      read = record { later = made.read.later; rose = λ g. made.read.rose (ap Err (sym c ∙ g)) };
      write = record {
        later = subst (λ (x : SinkView). o.faults ≤ x.faults) (sym (same refl)) (omega arith);
        rose = λ g. absurd (made.early (ap Err (sym c ∙ g)));
      };
      keep = record { later = made.keep.later; rose = λ g. made.keep.rose (ap Err (sym c ∙ g)) };
      memory = subst (λ (x : SinkView). o.refusals ≤ x.refusals) (sym (same refl)) (omega arith);
    };
    judged = subst (IsJudgedRightly asked) (sym c) (made.judged e refl);
    unread = λ no g. made.unread no (ap Err (sym c ∙ g));
    unloaded = λ no g. made.unloaded no (ap Err (sym c ∙ g));
    unwritten = made.unwritten;
    answered = answered (Err e) outcome made (ends (Err e) outcome c same);
    safe = safe (Err e) outcome made (ends (Err e) outcome c same);
    recalled = recalled-made (Err e) outcome made (ends (Err e) outcome c same);
    taken = made.taken;
    caseless = made.caseless;
  }

-- ---- the text of an outcome

module _ (asked : Command) (b a : Devices) where
  pub idle-memory : (outcome : Outcome) (report : Bytes) (more : List Bytes) → TakesMemory outcome → IsDelivered asked report more b a outcome → IsDelivered asked report more b a OutOfMemory
  idle-memory Done report more t h = absurd (true≢false t)
  idle-memory OutOfMemory report more t h = absurd (true≢false t)
  idle-memory WriteFault report more t h = absurd (true≢false t)
  idle-memory StoreFault report more t h = absurd (true≢false t)
  idle-memory _ report more t h = inl h

  pub step-memory : (s : Result Made Outcome) (p : Plan) (outcome : Outcome) → TakesMemory outcome → IsStepDelivered asked s p b a outcome → IsStepDelivered asked s p b a OutOfMemory
  step-memory (Ok m) p outcome t h = idle-memory outcome m.output (plan_items p) t h
  step-memory (Err e) p outcome t h = h

  without-memory : (outcome : Outcome) → TakesMemory outcome → IsCommandAnswer asked b a outcome → IsCommandAnswer asked b a OutOfMemory
  without-memory outcome t answer = record {
    cause = record {
      read = record { later = answer.cause.read.later; rose = λ e. absurd (let no : ⊥ = cc in no) };
      write = record { later = answer.cause.write.later; rose = λ e. absurd (let no : ⊥ = cc in no) };
      keep = record { later = answer.cause.keep.later; rose = λ e. absurd (let no : ⊥ = cc in no) };
      memory = answer.cause.memory;
    };
    judged = λ e. absurd (true≢false (sym e));
    unread = λ no e. cc;
    unloaded = λ no e. cc;
    unwritten = answer.unwritten;
    answered = λ items these.
        let r = answer.answered items these in
        record {
          input = r.input;
          told = r.told;
          allowed = tt;
          answered = λ kept.
              let a = r.answered kept in
              record {
                plan = a.plan;
                planned = a.planned;
                delivered = step-memory (step asked items r.input) a.plan outcome t a.delivered;
                lawful = λ e. absurd (let no : ⊥ = cc in no);
                follows = a.follows;
              };
        };
    safe = λ items h told read.
        let s = answer.safe items h told read in
        record { report = s.report; more = s.more; delivered = idle-memory outcome s.report s.more t s.delivered; spelled = s.spelled };
    recalled = λ items told.
        of-project (case asked (loaded items) []) (IsRecalledDone asked items b a outcome) (IsRecalledDone asked items b a OutOfMemory)
        (λ h f n w. record {
          plan = w.plan;
          planned = w.planned;
          done = λ is. absurd (let no : ⊥ = cc in no);
          delivered = idle-memory outcome (recalled_line h f n) (plan_items w.plan) t w.delivered;
        })
        (answer.recalled items told);
    taken = answer.taken;
    caseless = answer.caseless;
  }

  pub command-finished : (outcome result : Outcome) → (result ≡ outcome) ⊎ ((result ≡ OutOfMemory) × TakesMemory outcome) → IsCommandAnswer asked b a outcome → IsCommandAnswer asked b a result
  command-finished outcome result (inl e) answer = subst (IsCommandAnswer asked b a) (sym e) answer
  command-finished outcome result (inr h) answer = subst (IsCommandAnswer asked b a) (sym h.0) (without-memory outcome h.1 answer)

-- ---- where no device failed

err-outcome : (e : Outcome) (r : Result Made Outcome) → r ≡ Err e → e ≡ outcome_of r
err-outcome e r g = sym (ap outcome_of g)

ok-outcome : (r : Result Made Outcome) → IsOk r → Done ≡ outcome_of r
ok-outcome (Ok m) h = refl
ok-outcome (Err e) h = absurd (let no : ⊥ = cc in no)

-- the outcome of such a result, where no device is at fault
pub settled : (H : Object → Type 0) (s : Result Made Outcome) (Collides : Outcome → Type 0) → ((n : NameOf) → IsTwice H n.0 → Collides (Collision n)) → (outcome : Outcome) → IsOutcome H outcome s
    → outcome ≢ ReadFault → outcome ≢ WriteFault → outcome ≢ StoreFault → (outcome ≡ OutOfMemory) ⊎ (outcome ≡ outcome_of s) ⊎ Collides outcome
settled H s Collides twice Done h r w k = inr (inl (ok-outcome s h))
settled H s Collides twice OutOfMemory h r w k = inl refl
settled H s Collides twice ReadFault h r w k = absurd (r refl)
settled H s Collides twice WriteFault h r w k = absurd (w refl)
settled H s Collides twice StoreFault h r w k = absurd (k refl)
settled H s Collides twice (Collision n) (inl e) r w k = inr (inl (err-outcome (Collision n) s e))
settled H s Collides twice (Collision n) (inr t) r w k = inr (inr (twice n t))
settled H s Collides twice e h r w k = inr (inl (err-outcome e s h))

pub command-complete : (asked : Command) (b a : Devices) (outcome : Outcome) → IsCommandAnswer asked b a outcome → IsCommandComplete asked b a outcome
command-complete asked b a outcome answer items input these told none =
    let q = answer.answered items these in
    let same : q.input ≡ input = subst (λ (left : Option Bytes). IfSome left (λ x. q.input ≡ x)) told q.told in
    subst (λ (x : Bytes). (outcome ≡ OutOfMemory) ⊎ (outcome ≡ outcome_of (step asked items x)) ⊎ IsCollision asked items x outcome) same
    (settled (IsInHands (hands_of (case asked (loaded items) q.input))) (step asked items q.input) (IsCollision asked items q.input) (λ n t. t) outcome q.allowed
    (λ e. none.read (answer.cause.read.rose e)) (λ e. none.write (answer.cause.write.rose e)) (λ e. none.keep (answer.cause.keep.rose e)))
