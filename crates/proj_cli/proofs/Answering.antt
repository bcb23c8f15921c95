-- What is made of a form, and what came of writing its report, is an answer for these items and this input.
use Rattle.std.proofs.Common.{◌≡◌, ◌≢◌, ◌⊎◌, inl, inr, ◌++◌, List, [], ◌∷◌, All, Some, Result, Ok, Err, IfSome, refl, sym, ap, subst, ◌∙◌}
use Rattle.std.specs.Prelude.{IsOk}
use Rattle.std.specs.Option.{option_to_list}
use Rattle.std.specs.Result.{result_ok}
use Rattle.std.proofs.KnownBytes.{Keeps-refl}
use Rattle.git_objects.specs.Paths.{Bytes}
use Rattle.git_objects.specs.Results.{◌>>=◌}
use Rattle.object_store.specs.Objects.{Object}
use Rattle.proj_io.specs.Views.{SourceView, SinkView, KeeperView}
use Rattle.state_items.specs.Items.{Held, read_items}
use Rattle.state_items.specs.Changes.{NoPlan, Plan, Room, plan_items, room_of}
use Rattle.repo_ground.specs.Changes.{GetsItems, KeepsItems}
use Rattle.proj_words.specs.Words.{Command}
use Rattle.proj_words.specs.declared.outcome.Outcome.{Outcome}
use Rattle.proj_words.specs.declared.outcome.Outcome.TheVariants.{Done, StoreFault}
use Rattle.proj_cli.specs.Answers.{Follows, IsAnswered, IsDelivered, IsLonger, IsOutcome, IsSafe, IsStepDelivered}
use Rattle.proj_commands.specs.Cases.{Case, ProjectCase, Made, loaded}
use Rattle.proj_commands.specs.Steps.{case, made, IsLawful, IsPlanOf, cases, step, ArePlanned}
use Rattle.proj_commands.specs.Forms.{FormPlan, IsFormMade, IsFormPlanned}
use Rattle.proj_commands.specs.Hands.{IsInHands}
use Rattle.proj_commands.specs.Makes.{IsGoodPlan, IsPlanned, IsRefusal, IsReported, IsStored, hands_of, recalled_made, step_in}
use Rattle.proj_commands.specs.Plans.{HoldWhatTheyShould, RecallLaw}
use Rattle.proj_cli.specs.Sent.{IsSent}
use Rattle.proj_commands.proofs.CasePlans.{all-one, from, kept-plan, lawful-plan, own-planned, own_plan, recalled-made, stays-plan}
use Rattle.proj_cli.proofs.Delivering.{after, before, done-outcome, fault-delivered, got-follows, got-if, idle-delivered, idle-step, kept-follows, kept-if, longer, refusal-outcome, sent-delivered, sent-outcome}
use Rattle.proj_commands.proofs.Refusing.{refusal-of}

-- ---- a refusal of the step is one of the command, also where what is kept isn't taken

one-outcome : (H : Object → Type 0) (e : Outcome) (room : Room) (c : Case) → IsOutcome H e (recalled_made room c) → IsOutcome H e (made room c)
one-outcome H e room (ProjectCase h f n) a = done-outcome H e _ _ a
one-outcome H e room _ a = a

pub refused-outcome : (H : Object → Type 0) (e : Outcome) (room : Room) (r : Result Case Outcome) → IsOutcome H e (step_in room r) → IsOutcome H e (r >>= made room)
refused-outcome H e room (Ok c) a = one-outcome H e room c a
refused-outcome H e room (Err x) a = a

-- the step of a plan is done
pub plan-allowed : (room : Room) (r : Result Case Outcome) (p : Plan) → IsPlanned room r p → IsOk (r >>= made room)
plan-allowed room r p w =
    refused-outcome (λ (x : Object). ⊥) Done room r (subst (λ (s : Result Made Outcome). IsOk s) (sym (ap (step_in room) w.came_up ∙ w.done)) refl)

-- what came of writing the report has an outcome of the step
pub form-allowed : (H : Object → Type 0) (room : Room) (r : Result Case Outcome) (o q : SinkView) (result : Result Bytes Outcome) (outcome : Outcome) → IsReported H (step_in room r) result
    → ((report : Bytes) → result ≡ Ok report → IsSent outcome report o q) → ((e : Outcome) → result ≡ Err e → (outcome ≡ e) × (q ≡ o)) → IsOutcome H outcome (r >>= made room)
form-allowed H room r o q (Ok report) outcome told sent refused = refused-outcome H outcome room r (by (step_in room r) told)
  where
    by : (s : Result Made Outcome) → IsReported H s (Ok report) → IsOutcome H outcome s
    by (Ok m) w = sent-outcome H report o q outcome m (sent report refl)
    by (Err e) w = absurd w
form-allowed H room r o q (Err e) outcome told sent refused =
    subst (λ (x : Outcome). IsOutcome H x (r >>= made room)) (sym (refused e refl).0)
    (refused-outcome H e room r (refusal-outcome H e (step_in room r) (refusal-of H (step_in room r) e told)))

own-of : (items : List Bytes) (room : Room) (r : Result Case Outcome) → ArePlanned items (option_to_list (result_ok r)) (r >>= made room) (own_plan (r >>= made room))
own-of items room (Ok c) = own-planned items room c
own-of items room (Err e) = tt

all-none : {A : Type 0} (P : A → Type 0) (outcome : Outcome) (xs : List A) → outcome ≢ Done → outcome ≡ Done → All P xs
all-none P outcome xs n e = absurd (n e)

refusal-done : (H : Object → Type 0) (e : Outcome) (s : Result Made Outcome) → IsRefusal H e s → e ≢ Done
refusal-done H e s h g = subst (λ (x : Outcome). IsRefusal H x s) g h

-- ---- a plan that comes of its case

module _ (law : RecallLaw) (asked : Command) (items : List Bytes) (all : Bytes) (kept : HoldWhatTheyShould asked items) (p : Plan)
    (w : IsFormPlanned (room_of items) (case asked (loaded items) all) p) where
  came : Case
  came = w.planned.case

  pub step-done : step asked items all ≡ Ok w.planned.step
  step-done =
      ap (λ (r : Result Case Outcome). r >>= made (room_of items)) w.planned.came_up
      ∙ sym (recalled-made law asked items kept (room_of items) w.planned.case (from asked items all w.planned.case w.planned.came_up) w.store)
      ∙ w.planned.done

  one-case : w.planned.case ∷ [] ≡ cases asked items all
  one-case = sym (ap (λ (r : Result Case Outcome). option_to_list (result_ok r)) w.planned.came_up)

  pub plan-planned : ArePlanned items (cases asked items all) (step asked items all) p
  plan-planned =
      subst (λ (s : Result Made Outcome). ArePlanned items (cases asked items all) s p) (sym step-done)
      (subst (All (λ (c : Case). IsPlanOf items c w.planned.step p)) one-case
      (all-one (λ c. IsPlanOf items c w.planned.step p) w.planned.case
      (kept-plan law asked items kept w.planned.case w.planned.step p (from asked items all w.planned.case w.planned.came_up) w.store w.planned.planned)))

  pub plan-lawful : All (IsLawful items p) (cases asked items all)
  plan-lawful = subst (All (IsLawful items p)) one-case (all-one (IsLawful items p) w.planned.case (lawful-plan items w.planned.case w.planned.step p w.planned.planned))

pub plan-longer : (asked : Command) (items : List Bytes) (all : Bytes) (p : Plan) → IsFormPlanned (room_of items) (case asked (loaded items) all) p
    → ((h : Held) → read_items items ≡ Ok h → IsGoodPlan items h (room_of items) p) → (h : Held) → read_items items ≡ Ok h → IsLonger asked items (plan_items p) h (items ++ plan_items p)
plan-longer asked items all p w good h read =
    longer items p good asked h read
    (λ no. stays-plan asked items (room_of items) w.planned.case w.planned.step p (from asked items all w.planned.case w.planned.came_up) w.planned.done w.planned.planned no h)

-- the report of a plan's step
pub planned-output : (H : Object → Type 0) (room : Room) (r : Result Case Outcome) (p : Plan) (report : Bytes) (w : IsPlanned room r p) → IsReported H (step_in room r) (Ok report) → w.step.output ≡ report
planned-output H room r p report w told = subst (λ (s : Result Made Outcome). IsReported H s (Ok report)) (ap (step_in room) w.came_up ∙ w.done) told

-- where nothing is planned, the store has what it had
pub still : (k l : KeeperView) (e : Outcome) (p : Plan) → p ≡ NoPlan → IsStored (Err e) p k l → KeepsItems k l
still k l e p n g = by e (subst (λ (x : Plan). IsStored (Err e) x k l) n g)
  where
    by : (x : Outcome) → IsStored (Err x) NoPlan k l → KeepsItems k l
    by StoreFault (inl s) = s
    by StoreFault (inr s) = s
    by _ s = s

-- ---- answers

module _ (law : RecallLaw) (asked : Command) (items : List Bytes) (all : Bytes) (kept : HoldWhatTheyShould asked items) (i j : SourceView) (o : SinkView) (k l : KeeperView) where
  hands : Object → Type 0
  hands = IsInHands (hands_of (case asked (loaded items) all))

  -- after a refusal nothing was done
  idle-answer : (q : SinkView) (e : Outcome) → q ≡ o → IsRefusal (IsInHands (hands_of (case asked (loaded items) all))) e (step_in (room_of items) (case asked (loaded items) all)) → KeepsItems k l
      → IsAnswered asked items all (before i j o q k l) (after i j o q k l) e
  idle-answer q e same h g = subst (λ (x : SinkView). IsAnswered asked items all (before i j o x k l) (after i j o x k l) e) (sym same) (record {
    plan = own_plan (step asked items all);
    planned = own-of items (room_of items) (case asked (loaded items) all);
    delivered =
        idle-step i j o o k l asked (own_plan (step asked items all)) (step asked items all) (IsInHands (hands_of (case asked (loaded items) all))) (step_in (room_of items) (case asked (loaded items) all)) e h (Keeps-refl o.written) g;
    lawful = all-none (IsLawful items (own_plan (step asked items all))) e (cases asked items all) (refusal-done (IsInHands (hands_of (case asked (loaded items) all))) e (step_in (room_of items) (case asked (loaded items) all)) h);
    follows = λ told. kept-if items k l (own_plan (step asked items all)) told (Follows items (own_plan (step asked items all))) (λ h kept. inl refl) g;
  })

  -- the store failed, and may have the plan's item
  fault-answer : (q : SinkView) (p : Plan) → q ≡ o → IsFormPlanned (room_of items) (case asked (loaded items) all) p → ((h : Held) → read_items items ≡ Ok h → IsGoodPlan items h (room_of items) p)
      → KeepsItems k l ⊎ GetsItems (plan_items p) k l → IsAnswered asked items all (before i j o q k l) (after i j o q k l) StoreFault
  fault-answer q p same w good g = subst (λ (x : SinkView). IsAnswered asked items all (before i j o x k l) (after i j o x k l) StoreFault) (sym same) (record {
    plan = p;
    planned = plan-planned law asked items all kept p w;
    delivered =
        subst (λ (s : Result Made Outcome). IsStepDelivered asked s p (before i j o o k l) (after i j o o k l) StoreFault) (sym (step-done law asked items all kept p w))
        (fault-delivered i j o o k l asked w.planned.step.output p (Keeps-refl o.written) g);
    lawful = all-none (IsLawful items p) StoreFault (cases asked items all) (λ e. cc);
    follows = λ told. follows told g;
  })
    where
      follows : k.items ≡ Some items → KeepsItems k l ⊎ GetsItems (plan_items p) k l → IfSome l.items (Follows items p)
      follows told (inl x) = kept-if items k l p told (Follows items p) (kept-follows items p good) x
      follows told (inr x) = got-if items k l p told (Follows items p) (got-follows items p good) x

  -- the report was written as far as the sink took it
  sent-answer : (q : SinkView) (p : Plan) (report : Bytes) (outcome : Outcome) → IsFormMade (case asked (loaded items) all) items k l p (Ok report) → IsSent outcome report o q
      → IsAnswered asked items all (before i j o q k l) (after i j o q k l) outcome
  sent-answer q p report outcome f sent = record {
    plan = p;
    planned = plan-planned law asked items all kept p f.planned;
    delivered =
        subst (λ (s : Result Made Outcome). IsStepDelivered asked s p (before i j o q k l) (after i j o q k l) outcome) (sym done)
        (subst (λ (x : Bytes). IsDelivered asked x (plan_items p) (before i j o q k l) (after i j o q k l) outcome) (sym output) (sent-delivered i j o q k l asked report p outcome sent f.stored));
    lawful = λ e. plan-lawful law asked items all kept p f.planned;
    follows = λ told. got-if items k l p told (Follows items p) (got-follows items p f.good) f.stored;
  }
    where
      done : step asked items all ≡ Ok f.planned.planned.step
      done = step-done law asked items all kept p f.planned

      came : step_in (room_of items) (case asked (loaded items) all) ≡ Ok f.planned.planned.step
      came = ap (step_in (room_of items)) f.planned.planned.came_up ∙ f.planned.planned.done

      output : f.planned.planned.step.output ≡ report
      output = subst (λ (s : Result Made Outcome). IsReported (IsInHands (hands_of (case asked (loaded items) all))) s (Ok report)) came f.reported

  refused-answer : (q : SinkView) (p : Plan) (e : Outcome) → q ≡ o → IsRefusal (IsInHands (hands_of (case asked (loaded items) all))) e (step_in (room_of items) (case asked (loaded items) all))
      → FormPlan (room_of items) (case asked (loaded items) all) p (Err e) → ((h : Held) → read_items items ≡ Ok h → IsGoodPlan items h (room_of items) p) → IsStored (Err e) p k l
      → IsAnswered asked items all (before i j o q k l) (after i j o q k l) e
  refused-answer q p StoreFault same h (inl n) good g = idle-answer q StoreFault same h (still k l StoreFault p n g)
  refused-answer q p StoreFault same h (inr w) good g = fault-answer q p same w good g
  refused-answer q p e same h n good g = idle-answer q e same h (still k l e p n g)

  pub form-answered : (q : SinkView) (p : Plan) (result : Result Bytes Outcome) (outcome : Outcome) → IsFormMade (case asked (loaded items) all) items k l p result
      → ((report : Bytes) → result ≡ Ok report → IsSent outcome report o q) → ((e : Outcome) → result ≡ Err e → (outcome ≡ e) × (q ≡ o))
      → IsAnswered asked items all (before i j o q k l) (after i j o q k l) outcome
  form-answered q p (Ok report) outcome f sent refused = sent-answer q p report outcome f (sent report refl)
  form-answered q p (Err e) outcome f sent refused =
      let r = refused e refl in
      subst (IsAnswered asked items all (before i j o q k l) (after i j o q k l)) (sym r.0)
      (refused-answer q p e r.1 (refusal-of (IsInHands (hands_of (case asked (loaded items) all))) (step_in (room_of items) (case asked (loaded items) all)) e f.reported) f.planned f.good f.stored)

-- ---- whatever is kept

module _ (asked : Command) (items : List Bytes) (all : Bytes) (i j : SourceView) (o : SinkView) (k l : KeeperView) (told : k.items ≡ Some items) (h : Held) (read : read_items items ≡ Ok h) where
  idle-safe : (q : SinkView) (e : Outcome) → q ≡ o → (H : Object → Type 0) (s : Result Made Outcome) → IsRefusal H e s → KeepsItems k l
      → IsSafe asked items h (before i j o q k l) (after i j o q k l) e
  idle-safe q e same H s r g = subst (λ (x : SinkView). IsSafe asked items h (before i j o x k l) (after i j o x k l) e) (sym same) (record {
    report = [];
    more = [];
    delivered = idle-delivered i j o o k l asked [] [] H s e r (Keeps-refl o.written) g;
    spelled = kept-if items k l NoPlan told (λ now. (now ≡ items) ⊎ IsLonger asked items [] h now) (inl refl) g;
  })

  spelled : (p : Plan) → IsFormPlanned (room_of items) (case asked (loaded items) all) p → ((g : Held) → read_items items ≡ Ok g → IsGoodPlan items g (room_of items) p)
      → KeepsItems k l ⊎ GetsItems (plan_items p) k l → IfSome l.items (λ now. (now ≡ items) ⊎ IsLonger asked items (plan_items p) h now)
  spelled p w good (inl g) = kept-if items k l p told (λ now. (now ≡ items) ⊎ IsLonger asked items (plan_items p) h now) (inl refl) g
  spelled p w good (inr g) = got-if items k l p told (λ now. (now ≡ items) ⊎ IsLonger asked items (plan_items p) h now) (inr (plan-longer asked items all p w good h read)) g

  fault-safe : (q : SinkView) (p : Plan) → q ≡ o → IsFormPlanned (room_of items) (case asked (loaded items) all) p → ((g : Held) → read_items items ≡ Ok g → IsGoodPlan items g (room_of items) p)
      → KeepsItems k l ⊎ GetsItems (plan_items p) k l → IsSafe asked items h (before i j o q k l) (after i j o q k l) StoreFault
  fault-safe q p same w good g = subst (λ (x : SinkView). IsSafe asked items h (before i j o x k l) (after i j o x k l) StoreFault) (sym same) (record {
    report = [];
    more = plan_items p;
    delivered = fault-delivered i j o o k l asked [] p (Keeps-refl o.written) g;
    spelled = spelled p w good g;
  })

  sent-safe : (q : SinkView) (p : Plan) (report : Bytes) (outcome : Outcome) → IsFormMade (case asked (loaded items) all) items k l p (Ok report) → IsSent outcome report o q
      → IsSafe asked items h (before i j o q k l) (after i j o q k l) outcome
  sent-safe q p report outcome f sent = record {
    report = report;
    more = plan_items p;
    delivered = sent-delivered i j o q k l asked report p outcome sent f.stored;
    spelled = spelled p f.planned f.good (inr f.stored);
  }

  refused-safe : (q : SinkView) (p : Plan) (e : Outcome) → q ≡ o → IsRefusal (IsInHands (hands_of (case asked (loaded items) all))) e (step_in (room_of items) (case asked (loaded items) all))
      → FormPlan (room_of items) (case asked (loaded items) all) p (Err e) → ((g : Held) → read_items items ≡ Ok g → IsGoodPlan items g (room_of items) p) → IsStored (Err e) p k l
      → IsSafe asked items h (before i j o q k l) (after i j o q k l) e
  refused-safe q p StoreFault same r (inl n) good g =
      idle-safe q StoreFault same (IsInHands (hands_of (case asked (loaded items) all))) (step_in (room_of items) (case asked (loaded items) all)) r (still k l StoreFault p n g)
  refused-safe q p StoreFault same r (inr w) good g = fault-safe q p same w good g
  refused-safe q p e same r n good g =
      idle-safe q e same (IsInHands (hands_of (case asked (loaded items) all))) (step_in (room_of items) (case asked (loaded items) all)) r (still k l e p n g)

  pub form-safe : (q : SinkView) (p : Plan) (result : Result Bytes Outcome) (outcome : Outcome) → IsFormMade (case asked (loaded items) all) items k l p result
      → ((report : Bytes) → result ≡ Ok report → IsSent outcome report o q) → ((e : Outcome) → result ≡ Err e → (outcome ≡ e) × (q ≡ o))
      → IsSafe asked items h (before i j o q k l) (after i j o q k l) outcome
  form-safe q p (Ok report) outcome f sent refused = sent-safe q p report outcome f (sent report refl)
  form-safe q p (Err e) outcome f sent refused =
      let r = refused e refl in
      subst (IsSafe asked items h (before i j o q k l) (after i j o q k l)) (sym r.0)
      (refused-safe q p e r.1 (refusal-of (IsInHands (hands_of (case asked (loaded items) all))) (step_in (room_of items) (case asked (loaded items) all)) e f.reported) f.planned f.good f.stored)
