-- What a stop may leave during a command.
use Rattle.std.proofs.Common.{◌≡◌, ◌≢◌, ◌⊎◌, inl, inr, ⊎_elim, ◌++◌, ℕ, List, [], append-nil, Option, Some, Result, Ok, Err, sym, ap, subst, ◌∙◌, arith, true≢false}
use Rattle.git_objects.specs.Paths.{Bytes}
use Rattle.proj_io.specs.Stops.{OnlyAdds, IsPresent, adds_as}
use Rattle.proj_io.specs.Views.{KeeperView}
use Rattle.state_items.specs.Items.{Held, read_items}
use Rattle.state_items.specs.Changes.{ChangePlan, KeepPlan, NoPlan, Plan, RulePlan, TagPlan, held_after, plan_items, room_of}
use Rattle.proj_words.specs.Outcomes.{is_plain}
use Rattle.proj_words.specs.Words.{Command}
use Rattle.proj_words.specs.declared.outcome.Outcome.{Outcome}
use Rattle.proj_words.specs.declared.outcome.Outcome.TheVariants.{OutOfMemory, StoreFault, Usage}
use Rattle.proj_cli.specs.Answers.{IsLonger}
use Rattle.proj_commands.specs.Cases.{Made, loaded}
use Rattle.proj_commands.specs.Steps.{case, cases, ArePlanned}
use Rattle.proj_commands.specs.Forms.{FormPlan, IsForm, IsFormMade, IsFormPlanned, IsFormStop}
use Rattle.proj_commands.specs.Makes.{IsGoodPlan, IsKeepPlanOf, recalled_line}
use Rattle.proj_commands.specs.Plans.{AreKept, RecallLaw}
use Rattle.proj_commands.specs.Inputs.{ForInput}
use Rattle.proj_commands.proofs.CasePlans.{of-project, recalled-plan}
use Rattle.proj_cli.specs.Runs.{MayLeave}
use Rattle.proj_cli.specs.Sent.{TakesMemory}
use Rattle.proj_cli.specs.Stopped.{IsLengthened, CommandLeaves}
use Rattle.proj_cli.proofs.Answering.{plan-allowed, plan-longer, plan-planned, step-done}

module _ (law : RecallLaw) (asked : Command) (items : List Bytes) (all : Bytes) where
  module _ (p : Plan) (w : IsFormPlanned (room_of items) (case asked (loaded items) all) p) (good : (h : Held) → read_items items ≡ Ok h → IsGoodPlan items h (room_of items) p) (list : List Bytes)
      (behind : list ≡ items ++ plan_items p) where
    lengthened : plan_items p ≢ [] → IsLengthened asked items all list
    lengthened says = record {
      plan = p;
      says = says;
      behind = behind;
      spelled = λ h read.
          subst (IsLonger asked items (plan_items p) h) (sym behind) (plan-longer asked items all p w good h read);
      allowed = plan-allowed (room_of items) (case asked (loaded items) all) p w.planned;
      done = λ kept. (
        w.planned.step,
        step-done law asked items all kept p w,
        subst (λ (s : Result Made Outcome). ArePlanned items (cases asked items all) s p) (step-done law asked items all kept p w) (plan-planned law asked items all kept p w),
      );
      kept = λ h holds. subst (λ (xs : List Bytes). AreKept xs (held_after h p)) (sym behind) ((good h holds.spelled).kept holds);
      recalled =
          of-project (case asked (loaded items) all) (λ h f n. IsKeepPlanOf h f n (room_of items) p × (w.planned.step.output ≡ recalled_line h f n)) (λ h f n. IsKeepPlanOf h f n (room_of items) p) (λ h f n x. x.0)
          (recalled-plan (room_of items) (case asked (loaded items) all) p w.planned);
    }

  one-more : (p : Plan) → IsFormPlanned (room_of items) (case asked (loaded items) all) p → ((h : Held) → read_items items ≡ Ok h → IsGoodPlan items h (room_of items) p) → (list : List Bytes)
      → list ≡ items ++ plan_items p → CommandLeaves asked items all list
  one-more NoPlan w good list e = inl (e ∙ append-nil items)
  one-more (ChangePlan objects refs) w good list e = inr (lengthened (ChangePlan objects refs) w good list e (λ g. cc))
  one-more (RulePlan n) w good list e = inr (lengthened (RulePlan n) w good list e (λ g. cc))
  one-more (KeepPlan n text es) w good list e = inr (lengthened (KeepPlan n text es) w good list e (λ g. cc))
  one-more (TagPlan objects refs tags) w good list e = inr (lengthened (TagPlan objects refs tags) w good list e (λ g. cc))

  none-more : (p : Plan) → p ≡ NoPlan → (list : List Bytes) → list ≡ items ++ plan_items p → CommandLeaves asked items all list
  none-more p n list e = inl (e ∙ ap (λ (x : Plan). items ++ plan_items x) n ∙ append-nil items)

  planned-leaves : (result : Result Bytes Outcome) (p : Plan) → FormPlan (room_of items) (case asked (loaded items) all) p result
      → ((h : Held) → read_items items ≡ Ok h → IsGoodPlan items h (room_of items) p) → (list : List Bytes) → list ≡ items ++ plan_items p → CommandLeaves asked items all list
  planned-leaves (Ok report) p w good list e = one-more p w good list e
  planned-leaves (Err StoreFault) p (inl n) good list e = none-more p n list e
  planned-leaves (Err StoreFault) p (inr w) good list e = one-more p w good list e
  planned-leaves (Err _) p n good list e = none-more p n list e

  form-leaves : (result : Result Bytes Outcome) (k l : KeeperView) (p : Plan) → IsFormMade (case asked (loaded items) all) items k l p result → (list : List Bytes) → IsFormStop items p list
      → CommandLeaves asked items all list
  form-leaves result k l p f list (inl e) = inl e
  form-leaves result k l p f list (inr e) = planned-leaves result p f.planned f.good list e

-- a form leaves what the command may leave
pub form-adds : RecallLaw → (asked : Command) (items : List Bytes) (left : Option Bytes) (k l : KeeperView) (result : Result Bytes Outcome) (a b : ℕ) (x y : ℕ → List Bytes → Type 0)
    → ForInput left (λ all. IsForm asked items all k l (OnlyAdds a b x y) result) → ForInput left (λ all. OnlyAdds a b x y (CommandLeaves asked items all))
form-adds law asked items left k l result a b x y f = record {
  all = f.all;
  told = f.told;
  says = adds_as a b x y (IsFormStop items f.says.plan) (CommandLeaves asked items f.all) (form-leaves law asked items f.all result k l f.says.plan f.says.made) f.says.stops;
}

-- ---- the input

-- what is said of an input says more
pub for-later : (left : Option Bytes) (Says Other : Bytes → Type 0) → ((all : Bytes) → Says all → Other all) → ForInput left Says → ForInput left Other
for-later left Says Other h given = record { all = given.all; told = given.told; says = h given.all given.says }

-- ---- a call

-- what it leaves at its beginning
pub still-there : (o : Option (List Bytes)) (items list : List Bytes) → o ≡ Some items → IsPresent o list → list ≡ items
still-there o items list told is = by (subst (λ (p : Option (List Bytes)). IsPresent p list) told is)
  where
    by : IsPresent (Some items) list → list ≡ items
    by same = same

-- and since then
pub since-began : (left : Option Bytes) (asked : Command) (items : List Bytes) (a b : ℕ) (x y : ℕ → List Bytes → Type 0) → ForInput left (λ all. OnlyAdds a b x y (MayLeave asked items all))
    → ((list : List Bytes) → x a list → list ≡ items) → ForInput left (λ all. ((list : List Bytes) → y a list → MayLeave asked items all list) × OnlyAdds a b x y (MayLeave asked items all))
since-began left asked items a b x y adds at_first = record {
  all = adds.all;
  told = adds.told;
  says = (λ list since. ⊎_elim (λ was. inl (at_first list was)) (λ new. new) (adds.says.each a list (omega arith) since), adds.says);
}

-- where the call doesn't answer a fault of the store, the command didn't
pub no-fault : (outcome result : Outcome) → (result ≡ outcome) ⊎ ((result ≡ OutOfMemory) × TakesMemory outcome) → result ≢ StoreFault → outcome ≢ StoreFault
no-fault outcome result finished apart e = ⊎_elim (λ same. apart (same ∙ e)) (λ none. true≢false (subst TakesMemory e none.1)) finished

-- the outcome of words without a form needs no memory for its text
pub usage-stays : (outcome result : Outcome) → (result ≡ outcome) ⊎ ((result ≡ OutOfMemory) × TakesMemory outcome) → outcome ≡ Usage → result ≡ Usage
usage-stays outcome result (inl same) is = same ∙ is
usage-stays outcome result (inr none) is = absurd (true≢false (sym (ap is_plain is) ∙ none.1))
