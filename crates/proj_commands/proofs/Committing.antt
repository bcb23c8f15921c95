-- What is made of a case whose plan is committed.
use Rattle.std.proofs.Common.{◌≡◌, ℕ, List, ◌++◌, Option, None, Some, Result, Ok, Err, inl, inr, ⊎_elim, refl, sym, ap, subst, ◌∙◌}
use Rattle.git_objects.specs.Paths.{Bytes}
use Rattle.git_objects.specs.Results.{◌>>=◌}
use Rattle.git_objects.specs.declared.quantity.Quantity.{Quantity}
use Rattle.object_store.specs.Growth.{IsGrownBy}
use Rattle.object_store.specs.Objects.{Object}
use Rattle.projection_ground.specs.Grounds.{IsGround}
use Rattle.proj_io.specs.Items.{Stays}
use Rattle.proj_io.specs.Stops.{IsPresent, OnlyAdds, adds_as}
use Rattle.proj_io.specs.Views.{KeeperView}
use Rattle.state_items.specs.Appending.{IsAddition}
use Rattle.state_items.specs.Changes.{NoPlan, Plan, Room, held_after, passed, plan_items}
use Rattle.state_items.specs.Items.{Held}
use Rattle.state_items.proofs.Kepts.{kept-law}
use Rattle.state_items.proofs.ReadObjects.{ok-same}
use Rattle.repo_ground.specs.Changes.{Appends, IsAppended, IsRefusal as IsRefusedBy, IsRefused, IsStopOf, KeepsItems}
use Rattle.repo_ground.specs.Contents.{Contents, room_in}
use Rattle.repo_ground.specs.declared.commit.CommitError.{CommitError}
use Rattle.repo_ground.specs.declared.commit.CommitError.TheVariants.{StoreFault, Limit, OutOfMemory}
use Rattle.proj_words.specs.declared.outcome.Outcome.{Outcome}
use Rattle.proj_words.specs.declared.outcome.Outcome.TheVariants as outcomes
use Rattle.proj_commands.specs.Cases.{Case, Made, no_limit, within}
use Rattle.proj_commands.specs.Filters.{project_by}
use Rattle.proj_commands.specs.Hands.{IsInHands}
use Rattle.proj_commands.specs.Makes.{IsAtHand, IsGoodPlan, IsMadeOf, IsPlanIn, IsPlanned, IsRefusal, IsReported, IsStateAfter, IsStateOf, IsStored, PlansFor, hands_of, recalled_made, step_in}
use Rattle.std.specs.Prelude.{◌≢◌}
use Rattle.proj_commands.specs.Plans.{AreKept}
use Rattle.proj_commands.specs.Refusals.{commit_outcome}
use Rattle.proj_commands.proofs.StatesAfter.{state-after}

-- ---- reports

-- there is no report where the step is refused so
pub told-refusal : (hand : Object → Type 0) (r : Result Made Outcome) (e : Outcome) → IsRefusal hand e r → IsReported hand r (Err e)
told-refusal hand (Ok m) e w = w
told-refusal hand (Err d) e w = w

pub told-report : (hand : Object → Type 0) (r : Result Made Outcome) (m : Made) (report : Bytes) → r ≡ Ok m → m.output ≡ report → IsReported hand r (Ok report)
told-report hand (Ok n) m report e o = ap (λ (x : Made). x.output) (ok-same n m e) ∙ o
told-report hand (Err d) m report e o = cc

-- ---- nothing that is planned

pub stays-self : (items : Option (List Bytes)) → Stays items items
stays-self None = tt
stays-self (Some all) = refl

pub keeps-self : (before : KeeperView) → KeepsItems before before
keeps-self before = (refl, stays-self before.items)

pub good-none : (items : List Bytes) (h : Held) (room : Room) → IsGoodPlan items h room NoPlan
good-none items h room = record { within = refl; addition = tt; kept = (kept-law project_by).none items h }

-- ---- what is planned, by what became of it

abbrev pub planned_by : Plan → Result (Unit {0}) CommitError → Plan
planned_by p (Ok u) = p
planned_by p (Err StoreFault) = p
planned_by p (Err (Limit q)) = NoPlan
planned_by p (Err OutOfMemory) = NoPlan

stop-none : (h : Held) (s : Contents) (items : Option (List Bytes)) (list : List Bytes) → IsPresent items list → IsStopOf h s NoPlan items list
stop-none h s None list e = tt
stop-none h s (Some all) list e = inl e

-- a stop leaves the items, or these with the item of what is planned
pub stops-by : (h : Held) (s : Contents) (p : Plan) (items : Option (List Bytes)) (a b : ℕ) (x y : ℕ → List Bytes → Type 0) (result : Result (Unit {0}) CommitError)
    → OnlyAdds a b x y (IsStopOf h s p items) → (IsRefusedBy result → OnlyAdds a b x y (IsPresent items)) → OnlyAdds a b x y (IsStopOf h s (planned_by p result) items)
stops-by h s p items a b x y (Ok u) adds refused = adds
stops-by h s p items a b x y (Err StoreFault) adds refused = adds
stops-by h s p items a b x y (Err (Limit q)) adds refused = adds_as a b x y (IsPresent items) (IsStopOf h s NoPlan items) (stop-none h s items) (refused tt)
stops-by h s p items a b x y (Err OutOfMemory) adds refused = adds_as a b x y (IsPresent items) (IsStopOf h s NoPlan items) (stop-none h s items) (refused tt)

-- ---- one case

-- A case that is this plan with this output, if no limit is passed: upon a state, and upon the state in which the plan is committed,
-- whose store may have grown.
pub record IsCase (k : Case) (items : List Bytes) (h : Held) (s t : Contents) (output : Bytes) (p : Plan) : Type 0 where
  pub state : IsStateOf items h t
  pub room : room_in t ≡ room_in s
  pub step : recalled_made (room_in s) k ≡ within (room_in s) h output p
  pub plan : passed h (room_in s) p ≡ None → IsPlanIn (room_in s) k (record { output = output; before = h; plan = p }) p
  pub addition : IsAddition h p
  pub kept : passed h (room_in s) p ≡ None → AreKept items h → AreKept (items ++ plan_items p) (held_after h p)
  pub grown : IsGrownBy (IsInHands (hands_of (Ok k))) s.basis.store t.basis.store

module _ (k : Case) (items : List Bytes) (h : Held) (s t : Contents) (output : Bytes) (p : Plan) (w : IsCase k items h s t output p) where
  abbrev m : Made
  m = record { output = output; before = h; plan = p }

  abbrev hand : Object → Type 0
  hand = IsAtHand s.basis.store (Ok k)

  fits : passed h (room_in t) p ≡ None → passed h (room_in s) p ≡ None
  fits e = sym (ap (λ (r : Room). passed h r p) w.room) ∙ e

  done : passed h (room_in t) p ≡ None → recalled_made (room_in s) k ≡ Ok m
  done e = w.step ∙ ap (λ (o : Option Quantity). no_limit o >>= λ _. Ok m) (fits e)

  planned : passed h (room_in t) p ≡ None → IsPlanned (room_in s) (Ok k) p
  planned e = record { case = k; came_up = refl; step = m; done = done e; planned = w.plan (fits e) }

  good : passed h (room_in t) p ≡ None → IsGoodPlan items h (room_in s) p
  good e = record { within = fits e; addition = w.addition; kept = w.kept (fits e) }

  grown-to : (after : Contents) → after.basis.store ≡ t.basis.store → IsGrownBy (IsInHands (hands_of (Ok k))) s.basis.store after.basis.store
  grown-to after e = subst (IsGrownBy (IsInHands (hands_of (Ok k))) s.basis.store) (sym e) w.grown

  -- the plan was committed
  pub made-done : (after : Contents) (u : Unit {0}) (before now : KeeperView) (report : Bytes) → output ≡ report → IsAppended h p t after → IsGround after.basis → Appends p before now (Ok u)
      → IsMadeOf (Ok k) items h s after before now p (Ok report)
  made-done after u before now report o c g a = record {
    reported = told-report hand (step_in (room_in s) (Ok k)) m report (done c.within) o;
    planned = planned c.within;
    good = good c.within;
    stored = a;
    state = state-after items h p t after w.state w.addition c g;
    grown = grown-to after c.store;
  }

  -- it was refused
  pub made-refused : (after : Contents) (before now : KeeperView) (e : CommitError) → IsRefused h p t after e → after.basis.store ≡ t.basis.store → Appends p before now (Err e)
      → IsMadeOf (Ok k) items h s after before now (planned_by p (Err e)) (Err (commit_outcome e))
  made-refused after before now StoreFault c same a = record {
    reported = told-refusal hand (step_in (room_in s) (Ok k)) outcomes.StoreFault tt;
    planned = planned c.1;
    good = good c.1;
    stored = a;
    state = tt;
    grown = grown-to after same;
  }
  made-refused after before now (Limit q) c same a = record {
    reported =
        told-refusal hand (step_in (room_in s) (Ok k)) (outcomes.Limit q None)
        (w.step ∙ ap (λ (o : Option Quantity). no_limit o >>= λ _. Ok m) (sym (ap (λ (r : Room). passed h r p) w.room) ∙ c.1));
    planned = refl;
    good = good-none items h (room_in s);
    stored = a;
    state = subst (IsStateOf items h) (sym c.0) w.state;
    grown = grown-to after same;
  }
  made-refused after before now OutOfMemory c same a = record {
    reported = told-refusal hand (step_in (room_in s) (Ok k)) outcomes.OutOfMemory tt;
    planned = refl;
    good = good-none items h (room_in s);
    stored = a;
    state = tt;
    grown = grown-to after same;
  }

-- ---- where nothing is planned

pub none-planned : (room : Room) (r : Result Case Outcome) (e : Outcome) → e ≢ outcomes.StoreFault → PlansFor room r NoPlan (Err e)
none-planned room r outcomes.StoreFault n = absurd (n refl)
none-planned room r e n = refl

pub none-stored : (e : Outcome) (p : Plan) (before after : KeeperView) → e ≢ outcomes.StoreFault → KeepsItems before after → IsStored (Err e) p before after
none-stored outcomes.StoreFault p before after n k = absurd (n refl)
none-stored e p before after n k = k

pub state-stays : (items : List Bytes) (h : Held) (s : Contents) (e : Outcome) → IsStateOf items h s → IsStateAfter items h s NoPlan (Err e)
state-stays items h s outcomes.StoreFault t = tt
state-stays items h s outcomes.OutOfMemory t = tt
state-stays items h s e t = t

-- a stop is one of a state with as much room
pub stop-as : (h : Held) (s t : Contents) (p : Plan) (items : Option (List Bytes)) (list : List Bytes) → room_in t ≡ room_in s → IsStopOf h t p items list → IsStopOf h s p items list
stop-as h s t p None list e w = tt
stop-as h s t p (Some all) list e w = ⊎_elim (λ a. inl a) (λ b. inr (sym (ap (λ (r : Room). passed h r p) e) ∙ b.0, b.1)) w

-- A case that is refused before anything was appended.
pub made-untouched : (k : Case) (items : List Bytes) (h : Held) (s after : Contents) (before : KeeperView) (e : Outcome) → IsRefusal (IsAtHand s.basis.store (Ok k)) e (step_in (room_in s) (Ok k)) → e ≢ outcomes.StoreFault
    → IsStateOf items h after → IsGrownBy (IsInHands (hands_of (Ok k))) s.basis.store after.basis.store → IsMadeOf (Ok k) items h s after before before NoPlan (Err e)
made-untouched k items h s after before e i n t g = record {
  reported = told-refusal (IsAtHand s.basis.store (Ok k)) (step_in (room_in s) (Ok k)) e i;
  planned = none-planned (room_in s) (Ok k) e n;
  good = good-none items h (room_in s);
  stored = none-stored e NoPlan before before n (keeps-self before);
  state = state-stays items h after e t;
  grown = g;
}

-- Where there was no memory before anything was appended, nothing is planned.
pub made-without : (k : Case) (items : List Bytes) (h : Held) (s after : Contents) (before : KeeperView) → IsGrownBy (IsInHands (hands_of (Ok k))) s.basis.store after.basis.store
    → IsMadeOf (Ok k) items h s after before before NoPlan (Err outcomes.OutOfMemory)
made-without k items h s after before g = record {
  reported = told-refusal (IsAtHand s.basis.store (Ok k)) (step_in (room_in s) (Ok k)) outcomes.OutOfMemory tt;
  planned = refl;
  good = good-none items h (room_in s);
  stored = keeps-self before;
  state = tt;
  grown = g;
}
