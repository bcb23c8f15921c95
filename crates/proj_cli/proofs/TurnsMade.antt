-- What became of an entry's command, upon the state behind other turns, is its turn.
use Rattle.std.proofs.Common.{◌≡◌, ◌≢◌, ◌⊎◌, inl, inr, ◌++◌, false, List, [], ◌∷◌, append-nil, Result, Ok, Err, refl, sym, ap, subst, ◌∙◌}
use Rattle.std.specs.Prelude.{⊤}
use Rattle.git_objects.specs.Paths.{Bytes}
use Rattle.git_objects.specs.Results.{refused_by}
use Rattle.object_store.specs.Growth.{IsGrownBy}
use Rattle.object_store.specs.Objects.{Object}
use Rattle.proj_io.specs.Views.{KeeperView}
use Rattle.state_items.specs.Items.{Held, read_items}
use Rattle.state_items.specs.Changes.{Plan, Room, held_after, plan_items, room_of, NoPlan}
use Rattle.state_items.proofs.ReadObjects.{ok-same}
use Rattle.repo_ground.specs.Changes.{KeepsItems}
use Rattle.repo_ground.specs.Contents.{Contents, room_in}
use Rattle.proj_words.specs.Entries.{Entry}
use Rattle.proj_words.specs.Words.{loads, writes}
use Rattle.proj_words.specs.declared.outcome.Outcome.{Outcome}
use Rattle.proj_words.specs.declared.outcome.Outcome.TheVariants.{Done, OutOfMemory, Collision, ReadFault, WriteFault, StoreFault}
use Rattle.proj_cli.specs.Answers.{IsLonger, IsOutcome}
use Rattle.proj_commands.specs.Cases.{Case, Made, break_outcome}
use Rattle.proj_commands.specs.Steps.{case, ArePlanned}
use Rattle.proj_commands.specs.Forms.{IsFormPlanned}
use Rattle.proj_commands.specs.Hands.{IsInHands}
use Rattle.proj_commands.specs.Makes.{IsAtHand, IsGoodPlan, IsPlanned, IsRefusal, IsReported, IsStateAfter, IsStateOf, IsStored, PlansFor, hands_of, step_in, IsCommandMade, recalled_line, IsKeepPlanOf}
use Rattle.proj_commands.specs.Plans.{AreKept, HoldWhatTheyShould, RecallLaw}
use Rattle.proj_cli.specs.Running.{IsBrokenOf, IsStateBehind, IsTurnOf}
use Rattle.proj_cli.specs.Turns.{IsSafeTurn, IsTurnMade, IsTurnOutcome, Turn, asked_by, items_after, turn_case, turn_cases, turn_hands, turn_step, IsRecalledTurn}
use Rattle.proj_commands.proofs.CasePlans.{from, unwritten-plan, for-project, of-project, recalled-plan}
use Rattle.proj_cli.proofs.Answering.{plan-allowed, plan-lawful, plan-longer, plan-planned, refused-outcome, step-done}
use Rattle.proj_cli.proofs.Delivering.{refusal-outcome}
use Rattle.proj_commands.proofs.Forming.{HoldsAll, reported-at}
use Rattle.proj_commands.proofs.StatesAfter.{room-same}
use Rattle.proj_commands.proofs.JudgedCases.{HoldsStore, case-holds, case-store}
use Rattle.proj_cli.proofs.TurnHands.{AreBrought, brought-on, twice-brought, twice-own}
use Rattle.filter_text.specs.Filters.{Filter}

-- ---- outcomes

-- an entry is refused, and the batch goes on
abbrev pub GoesOn : Outcome → Type 0
GoesOn Done = ⊥
GoesOn OutOfMemory = ⊥
GoesOn ReadFault = ⊥
GoesOn WriteFault = ⊥
GoesOn StoreFault = ⊥
GoesOn _ = ⊤

pub goes-on : (x : Outcome) → x ≢ Done → x ≢ OutOfMemory → x ≢ ReadFault → x ≢ WriteFault → x ≢ StoreFault → GoesOn x
goes-on Done d m r w s = d refl
goes-on OutOfMemory d m r w s = m refl
goes-on ReadFault d m r w s = r refl
goes-on WriteFault d m r w s = w refl
goes-on StoreFault d m r w s = s refl
goes-on _ d m r w s = tt

pub refused-keeps : (x : Outcome) (p : Plan) (k l : KeeperView) → GoesOn x → IsStored (Err x) p k l → KeepsItems k l
refused-keeps Done p k l n g = absurd n
refused-keeps OutOfMemory p k l n g = absurd n
refused-keeps ReadFault p k l n g = absurd n
refused-keeps WriteFault p k l n g = absurd n
refused-keeps StoreFault p k l n g = absurd n
refused-keeps _ p k l n g = g

pub refused-state : (items : List Bytes) (h : Held) (s : Contents) (p : Plan) (x : Outcome) → GoesOn x → IsStateAfter items h s p (Err x) → IsStateOf items h s
refused-state items h s p Done n g = absurd n
refused-state items h s p OutOfMemory n g = absurd n
refused-state items h s p ReadFault n g = absurd n
refused-state items h s p WriteFault n g = absurd n
refused-state items h s p StoreFault n g = absurd n
refused-state items h s p _ n g = g

turn-outcome : (H : Object → Type 0) (x : Outcome) (s : Result Made Outcome) → GoesOn x → IsOutcome H x s → IsTurnOutcome H x s
turn-outcome H Done s n a = absurd n
turn-outcome H OutOfMemory s n a = absurd n
turn-outcome H ReadFault s n a = absurd n
turn-outcome H WriteFault s n a = absurd n
turn-outcome H StoreFault s n a = absurd n
turn-outcome H (Collision m) s n a = a
turn-outcome H _ s n a = a

-- ---- turns

abbrev pub done_turn : Entry → Bytes → Plan → Turn
done_turn e out p = record { entry = e; outcome = Done; output = out; appended = plan_items p }

abbrev pub refused_turn : Entry → Outcome → Turn
refused_turn e x = record { entry = e; outcome = x; output = []; appended = [] }

abbrev pub broken_turn : Entry → Plan → Turn
broken_turn e p = record { entry = e; outcome = StoreFault; output = []; appended = plan_items p }

spelled-still : (now : List Bytes) (h : Held) → read_items now ≡ Ok h → read_items (now ++ []) ≡ Ok h
spelled-still now h read = ap read_items (append-nil now) ∙ read

module _ (law : RecallLaw) (items : List Bytes) (ts : List Turn) (e : Entry) (h : Held) (read : read_items (items_after items ts) ≡ Ok h) (store : HoldsStore (turn_case (items_after items ts) e)) where
  abbrev now : List Bytes
  now = items_after items ts

  -- nothing was given or appended
  idle-turn : (x : Outcome) → x ≢ Done → IsSafeTurn items ts (refused_turn e x)
  idle-turn x refused = record {
    silent = λ no. refl;
    idle = λ no fault. refl;
    unwritten = λ no. refl;
    held = h;
    spelled = read;
    longer = record { behind = refl; state = h; spelled = spelled-still now h read; stays = λ no. record { objects = refl; refs = refl; rule = refl; tags = refl } };
    kept = λ g kept. (g, subst (λ (xs : List Bytes). AreKept xs g) (sym (append-nil now)) kept);
    recalled =
        for-project (turn_case now e) (IsRecalledTurn now (refused_turn e x))
        (λ g f n. record { plan = NoPlan; planned = inl refl; item = refl; done = λ is. absurd (refused is) });
  }

  -- a plan of the case
  module _ (p : Plan) (good : (g : Held) → read_items (items_after items ts) ≡ Ok g → IsGoodPlan (items_after items ts) g (room_of (items_after items ts)) p)
      (w : IsPlanned (room_of (items_after items ts)) (turn_case (items_after items ts) e) p) where
    abbrev formed : IsFormPlanned (room_of now) (turn_case now e) p
    formed = record { planned = w; store = subst HoldsStore w.came_up store }

    turn-made : HoldWhatTheyShould (asked_by e) now → IsTurnMade now e w.step (plan_items p)
    turn-made kept = record {
      done = step-done law (asked_by e) now e.input kept p formed;
      plan = p;
      planned =
          subst (λ (s : Result Made Outcome). ArePlanned now (turn_cases now e) s p) (step-done law (asked_by e) now e.input kept p formed)
          (plan-planned law (asked_by e) now e.input kept p formed);
      item = refl;
      lawful = plan-lawful law (asked_by e) now e.input kept p formed;
      kept = λ f holds. (good f holds.spelled).kept holds;
    }

    unwritten : writes (asked_by e) ≡ false → plan_items p ≡ []
    unwritten quiet = ap plan_items (unwritten-plan (asked_by e) now (room_of now) w.case w.step p (from (asked_by e) now e.input w.case w.came_up) w.done w.planned quiet)

    longer : IsLonger (asked_by e) now (plan_items p) h (now ++ plan_items p)
    longer = plan-longer (asked_by e) now e.input p formed good h read

    still-kept : (g : Held) → AreKept now g → (f : Held) × AreKept (now ++ plan_items p) f
    still-kept g kept = (held_after g p, (good g kept.spelled).kept kept)

    -- what is said of a projection's plan and line
    abbrev Kept : Held → Filter → Bytes → Type 0
    Kept g f n = IsKeepPlanOf g f n (room_of now) p × (w.step.output ≡ recalled_line g f n)

    pub turn-done : (out : Bytes) → w.step.output ≡ out → IsTurnOf items ts (done_turn e out p)
    turn-done out same = record {
      safe = record {
        silent = λ no. absurd (no refl);
        idle = λ no fault. absurd (no refl);
        unwritten = unwritten;
        held = h;
        spelled = read;
        longer = longer;
        kept = still-kept;
        recalled =
            of-project (turn_case now e) Kept (IsRecalledTurn now (done_turn e out p)) (λ g f n x. record { plan = p; planned = inr x.0; item = refl; done = λ is. (x.0, sym same ∙ x.1) })
            (recalled-plan (room_of now) (turn_case now e) p w);
      };
      in_turn = record { allowed = plan-allowed (room_of now) (turn_case now e) p w; made = λ _ kept. (w.step, turn-made kept, sym same) };
      whole = λ no. cc;
    }

    pub turn-broken : IsBrokenOf items ts (broken_turn e p)
    turn-broken = record {
      safe = record {
        silent = λ no. refl;
        idle = λ no fault. absurd (fault refl);
        unwritten = unwritten;
        held = h;
        spelled = read;
        longer = longer;
        kept = still-kept;
        recalled =
            of-project (turn_case now e) Kept (IsRecalledTurn now (broken_turn e p)) (λ g f n x. record { plan = p; planned = inr x.0; item = refl; done = λ is. absurd (let no : ⊥ = cc in no) })
            (recalled-plan (room_of now) (turn_case now e) p w);
      };
      broken = record {
        outcome = refl;
        output = refl;
        appended = inr (record { allowed = plan-allowed (room_of now) (turn_case now e) p w; made = λ kept. (w.step, turn-made kept) });
      };
      fault = refl;
    }

  -- the store failed, and nothing was appended
  pub turn-failed : IsBrokenOf items ts (refused_turn e StoreFault)
  turn-failed = record {
    safe = idle-turn StoreFault (λ is. cc);
    broken = record { outcome = refl; output = refl; appended = inl refl };
    fault = refl;
  }

  pub turn-refused : (x : Outcome) → GoesOn x → IsRefusal (IsInHands (turn_hands items ts ++ hands_of (turn_case (items_after items ts) e))) x (step_in (room_of (items_after items ts)) (turn_case (items_after items ts) e))
      → IsTurnOf items ts (refused_turn e x)
  turn-refused x n a = record {
    safe = idle-turn x (λ is. subst GoesOn is n);
    in_turn = record {
      allowed =
          turn-outcome (IsInHands (turn_hands items ts ++ hands_of (turn_case now e))) x (turn_step now e) n
          (refused-outcome (IsInHands (turn_hands items ts ++ hands_of (turn_case now e))) x (room_of now) (turn_case now e)
          (refusal-outcome (IsInHands (turn_hands items ts ++ hands_of (turn_case now e))) x (step_in (room_of now) (turn_case now e)) a));
      made = λ is kept. absurd (subst GoesOn is n);
    };
    whole = λ no. subst GoesOn no n;
  }

-- ---- what a command made upon the state behind other turns

module _ (items : List Bytes) (ts : List Turn) (e : Entry) (s : Contents) (b : IsStateBehind items ts s) where
  abbrev there : List Bytes
  there = items_after items ts

  same-case : case (asked_by e) (Ok b.held) e.input ≡ turn_case there e
  same-case = sym (ap (λ (x : Result Held Outcome). case (asked_by e) x e.input) (ap (refused_by break_outcome) b.state.current.read))

  pub store-behind : HoldsStore (turn_case (items_after items ts) e)
  store-behind = subst HoldsStore same-case (case-store (asked_by e) b.held e.input b.state.spells.store)

  same-room : room_in s ≡ room_of there
  same-room = room-same there b.held s b.state.current

  pub good-behind : (p : Plan) → IsGoodPlan (items_after items ts) b.held (room_in s) p → (g : Held) → read_items (items_after items ts) ≡ Ok g
      → IsGoodPlan (items_after items ts) g (room_of (items_after items ts)) p
  good-behind p good g read =
      subst (λ (x : Held). IsGoodPlan there x (room_of there) p) (ok-same b.held g (sym b.state.current.read ∙ read))
      (subst (λ (room : Room). IsGoodPlan there b.held room p) same-room good)

  module _ (s' : Contents) (k l : KeeperView) (Adds : (List Bytes → Type 0) → Type 0) (result : Result Bytes Outcome) (w : IsCommandMade (asked_by e) e.input (items_after items ts) b.held s s' k l Adds result) where
    pub plans-behind : PlansFor (room_of (items_after items ts)) (turn_case (items_after items ts) e) w.plan result
    plans-behind =
        subst (λ (room : Room). PlansFor room (turn_case there e) w.plan result) same-room (subst (λ (r : Result Case Outcome). PlansFor (room_in s) r w.plan result) same-case w.made.planned)

    abbrev hands : Object → Type 0
    hands = IsInHands (turn_hands items ts ++ hands_of (turn_case there e))

    of-hands : ((loads (asked_by e) ≡ false) × HoldsStore (case (asked_by e) (Ok b.held) e.input)) ⊎ HoldsAll b.held.objects (case (asked_by e) (Ok b.held) e.input)
        → IsReported hands (step_in (room_of there) (turn_case there e)) result
    of-hands (inl apart) =
        reported-at (IsInHands (hands_of (turn_case there e))) hands (twice-own (turn_hands items ts) (turn_case there e)) (step_in (room_of there) (turn_case there e)) result
        (subst (λ (r : Result Case Outcome). IsReported (IsInHands (hands_of r)) (step_in (room_of there) r) result) same-case (w.unloaded apart.0))
    of-hands (inr holds) =
        subst (λ (room : Room). IsReported hands (step_in room (turn_case there e)) result) same-room
        (reported-at (IsAtHand s.basis.store (turn_case there e)) hands
        (twice-brought s.basis.store b.held.objects (turn_hands items ts) b.brought b.state.ground.graph.store (turn_case there e) (subst (HoldsAll b.held.objects) same-case holds))
        (step_in (room_in s) (turn_case there e)) result
        (subst (λ (r : Result Case Outcome). IsReported (IsAtHand s.basis.store r) (step_in (room_in s) r) result) same-case w.made.reported))

    pub reported-behind : IsReported (IsInHands (turn_hands items ts ++ hands_of (turn_case (items_after items ts) e))) (step_in (room_of (items_after items ts)) (turn_case (items_after items ts) e)) result
    reported-behind = of-hands (case-holds (asked_by e) b.held e.input)

    -- the state behind the turn, with this in it
    pub state-behind : (t : Turn) (p : Plan) → t.entry ≡ e → IsStateOf (items_after items ts ++ t.appended) (held_after b.held p) s' → IsStateBehind items (t ∷ ts) s'
    state-behind t p same state = record {
      held = held_after b.held p;
      state = state;
      brought = subst (λ (x : Entry). AreBrought s'.basis.store (held_after b.held p).objects (turn_hands items ts ++ hands_of (turn_case there x))) (sym same)
          (brought-on s.basis.store s'.basis.store b.held p (turn_hands items ts) (hands_of (turn_case there e))
          (subst (λ (r : Result Case Outcome). IsGrownBy (IsInHands (hands_of r)) s.basis.store s'.basis.store) same-case w.made.grown) b.brought);
    }
