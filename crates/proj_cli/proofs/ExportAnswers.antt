-- An export, and what it wrote, is an answer.
use Rattle.std.proofs.Common.{◌≡◌, ◌≢◌, ◌⊎◌, inl, inr, ◌≤◌, List, [], Some, Result, Ok, Err, refl, sym, subst, ◌∙◌, Bool, true, false, true≢false, arith}
use Rattle.std.specs.Option.{option_to_list}
use Rattle.std.specs.Result.{result_ok}
use Rattle.git_objects.specs.Paths.{Bytes}
use Rattle.git_objects.specs.Results.{◌>>=◌}
use Rattle.object_store.specs.Objects.{Object}
use Rattle.filter_text.specs.Filters.{Filter}
use Rattle.proj_gate.specs.Policies.{See}
use Rattle.proj_io.specs.Counts.{Counts}
use Rattle.proj_io.specs.Views.{SourceView, SinkView, KeeperView}
use Rattle.state_items.specs.Items.{Held}
use Rattle.state_items.specs.Changes.{NoPlan, Room, room_of}
use Rattle.repo_ground.specs.Changes.{KeepsItems}
use Rattle.proj_words.specs.Words.{Command, As, Export, ExportTags, loads}
use Rattle.proj_words.specs.declared.outcome.Outcome.{Outcome}
use Rattle.proj_words.specs.declared.outcome.Outcome.TheVariants.{Done, OutOfMemory, ReadFault, WriteFault, StoreFault}
use Rattle.proj_cli.specs.Answers.{Follows, IsCommandAnswer, IsAnswered, IsDelivered, IsLonger, IsOutcome, IsSafe, IsStepDelivered, flows, IsRecalledDone}
use Rattle.proj_commands.specs.Cases.{Case, ExportCase, IsJudgedRightly, Made, head_of, loaded, unchanged}
use Rattle.proj_commands.specs.Steps.{case, made, IsPlanOf, step, ArePlanned}
use Rattle.proj_commands.specs.Export.{export_output}
use Rattle.proj_commands.specs.Filters.{sound}
use Rattle.proj_commands.specs.Policy.{granted}
use Rattle.proj_commands.specs.Forms.{IsExport, IsFormFlowed}
use Rattle.proj_commands.specs.Hands.{IsInHands}
use Rattle.proj_commands.specs.Intake.{waited_by}
use Rattle.proj_commands.specs.Makes.{IsFlowed, hands_of, step_in, OfProject}
use Rattle.proj_commands.proofs.CasePlans.{all-one}
use Rattle.proj_cli.proofs.Delivering.{after, before, got, idle-delivered, idle-step, kept-if, refusal-outcome}
use Rattle.proj_commands.proofs.Intaking.{takes-none}
use Rattle.proj_commands.proofs.InputsRead.{told-input}
use Rattle.std.specs.Prelude.{unwrap_or}

-- ---- exports

-- it is the case of an export, or none came up
abbrev pub IsExportCase : Result Case Outcome → Type 0
IsExportCase (Ok (ExportCase tagged h f refname n)) = Unit {0}
IsExportCase (Ok _) = ⊥
IsExportCase (Err e) = Unit {0}

at-head : (tagged : Bool) (refname : Bytes) (h : Held) (f : Filter) (n : Result Bytes Outcome) → IsExportCase (n >>= λ m. Ok (ExportCase tagged h f refname m))
at-head tagged refname h f (Ok n) = tt
at-head tagged refname h f (Err e) = tt

of-both : (tagged : Bool) (refname : Bytes) (s : Result Filter Outcome) (l : Result Held Outcome) → IsExportCase (s >>= λ f. l >>= λ h. head_of refname h.refs >>= λ n. Ok (ExportCase tagged h f refname n))
of-both tagged refname (Ok f) (Ok h) = at-head tagged refname h f (head_of refname h.refs)
of-both tagged refname (Ok f) (Err e) = tt
of-both tagged refname (Err e) l = tt

pub export-case : (r t : Bytes) (items : List Bytes) (all : Bytes) → IsExportCase (case (Export r t) (loaded items) all)
export-case r t items all = of-both false r (sound t) (loaded items)

pub tagged-export-case : (r t : Bytes) (items : List Bytes) (all : Bytes) → IsExportCase (case (ExportTags r t) (loaded items) all)
tagged-export-case r t items all = of-both true r (sound t) (loaded items)

-- and so is one of a user
let-through : (refname : Bytes) (h : Held) (f : Filter) (p : Result (Unit {0}) Outcome) → IsExportCase (p >>= λ _. head_of refname h.refs >>= λ n. Ok (ExportCase false h f refname n))
let-through refname h f (Ok u) = at-head false refname h f (head_of refname h.refs)
let-through refname h f (Err e) = tt

of-user : (user refname : Bytes) (s : Result Filter Outcome) (l : Result Held Outcome)
    → IsExportCase (s >>= λ f. l >>= λ h. granted h user See refname f >>= λ _. head_of refname h.refs >>= λ n. Ok (ExportCase false h f refname n))
of-user user refname (Ok f) (Ok h) = let-through refname h f (granted h user See refname f)
of-user user refname (Ok f) (Err e) = tt
of-user user refname (Err e) l = tt

pub user-export-case : (u r t : Bytes) (items : List Bytes) (all : Bytes) → IsExportCase (case (As u (Export r t)) (loaded items) all)
user-export-case u r t items all = of-user u r (sound t) (loaded items)

step-same : (room : Room) (r : Result Case Outcome) → IsExportCase r → step_in room r ≡ (r >>= made room)
step-same room (Ok (ExportCase tagged h f refname n)) w = refl
step-same room (Ok _) w = absurd w
step-same room (Err e) w = refl

none-planned : (items : List Bytes) (room : Room) (r : Result Case Outcome) → IsExportCase r → ArePlanned items (option_to_list (result_ok r)) (r >>= made room) NoPlan
none-planned items room (Ok (ExportCase tagged h f refname n)) w =
    all-one (λ c. IsPlanOf items c (unchanged h (export_output tagged h f refname n)) NoPlan) (ExportCase tagged h f refname n) refl
none-planned items room (Ok _) w = absurd w
none-planned items room (Err e) w = tt

none-recalled : (Says : Held → Filter → Bytes → Type 0) (r : Result Case Outcome) → IsExportCase r → OfProject r Says
none-recalled Says (Ok (ExportCase tagged h f refname n)) w = tt
none-recalled Says (Ok _) w = absurd w
none-recalled Says (Err e) w = tt

-- ---- what was written

flowed-only : (H : Object → Type 0) (o q : SinkView) (s : Result Made Outcome) (outcome : Outcome) → IsFlowed H s o q outcome → IsOutcome H outcome s
flowed-only H o q (Ok m) Done h = refl
flowed-only H o q (Ok m) WriteFault h = refl
flowed-only H o q (Ok m) OutOfMemory h = tt
flowed-only H o q (Ok m) e h = refusal-outcome H e (Ok m) h.0
flowed-only H o q (Err x) OutOfMemory h = tt
flowed-only H o q (Err x) e h = refusal-outcome H e (Err x) h.0

flowed-outcome : (H : Object → Type 0) (o q : SinkView) (s : Result Made Outcome) (outcome : Outcome) → IsFormFlowed H s o q outcome → IsOutcome H outcome s
flowed-outcome H o q s outcome (inl h) = refusal-outcome H outcome s h.0
flowed-outcome H o q s outcome (inr h) = flowed-only H o q s outcome h

module _ (asked : Command) (flow : flows asked ≡ true) (i : SourceView) (o q : SinkView) (k l : KeeperView) (g : KeepsItems k l) (H : Object → Type 0) where
  flowed-step : (s : Result Made Outcome) (outcome : Outcome) → IsFlowed H s o q outcome → IsStepDelivered asked s NoPlan (before i i o q k l) (after i i o q k l) outcome
  flowed-step (Ok m) Done h = (h, got i i o q k l NoPlan g)
  flowed-step (Ok m) WriteFault h = (h, got i i o q k l NoPlan g)
  flowed-step (Ok m) OutOfMemory h = inr (inl (flow, h, g))
  flowed-step (Ok m) e h = idle-delivered i i o q k l asked m.output [] H (Ok m) e h.0 h.2 g
  flowed-step (Err x) OutOfMemory h = (h, g)
  flowed-step (Err x) e h = (h.2, g)

  step-delivered : (s : Result Made Outcome) (outcome : Outcome) → IsFormFlowed H s o q outcome → IsStepDelivered asked s NoPlan (before i i o q k l) (after i i o q k l) outcome
  step-delivered s outcome (inl h) = idle-step i i o q k l asked NoPlan s H s outcome h.0 h.1 g
  step-delivered s outcome (inr h) = flowed-step s outcome h

  flowed-idle : (x : Outcome) (outcome : Outcome) → IsFlowed H (Err x) o q outcome → IsDelivered asked [] [] (before i i o q k l) (after i i o q k l) outcome
  flowed-idle x OutOfMemory h = inl (h, g)
  flowed-idle x e h = idle-delivered i i o q k l asked [] [] H (Err x) e h.0 h.2 g

  some-delivered : (s : Result Made Outcome) (outcome : Outcome) → IsFormFlowed H s o q outcome → (report : Bytes) × IsDelivered asked report [] (before i i o q k l) (after i i o q k l) outcome
  some-delivered (Ok m) outcome h = (m.output, step-delivered (Ok m) outcome h)
  some-delivered (Err x) outcome (inl h) = ([], idle-delivered i i o q k l asked [] [] H (Err x) outcome h.0 h.1 g)
  some-delivered (Err x) outcome (inr h) = ([], flowed-idle x outcome h)

-- ---- the answer

module _ (asked : Command) (flow : flows asked ≡ true) (may : loads asked ≡ true) (up : (items : List Bytes) (all : Bytes) → IsExportCase (case asked (loaded items) all)) (i : SourceView) (o q : SinkView) (k l : KeeperView) (outcome : Outcome) where
  export-allowed : (items : List Bytes) (all : Bytes) → IsExport (case asked (loaded items) all) items o q outcome
      → IsOutcome (IsInHands (hands_of (case asked (loaded items) all))) outcome (step asked items all)
  export-allowed items all h =
      subst (IsOutcome (IsInHands (hands_of (case asked (loaded items) all))) outcome) (step-same (room_of items) (case asked (loaded items) all) (up items all))
      (flowed-outcome (IsInHands (hands_of (case asked (loaded items) all))) o q (step_in (room_of items) (case asked (loaded items) all)) outcome h.flowed)

  export-answered : (items : List Bytes) (all : Bytes) → KeepsItems k l → IsExport (case asked (loaded items) all) items o q outcome
      → IsAnswered asked items all (before i i o q k l) (after i i o q k l) outcome
  export-answered items all g h =
      let same : step_in (room_of items) (case asked (loaded items) all) ≡ step asked items all =
      step-same (room_of items) (case asked (loaded items) all) (up items all) in
      record {
        plan = NoPlan;
        planned = none-planned items (room_of items) (case asked (loaded items) all) (up items all);
        delivered =
            subst (λ (s : Result Made Outcome). IsStepDelivered asked s NoPlan (before i i o q k l) (after i i o q k l) outcome) same
            (step-delivered asked flow i o q k l g (IsInHands (hands_of (case asked (loaded items) all))) (step_in (room_of items) (case asked (loaded items) all)) outcome h.flowed);
        lawful = h.lawful;
        follows = λ told. kept-if items k l NoPlan told (Follows items NoPlan) (λ h kept. inl refl) g;
      }

  export-safe : (items : List Bytes) (all : Bytes) (h : Held) → k.items ≡ Some items → KeepsItems k l → IsExport (case asked (loaded items) all) items o q outcome
      → IsSafe asked items h (before i i o q k l) (after i i o q k l) outcome
  export-safe items all h told g e =
      let d = some-delivered asked flow i o q k l g (IsInHands (hands_of (case asked (loaded items) all))) (step_in (room_of items) (case asked (loaded items) all)) outcome e.flowed in
      record { report = d.0; more = []; delivered = d.1; spelled = kept-if items k l NoPlan told (λ now. (now ≡ items) ⊎ IsLonger asked items [] h now) (inl refl) g }

  pub export-answer : IsJudgedRightly asked outcome → outcome ≢ ReadFault → Counts o.faults q.faults (outcome ≡ WriteFault) → Counts k.faults l.faults (outcome ≡ StoreFault) → o.refusals ≤ q.refusals → KeepsItems k l
      → ((items : List Bytes) (all : Bytes) → k.items ≡ Some items → IsExport (case asked (loaded items) all) items o q outcome)
      → IsCommandAnswer asked (before i i o q k l) (after i i o q k l) outcome
  export-answer judged unread write keep memory g exported = record {
    cause = record { read = record { later = omega arith; rose = λ e. absurd (unread e) }; write = write; keep = keep; memory = memory };
    judged = judged;
    unread = λ no. unread;
    unloaded = λ no e. true≢false (sym may ∙ no);
    unwritten = λ no. g;
    answered = λ items these.
        let done = exported items (unwrap_or i.left []) (these may) in
        record {
          input = unwrap_or i.left [];
          told = told-input i.left;
          allowed = export-allowed items (unwrap_or i.left []) done;
          answered = λ kept. export-answered items (unwrap_or i.left []) g done;
        };
    safe = λ items h told read. export-safe items [] h told g (exported items [] told);
    taken = λ items told. takes-none (waited_by (case asked (loaded items))) i.left;
    caseless = λ items told none. refl;
    recalled = λ items told. none-recalled (IsRecalledDone asked items (before i i o q k l) (after i i o q k l) outcome) (case asked (loaded items) []) (up items []);
  }
