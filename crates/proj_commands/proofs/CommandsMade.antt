-- What a command makes of a state: of its case, or of the refusal before one.
use Rattle.std.proofs.Common.{◌≡◌, ◌≢◌, inl, inr, ℕ, Bool, true, false, List, [], ◌++◌, All, Option, Some, Result, Ok, Err, append-nil, refl, sym, ap, subst, subst₂, ◌∙◌, true≢false, arith}
use Rattle.std.proofs.lemmas.List.Elements.{All-head}
use Rattle.std.proofs.lemmas.Option.{same_Some}
use Rattle.std.specs.Io.KnownBytes.{Appends}
use Rattle.std.specs.Option.{option_to_list}
use Rattle.std.specs.Result.{result_ok}
use Rattle.git_objects.specs.Paths.{Bytes}
use Rattle.git_objects.specs.Results.{◌>>=◌}
use Rattle.object_store.specs.Growth.{IsGrownBy}
use Rattle.object_store.specs.Objects.{Object}
use Rattle.object_store.proofs.Growth.{grown_self}
use Rattle.filter_text.specs.Filters.{Filter}
use Rattle.proj_io.specs.Counts.{Counts}
use Rattle.proj_io.specs.HeldBytes.{held_bytes}
use Rattle.proj_io.specs.Stops.{OnlyAdds, adds_as}
use Rattle.proj_io.specs.Views.{SinkView, KeeperView}
use Rattle.state_items.specs.Changes.{NoPlan, Plan, Room, plan_items, room_of}
use Rattle.state_items.specs.Items.{Held}
use Rattle.repo_ground.specs.Changes.{GetsItems, IsStopOf, KeepsItems}
use Rattle.repo_ground.specs.Contents.{Contents, room_in}
use Rattle.repo_ground.specs.Selecting.{IsPutAway}
use Rattle.repo_ground.proofs.GroundLaws.{ground-away}
use Rattle.repo_ground.proofs.Stopping.{adds_none}
use Rattle.proj_words.specs.Words.{Command, loads, writes}
use Rattle.proj_words.specs.declared.outcome.Outcome.{Outcome}
use Rattle.proj_words.specs.declared.outcome.Outcome.TheVariants.{Done, OutOfMemory, ReadFault, StoreFault, WriteFault}
use Rattle.proj_commands.specs.Cases.{Case, ExportCase, Made, head_of, loaded, unchanged}
use Rattle.proj_commands.specs.Steps.{case, IsLawful}
use Rattle.proj_commands.specs.Export.{export_case, export_output}
use Rattle.proj_commands.specs.Forms.{FormPlan, IsFormMade}
use Rattle.proj_commands.specs.Hands.{IsInHands}
use Rattle.proj_commands.specs.Judging.{IsJudged, IsOwn, IsUnjudged}
use Rattle.proj_commands.specs.Makes.{IsAtHand, IsExported, IsFlowed, IsMadeOf, IsPlanned, IsRefusal, IsReportOf, IsReported, IsStateAfter, IsStateOf, IsStored, PlansFor, hands_of, step_in, IsCommandMade}
use Rattle.proj_commands.specs.declared.judging.Judged.{Judged}
use Rattle.proj_commands.proofs.CasePlans.{from, unwritten-plan}
use Rattle.proj_commands.proofs.Committing.{good-none, keeps-self, none-planned, none-stored, state-stays, stop-as}
use Rattle.proj_commands.proofs.Forming.{reported-at}
use Rattle.proj_commands.proofs.JudgedCases.{case-upon, is_stored, judged-loads, upon}
use Rattle.proj_commands.proofs.AloneForms.{IsAlone, alone-made}
use Rattle.proj_commands.proofs.Refusing.{reported-err, unjudged-refusal}
use Rattle.proj_commands.proofs.StatesAfter.{room-same}
use Rattle.proj_commands.proofs.ExportRefusals.{not-store}
use Rattle.proj_commands.proofs.InHands.{twice-as}

-- ---- cases

-- A command that is performed upon what is loaded has made what was made of its case.
pub performed : (asked : Command) (j : Judged) → IsJudged asked j → is_stored j ≡ true → (all : Bytes) (items : List Bytes) (h : Held) (s s' : Contents) (k l : KeeperView) (a b : ℕ) (x y : ℕ → List Bytes → Type 0) (result : Result Bytes Outcome)
    → (p : Plan) → IsMadeOf (upon j h all) items h s s' k l p result → OnlyAdds a b x y (IsStopOf h s p k.items) → IsCommandMade asked all items h s s' k l (OnlyAdds a b x y) result
performed asked j w is all items h s s' k l a b x y result p made stops = record {
  plan = p;
  made = subst (λ (q : Result Case Outcome). IsMadeOf q items h s s' k l p result) (sym (case-upon asked j w h all)) made;
  stops = stops;
  unloaded = λ no. absurd (true≢false (sym (judged-loads asked j w is) ∙ no));
}

-- Items that a command was performed upon are those of a store that tells them; a form that doesn't write has left them.
pub unwritten-kept : (asked : Command) (all : Bytes) (items : List Bytes) (h : Held) (s s' : Contents) (k l : KeeperView) (p : Plan) → loaded items ≡ Ok h → (result : Result Bytes Outcome)
    → IsMadeOf (case asked (Ok h) all) items h s s' k l p result → writes asked ≡ false → KeepsItems k l
unwritten-kept asked all items h s s' k l p read result made none = by result made.planned made.stored
  where
    planned-none : IsPlanned (room_in s) (case asked (Ok h) all) p → p ≡ NoPlan
    planned-none w = unwritten-plan asked items (room_in s) w.case w.step p (from asked items all w.case (ap (λ (g : Result Held Outcome). case asked g all) read ∙ w.came_up)) w.done w.planned none

    gets-none : p ≡ NoPlan → GetsItems (plan_items p) k l → KeepsItems k l
    gets-none e h = subst (λ (q : Plan). GetsItems (plan_items q) k l) e h

    by : (r : Result Bytes Outcome) → PlansFor (room_in s) (case asked (Ok h) all) p r → IsStored r p k l → KeepsItems k l
    by (Ok report) w stored = gets-none (planned-none w) stored
    by (Err StoreFault) w (inl stays) = stays
    by (Err StoreFault) w (inr gets) = gets-none (planned-none w) gets
    by (Err _) w stored = stored

-- A command that appends nothing has made what was made of its case.
pub still-made : (asked : Command) (all : Bytes) (items : List Bytes) (h : Held) (s s' : Contents) (k : KeeperView) (a : ℕ) (x : ℕ → List Bytes → Type 0) (result : Result Bytes Outcome)
    → (loads asked ≡ false → IsReported (IsInHands (hands_of (case asked (Ok h) all))) (step_in (room_of items) (case asked (Ok h) all)) result)
    → IsMadeOf (case asked (Ok h) all) items h s s' k k NoPlan result → IsCommandMade asked all items h s s' k k (OnlyAdds a a x x) result
still-made asked all items h s s' k a x result unloaded made =
    record { plan = NoPlan; made = made; stops = adds_none a x (IsStopOf h s NoPlan k.items); unloaded = unloaded }

-- no device is at fault in a result
abbrev pub IsQuietMade : Result Bytes Outcome → Type 0
IsQuietMade result = (result ≢ Err WriteFault) × (result ≢ Err ReadFault) × (result ≢ Err StoreFault)

abbrev told : Outcome → Result Bytes Outcome
told e = Err e

told-same : (e x : Outcome) → told e ≡ told x → e ≡ x
told-same e x g = cc

pub quiet-made : (e : Outcome) → e ≢ WriteFault → e ≢ ReadFault → e ≢ StoreFault → IsQuietMade (Err e)
quiet-made e write read store = (λ g. write (told-same e WriteFault g), λ g. read (told-same e ReadFault g), λ g. store (told-same e StoreFault g))

pub never-counts : (n : ℕ) (result : Result Bytes Outcome) → result ≢ Err StoreFault → Counts n n (result ≡ Err StoreFault)
never-counts n result apart = record { later = omega arith; rose = λ e. absurd (apart e) }

-- a report that was given is no fault
pub given-quiet : (report : Bytes) → IsQuietMade (Ok report)
given-quiet report = (λ g. cc, λ g. cc, λ g. cc)

-- What a source over a slice told is the slice.
pub slice-input : (source all input : Bytes) → Some (held_bytes source) ≡ Some input → all ≡ held_bytes source → all ≡ input
slice-input source all input told is = is ∙ same_Some (held_bytes source) input told

-- ---- refusals before a case

module _ (items : List Bytes) (h : Held) (s : Contents) (w : IsStateOf items h s) where
  self-grown : (r : Result Case Outcome) → IsGrownBy (IsInHands (hands_of r)) s.basis.store s.basis.store
  self-grown r = grown_self (IsInHands (hands_of r)) s.basis.store w.ground.graph.store

  -- The command is refused before it does anything.
  pub refused-command : (asked : Command) (all : Bytes) (e : Outcome) → IsOwn e → ((H : Object → Type 0) (room : Room) → IsRefusal H e (step_in room (case asked (Ok h) all)))
      → (k : KeeperView) (a : ℕ) (x : ℕ → List Bytes → Type 0) → IsCommandMade asked all items h s s k k (OnlyAdds a a x x) (Err e)
  refused-command asked all e own refused k a x = record {
    plan = NoPlan;
    made = record {
      reported = reported-err (IsAtHand s.basis.store r) (step_in (room_in s) r) e (refused (IsAtHand s.basis.store r) (room_in s));
      planned = none-planned (room_in s) r e own.store;
      good = good-none items h (room_in s);
      stored = none-stored e NoPlan k k own.store (keeps-self k);
      state = state-stays items h s e w;
      grown = self-grown r;
    };
    stops = adds_none a x (IsStopOf h s NoPlan k.items);
    unloaded = λ no. reported-err (IsInHands (hands_of r)) (step_in (room_of items) r) e (refused (IsInHands (hands_of r)) (room_of items));
  }
    where
      r : Result Case Outcome
      r = case asked (Ok h) all

  -- The command is refused by judging.
  pub unjudged-command : (asked : Command) (all : Bytes) (e : Outcome) → IsUnjudged asked e → (k : KeeperView) (a : ℕ) (x : ℕ → List Bytes → Type 0)
      → IsCommandMade asked all items h s s k k (OnlyAdds a a x x) (Err e)
  unjudged-command asked all e u k a x = refused-command asked all e u.own (λ H room. unjudged-refusal H room asked (Ok h) all e u) k a x

-- ---- a map that is put away

module _ (s s1 : Contents) (away : IsPutAway s s1) where
  pub away-state : (items : List Bytes) (h : Held) → IsStateOf items h s → IsStateOf items h s1
  away-state items h w = record {
    current = record {
      read = w.current.read;
      number = ap (λ (x : Contents). x.number) away.same ∙ w.current.number;
      size = ap (λ (x : Contents). x.size) away.same ∙ w.current.size;
    };
    spells = away.spells h w.spells;
    ground = ground-away w.ground away;
  }

  -- What is made of the state without its map is made of the state before, and so is what a stop may leave.
  pub away-made : (r : Result Case Outcome) (items : List Bytes) (h : Held) (s' : Contents) (k l : KeeperView) (p : Plan) (result : Result Bytes Outcome) → IsMadeOf r items h s1 s' k l p result
      → IsMadeOf r items h s s' k l p result
  away-made r items h s' k l p result made =
      let m = subst (λ (x : Contents). IsMadeOf r items h x s' k l p result) away.same made in
      record { reported = m.reported; planned = m.planned; good = m.good; stored = m.stored; state = m.state; grown = m.grown }

  pub away-stops : (h : Held) (p : Plan) (o : Option (List Bytes)) (a b : ℕ) (x y : ℕ → List Bytes → Type 0) → OnlyAdds a b x y (IsStopOf h s1 p o) → OnlyAdds a b x y (IsStopOf h s p o)
  away-stops h p o a b x y stops =
      adds_as a b x y (IsStopOf h s1 p o) (IsStopOf h s p o) (λ list. stop-as h s s1 p o list (ap room_in away.same)) stops

-- ---- a state that is as it was

behind-none : (items : List Bytes) (h : Held) (s : Contents) → IsStateOf items h s → IsStateOf (items ++ []) h s
behind-none items h s w = subst (λ (list : List Bytes). IsStateOf list h s) (sym (append-nil items)) w

state-behind : (items : List Bytes) (h : Held) (s : Contents) (result : Result Bytes Outcome) → IsStateOf items h s → IsStateAfter items h s NoPlan result
state-behind items h s (Ok report) w = behind-none items h s w
state-behind items h s (Err e) w = state-stays items h s e w

-- ---- a case that is of no state

module _ (c : Case) (alone : IsAlone c) (all : Bytes) (items : List Bytes) (h : Held) (s : Contents) (w : IsStateOf items h s) (k : KeeperView) where
  plan-upon : (result : Result Bytes Outcome) → result ≢ Err StoreFault → FormPlan (room_of items) (Ok c) NoPlan result → PlansFor (room_in s) (Ok c) NoPlan result
  plan-upon (Ok report) apart plan = subst (λ (room : Room). IsPlanned room (Ok c) NoPlan) (sym (room-same items h s w.current)) plan.planned
  plan-upon (Err e) apart plan = none-planned (room_in s) (Ok c) e (λ is. apart (ap Err is))

  alone-upon : (result : Result Bytes Outcome) → result ≢ Err StoreFault → IsFormMade (Ok c) items k k NoPlan result → IsMadeOf (Ok c) items h s s k k NoPlan result
  alone-upon result apart made = record {
    reported =
        subst (λ (room : Room). IsReported (IsAtHand s.basis.store (Ok c)) (step_in room (Ok c)) result) (sym (room-same items h s w.current))
        (reported-at (IsInHands (hands_of (Ok c))) (IsAtHand s.basis.store (Ok c)) (twice-as (IsInHands (hands_of (Ok c))) (IsAtHand s.basis.store (Ok c)) (λ o there. inr there))
        (step_in (room_of items) (Ok c)) result made.reported);
    planned = plan-upon result apart made.planned;
    good = good-none items h (room_in s);
    stored = made.stored;
    state = state-behind items h s result w;
    grown = self-grown items h s w (Ok c);
  }

  pub alone-command : (asked : Command) → case asked (Ok h) all ≡ Ok c → (a : ℕ) (x : ℕ → List Bytes → Type 0) (result : Result Bytes Outcome) → result ≢ Err StoreFault → IsReportOf (Ok c) result
      → IsCommandMade asked all items h s s k k (OnlyAdds a a x x) result
  alone-command asked is a x result apart report =
      still-made asked all items h s s k a x result
      (λ no. subst (λ (r : Result Case Outcome). IsReported (IsInHands (hands_of r)) (step_in (room_of items) r) result) (sym is) (alone-made c alone items k result report).reported)
      (subst (λ (r : Result Case Outcome). IsMadeOf r items h s s k k NoPlan result) (sym is) (alone-upon result apart (alone-made c alone items k result report)))

-- ---- an export, of which the whole text is kept

flowed-refusal : (H : Object → Type 0) (o q : SinkView) (r : Result Made Outcome) (e : Outcome) → e ≢ Done → e ≢ WriteFault → IsFlowed H r o q e → IsRefusal H e r
flowed-refusal H o q (Ok m) Done d w h = absurd (d refl)
flowed-refusal H o q (Ok m) WriteFault d w h = absurd (w refl)
flowed-refusal H o q (Ok m) OutOfMemory d w h = tt
flowed-refusal H o q (Ok m) e d w h = h.0
flowed-refusal H o q (Err x) OutOfMemory d w h = tt
flowed-refusal H o q (Err x) e d w h = h.0

-- what a sink has that had nothing is the report
flowed-report : (H : Object → Type 0) (o q : SinkView) (r : Result Made Outcome) (report : Bytes) → o.written ≡ Some [] → q.written ≡ Some report → IsFlowed H r o q Done → IsReported H r (Ok report)
flowed-report H o q (Ok m) report empty whole h =
    sym (subst₂ (λ (a b : Option Bytes). Appends a b m.output) empty whole h)
flowed-report H o q (Err x) report empty whole h = h.0

module _ (tagged : Bool) (h : Held) (f : Filter) (refname : Bytes) (o q : SinkView) where
  export-planned : (H : Object → Type 0) (items : List Bytes) (room : Room) (head : Result Bytes Outcome) → IsFlowed H (step_in room (head >>= λ n. Ok (ExportCase tagged h f refname n))) o q Done
      → All (IsLawful items NoPlan) (option_to_list (result_ok (head >>= λ n. Ok (ExportCase tagged h f refname n)))) → IsPlanned room (head >>= λ n. Ok (ExportCase tagged h f refname n)) NoPlan
  export-planned H items room (Ok n) flowed lawful = record {
    case = ExportCase tagged h f refname n;
    came_up = refl;
    step = unchanged h (export_output tagged h f refname n);
    done = refl;
    planned = (refl, All-head (IsLawful items NoPlan) (ExportCase tagged h f refname n) [] lawful);
  }
  export-planned H items room (Err e) flowed lawful = absurd flowed.0

  module _ (items : List Bytes) (s s' : Contents) (k : KeeperView) where
    abbrev sent : Result Case Outcome
    sent = export_case tagged h f refname

    pub export-done : (report : Bytes) → o.written ≡ Some [] → q.written ≡ Some report → IsExported sent items h s s' o q Done → IsMadeOf sent items h s s' k k NoPlan (Ok report)
    export-done report empty whole made = record {
      reported = flowed-report (IsAtHand s.basis.store sent) o q (step_in (room_in s) sent) report empty whole made.flowed;
      planned = export-planned (IsAtHand s.basis.store sent) items (room_in s) (head_of refname h.refs) made.flowed (made.lawful refl);
      good = good-none items h (room_in s);
      stored = keeps-self k;
      state = behind-none items h s' made.state;
      grown = made.grown;
    }

    pub export-refused : (e : Outcome) → e ≢ Done → e ≢ WriteFault → IsExported sent items h s s' o q e → IsMadeOf sent items h s s' k k NoPlan (Err e)
    export-refused e done write made = record {
      reported =
          reported-err (IsAtHand s.basis.store sent) (step_in (room_in s) sent) e
          (flowed-refusal (IsAtHand s.basis.store sent) o q (step_in (room_in s) sent) e done write made.flowed);
      planned = none-planned (room_in s) sent e (not-store sent items h s s' o q e made);
      good = good-none items h (room_in s);
      stored = none-stored e NoPlan k k (not-store sent items h s s' o q e made) (keeps-self k);
      state = state-stays items h s' e made.state;
      grown = made.grown;
    }
