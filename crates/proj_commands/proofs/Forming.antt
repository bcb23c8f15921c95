-- What is made of a case upon a state that was loaded is what is made of a form for the items.
use Rattle.std.proofs.Common.{◌≡◌, inl, inr, ◌+◌, ◌++◌, ℕ, List, [], ◌∷◌, Option, None, Some, Result, Ok, Err, IfSome, refl, sym, ap, subst, ◌∙◌, arith}
use Rattle.std.specs.Prelude.{Contains}
use Rattle.std.proofs.lemmas.Option.{same_Some}
use Rattle.git_objects.specs.Paths.{Bytes}
use Rattle.git_objects.specs.Results.{refused_by}
use Rattle.object_store.specs.Objects.{Object, IsStore, find_named, object_name}
use Rattle.proj_io.specs.Counts.{Counts}
use Rattle.proj_io.specs.Items.{Stays, Gets}
use Rattle.proj_io.specs.Stops.{OnlyAdds, Nothing, adds_as, adds_on}
use Rattle.proj_io.specs.Uses.{IsOnlyRead, IsUsed}
use Rattle.proj_io.specs.Views.{SinkView, KeeperView}
use Rattle.state_items.specs.Hands.{IsTwice}
use Rattle.state_items.specs.Items.{Held, read_items}
use Rattle.state_items.specs.Changes.{Plan, Room, plan_items, room_of}
use Rattle.state_items.proofs.ReadObjects.{ok-same}
use Rattle.repo_ground.specs.Changes.{GetsItems, IsStopOf, KeepsItems}
use Rattle.repo_ground.specs.Contents.{Contents, IsCurrent, room_in}
use Rattle.repo_ground.specs.Loads.{IsLoaded}
use Rattle.proj_words.specs.Words.{Command}
use Rattle.proj_words.specs.declared.outcome.Outcome.{Outcome}
use Rattle.proj_words.specs.declared.outcome.Outcome.TheVariants.{Done, OutOfMemory, Collision, ReadFault, WriteFault, StoreFault}
use Rattle.proj_commands.specs.Cases.{Case, Made, break_outcome, loaded}
use Rattle.proj_commands.specs.Steps.{case, hand}
use Rattle.proj_commands.specs.Forms.{FormPlan, IsExport, IsForm, IsFormMade, IsFormStop}
use Rattle.proj_commands.specs.Hands.{HeldObject, IsInHands}
use Rattle.proj_commands.specs.Makes.{IsAtHand, IsExported, IsFlowed, IsGoodPlan, IsMadeOf, IsRefusal, IsReported, IsStateOf, IsStored, PlansFor, hands_of, step_in, IsCommandMade}
use Rattle.proj_commands.proofs.InHands.{twice-as}

-- ---- what is at hand

-- a case holds these objects
abbrev pub HoldsAll : List Object → Result Case Outcome → Type 0
HoldsAll S (Ok c) = (hand c).held ≡ S
HoldsAll S (Err e) = Unit {0}

pub at-hand : (S : List Object) (c : Case) → (hand c).held ≡ S → (o : Object) → IsAtHand S (Ok c) o → IsInHands (hands_of (Ok c)) o
at-hand S c e o (inl there) = (0, hand c, omega arith, refl, HeldObject (subst (λ (T : List Object). Contains T o) (sym e) there))
at-hand S c e o (inr h) = h

-- each object of a store has a name of its own
abbrev pub AreNamed : List Object → Type 0
AreNamed S = (o : Object) → Contains S o → find_named S (object_name o) ≡ Some o

none-at : (S : List Object) (e : Outcome) (o : Object) → IsAtHand S (Err e) o → Contains S o
none-at S e o (inl there) = there
none-at S e o (inr h) = absurd (omega (arith, h.2))

pub no-twice : (S : List Object) (e : Outcome) → AreNamed S → (n : Bytes) → IsTwice (IsAtHand S (Err e)) n → ⊥
no-twice S e named n t =
    t.apart (same_Some t.first t.second
    (sym (named t.first (none-at S e t.first t.first_there))
    ∙ ap (find_named S) (t.first_named ∙ sym t.second_named)
    ∙ named t.second (none-at S e t.second t.second_there)))

pub twice-in : (S : List Object) (r : Result Case Outcome) → AreNamed S → HoldsAll S r → (n : Bytes) → IsTwice (IsAtHand S r) n → IsTwice (IsInHands (hands_of r)) n
twice-in S (Ok c) named e n t = twice-as (IsAtHand S (Ok c)) (IsInHands (hands_of (Ok c))) (at-hand S c e) n t
twice-in S (Err e) named h n t = absurd (no-twice S e named n t)

-- ---- reports

module _ (P Q : Object → Type 0) (f : (n : Bytes) → IsTwice P n → IsTwice Q n) where
  pub refusal-at : (e : Outcome) (r : Result Made Outcome) → IsRefusal P e r → IsRefusal Q e r
  refusal-at Done r h = h
  refusal-at WriteFault r h = h
  refusal-at OutOfMemory r h = tt
  refusal-at ReadFault r h = tt
  refusal-at StoreFault r h = tt
  refusal-at (Collision n) r (inl e) = inl e
  refusal-at (Collision n) r (inr t) = inr (f n.0 t)
  refusal-at _ r h = h

  pub reported-at : (r : Result Made Outcome) (result : Result Bytes Outcome) → IsReported P r result → IsReported Q r result
  reported-at (Ok m) (Ok report) h = h
  reported-at (Err e) (Ok report) h = h
  reported-at (Ok m) (Err e) h = refusal-at e (Ok m) h
  reported-at (Err x) (Err e) h = refusal-at e (Err x) h

  pub flowed-at : (o q : SinkView) (r : Result Made Outcome) (e : Outcome) → IsFlowed P r o q e → IsFlowed Q r o q e
  flowed-at o q (Ok m) Done h = h
  flowed-at o q (Ok m) WriteFault h = h
  flowed-at o q (Ok m) OutOfMemory h = h
  flowed-at o q (Ok m) e h = (refusal-at e (Ok m) h.0, h.1, h.2)
  flowed-at o q (Err x) OutOfMemory h = h
  flowed-at o q (Err x) e h = (refusal-at e (Err x) h.0, h.1, h.2)

-- ---- plans

form-plan : (room : Room) (r : Result Case Outcome) (p : Plan) (result : Result Bytes Outcome) → ((c : Case) → r ≡ Ok c → IsStore (hand c).held)
    → PlansFor room r p result → FormPlan room r p result
form-plan room r p (Ok report) store h = record { planned = h; store = store h.case h.came_up }
form-plan room r p (Err StoreFault) store h = inr (record { planned = h; store = store h.case h.came_up })
form-plan room r p (Err _) store h = h

held-store : (S : List Object) (r : Result Case Outcome) → HoldsAll S r → IsStore S → (c : Case) → r ≡ Ok c → IsStore (hand c).held
held-store S (Ok d) e s c g = subst (λ (x : Case). IsStore (hand x).held) (ok-same d c g) (subst IsStore (sym e) s)
held-store S (Err x) e s c g = cc

-- ---- keepers

Stays-on : (a b c : Option (List Bytes)) → Stays a b → Stays b c → Stays a c
Stays-on None b c p q = tt
Stays-on (Some x) None c p q = absurd p
Stays-on (Some x) (Some y) None p q = absurd q
Stays-on (Some x) (Some y) (Some z) p q = q ∙ p

Gets-on : (a b c : Option (List Bytes)) (item : Bytes) → Stays a b → Gets b c item → Gets a c item
Gets-on None b c item p q = tt
Gets-on (Some x) None c item p q = absurd p
Gets-on (Some x) (Some y) None item p q = absurd q
Gets-on (Some x) (Some y) (Some z) item p q = q ∙ ap (λ (l : List Bytes). l ++ item ∷ []) p

pub Stays-self : (a : Option (List Bytes)) → Stays a a
Stays-self None = tt
Stays-self (Some x) = refl

pub keeps-self : (k : KeeperView) → KeepsItems k k
keeps-self k = (refl, Stays-self k.items)

pub keeps-on : (k m l : KeeperView) → KeepsItems k m → KeepsItems m l → KeepsItems k l
keeps-on k m l a b = (b.0 ∙ a.0, Stays-on k.items m.items l.items a.1 b.1)

gets-on : (k m l : KeeperView) (items : List Bytes) → KeepsItems k m → GetsItems items m l → GetsItems items k l
gets-on k m l [] a b = keeps-on k m l a b
gets-on k m l (item ∷ more) a b = (b.0 ∙ ap (λ (n : ℕ). n + 1) a.0, Gets-on k.items m.items l.items item a.1 b.1)

stored-on : (result : Result Bytes Outcome) (p : Plan) (k m l : KeeperView) → KeepsItems k m → IsStored result p m l → IsStored result p k l
stored-on (Ok report) p k m l a b = gets-on k m l (plan_items p) a b
stored-on (Err StoreFault) p k m l a (inl b) = inl (keeps-on k m l a b)
stored-on (Err StoreFault) p k m l a (inr b) = inr (gets-on k m l (plan_items p) a b)
stored-on (Err _) p k m l a b = keeps-on k m l a b

pub still-told : (a b : Option (List Bytes)) (items : List Bytes) → Stays a b → a ≡ Some items → b ≡ Some items
still-told None b items g e = cc
still-told (Some xs) None items g e = absurd g
still-told (Some xs) (Some ys) items g e = ap Some g ∙ e

-- ---- a form that was made upon a state

same-room : (items : List Bytes) (h : Held) (s : Contents) → IsCurrent items h s → room_in s ≡ room_of items
same-room items h s c = λ i. record { number = c.number i; size = c.size i }

module _ (items : List Bytes) (h : Held) (s : Contents) (st : IsStateOf items h s) (only : s.basis.store ≡ h.objects) where
  named : AreNamed s.basis.store
  named o there = st.spells.within o (subst (λ (T : List Object). Contains T o) only there)

  good-at : (p : Plan) → IsGoodPlan items h (room_in s) p → (g : Held) → read_items items ≡ Ok g → IsGoodPlan items g (room_of items) p
  good-at p good g read =
      subst (λ (x : Held). IsGoodPlan items x (room_of items) p) (ok-same h g (sym st.current.read ∙ read))
      (subst (λ (room : Room). IsGoodPlan items h room p) (same-room items h s st.current) good)

  form-made : (r : Result Case Outcome) (s' : Contents) (k m l : KeeperView) (p : Plan) (result : Result Bytes Outcome) → HoldsAll h.objects r → KeepsItems k m
      → IsMadeOf r items h s s' m l p result → IsFormMade r items k l p result
  form-made r s' k m l p result holds kept made = record {
    reported =
        subst (λ (room : Room). IsReported (IsInHands (hands_of r)) (step_in room r) result) (same-room items h s st.current)
        (reported-at (IsAtHand s.basis.store r) (IsInHands (hands_of r)) (twice-in s.basis.store r named (subst (λ (T : List Object). HoldsAll T r) (sym only) holds))
        (step_in (room_in s) r) result made.reported);
    planned =
        subst (λ (room : Room). FormPlan room r p result) (same-room items h s st.current)
        (form-plan (room_in s) r p result (held-store h.objects r holds st.spells.store) made.planned);
    good = good-at p made.good;
    stored = stored-on result p k m l kept made.stored;
  }

-- ---- stops

form-stop : (items : List Bytes) (h : Held) (s : Contents) (p : Plan) (o : Option (List Bytes)) → o ≡ Some items → (list : List Bytes) → IsStopOf h s p o list → IsFormStop items p list
form-stop items h s p o e list stop = by (subst (λ (x : Option (List Bytes)). IsStopOf h s p x list) e stop)
  where
    by : IsStopOf h s p (Some items) list → IsFormStop items p list
    by (inl was) = inl was
    by (inr more) = inr more.1

pub adds-nothing : {X : Type 0} (a b : ℕ) (x y : ℕ → X → Type 0) (Kind : X → Type 0) → OnlyAdds a b x y Nothing → OnlyAdds a b x y Kind
adds-nothing a b x y Kind adds = adds_as a b x y Nothing Kind (λ left none. absurd none) adds

-- a fault in a later call
pub counts-on : (f g h : ℕ) (Early Late : Type 0) → Counts f g Early → Counts g h Late → Counts f h Late
counts-on f g h Early Late first second = record { later = omega (arith, first.later, second.later); rose = λ e. omega (arith, first.later, second.rose e) }

-- a call behind one that only read
pub used-on : {K : Type 0} (items_of : K → Option (List (List ℕ))) (number_of : K → ℕ) (opens tells : K → Type 0) (moment : K → ℕ) (left_since : K → ℕ → List (List ℕ) → Type 0) (faults : K → ℕ) (a b d : K) (Early Late : Type 0)
    → IsOnlyRead items_of number_of opens tells moment left_since a b → Counts (faults a) (faults b) Early → IsUsed faults opens tells b d Late → IsUsed faults opens tells a d Late
used-on items_of number_of opens tells moment left_since faults a b d Early Late first counts second = record {
  is_open = second.is_open;
  told = (λ x. first.told.0 (second.told.0 x), λ x. second.told.1 (first.told.1 x));
  cause = counts-on _ _ _ _ _ counts second.cause;
}

-- no call was made
pub used-not : {K : Type 0} (faults : K → ℕ) (opens tells : K → Type 0) (k : K) {HasFailed : Type 0} → opens k → Counts (faults k) (faults k) HasFailed → IsUsed faults opens tells k k HasFailed
used-not faults opens tells k may counts = record { is_open = λ _. may; told = (λ x. x, λ x. x); cause = counts }

-- what was loaded
module _ (items : List Bytes) (k m : KeeperView) (number : ℕ) (s : Contents) (told : k.items ≡ Some items) (kept : KeepsItems k m) (w : IsLoaded k.items number s) where
  loaded-items : w.items ≡ items
  loaded-items = subst (λ (o : Option (List Bytes)). IfSome o (λ all. w.items ≡ all)) told w.keeps

  pub loaded-state : IsStateOf items w.held s
  loaded-state =
      record { current = subst (λ (xs : List Bytes). IsCurrent xs w.held s) loaded-items w.current; spells = w.spells; ground = w.ground }

  same-case : (asked : Command) (all : Bytes) → case asked (Ok w.held) all ≡ case asked (loaded items) all
  same-case asked all = sym (ap (λ (x : Result Held Outcome). case asked x all) (ap (refused_by break_outcome) loaded-state.current.read))

  -- What a command made of the state is made of its form for the items.
  pub command-form : (asked : Command) (all : Bytes) → HoldsAll w.held.objects (case asked (Ok w.held) all) → (s' : Contents) (l : KeeperView) (result : Result Bytes Outcome) (a b c : ℕ) (x y z : ℕ → List Bytes → Type 0)
      → OnlyAdds a b x y Nothing → IsCommandMade asked all items w.held s s' m l (OnlyAdds b c y z) result → IsForm asked items all k l (OnlyAdds a c x z) result
  command-form asked all holds s' l result a b c x y z first made = record {
    plan = made.plan;
    made =
        subst (λ (q : Result Case Outcome). IsFormMade q items k l made.plan result) (same-case asked all)
        (form-made items w.held s loaded-state w.only (case asked (Ok w.held) all) s' k m l made.plan result holds kept made.made);
    stops =
        adds_on a b c x y z (IsFormStop items made.plan) (adds-nothing a b x y (IsFormStop items made.plan) first)
        (adds_as b c y z (IsStopOf w.held s made.plan m.items) (IsFormStop items made.plan) (form-stop items w.held s made.plan m.items (still-told k.items m.items items kept.1 told)) made.stops);
  }

  -- what is written while it is made
  pub export-of : (r : Held → Result Case Outcome) (e : Result Held Outcome → Result Case Outcome) → ((h : Held) → HoldsAll h.objects (r h)) → ((h : Held) → r h ≡ e (Ok h)) → (s' : Contents) (o q : SinkView) (outcome : Outcome)
      → IsExported (r w.held) items w.held s s' o q outcome → IsExport (e (loaded items)) items o q outcome
  export-of r e holds same s' o q outcome made =
      subst (λ (x : Result Case Outcome). IsExport x items o q outcome) (same w.held ∙ sym (ap e (ap (refused_by break_outcome) loaded-state.current.read)))
      (record {
        flowed = inr (subst (λ (room : Room). IsFlowed (IsInHands (hands_of (r w.held))) (step_in room (r w.held)) o q outcome) (same-room items w.held s loaded-state.current)
            (flowed-at (IsAtHand s.basis.store (r w.held)) (IsInHands (hands_of (r w.held)))
            (twice-in s.basis.store (r w.held) (named items w.held s loaded-state w.only) (subst (λ (T : List Object). HoldsAll T (r w.held)) (sym w.only) (holds w.held)))
            o q (step_in (room_in s) (r w.held)) outcome made.flowed));
        lawful = made.lawful;
      })
