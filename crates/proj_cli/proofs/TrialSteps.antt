-- How a trial goes on from one of its commands to the next.
use Rattle.std.proofs.Common.{◌≡◌, ◌≢◌, ◌⊎◌, inl, inr, ◌+◌, ◌++◌, ℕ, false, List, length, length-append, Contains, None, Result, Ok, Err, refl, sym, ap, subst, ◌∙◌, arith}
use Rattle.std.proofs.lemmas.List.Elements.{Contains-append_cases, Contains-append_left, Contains-append_right}
use Rattle.git_objects.specs.Paths.{Bytes}
use Rattle.git_objects.specs.Results.{◌>>=◌}
use Rattle.object_store.specs.Growth.{IsGrownBy}
use Rattle.object_store.specs.Objects.{Object}
use Rattle.filter_text.specs.Filters.{Filter}
use Rattle.proj_io.specs.Counts.{Counts}
use Rattle.proj_io.specs.Views.{KeeperView}
use Rattle.push_laws.specs.Pushes.{pushing}
use Rattle.state_items.specs.Items.{Held}
use Rattle.state_items.specs.Repos.{repo}
use Rattle.state_items.specs.Changes.{Plan, Room, held_after, plan_items, room_of}
use Rattle.repo_ground.specs.Contents.{Contents, room_in}
use Rattle.import_laws.specs.Bases.{base_of}
use Rattle.proj_words.specs.Words.{Command}
use Rattle.proj_words.specs.declared.outcome.Outcome.{Outcome}
use Rattle.proj_words.specs.declared.outcome.Outcome.TheVariants.{Done, OutOfMemory, Collision, ReadFault, WriteFault, StoreFault}
use Rattle.proj_commands.specs.Cases.{Case, ImportCase, Made, PushCase, head_of, loaded}
use Rattle.proj_commands.specs.Steps.{case, made, step}
use Rattle.proj_commands.specs.Push.{push_case}
use Rattle.proj_commands.specs.declared.lines.Telling.TheVariants.{Both}
use Rattle.proj_commands.specs.Filters.{rule_by, sound}
use Rattle.proj_commands.specs.Hands.{Hand, IsInHands}
use Rattle.proj_commands.specs.Makes.{IsAtHand, IsMadeOf, IsPlanIn, IsRefusal, IsReported, hands_of, step_in}
use Rattle.proj_cli.specs.Trials.{hands_on, left_by}
use Rattle.proj_cli.specs.Trying.{IsEnded, IsLeft, IsTried}
use Rattle.proj_cli.proofs.Delivering.{got}
use Rattle.proj_commands.specs.Judging.{IsOwn}
use Rattle.proj_commands.proofs.Refusing.{unsound-own}
use Rattle.proj_commands.proofs.StatesAfter.{room-same}
use Rattle.proj_commands.specs.Import.{tagged_ran}
use Rattle.proj_commands.specs.declared.pushing.Manner.TheVariants.{InLine}
use Rattle.proj_commands.proofs.InHands.{twice-as}

-- ---- hands

pub hands-left : (ks ls : List Hand) (o : Object) → IsInHands ks o → IsInHands (ks ++ ls) o
hands-left ks ls o w = let m = Contains-append_left ks ls w.1 (w.0, w.2, w.3) in (m.0, w.1, m.1, m.2, w.4)

pub hands-right : (ks ls : List Hand) (o : Object) → IsInHands ls o → IsInHands (ks ++ ls) o
hands-right ks ls o w = let m = Contains-append_right ks ls w.1 (w.0, w.2, w.3) in (m.0, w.1, m.1, m.2, w.4)

pub hands-cases : (ks ls : List Hand) (o : Object) → IsInHands (ks ++ ls) o → IsInHands ks o ⊎ IsInHands ls o
hands-cases ks ls o w = by (Contains-append_cases ks ls w.1 (w.0, w.2, w.3))
  where
    by : Contains ks w.1 ⊎ Contains ls w.1 → IsInHands ks o ⊎ IsInHands ls o
    by (inl m) = inl (m.0, w.1, m.1, m.2, w.4)
    by (inr m) = inr (m.0, w.1, m.1, m.2, w.4)

-- each hand of two is in a third
pub hands-both : (ks ls ms : List Hand) → ((o : Object) → IsInHands ks o → IsInHands ms o) → ((o : Object) → IsInHands ls o → IsInHands ms o) → (o : Object) → IsInHands (ks ++ ls) o → IsInHands ms o
hands-both ks ls ms f g o w = by (hands-cases ks ls o w)
  where
    by : IsInHands ks o ⊎ IsInHands ls o → IsInHands ms o
    by (inl m) = f o m
    by (inr m) = g o m

-- ---- ends

pub ended-as : {A : Type 0} (ks ls : List Hand) (r : Result A Outcome) (e : Outcome) → ((o : Object) → IsInHands ks o → IsInHands ls o) → IsEnded ks r e → IsEnded ls r e
ended-as ks ls r Done f h = h
ended-as ks ls r WriteFault f h = h
ended-as ks ls r ReadFault f h = h
ended-as ks ls r StoreFault f h = h
ended-as ks ls r OutOfMemory f h = h
ended-as ks ls r (Collision n) f (inl q) = inl q
ended-as ks ls r (Collision n) f (inr t) = inr (twice-as (IsInHands ks) (IsInHands ls) f n.0 t)
ended-as ks ls r _ f h = h

-- what comes behind is refused too
pub ended-on : {A B : Type 0} (ks : List Hand) (r : Result A Outcome) (k : A → Result B Outcome) (e : Outcome) → IsEnded ks r e → IsEnded ks (r >>= k) e
ended-on ks r k Done h = h
ended-on ks r k WriteFault h = h
ended-on ks r k ReadFault h = h
ended-on ks r k StoreFault h = h
ended-on ks r k OutOfMemory h = h
ended-on {A} {B} ks r k (Collision n) (inl q) = inl (ap (λ (x : Result A Outcome). x >>= k) q)
ended-on ks r k (Collision n) (inr t) = inr t
ended-on {A} {B} ks r k _ q = ap (λ (x : Result A Outcome). x >>= k) q

-- a refusal that no device tells
own-ended : {A : Type 0} (ks : List Hand) (r : Result A Outcome) (e : Outcome) → IsOwn e → r ≡ Err e → IsEnded ks r e
own-ended ks r Done w q = w.done refl
own-ended ks r WriteFault w q = w.write refl
own-ended ks r ReadFault w q = w.read refl
own-ended ks r StoreFault w q = w.store refl
own-ended ks r OutOfMemory w q = tt
own-ended ks r (Collision n) w q = inl q
own-ended ks r _ w q = q

pub unsound-ended : (ks : List Hand) (text : Bytes) (e : Outcome) → (e ≡ OutOfMemory) ⊎ (sound text ≡ Err e) → IsEnded ks (sound text) e
unsound-ended ks text e (inl m) = subst (λ (x : Outcome). IsEnded ks (sound text) x) (sym m) tt
unsound-ended ks text e (inr q) = own-ended ks (sound text) e (unsound-own text e (inr q)) q

-- a device that doesn't fail isn't at fault
pub never-fault : (e d : Outcome) → Counts 0 0 (◌≡◌ {A = Result Bytes Outcome} (Err e) (Err d)) → e ≢ d
never-fault e d w q = let no = w.rose (ap Err q) in omega arith

-- a step is refused
pub refusal-ended : (P : Object → Type 0) (ks : List Hand) (r : Result Made Outcome) (e : Outcome) → ((o : Object) → P o → IsInHands ks o) → e ≢ ReadFault → e ≢ StoreFault
    → IsRefusal P e r → IsEnded ks r e
refusal-ended P ks r Done f a b h = h
refusal-ended P ks r WriteFault f a b h = h
refusal-ended P ks r ReadFault f a b h = a refl
refusal-ended P ks r StoreFault f a b h = b refl
refusal-ended P ks r OutOfMemory f a b h = h
refusal-ended P ks r (Collision n) f a b (inl q) = inl q
refusal-ended P ks r (Collision n) f a b (inr t) = inr (twice-as P (IsInHands ks) f n.0 t)
refusal-ended P ks r _ f a b h = h

-- ---- behind one another

-- a command behind the others
pub left-on : (ks : List Hand) (left : Result (List Bytes) Outcome) (items : List Bytes) (next : List Bytes → Result (List Bytes) Outcome) (more : List Bytes → List Hand) (s : Contents)
    (result : Result (Unit {0}) Outcome) → left ≡ Ok items → IsLeft (ks ++ more items) (next items) s result → IsLeft (ks ++ hands_on left more) (left >>= next) s result
left-on ks left items next more s result q w =
    subst (λ (x : Result (List Bytes) Outcome). IsLeft (ks ++ hands_on x more) (x >>= next) s result) (sym q) w

-- none is tried behind one that has ended
pub ended-left : {A : Type 0} (ks : List Hand) (left : Result (List Bytes) Outcome) (next : List Bytes → Result A Outcome) (more : List Bytes → List Hand) (e : Outcome)
    → IsEnded ks left e → IsEnded (ks ++ hands_on left more) (left >>= next) e
ended-left ks left next more e w =
    ended-as ks (ks ++ hands_on left more) (left >>= next) e (hands-left ks (hands_on left more)) (ended-on ks left next e w)

-- ---- the state

-- what a store has grown by is in further hands
pub brought-on : (ks ls : List Hand) (S T : List Object) → ((o : Object) → Contains S o → IsInHands ks o) → IsGrownBy (IsInHands ls) S T → (o : Object) → Contains T o → IsInHands (ks ++ ls) o
brought-on ks ls S T f g o m = by (Contains-append_cases g.newer S o (subst (λ (U : List Object). Contains U o) (sym g.above) m))
  where
    by : Contains g.newer o ⊎ Contains S o → IsInHands (ks ++ ls) o
    by (inl w) = hands-right ks ls o (g.all o w)
    by (inr w) = hands-left ks ls o (f o w)

-- ---- a command upon it

-- Nothing that is kept plays a part in what comes of a case, and its plan is the step's.
pub record IsPlain (r : Result Case Outcome) : Type 0 where
  pub same : (room : Room) → (r >>= made room) ≡ step_in room r
  pub planned : (room : Room) (c : Case) (m : Made) (p : Plan) → r ≡ Ok c → IsPlanIn room c m p → p ≡ m.plan

ok-same : {A : Type 0} (x y : A) → ◌≡◌ {A = Result A Outcome} (Ok x) (Ok y) → x ≡ y
ok-same x y e = cc

pub import-plain : (h : Held) (all : Bytes) → IsPlain (Ok (ImportCase false h (tagged_ran (base_of h) all)))
import-plain h all = record {
  same = λ room. refl;
  planned = λ room c m p e w.
      subst (λ (d : Case). IsPlanIn room d m p → p ≡ m.plan) (ok-same (ImportCase false h (tagged_ran (base_of h) all)) c e) (λ q. q) w;
}

module _ (h : Held) (f : Filter) (refname all : Bytes) where
  abbrev pushed : Bytes → Case
  pushed n = PushCase InLine Both h f refname n (pushing (rule_by h.rule) f (repo h).commits n refname all)

  push-same : (room : Room) (x : Result Bytes Outcome) → ((x >>= λ n. Ok (pushed n)) >>= made room) ≡ step_in room (x >>= λ n. Ok (pushed n))
  push-same room (Ok n) = refl
  push-same room (Err e) = refl

  push-planned : (room : Room) (c : Case) (m : Made) (p : Plan) (x : Result Bytes Outcome) → (x >>= λ n. Ok (pushed n)) ≡ Ok c → IsPlanIn room c m p → p ≡ m.plan
  push-planned room c m p (Ok n) e w = subst (λ (d : Case). IsPlanIn room d m p → p ≡ m.plan) (ok-same (pushed n) c e) (λ q. q.0) w
  push-planned room c m p (Err x) e w = absurd (let no : Err x ≡ Ok c = e in cc)

  pub push-plain : IsPlain (push_case InLine Both h f refname all)
  push-plain = record { same = λ room. push-same room (head_of refname h.refs); planned = λ room c m p e w. push-planned room c m p (head_of refname h.refs) e w }

module _ (asked : Command) (input : Bytes) (items : List Bytes) (h : Held) (hands : List Hand) (s s' : Contents) (w : IsTried items h hands s)
    (r : Result Case Outcome) (plain : IsPlain r) (is : case asked (loaded items) input ≡ r) (before after : KeeperView) (p : Plan) where
  abbrev more : List Hand
  more = hands_of (case asked (loaded items) input)

  same-step : step asked items input ≡ step_in (room_in s) r
  same-step =
      ap (λ (x : Result Case Outcome). x >>= made (room_of items)) is
      ∙ plain.same (room_of items)
      ∙ sym (ap (λ (room : Room). step_in room r) (room-same items h s w.state.current))

  more-in : (o : Object) → IsInHands (hands_of r) o → IsInHands more o
  more-in o q = subst (λ (x : Result Case Outcome). IsInHands (hands_of x) o) (sym is) q

  pub command-brought : IsGrownBy (IsInHands (hands_of r)) s.basis.store s'.basis.store → (o : Object) → Contains s'.basis.store o → IsInHands (hands ++ more) o
  command-brought g =
      brought-on hands more s.basis.store s'.basis.store w.brought
      (subst (λ (x : Result Case Outcome). IsGrownBy (IsInHands (hands_of x)) s.basis.store s'.basis.store) (sym is) g)

  -- it is done
  pub command-done : (report : Bytes) (u : Unit {0}) → IsMadeOf r items h s s' before after p (Ok report) → IsLeft (hands ++ more) (left_by asked items input) s' (Ok u)
  command-done report u m =
      let d = m.planned in (
        items ++ plan_items p,
        held_after h p,
        ap (λ (x : Result Made Outcome). x >>= λ y. Ok (items ++ plan_items y.plan)) (same-step ∙ ap (step_in (room_in s)) d.came_up ∙ d.done)
            ∙ ap (λ (q : Plan). Ok (items ++ plan_items q)) (sym (plain.planned (room_in s) d.case d.step p d.came_up d.planned)),
        record { state = m.state; brought = command-brought m.grown },
      )

  -- the keeper has as many items as the state
  pub command-counted : (report : Bytes) → s.number ≡ before.number → IsMadeOf r items h s s' before after p (Ok report) → s'.number ≡ after.number
  command-counted report n m =
      let g = got (record { left = None; faults = 0 }) (record { left = None; faults = 0 }) (record { written = None; faults = 0; refusals = 0 }) (record { written = None; faults = 0; refusals = 0 }) before after p m.stored in
      m.state.current.number
      ∙ length-append items (plan_items p)
      ∙ ap (λ (k : ℕ). k + length (plan_items p)) (sym w.state.current.number ∙ n)
      ∙ sym g.0

  -- it is refused
  pub command-ended : (e : Outcome) → e ≢ ReadFault → e ≢ StoreFault → IsMadeOf r items h s s' before after p (Err e) → IsEnded (hands ++ more) (left_by asked items input) e
  command-ended e a b m =
      ended-on (hands ++ more) (step asked items input) (λ y. Ok (items ++ plan_items y.plan)) e
      (subst (λ (x : Result Made Outcome). IsEnded (hands ++ more) x e) (sym same-step)
      (refusal-ended (IsAtHand s.basis.store r) (hands ++ more) (step_in (room_in s) r) e at a b (refused (step_in (room_in s) r) m.reported)))
    where
      at : (o : Object) → IsAtHand s.basis.store r o → IsInHands (hands ++ more) o
      at o (inl there) = hands-left hands more o (w.brought o there)
      at o (inr q) = hands-right hands more o (more-in o q)

      refused : (x : Result Made Outcome) → IsReported (IsAtHand s.basis.store r) x (Err e) → IsRefusal (IsAtHand s.basis.store r) e x
      refused (Ok y) q = q
      refused (Err y) q = q
