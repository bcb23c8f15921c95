-- A stop leaves a front of the items that are there then, with the items of an earlier moment in front.
use Rattle.std.proofs.Common.{◌≡◌, ◌≢◌, inl, inr, ⊎_elim, ◌++◌, ℕ, List, [], append-nil, append_assoc, Option, None, Some, Result, Ok, Err, refl, sym, ap, subst, ◌∙◌, arith}
use Rattle.git_objects.specs.Paths.{Bytes}
use Rattle.proj_io.specs.Items.{Stays}
use Rattle.proj_io.specs.Stops.{OnlyAdds, Nothing, adds_as, adds_on}
use Rattle.proj_io.specs.Views.{KeeperView}
use Rattle.state_items.specs.Items.{Held}
use Rattle.state_items.specs.Changes.{NoPlan, Plan, Room, plan_items}
use Rattle.repo_ground.specs.Changes.{GetsItems, IsStopOf, KeepsItems}
use Rattle.repo_ground.specs.Contents.{Contents}
use Rattle.repo_ground.proofs.Stopping.{adds_none}
use Rattle.proj_words.specs.Words.{Command}
use Rattle.proj_words.specs.declared.outcome.Outcome.{Outcome}
use Rattle.proj_words.specs.declared.outcome.Outcome.TheVariants.{StoreFault}
use Rattle.proj_cli.specs.Answers.{GetsAll}
use Rattle.proj_commands.specs.Cases.{Case}
use Rattle.proj_commands.specs.Forms.{FormPlan, IsForm, IsFormStop}
use Rattle.proj_commands.specs.Makes.{IsStored, PlansFor, IsCommandMade}
use Rattle.proj_cli.specs.Stopped.{IsBetween, IsFront, OnlyGrows}
use Rattle.proj_cli.proofs.BatchesRun.{got-none}
use Rattle.proj_cli.proofs.Delivering.{got}
use Rattle.proj_commands.proofs.Forming.{adds-nothing}

-- ---- fronts

front-self : (xs : List Bytes) → IsFront xs xs
front-self xs = ([], sym (append-nil xs))

front-on : (xs ys zs : List Bytes) → IsFront xs ys → IsFront ys zs → IsFront xs zs
front-on xs ys zs f g = (f.0 ++ g.0, g.1 ∙ ap (λ (l : List Bytes). l ++ g.0) f.1 ∙ append_assoc xs f.0 g.0)

front-of : (xs ys zs : List Bytes) → ys ≡ xs → IsFront xs zs → IsFront ys zs
front-of xs ys zs e f = (f.0, f.1 ∙ ap (λ (l : List Bytes). l ++ f.0) (sym e))

-- ---- a keeper that grows

-- no call was made, or it was only read
pub grows-still : (items : List Bytes) (o q : Option (List Bytes)) → o ≡ Some items → Stays o q → (a b : ℕ) (x y : ℕ → List Bytes → Type 0) → OnlyAdds a b x y Nothing → OnlyGrows items q (OnlyAdds a b x y)
grows-still items o q told stays a b x y adds = by q (subst (λ (p : Option (List Bytes)). Stays p q) told stays)
  where
    by : (q : Option (List Bytes)) → Stays (Some items) q → OnlyGrows items q (OnlyAdds a b x y)
    by None s = absurd s
    by (Some all) s = record { all = items; told = ap Some s; behind = front-self items; stops = adds-nothing a b x y (IsBetween items items) adds }

pub grows-self : (items : List Bytes) (o : Option (List Bytes)) → o ≡ Some items → (a : ℕ) (x : ℕ → List Bytes → Type 0) → OnlyGrows items o (OnlyAdds a a x x)
grows-self items o told a x = record { all = items; told = told; behind = front-self items; stops = adds_none a x (IsBetween items items) }

-- one call after another
pub grows-on : (items : List Bytes) (m q : Option (List Bytes)) (a b c : ℕ) (x y z : ℕ → List Bytes → Type 0) → OnlyGrows items m (OnlyAdds a b x y)
    → ((mid : List Bytes) → m ≡ Some mid → OnlyGrows mid q (OnlyAdds b c y z)) → OnlyGrows items q (OnlyAdds a c x z)
grows-on items m q a b c x y z first next = by (next first.all first.told)
  where
    by : OnlyGrows first.all q (OnlyAdds b c y z) → OnlyGrows items q (OnlyAdds a c x z)
    by second = record {
      all = second.all;
      told = second.told;
      behind = front-on items first.all second.all first.behind second.behind;
      stops =
          adds_on a b c x y z (IsBetween items second.all)
          (adds_as a b x y (IsBetween items first.all) (IsBetween items second.all) (λ list w. (w.0, front-on list first.all second.all w.1 second.behind)) first.stops)
          (adds_as b c y z (IsBetween first.all second.all) (IsBetween items second.all) (λ list w. (front-on items first.all list first.behind w.0, w.1)) second.stops);
    }

-- and since the call began, when a stop left the items as they were
pub grows-began : (items : List Bytes) (q : Option (List Bytes)) (a b : ℕ) (x y : ℕ → List Bytes → Type 0) → OnlyGrows items q (OnlyAdds a b x y) → ((list : List Bytes) → x a list → list ≡ items)
    → OnlyGrows items q (λ Kind. ((list : List Bytes) → y a list → Kind list) × OnlyAdds a b x y Kind)
grows-began items q a b x y g at_first = record {
  all = g.all;
  told = g.told;
  behind = g.behind;
  stops = (λ list since. ⊎_elim (λ was. at-first list (at_first list was)) (λ new. new) (g.stops.each a list (omega arith) since), g.stops);
}
  where
    at-first : (list : List Bytes) → list ≡ items → IsBetween items g.all list
    at-first list e = (([], e ∙ sym (append-nil items)), front-of items list g.all e g.behind)

-- ---- a plan that was appended, or not

module _ (items : List Bytes) (k l : KeeperView) (told : k.items ≡ Some items) (p : Plan) (more : GetsAll k.items (plan_items p) l.items) where
  got-told : (o q : Option (List Bytes)) → o ≡ Some items → GetsAll o (plan_items p) q → q ≡ Some (items ++ plan_items p)
  got-told None q e g = absurd (let no : ⊥ = cc in no)
  got-told (Some x) None e g = absurd g
  got-told (Some x) (Some y) e g = let same : x ≡ items = cc in ap Some (g ∙ ap (λ (l : List Bytes). l ++ plan_items p) same)

  between : (list : List Bytes) → IsFormStop items p list → IsBetween items (items ++ plan_items p) list
  between list (inl e) = (([], e ∙ sym (append-nil items)), (plan_items p, ap (λ (l : List Bytes). l ++ plan_items p) (sym e)))
  between list (inr e) = ((plan_items p, e), ([], sym e ∙ sym (append-nil list)))

  grows-by : (a b : ℕ) (x y : ℕ → List Bytes → Type 0) (Kind : List Bytes → Type 0) → ((list : List Bytes) → Kind list → IsFormStop items p list) → OnlyAdds a b x y Kind → OnlyGrows items l.items (OnlyAdds a b x y)
  grows-by a b x y Kind is adds = record {
    all = items ++ plan_items p;
    told = got-told k.items l.items told more;
    behind = (plan_items p, refl);
    stops = adds_as a b x y Kind (IsBetween items (items ++ plan_items p)) (λ list stop. between list (is list stop)) adds;
  }

module _ (p : Plan) (k l : KeeperView) where
  got-plan : GetsItems (plan_items p) k l → GetsAll k.items (plan_items p) l.items
  got-plan g =
      (got (record { left = None; faults = 0 }) (record { left = None; faults = 0 }) (record { written = None; faults = 0; refusals = 0 }) (record { written = None; faults = 0; refusals = 0 }) k l p g).1

  got-nothing : p ≡ NoPlan → KeepsItems k l → GetsAll k.items (plan_items p) l.items
  got-nothing none kept = subst (λ (x : Plan). GetsAll k.items (plan_items x) l.items) (sym none) (got-none k l kept).1

  command-got : (room : Room) (r : Result Case Outcome) (result : Result Bytes Outcome) → result ≢ Err StoreFault → PlansFor room r p result → IsStored result p k l → GetsAll k.items (plan_items p) l.items
  command-got room r (Ok report) apart w g = got-plan g
  command-got room r (Err StoreFault) apart w g = absurd (apart refl)
  command-got room r (Err _) apart none g = got-nothing none g

  form-got : (room : Room) (r : Result Case Outcome) (result : Result Bytes Outcome) → result ≢ Err StoreFault → FormPlan room r p result → IsStored result p k l → GetsAll k.items (plan_items p) l.items
  form-got room r (Ok report) apart w g = got-plan g
  form-got room r (Err StoreFault) apart w g = absurd (apart refl)
  form-got room r (Err _) apart none g = got-nothing none g

-- ---- what a command made

stop-of : (items : List Bytes) (h : Held) (s : Contents) (p : Plan) (o : Option (List Bytes)) → o ≡ Some items → (list : List Bytes) → IsStopOf h s p o list → IsFormStop items p list
stop-of items h s p o e list stop = by (subst (λ (x : Option (List Bytes)). IsStopOf h s p x list) e stop)
  where
    by : IsStopOf h s p (Some items) list → IsFormStop items p list
    by (inl was) = inl was
    by (inr more) = inr more.1

-- of a command upon a state, unless the store failed
pub command-grows : (asked : Command) (input : Bytes) (items : List Bytes) (h : Held) (s s' : Contents) (k l : KeeperView) (a b : ℕ) (x y : ℕ → List Bytes → Type 0) (result : Result Bytes Outcome)
    → IsCommandMade asked input items h s s' k l (OnlyAdds a b x y) result → result ≢ Err StoreFault → (there : List Bytes) → k.items ≡ Some there → OnlyGrows there l.items (OnlyAdds a b x y)
command-grows asked input items h s s' k l a b x y result w apart there told =
    grows-by there k l told w.plan (command-got w.plan k l _ _ result apart w.made.planned w.made.stored) a b x y (IsStopOf h s w.plan k.items) (stop-of there h s w.plan k.items told) w.stops

-- of a single command, unless the store failed
pub form-grows : (asked : Command) (items : List Bytes) (input : Bytes) (k l : KeeperView) (a b : ℕ) (x y : ℕ → List Bytes → Type 0) (result : Result Bytes Outcome)
    → IsForm asked items input k l (OnlyAdds a b x y) result → result ≢ Err StoreFault → k.items ≡ Some items → OnlyGrows items l.items (OnlyAdds a b x y)
form-grows asked items input k l a b x y result w apart told =
    grows-by items k l told w.plan (form-got w.plan k l _ _ result apart w.made.planned w.made.stored) a b x y (IsFormStop items w.plan) (λ list stop. stop) w.stops
