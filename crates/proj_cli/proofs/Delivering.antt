-- What was written and appended is what an outcome delivers.
use Rattle.std.proofs.Common.{◌≡◌, ◌⊎◌, inl, inr, ◌++◌, false, List, [], ◌∷◌, append-nil, Option, None, Some, Result, Ok, Err, IfSome, refl, sym, ap, subst, ◌∙◌, arith}
use Rattle.std.specs.Io.KnownBytes.{Keeps}
use Rattle.git_objects.specs.Paths.{Bytes}
use Rattle.object_store.specs.Objects.{Object}
use Rattle.proj_io.specs.Items.{Stays, Gets}
use Rattle.proj_io.specs.Views.{SourceView, SinkView, KeeperView}
use Rattle.state_items.specs.Items.{Held, read_items}
use Rattle.state_items.specs.Changes.{ChangePlan, KeepPlan, NoPlan, Plan, RulePlan, TagPlan, held_after, plan_items, room_of}
use Rattle.state_items.proofs.Appended.{append-law}
use Rattle.repo_ground.specs.Changes.{GetsItems, KeepsItems}
use Rattle.proj_words.specs.Words.{Command}
use Rattle.proj_words.specs.declared.outcome.Outcome.{Outcome}
use Rattle.proj_words.specs.declared.outcome.Outcome.TheVariants.{Done, OutOfMemory, Collision, ReadFault, WriteFault, StoreFault}
use Rattle.proj_cli.specs.Answers.{Devices, Follows, GetsAll, Got, IsDelivered, IsLonger, IsOutcome, IsStepDelivered}
use Rattle.proj_commands.specs.Cases.{Made}
use Rattle.proj_commands.specs.Makes.{IsGoodPlan, IsRefusal}
use Rattle.proj_commands.specs.Plans.{IsSameState, changes_state}
use Rattle.proj_cli.specs.Sent.{IsSent}

-- ---- items

none-all : (a b : Option (List Bytes)) → Stays a b → GetsAll a [] b
none-all None b h = tt
none-all (Some xs) None h = h
none-all (Some xs) (Some ys) h = h ∙ sym (append-nil xs)

one-all : (a b : Option (List Bytes)) (item : Bytes) → Gets a b item → GetsAll a (item ∷ []) b
one-all None b item h = tt
one-all (Some xs) None item h = h
one-all (Some xs) (Some ys) item h = h

module _ (i j : SourceView) (o q : SinkView) (k l : KeeperView) where
  abbrev pub before : Devices
  before = record { input = i; out = o; store = k }

  abbrev pub after : Devices
  after = record { input = j; out = q; store = l }

  none-got : KeepsItems k l → Got [] before after
  none-got h = (omega (arith, h.0), none-all k.items l.items h.1)

  one-got : (item : Bytes) → GetsItems (item ∷ []) k l → Got (item ∷ []) before after
  one-got item h = (h.0, one-all k.items l.items item h.1)

  pub got : (p : Plan) → GetsItems (plan_items p) k l → Got (plan_items p) before after
  got NoPlan h = none-got h
  got (ChangePlan objects refs) h = one-got _ h
  got (RulePlan n) h = one-got _ h
  got (KeepPlan n text es) h = one-got _ h
  got (TagPlan objects refs tags) h = one-got _ h

  -- ---- reports

  pub sent-delivered : (asked : Command) (report : Bytes) (p : Plan) (outcome : Outcome) → IsSent outcome report o q → GetsItems (plan_items p) k l
      → IsDelivered asked report (plan_items p) before after outcome
  sent-delivered asked report p Done h g = (h, got p g)
  sent-delivered asked report p WriteFault h g = (h, got p g)
  sent-delivered asked report p OutOfMemory h g = inr (inr (h.0, h.1, got p g))
  sent-delivered asked report p _ h g = absurd h

  pub idle-delivered : (asked : Command) (report : Bytes) (more : List Bytes) (H : Object → Type 0) (s : Result Made Outcome) (e : Outcome) → IsRefusal H e s → Keeps o.written q.written → KeepsItems k l
      → IsDelivered asked report more before after e
  idle-delivered asked report more H s Done h w g = absurd h
  idle-delivered asked report more H s WriteFault h w g = absurd h
  idle-delivered asked report more H s OutOfMemory h w g = inl (w, g)
  idle-delivered asked report more H s StoreFault h w g = (w, inl g)
  idle-delivered asked report more H s _ h w g = (w, g)

  pub idle-step : (asked : Command) (p : Plan) (t : Result Made Outcome) (H : Object → Type 0) (s : Result Made Outcome) (e : Outcome) → IsRefusal H e s → Keeps o.written q.written → KeepsItems k l
      → IsStepDelivered asked t p before after e
  idle-step asked p (Ok m) H s e h w g = idle-delivered asked m.output (plan_items p) H s e h w g
  idle-step asked p (Err x) H s e h w g = (w, g)

  pub fault-delivered : (asked : Command) (report : Bytes) (p : Plan) → Keeps o.written q.written → KeepsItems k l ⊎ GetsItems (plan_items p) k l
      → IsDelivered asked report (plan_items p) before after StoreFault
  fault-delivered asked report p w (inl g) = (w, inl g)
  fault-delivered asked report p w (inr g) = (w, inr (got p g))

-- ---- outcomes

pub refusal-outcome : (H : Object → Type 0) (outcome : Outcome) (r : Result Made Outcome) → IsRefusal H outcome r → IsOutcome H outcome r
refusal-outcome H Done r h = absurd h
refusal-outcome H WriteFault r h = absurd h
refusal-outcome H OutOfMemory r h = tt
refusal-outcome H ReadFault r h = tt
refusal-outcome H StoreFault r h = tt
refusal-outcome H (Collision n) r h = h
refusal-outcome H _ r h = h

pub sent-outcome : (H : Object → Type 0) (report : Bytes) (o q : SinkView) (outcome : Outcome) (m : Made) → IsSent outcome report o q → IsOutcome H outcome (Ok m)
sent-outcome H report o q Done m h = refl
sent-outcome H report o q WriteFault m h = refl
sent-outcome H report o q OutOfMemory m h = tt
sent-outcome H report o q _ m h = absurd h

-- what may be answered depends on no report
pub done-outcome : (H : Object → Type 0) (outcome : Outcome) (m n : Made) → IsOutcome H outcome (Ok m) → IsOutcome H outcome (Ok n)
done-outcome H Done m n h = refl
done-outcome H OutOfMemory m n h = tt
done-outcome H ReadFault m n h = tt
done-outcome H StoreFault m n h = tt
done-outcome H WriteFault m n h = refl
done-outcome H (Collision x) m n (inl e) = absurd (let no : ⊥ = cc in no)
done-outcome H (Collision x) m n (inr t) = inr t
done-outcome H e m n h = absurd (let no : ⊥ = cc in no)

-- ---- items behind the others

module _ (items : List Bytes) (k l : KeeperView) (p : Plan) (told : k.items ≡ Some items) where
  kept-told : KeepsItems k l → l.items ≡ Some items
  kept-told h = by k.items l.items h.1 told
    where
      by : (a b : Option (List Bytes)) → Stays a b → a ≡ Some items → b ≡ Some items
      by None b g e = cc
      by (Some xs) None g e = absurd g
      by (Some xs) (Some ys) g e = ap Some g ∙ e

  pub kept-if : (P : List Bytes → Type 0) → P items → KeepsItems k l → IfSome l.items P
  kept-if P h g = subst (λ (a : Option (List Bytes)). IfSome a P) (sym (kept-told g)) h

  all-if : (P : List Bytes → Type 0) (more : List Bytes) → P (items ++ more) → GetsAll k.items more l.items → IfSome l.items P
  all-if P more h g = by l.items (subst (λ (a : Option (List Bytes)). GetsAll a more l.items) told g)
    where
      by : (b : Option (List Bytes)) → GetsAll (Some items) more b → IfSome b P
      by None e = tt
      by (Some ys) e = subst P (sym e) h

  pub got-if : (P : List Bytes → Type 0) → P (items ++ plan_items p) → GetsItems (plan_items p) k l → IfSome l.items P
  got-if P h g =
      all-if P (plan_items p) h (got (record { left = None; faults = 0 }) (record { left = None; faults = 0 }) (record { written = None; faults = 0; refusals = 0 }) (record { written = None; faults = 0; refusals = 0 }) k l p g).1

module _ (items : List Bytes) (p : Plan) (good : (h : Held) → read_items items ≡ Ok h → IsGoodPlan items h (room_of items) p) where
  pub kept-follows : Follows items p items
  kept-follows h kept = inl refl

  pub got-follows : Follows items p (items ++ plan_items p)
  got-follows h kept = inr (refl, (good h kept.spelled).kept kept)

  -- items with the plan's item spell a state
  pub longer : (asked : Command) (h : Held) → read_items items ≡ Ok h → (changes_state asked ≡ false → IsSameState h (held_after h p)) → IsLonger asked items (plan_items p) h (items ++ plan_items p)
  longer asked h read stays =
      let g = good h read in record { behind = refl; state = held_after h p; spelled = append-law.read_back items h p read g.addition g.within; stays = stays }
