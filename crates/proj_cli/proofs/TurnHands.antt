-- What an entry's command has in hand upon the state behind other turns is brought together by all of them.
use Rattle.std.proofs.Common.{◌≡◌, ◌⊎◌, inl, inr, ◌++◌, List, Result, Ok, Err, sym, subst}
use Rattle.std.specs.Prelude.{Contains}
use Rattle.std.proofs.lemmas.List.Elements.{Contains-append_cases, Contains-append_left, Contains-append_right}
use Rattle.git_objects.specs.Paths.{Bytes}
use Rattle.object_store.specs.Growth.{IsGrownBy}
use Rattle.object_store.specs.Objects.{Object, IsStore}
use Rattle.state_items.specs.Hands.{IsTwice}
use Rattle.state_items.specs.Items.{Held}
use Rattle.state_items.specs.Changes.{ChangePlan, KeepPlan, NoPlan, Plan, RulePlan, TagPlan, held_after}
use Rattle.repo_ground.proofs.StatesRead.{found-in}
use Rattle.proj_words.specs.declared.outcome.Outcome.{Outcome}
use Rattle.proj_commands.specs.Cases.{Case}
use Rattle.proj_commands.specs.Hands.{Hand, IsInHands}
use Rattle.proj_commands.specs.Steps.{hand}
use Rattle.proj_commands.specs.Makes.{IsAtHand, hands_of}
use Rattle.proj_commands.proofs.Forming.{AreNamed, HoldsAll, at-hand, no-twice}
use Rattle.proj_commands.proofs.InHands.{twice-as}

-- ---- hands of several commands

module _ (ks ls : List Hand) (o : Object) where
  pub hands-left : IsInHands ks o → IsInHands (ks ++ ls) o
  hands-left a = let m = Contains-append_left ks ls a.1 (a.0, a.2, a.3) in (m.0, a.1, m.1, m.2, a.4)

  pub hands-right : IsInHands ls o → IsInHands (ks ++ ls) o
  hands-right a = let m = Contains-append_right ks ls a.1 (a.0, a.2, a.3) in (m.0, a.1, m.1, m.2, a.4)

-- ---- two objects of one name

-- the objects of a store are of these, or in these hands
abbrev pub AreBrought : List Object → List Object → List Hand → Type 0
AreBrought S objects ks = (o : Object) → Contains S o → Contains objects o ⊎ IsInHands ks o

pub named-store : (S : List Object) → IsStore S → AreNamed S
named-store S s o m = found-in S s o m

module _ (S objects : List Object) (ks : List Hand) (brought : AreBrought S objects ks) where
  hand-brought : (c : Case) → (hand c).held ≡ objects → (o : Object) → IsAtHand S (Ok c) o → IsInHands (ks ++ hands_of (Ok c)) o
  hand-brought c e o (inl there) = by (brought o there)
    where
      by : Contains objects o ⊎ IsInHands ks o → IsInHands (ks ++ hands_of (Ok c)) o
      by (inl m) = hands-right ks (hands_of (Ok c)) o (at-hand objects c e o (inl m))
      by (inr w) = hands-left ks (hands_of (Ok c)) o w
  hand-brought c e o (inr w) = hands-right ks (hands_of (Ok c)) o w

  pub twice-brought : IsStore S → (r : Result Case Outcome) → HoldsAll objects r → (n : Bytes) → IsTwice (IsAtHand S r) n → IsTwice (IsInHands (ks ++ hands_of r)) n
  twice-brought s (Ok c) e n t = twice-as (IsAtHand S (Ok c)) (IsInHands (ks ++ hands_of (Ok c))) (hand-brought c e) n t
  twice-brought s (Err x) e n t = absurd (no-twice S x (named-store S s) n t)

pub twice-own : (ks : List Hand) (r : Result Case Outcome) (n : Bytes) → IsTwice (IsInHands (hands_of r)) n → IsTwice (IsInHands (ks ++ hands_of r)) n
twice-own ks r n t = twice-as (IsInHands (hands_of r)) (IsInHands (ks ++ hands_of r)) (λ o w. hands-right ks (hands_of r) o w) n t

-- ---- what a store has behind one turn more

-- what is held stays held
held-stays : (h : Held) (p : Plan) (o : Object) → Contains h.objects o → Contains (held_after h p).objects o
held-stays h NoPlan o m = m
held-stays h (ChangePlan objects refs) o m = Contains-append_right _ h.objects o m
held-stays h (RulePlan k) o m = m
held-stays h (KeepPlan k text es) o m = m
held-stays h (TagPlan objects refs tags) o m = Contains-append_right _ h.objects o m

module _ (S S' : List Object) (h : Held) (p : Plan) (ks ls : List Hand) (grown : IsGrownBy (IsInHands ls) S S') (brought : AreBrought S h.objects ks) where
  old-brought : (o : Object) → Contains h.objects o ⊎ IsInHands ks o → Contains (held_after h p).objects o ⊎ IsInHands (ks ++ ls) o
  old-brought o (inl m) = inl (held-stays h p o m)
  old-brought o (inr w) = inr (hands-left ks ls o w)

  each-brought : (o : Object) → Contains grown.newer o ⊎ Contains S o → Contains (held_after h p).objects o ⊎ IsInHands (ks ++ ls) o
  each-brought o (inl new) = inr (hands-right ks ls o (grown.all o new))
  each-brought o (inr old) = old-brought o (brought o old)

  pub brought-on : AreBrought S' (held_after h p).objects (ks ++ ls)
  brought-on o m = each-brought o (Contains-append_cases grown.newer S o (subst (λ (T : List Object). Contains T o) (sym grown.above) m))
