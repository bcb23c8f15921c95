-- What is made of a case that has no state: of a name, and of a text that may be a certificate.
use Rattle.std.proofs.Common.{◌≡◌, List, Result, Ok, Err, refl, sym, subst}
use Rattle.git_objects.specs.Paths.{Bytes, Path}
use Rattle.object_store.specs.Objects.{Object, IsStore}
use Rattle.filter_text.specs.Filters.{Filter}
use Rattle.stream_reader.specs.declared.fault.StreamFault.{StreamFault}
use Rattle.fast_import.specs.Replays.{Ran}
use Rattle.proj_io.specs.Views.{KeeperView}
use Rattle.state_items.specs.Items.{Held}
use Rattle.state_items.specs.Changes.{NoPlan, Room, room_of}
use Rattle.proj_words.specs.Words.{Command}
use Rattle.proj_words.specs.declared.outcome.Outcome.{Outcome}
use Rattle.proj_commands.specs.Cases.{Case, NameCase, VerifyCase, Made, loaded}
use Rattle.proj_commands.specs.Steps.{case, hand}
use Rattle.proj_commands.specs.Forms.{FormPlan, IsFormMade, IsFormPlanned}
use Rattle.proj_commands.specs.Hands.{IsInHands}
use Rattle.proj_commands.specs.Makes.{IsPlanIn, IsReportOf, IsReported, IsStored, hands_of, no_room, recalled_made, step_in}
use Rattle.proj_commands.specs.Verify.{IsVerified}
use Rattle.proj_commands.proofs.CasePlans.{name-made-plan, verify-made-plan}
use Rattle.proj_commands.proofs.Forming.{keeps-self}
use Rattle.proj_commands.proofs.Refusing.{nothing-good, plan-none, stored-none}

-- Whatever room there is, the same comes of it; it appends nothing; and what it holds is a store.
pub record IsAlone (c : Case) : Type 0 where
  pub room : (room : Room) → recalled_made room c ≡ recalled_made no_room c
  pub planned : (room : Room) (m : Made) → recalled_made room c ≡ Ok m → IsPlanIn room c m NoPlan
  pub store : IsStore (hand c).held

pub name-alone : (f : Filter) (refname : Bytes) (x : Ran StreamFault) → IsAlone (NameCase f refname x)
name-alone f refname x = record { room = λ room. refl; planned = λ room m e. name-made-plan room f refname x m e; store = tt }

pub claim-alone : (f : Filter) (n : Bytes) (q : Path) (text : Bytes) → IsVerified f n q text → IsAlone (VerifyCase f n q text)
claim-alone f n q text w = record { room = λ room. refl; planned = λ room m e. (verify-made-plan room f n q text m e, w); store = tt }

module _ (c : Case) (w : IsAlone c) (items : List Bytes) (k : KeeperView) where
  reported-here : (result : Result Bytes Outcome) → IsReportOf (Ok c) result → IsReported (IsInHands (hands_of (Ok c))) (step_in (room_of items) (Ok c)) result
  reported-here result h = subst (λ (s : Result Made Outcome). IsReported (IsInHands (hands_of (Ok c))) s result) (sym (w.room (room_of items))) h

  planned-of : (H : Object → Type 0) (report : Bytes) (s : Result Made Outcome) → recalled_made (room_of items) c ≡ s → IsReported H s (Ok report)
      → IsFormPlanned (room_of items) (Ok c) NoPlan
  planned-of H report (Ok m) e h = record {
    planned = record { case = c; came_up = refl; step = m; done = e; planned = w.planned (room_of items) m e };
    store = w.store;
  }
  planned-of H report (Err y) e h = absurd h

  plan-of : (result : Result Bytes Outcome) → IsReported (IsInHands (hands_of (Ok c))) (step_in (room_of items) (Ok c)) result → FormPlan (room_of items) (Ok c) NoPlan result
  plan-of (Ok report) h = planned-of (IsInHands (hands_of (Ok c))) report (recalled_made (room_of items) c) refl h
  plan-of (Err e) h = plan-none (room_of items) (Ok c) e

  stored-of : (result : Result Bytes Outcome) → IsStored result NoPlan k k
  stored-of (Ok report) = keeps-self k
  stored-of (Err e) = stored-none e NoPlan k k (keeps-self k)

  pub alone-made : (result : Result Bytes Outcome) → IsReportOf (Ok c) result → IsFormMade (Ok c) items k k NoPlan result
  alone-made result h = record {
    reported = reported-here result h;
    planned = plan-of result (reported-here result h);
    good = λ g read. nothing-good items g (room_of items);
    stored = stored-of result;
  }

-- of a command that has this case
pub alone-formed : (asked : Command) (c : Case) → IsAlone c → (all : Bytes) → ((loading : Result Held Outcome) → case asked loading all ≡ Ok c) → (result : Result Bytes Outcome)
    → IsReportOf (Ok c) result → (items : List Bytes) (k : KeeperView) → IsFormMade (case asked (loaded items) all) items k k NoPlan result
alone-formed asked c w all is result h items k =
    subst (λ (r : Result Case Outcome). IsFormMade r items k k NoPlan result) (sym (is (loaded items))) (alone-made c w items k result h)
