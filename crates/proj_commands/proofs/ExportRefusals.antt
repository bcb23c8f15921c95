-- An export is at no fault of the input or the store; and one that is refused before there is a case.
use Rattle.std.proofs.Common.{◌≡◌, ◌≢◌, inl, ℕ, List, Result, Ok, Err, ap, subst, ◌∙◌}
use Rattle.std.proofs.KnownBytes.{Keeps-refl}
use Rattle.git_objects.specs.Paths.{Bytes}
use Rattle.object_store.specs.Objects.{Object}
use Rattle.proj_io.specs.Counts.{Counts}
use Rattle.proj_io.specs.Views.{SinkView}
use Rattle.state_items.specs.Items.{Held}
use Rattle.state_items.specs.Changes.{room_of}
use Rattle.repo_ground.specs.Contents.{Contents, room_in}
use Rattle.proj_words.specs.declared.outcome.Outcome.{Outcome}
use Rattle.proj_words.specs.declared.outcome.Outcome.TheVariants.{ReadFault, StoreFault}
use Rattle.proj_commands.specs.Cases.{Case, Made, loaded}
use Rattle.proj_commands.specs.Forms.{IsEarly, IsExport}
use Rattle.proj_commands.specs.Hands.{IsInHands}
use Rattle.proj_commands.specs.Makes.{IsAtHand, IsExported, IsFlowed, IsRefusal, hands_of, step_in}
use Rattle.proj_commands.proofs.Refusing.{early-refusal, loaded-own}

-- neither the input nor the store
pub flowed-not-read : (H : Object → Type 0) (o q : SinkView) (s : Result Made Outcome) → IsFlowed H s o q ReadFault → ⊥
flowed-not-read H o q (Ok m) h = h.1
flowed-not-read H o q (Err e) h = h.1

pub flowed-not-store : (H : Object → Type 0) (o q : SinkView) (s : Result Made Outcome) → IsFlowed H s o q StoreFault → ⊥
flowed-not-store H o q (Ok m) h = h.1
flowed-not-store H o q (Err e) h = h.1

-- of an export that was made upon a state
module _ (r : Result Case Outcome) (items : List Bytes) (h : Held) (s s' : Contents) (o q : SinkView) (outcome : Outcome) (made : IsExported r items h s s' o q outcome) where
  pub no-read : outcome ≢ ReadFault
  no-read e = flowed-not-read (IsAtHand s.basis.store r) o q (step_in (room_in s) r) (subst (IsFlowed (IsAtHand s.basis.store r) (step_in (room_in s) r) o q) e made.flowed)

  pub not-store : outcome ≢ StoreFault
  not-store e = flowed-not-store (IsAtHand s.basis.store r) o q (step_in (room_in s) r) (subst (IsFlowed (IsAtHand s.basis.store r) (step_in (room_in s) r) o q) e made.flowed)

  pub no-store : (f g : ℕ) (R : Type 0) → Counts f g R → Counts f g (outcome ≡ StoreFault)
  no-store f g R counts = record { later = counts.later; rose = λ e. absurd (not-store e) }

-- of one that is refused before there is a case
pub refused-export : (r : Result Case Outcome) (items : List Bytes) (e : Outcome) (o : SinkView) → IsRefusal (IsInHands (hands_of r)) e (step_in (room_of items) r) → IsExport r items o o e
refused-export r items e o refused = record {
  flowed = inl (refused, Keeps-refl o.written);
  lawful = λ is. absurd (subst (λ (x : Outcome). IsRefusal (IsInHands (hands_of r)) x (step_in (room_of items) r)) is refused);
}

-- of one whose items are not loaded
pub unloaded-export : (exports : Result Held Outcome → Result Case Outcome) → ((x : Outcome) → exports (Err x) ≡ Err x) → (items : List Bytes) (e : Outcome) (o : SinkView) → IsEarly (loaded items) e
    → IsExport (exports (loaded items)) items o o e
unloaded-export exports first items e o early =
    refused-export (exports (loaded items)) items e o
    (early-refusal (IsInHands (hands_of (exports (loaded items)))) (step_in (room_of items) (exports (loaded items))) (loaded items) e
    (λ g. (ap (λ (l : Result Held Outcome). step_in (room_of items) (exports l)) g ∙ ap (step_in (room_of items)) (first e), loaded-own items e g)) early)
