-- What a text proves that may be a certificate, or why it proves nothing.
use Rattle.std.proofs.Common.{◌≡◌, inl, inr, ◌<◌, ◌^◌, Bool, true, Option, None, Result, Ok, Err, IfSome, length, sym, ap, subst}
use Rattle.std.proofs.lemmas.Bool.{lt-leb}
use Rattle.git_objects.specs.Paths.{Bytes, Path, is_path}
use Rattle.git_objects.specs.Results.{◌>>=◌, must, refused_by}
use Rattle.git_objects.specs.declared.limits.TheConstants.{INPUT_BYTES}
use Rattle.git_objects.specs.declared.quantity.Quantity.TheVariants.{Input}
use Rattle.object_store.specs.Objects.{Object}
use Rattle.filter_text.specs.Filters.{Filter}
use Rattle.workspace.specs.Laws.{IsUsable}
use Rattle.proj_audit.specs.Certificates.{found_text, verify}
use Rattle.proj_audit.specs.Laws.{ProofLaw}
use Rattle.proj_audit.specs.Readings.{Found}
use Rattle.state_items.specs.Items.{nothing}
use Rattle.proj_words.specs.declared.outcome.Outcome.{Outcome}
use Rattle.proj_words.specs.declared.outcome.Outcome.TheVariants as outcomes
use Rattle.proj_commands.specs.Cases.{Made, VerifyCase, unchanged}
use Rattle.proj_commands.specs.Hands.{IsInHands}
use Rattle.proj_commands.specs.Inputs.{IsUnread, ForInput}
use Rattle.proj_commands.specs.Makes.{IsRefusal, IsReportOf, hands_of}
use Rattle.proj_commands.specs.Verify.{IsVerified, verify_made, verify_outcome}
use Rattle.proj_commands.proofs.InputsRead.{for-any}
use Rattle.proj_commands.proofs.Refusing.{reported-err}

-- what is accepted is what the filter shows
pub claim-lawful : ProofLaw → (f : Filter) (n : Bytes) (q : Path) (text : Bytes) → IsUsable f → is_path q ≡ true → IsVerified f n q text
claim-lawful law f n q text usable path c os x named tree read accepted =
    law f q text os x c usable path tree read (subst (λ (m : Bytes). verify m f q text ≡ Ok x) (sym named) accepted)

module _ (f : Filter) (n : Bytes) (q : Path) (text : Bytes) where
  abbrev Hand : Object → Type 0
  Hand = IsInHands (hands_of (Ok (VerifyCase f n q text)))

  abbrev told : Option Found → Result Made Outcome
  told x = Ok (unchanged nothing (found_text x))

  -- a step with a text that has a length as it may have, or is too long
  abbrev step_by : Bool → Result Made Outcome
  step_by b = must (outcomes.Limit Input None) b >>= λ _. refused_by verify_outcome (verify n f q text) >>= told

  beyond : 2 ^ 29 < length text → verify_made f n q text ≡ Err (outcomes.Limit Input None)
  beyond lt = ap step_by (lt-leb (length text) INPUT_BYTES lt)

  refused : (e : Outcome) → IsRefusal Hand e (verify_made f n q text) → IsReportOf (Ok (VerifyCase f n q text)) (Err e)
  refused e h = reported-err Hand (verify_made f n q text) e h

  pub no-memory : IsReportOf (Ok (VerifyCase f n q text)) (Err outcomes.OutOfMemory)
  no-memory = refused outcomes.OutOfMemory tt

  pub no-input : IsReportOf (Ok (VerifyCase f n q text)) (Err outcomes.ReadFault)
  no-input = refused outcomes.ReadFault tt

  pub too-long : 2 ^ 29 < length text → IsReportOf (Ok (VerifyCase f n q text)) (Err (outcomes.Limit Input None))
  too-long lt = refused (outcomes.Limit Input None) (beyond lt)

-- an input that isn't read whole
pub unread-reported : (f : Filter) (n : Bytes) (q : Path) (left : Option Bytes) (e : Outcome) → IsUnread left e → (all : Bytes) × IfSome left (λ l. all ≡ l) × IsReportOf (Ok (VerifyCase f n q all)) (Err e)
unread-reported f n q left e why = by (why-told why)
  where
    Says : Bytes → Type 0
    Says all = IsReportOf (Ok (VerifyCase f n q all)) (Err e)

    why-told : IsUnread left e → ForInput left Says
    why-told (inl m) = for-any left Says (λ all. subst (λ (x : Outcome). IsReportOf (Ok (VerifyCase f n q all)) (Err x)) (sym m) (no-memory f n q all))
    why-told (inr (inl r)) = for-any left Says (λ all. subst (λ (x : Outcome). IsReportOf (Ok (VerifyCase f n q all)) (Err x)) (sym r) (no-input f n q all))
    why-told (inr (inr (l, long))) =
        record { all = long.all; told = long.told; says = subst (λ (x : Outcome). IsReportOf (Ok (VerifyCase f n q long.all)) (Err x)) (sym l) (too-long f n q long.all long.says) }

    by : ForInput left Says → (all : Bytes) × IfSome left (λ l. all ≡ l) × Says all
    by w = (w.all, w.told, w.says)
