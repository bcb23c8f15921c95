-- What was written of an output, by how looking at a state ends.
use Rattle.std.proofs.Common.{◌≡◌, ◌≤◌, inr, false, take, List, [], ◌++◌, Option, None, Some, Result, Ok, Err, append-nil, refl, sym, ap, subst, ◌∙◌, arith}
use Rattle.std.specs.Prelude.{◌≢◌, IfErr, IsErr}
use Rattle.std.specs.FinMap.{find}
use Rattle.std.specs.Option.{option_to_list}
use Rattle.std.specs.Result.{result_ok}
use Rattle.std.specs.Io.KnownBytes.{Appends, Keeps}
use Rattle.std.proofs.KnownBytes.{Appends-trans}
use Rattle.git_objects.specs.Paths.{Bytes}
use Rattle.git_objects.specs.Refs.{Refs, bytes_cmp}
use Rattle.git_objects.specs.Results.{◌>>=◌, or_refuse}
use Rattle.object_store.specs.Growth.{IsGrownBy}
use Rattle.object_store.specs.Objects.{Object}
use Rattle.filter_apply.specs.Faults.{IsApplyFault}
use Rattle.filter_apply.specs.declared.fault.ApplyError.{ApplyError}
use Rattle.filter_apply.specs.declared.fault.ApplyError.TheVariants as shows
use Rattle.proj_io.specs.Counts.{Counts}
use Rattle.proj_io.specs.Views.{SinkView}
use Rattle.proj_words.specs.declared.outcome.Outcome.{Outcome}
use Rattle.proj_words.specs.declared.outcome.Outcome.TheVariants.{Collision, Done, OutOfMemory, ReadFault, StoreFault, UnknownRef, WriteFault}
use Rattle.proj_commands.specs.Cases.{head_of, is_verdict}
use Rattle.proj_commands.specs.Hands.{Hand, IsInHands}
use Rattle.proj_commands.specs.Refusals.{apply_outcome}
use Rattle.proj_cli.specs.Sent.{IsConcluded, IsSent}
use Rattle.read_cli.specs.Answers.{IsGiven, IsOutcome, text_of}
use Rattle.read_cli.specs.Looks.{IsAtHand, IsEnd, IsLooked, IsLookedFor, IsReport, IsUnreported, IsUnshown, IsWriteOutcome}
use Rattle.proj_commands.proofs.InHands.{twice-at}
use Rattle.proj_commands.proofs.WrittenTags.{front-behind}

-- ---- nothing written

keeps-self : (o : Option Bytes) → Keeps o o
keeps-self None = tt
keeps-self (Some xs) = refl

appends-none : (o : Option Bytes) → Appends o o []
appends-none None = tt
appends-none (Some xs) = sym (append-nil xs)

-- ---- a text that is written, or a front of it

pub written-looked : (S : List Object) (ks : List Hand) (text : Bytes) (before after : SinkView) (o : Outcome) → IsWriteOutcome o → IsGiven text before after o → IsLooked S ks (Ok text) before after o
written-looked S ks text before after Done w g = record { allowed = refl; given = g }
written-looked S ks text before after WriteFault w g = record { allowed = refl; given = g }
written-looked S ks text before after OutOfMemory w g = record { allowed = tt; given = g }
written-looked S ks text before after o w g = absurd w

-- with another text in front, all of which was written
pub given-behind : (a b : Bytes) (before mid after : SinkView) (o : Outcome) → IsWriteOutcome o → Appends before.written mid.written a → IsGiven b mid after o → IsGiven (a ++ b) before after o
given-behind a b before mid after Done w first g = Appends-trans before.written mid.written after.written a b first g
given-behind a b before mid after WriteFault w first g = front-behind before.written mid.written after.written a b first g
given-behind a b before mid after OutOfMemory w first g = front-behind before.written mid.written after.written a b first g
given-behind a b before mid after o w first g = absurd w

pub written-ends : (o : Outcome) → IsWriteOutcome o → IsEnd o
written-ends Done w = tt
written-ends WriteFault w = tt
written-ends OutOfMemory w = tt
written-ends o w = absurd w

-- ---- nothing is shown

module _ (S : List Object) (ks : List Hand) where
  pub fault-unshown : (T : List Object) (e : ApplyError) → IsGrownBy (IsInHands ks) S T → IsApplyFault (IsInHands ks) T e → IsUnshown (IsAtHand S ks) (apply_outcome e)
  fault-unshown T (shows.Collision k) g f = twice-at (IsInHands ks) (IsInHands ks) S T k.0 (λ o m. m) g f
  fault-unshown T shows.OutOfMemory g f = tt

  pub unshown-looked : (text : Bytes) (before : SinkView) (o : Outcome) → IsUnshown (IsAtHand S ks) o → IsLooked S ks (Ok text) before before o
  unshown-looked text before OutOfMemory u = record { allowed = tt; given = (0, appends-none before.written) }
  unshown-looked text before (Collision n) u = record { allowed = inr u; given = keeps-self before.written }
  unshown-looked text before o u = absurd u

  pub unshown-report : (r : Result Bytes Outcome) (o : Outcome) → IsUnshown (IsAtHand S ks) o → IsOutcome (IsAtHand S ks) o r
  unshown-report r OutOfMemory u = tt
  unshown-report r (Collision n) u = inr u
  unshown-report r o u = absurd u

  pub unshown-ends : (o : Outcome) → IsUnshown (IsAtHand S ks) o → IsEnd o
  unshown-ends OutOfMemory u = tt
  unshown-ends (Collision n) u = tt
  unshown-ends o u = absurd u

  pub unshown-unwritten : (o : Outcome) → IsUnshown (IsAtHand S ks) o → o ≢ WriteFault
  unshown-unwritten OutOfMemory u e = absurd cc
  unshown-unwritten (Collision n) u e = absurd cc
  unshown-unwritten o u e = absurd u

  pub unshown-undone : (o : Outcome) → IsUnshown (IsAtHand S ks) o → o ≢ Done
  unshown-undone OutOfMemory u e = absurd cc
  unshown-undone (Collision n) u e = absurd cc
  unshown-undone o u e = absurd u

pub unshown-early : (e : ApplyError) → IsUnreported (apply_outcome e)
unshown-early (shows.Collision k) = tt
unshown-early shows.OutOfMemory = tt

-- ---- by the ref

module _ (S : List Object) (k : Result Bytes Outcome → Result Hand Outcome) (text : Bytes → Bytes) (refname : Bytes) (refs : Refs) (before after : SinkView) where
  pub looked-at : (n : Bytes) (o : Outcome) → find bytes_cmp refname refs ≡ Some n → IsLookedFor S (k (Ok n)) (Ok (text n)) before after o
      → IsLookedFor S (k (head_of refname refs)) (head_of refname refs >>= λ m. Ok (text m)) before after o
  looked-at n o e l = subst (λ (x : Option Bytes). IsLookedFor S (k (or_refuse UnknownRef x)) (or_refuse UnknownRef x >>= λ m. Ok (text m)) before after o) (sym e) l

pub no-ref-looked : (S : List Object) (k : Result Bytes Outcome → Result Hand Outcome) (text : Bytes → Bytes) (refname : Bytes) (refs : Refs) (before : SinkView) → find bytes_cmp refname refs ≡ None
    → IsLookedFor S (k (head_of refname refs)) (head_of refname refs >>= λ m. Ok (text m)) before before UnknownRef
no-ref-looked S k text refname refs before e =
    subst (λ (x : Option Bytes). IsLookedFor S (k (or_refuse UnknownRef x)) (or_refuse UnknownRef x >>= λ m. Ok (text m)) before before UnknownRef) (sym e)
    (record { allowed = refl; given = keeps-self before.written })

pub no-ref-report : (S : List Object) (k : Result Bytes Outcome → Result Hand Outcome) (text : Bytes → Bytes) (refname : Bytes) (refs : Refs) → find bytes_cmp refname refs ≡ None
    → IsReport S (k (head_of refname refs)) (head_of refname refs >>= λ m. Ok (text m)) (Err UnknownRef)
no-ref-report S k text refname refs e = subst (λ (x : Option Bytes). IsReport S (k (or_refuse UnknownRef x)) (or_refuse UnknownRef x >>= λ m. Ok (text m)) (Err UnknownRef)) (sym e) refl

pub report-at : (S : List Object) (k : Result Bytes Outcome → Result Hand Outcome) (text : Bytes → Bytes) (refname : Bytes) (refs : Refs) (n : Bytes) (r : Result Bytes Outcome) → find bytes_cmp refname refs ≡ Some n
    → IsReport S (k (Ok n)) (Ok (text n)) r → IsReport S (k (head_of refname refs)) (head_of refname refs >>= λ m. Ok (text m)) r
report-at S k text refname refs n r e l = subst (λ (x : Option Bytes). IsReport S (k (or_refuse UnknownRef x)) (or_refuse UnknownRef x >>= λ m. Ok (text m)) r) (sym e) l

-- ---- a report that is written

module _ (S : List Object) (k : Result Hand Outcome) (r : Result Bytes Outcome) (before after : SinkView) where
  sent-looked : (ks : List Hand) (report : Bytes) (o : Outcome) → r ≡ Ok report → IsSent o report before after → IsLooked S ks r before after o
  sent-looked ks report Done e s = subst (λ (x : Result Bytes Outcome). IsLooked S ks x before after Done) (sym e) (record { allowed = refl; given = s })
  sent-looked ks report WriteFault e s = subst (λ (x : Result Bytes Outcome). IsLooked S ks x before after WriteFault) (sym e) (record { allowed = refl; given = s })
  sent-looked ks report OutOfMemory e s = subst (λ (x : Result Bytes Outcome). IsLooked S ks x before after OutOfMemory) (sym e) (record { allowed = tt; given = s.1 })
  sent-looked ks report o e s = absurd s

  refused-looked : (ks : List Hand) (o : Outcome) → IsUnreported o → after ≡ before → IsOutcome (IsAtHand S ks) o r → IsLooked S ks r before after o
  refused-looked ks OutOfMemory u same a = record { allowed = a; given = (0, subst (λ (x : SinkView). Appends before.written x.written (take 0 (text_of r))) (sym same) (appends-none before.written)) }
  refused-looked ks UnknownRef u same a = record { allowed = a; given = subst (λ (x : SinkView). Keeps before.written x.written) (sym same) (keeps-self before.written) }
  refused-looked ks (Collision n) u same a = record { allowed = a; given = subst (λ (x : SinkView). Keeps before.written x.written) (sym same) (keeps-self before.written) }
  refused-looked ks o u same a = absurd u

  pub concluded-looked : (made : Result Bytes Outcome) (o : Outcome) → IsReport S k r made → IfErr made IsUnreported → IsConcluded made before after o → (IsErr made → after ≡ before) → IsLookedFor S k r before after o
  concluded-looked (Ok report) o m u c same = sent-looked (option_to_list (result_ok k)) report o m c.sent
  concluded-looked (Err e) o m u c same =
      subst (λ (x : Outcome). IsLooked S (option_to_list (result_ok k)) r before after x) (sym c) (refused-looked (option_to_list (result_ok k)) e u (same refl) m)

sent-ends : (report : Bytes) (before after : SinkView) (o : Outcome) → IsSent o report before after → IsEnd o
sent-ends report before after Done s = tt
sent-ends report before after WriteFault s = tt
sent-ends report before after OutOfMemory s = tt
sent-ends report before after o s = absurd s

unreported-ends : (o : Outcome) → IsUnreported o → IsEnd o
unreported-ends OutOfMemory u = tt
unreported-ends UnknownRef u = tt
unreported-ends (Collision n) u = tt
unreported-ends o u = absurd u

unreported-unwritten : (o : Outcome) → IsUnreported o → o ≢ WriteFault
unreported-unwritten OutOfMemory u e = absurd cc
unreported-unwritten UnknownRef u e = absurd cc
unreported-unwritten (Collision n) u e = absurd cc
unreported-unwritten o u e = absurd u

pub concluded-ends : (before after : SinkView) (made : Result Bytes Outcome) (o : Outcome) → IfErr made IsUnreported → IsConcluded made before after o → IsEnd o
concluded-ends before after (Ok report) o u c = sent-ends report before after o c.sent
concluded-ends before after (Err e) o u c = subst IsEnd (sym c) (unreported-ends e u)

pub concluded-write : (before after : SinkView) (made : Result Bytes Outcome) (o : Outcome) → IfErr made IsUnreported → IsConcluded made before after o → (IsErr made → after ≡ before) → Counts before.faults after.faults (o ≡ WriteFault)
concluded-write before after (Ok report) o u c same = c.cause
concluded-write before after (Err e) o u c same =
    let s : after.faults ≡ before.faults = ap (λ (x : SinkView). x.faults) (same refl) in
    record { later = omega (arith, s); rose = λ w. absurd (unreported-unwritten e u (sym c ∙ w)) }

pub concluded-memory : (before after : SinkView) (made : Result Bytes Outcome) (o : Outcome) → IsConcluded made before after o → (IsErr made → after ≡ before) → before.refusals ≤ after.refusals
concluded-memory before after (Ok report) o c same = c.memory
concluded-memory before after (Err e) o c same = let s : after.refusals ≡ before.refusals = ap (λ (x : SinkView). x.refusals) (same refl) in omega (arith, s)

-- ---- how it doesn't end

pub end-other : (o : Outcome) → IsEnd o → is_verdict o ≡ false
end-other Done e = refl
end-other WriteFault e = refl
end-other OutOfMemory e = refl
end-other UnknownRef e = refl
end-other (Collision n) e = refl
end-other o e = absurd e

pub end-read : (o : Outcome) → IsEnd o → o ≢ ReadFault
end-read ReadFault e q = absurd e
end-read o e q = cc

pub end-store : (o : Outcome) → IsEnd o → o ≢ StoreFault
end-store StoreFault e q = absurd e
end-store o e q = cc
