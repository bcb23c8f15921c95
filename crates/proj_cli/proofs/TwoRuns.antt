-- Two calls of `run` for a user end alike.
use Rattle.std.proofs.Common.{◌≡◌, true, false, ◌⊎◌, inl, inr, List, [], append-nil, Option, None, Some, IfSome, Result, Ok, Err, refl, sym, ap, subst, ◌∙◌, true≢false}
use Rattle.std.specs.Io.KnownBytes.{Appends, Keeps}
use Rattle.git_objects.specs.Paths.{Bytes}
use Rattle.state_items.specs.Changes.{Plan}
use Rattle.state_items.specs.Items.{Held, read_items}
use Rattle.proj_words.specs.Words.{Command, As, Export, Project, Push}
use Rattle.proj_words.specs.declared.outcome.Outcome.{Outcome}
use Rattle.proj_words.specs.declared.outcome.Outcome.TheVariants.{Done, OutOfMemory}
use Rattle.proj_commands.specs.Alike.{SameUnlessUnshown, is_of_unshown, tells_unshown, told}
use Rattle.proj_cli.specs.Answers.{HasAnswer, IsCommandAnswer, IsStepDelivered, NoneFailed, Wrote, outcome_of}
use Rattle.proj_commands.specs.Cases.{Made, loaded}
use Rattle.proj_commands.specs.Hands.{IsInHands}
use Rattle.proj_commands.specs.Makes.{hands_of}
use Rattle.proj_commands.specs.Plans.{AreKept, HoldWhatTheyShould}
use Rattle.proj_commands.specs.Steps.{case, step}
use Rattle.proj_cli.specs.TwoRuns.{AreSame, Call, TwoRunsLaw, is_undecided}
use Rattle.proj_commands.proofs.Alike.{alike-law}
use Rattle.proj_cli.proofs.Joining.{settled}

-- ---- what a call told

abbrev outcome_told : Result Bytes Outcome → Outcome
outcome_told (Ok output) = Done
outcome_told (Err e) = e

abbrev report_told : Result Bytes Outcome → Bytes
report_told (Ok output) = output
report_told (Err e) = []

-- It had this outcome, and the output got this report.
record HasTold (t : Result Bytes Outcome) (call : Call) : Type 0 where
  outcome : call.outcome ≡ outcome_told t
  written : Wrote (report_told t) call.before call.after

outcome-told : (s : Result Made Outcome) → outcome_of s ≡ outcome_told (told s)
outcome-told (Ok m) = refl
outcome-told (Err e) = refl

-- what stays has got nothing
nothing-more : (old new : Option Bytes) → Keeps old new → Appends old new []
nothing-more None new h = tt
nothing-more (Some xs) None h = h
nothing-more (Some xs) (Some ys) h = h ∙ sym (append-nil xs)

-- what is delivered with the outcome of a step
written-told : (asked : Command) (s : Result Made Outcome) (p : Plan) (call : Call) → IsStepDelivered asked s p call.before call.after (outcome_of s) → Wrote (report_told (told s)) call.before call.after
written-told asked (Ok m) p call h = h.0
written-told asked (Err e) p call h = nothing-more call.before.out.written call.after.out.written h.0

-- ---- one call

held-same : (items : List Bytes) (g h : Held) → read_items items ≡ Ok g → read_items items ≡ Ok h → g ≡ h
held-same items g h a b = let same : (let x : Result Held _ = Ok g in x ≡ Ok h) = sym a ∙ b in cc

module _ (asked : Command) (items : List Bytes) (h : Held) (call : Call) (store : call.before.store.items ≡ Some items) (kept : AreKept items h)
    (answer : IsCommandAnswer asked call.before call.after call.outcome) (whole : NoneFailed call.before call.after) (decided : is_undecided call.outcome ≡ false) where
  abbrev has : HasAnswer asked items call.before call.after call.outcome
  has = answer.answered items (λ l. store)

  -- the input that it worked with
  abbrev input_of : Bytes
  input_of = has.input

  should : HoldWhatTheyShould asked items
  should k r e = subst (AreKept items) (held-same items h k kept.spelled e) kept

  outcome-is : call.outcome ≡ outcome_of (step asked items has.input)
  outcome-is =
      by (settled (IsInHands (hands_of (case asked (loaded items) has.input))) (step asked items has.input) (λ x. is_undecided x ≡ true) (λ n t. refl) call.outcome has.allowed
      (λ e. whole.read (answer.cause.read.rose e)) (λ e. whole.write (answer.cause.write.rose e)) (λ e. whole.keep (answer.cause.keep.rose e)))
    where
      undecided : is_undecided call.outcome ≡ true → ⊥
      undecided e = true≢false (sym e ∙ decided)

      by : (call.outcome ≡ OutOfMemory) ⊎ (call.outcome ≡ outcome_of (step asked items has.input)) ⊎ (is_undecided call.outcome ≡ true) → call.outcome ≡ outcome_of (step asked items has.input)
      by (inl e) = absurd (undecided (ap is_undecided e))
      by (inr (inl e)) = e
      by (inr (inr e)) = absurd (undecided e)

  has-told : HasTold (told (step asked items has.input)) call
  has-told =
      let a = has.answered should in
      record {
        outcome = outcome-is ∙ outcome-told (step asked items has.input);
        written = written-told asked (step asked items has.input) a.plan call (subst (λ x. IsStepDelivered asked (step asked items has.input) a.plan call.before call.after x) outcome-is a.delivered);
      }

  -- where the input is told, it is what was told
  input-told : (input : Bytes) → call.before.input.left ≡ Some input → has.input ≡ input
  input-told input e = subst (λ (left : Option Bytes). IfSome left (λ x. has.input ≡ x)) e has.told

  -- so what it told is of that input
  has-told-of : (input : Bytes) → call.before.input.left ≡ Some input → HasTold (told (step asked items input)) call
  has-told-of input e = subst (λ x. HasTold (told (step asked items x)) call) (input-told input e) has-told

-- ---- two calls

same : (t u : Result Bytes Outcome) (a b : Call) → HasTold t a → HasTold u b → t ≡ u → AreSame a b
same t u a b p q e = record {
  outcome = p.outcome ∙ ap outcome_told e ∙ sym q.outcome;
  report = report_told t;
  first = p.written;
  second = subst (λ z. Wrote (report_told z) b.before b.after) (sym e) q.written;
}

unshown-outcome : (t : Result Bytes Outcome) (call : Call) → HasTold t call → is_of_unshown t ≡ true → tells_unshown call.outcome ≡ true
unshown-outcome (Ok output) call p e = absurd (true≢false (sym e))
unshown-outcome (Err x) call p e = ap tells_unshown p.outcome ∙ e

same-or-unshown : (t u : Result Bytes Outcome) (a b : Call) → HasTold t a → HasTold u b → SameUnlessUnshown t u → (tells_unshown a.outcome ≡ true) ⊎ (tells_unshown b.outcome ≡ true) ⊎ AreSame a b
same-or-unshown t u a b p q (inl e) = inl (unshown-outcome t a p e)
same-or-unshown t u a b p q (inr (inl e)) = inr (inl (unshown-outcome u b q e))
same-or-unshown t u a b p q (inr (inr e)) = inr (inr (same t u a b p q e))

pub two-runs-law : TwoRunsLaw
two-runs-law = record {
  project = λ user refname text f I J g h a b x y e policy heads.
      let asked : Command = As user (Project refname text) in
      let s = input_of asked I g a x.store x.kept x.answer x.whole x.decided in
      let t = input_of asked J h b y.store y.kept y.answer y.whole y.decided in
      same (told (step asked I s)) (told (step asked J t)) a b
      (has-told asked I g a x.store x.kept x.answer x.whole x.decided) (has-told asked J h b y.store y.kept y.answer y.whole y.decided)
      (alike-law.project user refname text I J g h f s t x.kept.spelled y.kept.spelled e policy heads);
  export = λ user refname text f I J g h a b x y e policy heads.
      let asked : Command = As user (Export refname text) in
      let s = input_of asked I g a x.store x.kept x.answer x.whole x.decided in
      let t = input_of asked J h b y.store y.kept y.answer y.whole y.decided in
      same (told (step asked I s)) (told (step asked J t)) a b
      (has-told asked I g a x.store x.kept x.answer x.whole x.decided) (has-told asked J h b y.store y.kept y.answer y.whole y.decided)
      (alike-law.export user refname text I J g h f s t x.kept.spelled y.kept.spelled e policy heads);
  push = λ user refname text f I J g h a b input x y m n all bytes e policy heads.
      let asked : Command = As user (Push refname text) in
      same-or-unshown (told (step asked I input)) (told (step asked J input)) a b
      (has-told-of asked I g a x.store x.kept x.answer x.whole x.decided input m) (has-told-of asked J h b y.store y.kept y.answer y.whole y.decided input n)
      (alike-law.push user refname text I J g h f input x.kept.spelled y.kept.spelled e policy all bytes heads);
}
