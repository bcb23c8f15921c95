-- Reading a store is answered: by how judging, loading and looking end.
use Rattle.std.proofs.Common.{◌≡◌, ◌≢◌, ◌⊎◌, inl, inr, ℕ, zero, false, true≢false, List, [], ◌∷◌, Contains, Option, Some, None, Result, Ok, Err, refl, sym, ap, subst, ◌∙◌, append-nil, arith}
use Rattle.std.specs.Io.KnownBytes.{Appends, Keeps}
use Rattle.git_objects.specs.Lists.{Each}
use Rattle.git_objects.specs.Paths.{Bytes}
use Rattle.git_objects.specs.Results.{refused_by}
use Rattle.object_store.specs.Objects.{Object, find_named, object_name}
use Rattle.proj_io.specs.Counts.{Counts}
use Rattle.proj_io.specs.Views.{KeeperView, SinkView}
use Rattle.state_items.specs.Hands.{IsTwice}
use Rattle.state_items.specs.Items.{Held}
use Rattle.repo_ground.specs.Changes.{KeepsItems}
use Rattle.repo_ground.specs.Contents.{Contents}
use Rattle.repo_ground.specs.Loads.{IsLoaded}
use Rattle.proj_words.specs.Outcomes.{is_plain}
use Rattle.proj_words.specs.declared.outcome.Outcome.{Outcome}
use Rattle.proj_words.specs.declared.outcome.Outcome.TheVariants.{Collision, Done, OutOfMemory, ReadFault, StoreFault, Usage, WriteFault}
use Rattle.proj_commands.specs.Cases.{break_outcome, is_verdict, loaded}
use Rattle.proj_commands.specs.Forms.{IsEarly}
use Rattle.proj_commands.specs.Hands.{Hand, HeldObject, IsInHands}
use Rattle.proj_commands.specs.Judging.{IsOwn}
use Rattle.proj_commands.specs.Makes.{IsStateOf}
use Rattle.proj_cli.specs.Sent.{TakesMemory}
use Rattle.proj_commands.proofs.Forming.{loaded-state}
use Rattle.proj_commands.proofs.Refusing.{loaded-own}
use Rattle.read_cli.specs.Answers.{IsGiven, IsLawful, IsOutcome, IsReadAnswer, text_of}
use Rattle.read_cli.specs.Looks.{IsAsked, IsAtHand, IsLooked}
use Rattle.read_cli.specs.Outputs.{hands, output}
use Rattle.read_cli.specs.Readings.{IsJudgedRightly, Reading, verdict}
use Rattle.read_cli.specs.declared.judging.Asked.{Asked}
use Rattle.read_cli.proofs.AskedForms.{asked-refused, hands-held, verdict-output, verdict-own}

keeps-self : (o : Option Bytes) → Keeps o o
keeps-self None = tt
keeps-self (Some xs) = refl

keeps-appends : (o q : Option Bytes) → Keeps o q → Appends o q []
keeps-appends None q k = tt
keeps-appends (Some xs) (Some ys) k = k ∙ sym (append-nil xs)
keeps-appends (Some xs) None k = k

-- ---- refusals

own-outcome : (H : Object → Type 0) (e : Outcome) → IsOwn e → IsOutcome H e (Err e)
own-outcome H Done w = absurd (w.done refl)
own-outcome H OutOfMemory w = tt
own-outcome H ReadFault w = absurd (w.read refl)
own-outcome H WriteFault w = absurd (w.write refl)
own-outcome H StoreFault w = absurd (w.store refl)
own-outcome H (Collision n) w = inl refl
own-outcome H _ w = refl

own-given : (before : SinkView) (e : Outcome) → IsOwn e → IsGiven [] before before e
own-given before Done w = absurd (w.done refl)
own-given before OutOfMemory w = (0, keeps-appends before.written before.written (keeps-self before.written))
own-given before WriteFault w = absurd (w.write refl)
own-given before _ w = keeps-self before.written

module _ (form : Reading) (items : List Bytes) (before : SinkView) where
  refused-answer : (e : Outcome) → IsOwn e → output form (loaded items) ≡ Err e → IsReadAnswer form items before before e
  refused-answer e w q = record {
    allowed = subst (IsOutcome (IsInHands (hands form (loaded items))) e) (sym q) (own-outcome (IsInHands (hands form (loaded items))) e w);
    given = subst (λ (r : Result Bytes Outcome). IsGiven (text_of r) before before e) (sym q) (own-given before e w);
    lawful = λ done. absurd (w.done done);
  }

  memory-answer : IsReadAnswer form items before before OutOfMemory
  memory-answer = record { allowed = tt; given = (0, keeps-appends before.written before.written (keeps-self before.written)); lawful = λ done. absurd cc }

  store-answer : IsReadAnswer form items before before StoreFault
  store-answer = record { allowed = tt; given = keeps-self before.written; lawful = λ done. absurd cc }

  -- by judging
  pub unjudged-answer : (e : Outcome) → (e ≡ OutOfMemory) ⊎ (verdict form ≡ Err e) → IsReadAnswer form items before before e
  unjudged-answer e (inl m) = subst (IsReadAnswer form items before before) (sym m) memory-answer
  unjudged-answer e (inr v) = refused-answer e (verdict-own form e v) (verdict-output form (loaded items) e v)

  -- by loading
  pub unloaded-answer : (v : Asked) → IsAsked form v → (e : Outcome) → IsEarly (loaded items) e → IsReadAnswer form items before before e
  unloaded-answer v w e (inl m) = subst (IsReadAnswer form items before before) (sym m) memory-answer
  unloaded-answer v w e (inr (inl s)) = subst (IsReadAnswer form items before before) (sym s) store-answer
  unloaded-answer v w e (inr (inr r)) = refused-answer e (loaded-own items e r) (ap (output form) r ∙ asked-refused form v w e)

pub unjudged-rightly : (form : Reading) (e : Outcome) → (e ≡ OutOfMemory) ⊎ (verdict form ≡ Err e) → IsJudgedRightly form e
unjudged-rightly form e (inl m) = λ v. absurd (true≢false (sym v ∙ ap is_verdict m))
unjudged-rightly form e (inr q) = λ v. q

pub unjudged-own : (form : Reading) (e : Outcome) → (e ≡ OutOfMemory) ⊎ (verdict form ≡ Err e) → IsOwn e
unjudged-own form e (inl m) = subst IsOwn (sym m) (record { done = λ e. cc; read = λ e. cc; write = λ e. cc; store = λ e. cc })
unjudged-own form e (inr q) = verdict-own form e q

pub other-rightly : (form : Reading) (e : Outcome) → is_verdict e ≡ false → IsJudgedRightly form e
other-rightly form e other = λ v. absurd (true≢false (sym v ∙ other))

-- ---- looking at what was loaded

-- in a store no two objects have one name
module _ (S : List Object) (named : (o : Object) → Contains S o → find_named S (object_name o) ≡ Some o) where
  some-same : (x y : Object) → Some x ≡ Some y → x ≡ y
  some-same x y e = cc

  one-named : (x y : Object) → Contains S x → Contains S y → object_name x ≡ object_name y → x ≡ y
  one-named x y a b e = some-same x y (sym (named x a) ∙ ap (find_named S) e ∙ named y b)

  at-hand-none : (o : Object) → IsAtHand S [] o → Contains S o
  at-hand-none o (inl m) = m
  at-hand-none o (inr h) = let l = h.2 in absurd (omega arith)

  twice-none : (n : Bytes) → IsTwice (IsAtHand S []) n → ⊥
  twice-none n t = t.apart (one-named t.first t.second (at-hand-none t.first t.first_there) (at-hand-none t.second t.second_there) (t.first_named ∙ sym t.second_named))

  at-hand-some : (k : Hand) (ks : List Hand) → k.held ≡ S → (o : Object) → IsAtHand S (k ∷ ks) o → IsInHands (k ∷ ks) o
  at-hand-some k ks e o (inl m) = (zero, k, omega arith, refl, HeldObject (subst (λ (T : List Object). Contains T o) (sym e) m))
  at-hand-some k ks e o (inr h) = h

  twice-in : (ks : List Hand) → Each (λ (k : Hand). k.held ≡ S) ks → (n : Bytes) → IsTwice (IsAtHand S ks) n → IsTwice (IsInHands ks) n
  twice-in [] h n t = absurd (twice-none n t)
  twice-in (k ∷ ks) h n t = record {
    first = t.first;
    second = t.second;
    first_there = at-hand-some k ks h.0 t.first t.first_there;
    second_there = at-hand-some k ks h.0 t.second t.second_there;
    apart = t.apart;
    first_named = t.first_named;
    second_named = t.second_named;
  }

  outcome-in : (ks : List Hand) → Each (λ (k : Hand). k.held ≡ S) ks → (r : Result Bytes Outcome) (o : Outcome) → IsOutcome (IsAtHand S ks) o r → IsOutcome (IsInHands ks) o r
  outcome-in ks h r Done w = w
  outcome-in ks h r OutOfMemory w = w
  outcome-in ks h r ReadFault w = w
  outcome-in ks h r StoreFault w = w
  outcome-in ks h r WriteFault w = w
  outcome-in ks h r (Collision n) (inl q) = inl q
  outcome-in ks h r (Collision n) (inr t) = inr (twice-in ks h n.0 t)
  outcome-in ks h r _ w = w

module _ (form : Reading) (items : List Bytes) (k m : KeeperView) (number : ℕ) (s : Contents) (told : k.items ≡ Some items) (kept : KeepsItems k m) (w : IsLoaded k.items number s) where
  abbrev st : IsStateOf items w.held s
  st = loaded-state items k m number s told kept w

  pub looked-answer : (before after : SinkView) (o : Outcome) → IsLooked s.basis.store (hands form (Ok w.held)) (output form (Ok w.held)) before after o → (o ≡ Done → IsLawful form (Ok w.held))
      → IsReadAnswer form items before after o
  looked-answer before after o l lawful =
      let q : Ok w.held ≡ loaded items = sym (ap (refused_by break_outcome) st.current.read) in
      let named : (x : Object) → Contains s.basis.store x → find_named s.basis.store (object_name x) ≡ Some x = λ x there. st.spells.within x (subst (λ (T : List Object). Contains T x) w.only there) in
      let held : Each (λ (h : Hand). h.held ≡ s.basis.store) (hands form (Ok w.held)) = subst (λ (T : List Object). Each (λ (h : Hand). h.held ≡ T) (hands form (Ok w.held))) (sym w.only) (hands-held w.held form) in
      record {
        allowed = subst (λ (x : Result Held Outcome). IsOutcome (IsInHands (hands form x)) o (output form x)) q (outcome-in s.basis.store named (hands form (Ok w.held)) held (output form (Ok w.held)) o l.allowed);
        given = subst (λ (x : Result Held Outcome). IsGiven (text_of (output form x)) before after o) q l.given;
        lawful = λ done. subst (λ (x : Result Held Outcome). IsLawful form x) q (lawful done);
      }

-- ---- the text of the outcome

abbrev pub IsFinished : Outcome → Outcome → Type 0
IsFinished outcome result = (result ≡ outcome) ⊎ ((result ≡ OutOfMemory) × TakesMemory outcome)

-- where it takes memory nothing was written
memory-given : (text : Bytes) (before after : SinkView) (o : Outcome) → TakesMemory o → IsGiven text before after o → IsGiven text before after OutOfMemory
memory-given text before after Done m g = absurd (true≢false m)
memory-given text before after WriteFault m g = absurd (true≢false m)
memory-given text before after OutOfMemory m g = g
memory-given text before after _ m g = (0, keeps-appends before.written after.written g)

pub finished-answer : (form : Reading) (items : List Bytes) (before after : SinkView) (outcome result : Outcome) → IsFinished outcome result → IsReadAnswer form items before after outcome → IsReadAnswer form items before after result
finished-answer form items before after outcome result (inl same) a = subst (IsReadAnswer form items before after) (sym same) a
finished-answer form items before after outcome result (inr none) a =
    subst (IsReadAnswer form items before after) (sym none.0)
    (record { allowed = tt; given = memory-given (text_of (output form (loaded items))) before after outcome none.1 a.given; lawful = λ done. absurd cc })

pub finished-rightly : (form : Reading) (outcome result : Outcome) → IsFinished outcome result → IsJudgedRightly form outcome → IsJudgedRightly form result
finished-rightly form outcome result (inl same) j = subst (IsJudgedRightly form) (sym same) j
finished-rightly form outcome result (inr none) j = λ v. absurd (true≢false (sym v ∙ ap is_verdict none.0))

pub finished-usage : (outcome result : Outcome) → IsFinished outcome result → outcome ≡ Usage → result ≡ Usage
finished-usage outcome result (inl same) e = same ∙ e
finished-usage outcome result (inr none) e = absurd (true≢false (sym (ap is_plain e) ∙ none.1))

-- an outcome that isn't want of memory is that before
pub finished-same : (outcome result other : Outcome) → IsFinished outcome result → other ≢ OutOfMemory → result ≡ other → outcome ≡ other
finished-same outcome result other (inl same) apart e = sym same ∙ e
finished-same outcome result other (inr none) apart e = absurd (apart (sym e ∙ none.0))

pub finished-counts : (f g : ℕ) (outcome result other : Outcome) → IsFinished outcome result → other ≢ OutOfMemory → Counts f g (outcome ≡ other) → Counts f g (result ≡ other)
finished-counts f g outcome result other told apart c = record { later = c.later; rose = λ e. c.rose (finished-same outcome result other told apart e) }
