-- What is made of a command over the items of a store.
use Rattle.std.proofs.Common.{◌≡◌, ◌≢◌, ℕ, false, true, List, [], Some, Result, Ok, Err, IfSome, IsErr, refl, sym, ap, subst, ◌∙◌, true≢false, arith}
use Rattle.git_objects.specs.Paths.{Bytes}
use Rattle.proj_io.specs.Counts.{Counts}
use Rattle.proj_io.specs.Stops.{OnlyAdds}
use Rattle.proj_io.specs.Views.{SourceView, KeeperView}
use Rattle.state_items.specs.Changes.{NoPlan, room_of}
use Rattle.state_items.specs.Items.{Held}
use Rattle.repo_ground.specs.Changes.{KeepsItems}
use Rattle.repo_ground.proofs.Stopping.{adds_none}
use Rattle.proj_words.specs.Words.{Command, loads, reads, writes}
use Rattle.proj_words.specs.declared.outcome.Outcome.{Outcome}
use Rattle.proj_words.specs.declared.outcome.Outcome.TheVariants.{ReadFault, StoreFault, WriteFault}
use Rattle.proj_commands.specs.Cases.{Case, IsJudgedRightly, is_verdict, loaded}
use Rattle.proj_commands.specs.Steps.{case}
use Rattle.proj_commands.specs.Forms.{IsForm, IsFormMade, IsFormStop, IsMade}
use Rattle.proj_commands.specs.Hands.{IsInHands}
use Rattle.proj_commands.specs.Intake.{TakesUpTo, waited_by, waited_if, waited_in}
use Rattle.proj_commands.specs.Judging.{IsUnjudged}
use Rattle.proj_commands.specs.Makes.{IsRefusal, IsReportOf, hands_of, step_in}
use Rattle.proj_commands.proofs.AloneForms.{IsAlone, alone-formed}
use Rattle.proj_commands.proofs.Forming.{keeps-self}
use Rattle.proj_commands.proofs.Intaking.{takes-as, takes-none}
use Rattle.proj_commands.proofs.Refusing.{refused-made, unjudged-refusal}
use Rattle.proj_commands.proofs.Verdicts.{apart-judged, loaded-other, reported-judged, unjudged-judged}
use Rattle.proj_commands.specs.Inputs.{ForInput}
use Rattle.proj_commands.proofs.InputsRead.{for-any}

abbrev said : Outcome → Result Bytes Outcome
said e = Err e

said-same : (e x : Outcome) → said e ≡ Err x → e ≡ x
said-same e x g = cc

no-count : (n : ℕ) (A : Type 0) → (A → ⊥) → Counts n n A
no-count n A h = record { later = omega arith; rose = λ a. absurd (h a) }

-- a form that loads
pub whole-made : (i j : SourceView) (k l : KeeperView) (a b : ℕ) (x y : ℕ → List Bytes → Type 0) (result : Result Bytes Outcome) (asked : Command) → loads asked ≡ true
    → (writes asked ≡ false → KeepsItems k l)
    → Counts i.faults j.faults (result ≡ Err ReadFault) → (reads asked ≡ false → result ≢ Err ReadFault) → Counts k.faults l.faults (result ≡ Err StoreFault) → result ≢ Err WriteFault
    → ((items : List Bytes) → k.items ≡ Some items → TakesUpTo (waited_by (case asked (loaded items))) i.left j.left)
    → ((items : List Bytes) → k.items ≡ Some items → ((all : Bytes) → IsErr (case asked (loaded items) all)) → j ≡ i)
    → ((e : Outcome) → result ≡ Err e → IsJudgedRightly asked e)
    → ((items : List Bytes) → k.items ≡ Some items → ForInput i.left (λ all. IsForm asked items all k l (OnlyAdds a b x y) result))
    → IsMade asked i j k l (OnlyAdds a b x y) result
whole-made i j k l a b x y result asked w kept read unread keep early taken caseless judged made = record {
  read = read;
  keep = keep;
  early = early;
  judged = judged;
  unread = unread;
  unloaded = λ no. absurd (true≢false (sym w ∙ no));
  unwritten = kept;
  taken = λ items told. taken items (told w);
  caseless = λ items told. caseless items (told w);
  formed = λ items told. made items (told w);
}

-- of which nothing is loaded
pub unloaded-made : (i : SourceView) (k l : KeeperView) (a b : ℕ) (x y : ℕ → List Bytes → Type 0) (asked : Command) → loads asked ≡ true → KeepsItems k l → (e : Outcome) → e ≢ ReadFault → e ≢ WriteFault → Counts k.faults l.faults (e ≡ StoreFault) → is_verdict e ≡ false
    → ((items : List Bytes) → k.items ≡ Some items → (all : Bytes) → IsForm asked items all k l (OnlyAdds a b x y) (Err e)) → IsMade asked i i k l (OnlyAdds a b x y) (Err e)
unloaded-made i k l a b x y asked w kept e read write keep other formed =
    whole-made i i k l a b x y (Err e) asked w (λ _. kept) (no-count i.faults (said e ≡ Err ReadFault) (λ g. read (said-same e ReadFault g))) (λ no g. read (said-same e ReadFault g))
    (record { later = keep.later; rose = λ g. keep.rose (said-same e StoreFault g) }) (λ g. write (said-same e WriteFault g))
    (λ items told. takes-none (waited_by (case asked (loaded items))) i.left) (λ items told none. refl)
    (λ d g. subst (IsJudgedRightly asked) (said-same e d g) (apart-judged asked e other))
    (λ items told. for-any i.left (λ all. IsForm asked items all k l (OnlyAdds a b x y) (Err e)) (formed items told))

-- a command whose case has no state, whatever is loaded
module _ (i j : SourceView) (k : KeeperView) (a : ℕ) (x : ℕ → List Bytes → Type 0) (result : Result Bytes Outcome) (asked : Command) (c : Bytes → Case) where
  pub alone-form : ((loading : Result Held Outcome) (all : Bytes) → case asked loading all ≡ Ok (c all)) → ((all : Bytes) → IsAlone (c all)) → reads asked ≡ true → Counts i.faults j.faults (result ≡ Err ReadFault)
      → (result ≢ Err WriteFault) × (result ≢ Err StoreFault) → TakesUpTo (λ all. waited_in (c all) all) i.left j.left
      → (all : Bytes) × IfSome i.left (λ l. all ≡ l) × IsReportOf (Ok (c all)) result → IsMade asked i j k k (OnlyAdds a a x x) result
  alone-form is alone reading read early taken m = record {
    read = read;
    keep = no-count k.faults (result ≡ Err StoreFault) early.1;
    early = early.0;
    judged = reported-judged asked (IsInHands (hands_of (case asked (loaded []) m.0))) (room_of []) (loaded []) m.0 result (loaded-other []) (made [] k).reported;
    unread = λ no. absurd (true≢false (sym reading ∙ no));
    unloaded = λ no. early.1;
    unwritten = λ no. keeps-self k;
    taken = λ items told. takes-as (λ all. waited_in (c all) all) (waited_by (case asked (loaded items))) (λ all. sym (ap (λ (r : Result Case Outcome). waited_if r all) (is (loaded items) all))) i.left j.left taken;
    caseless = λ items told none. absurd (true≢false (sym (subst (λ (r : Result Case Outcome). IsErr r) (is (loaded items) []) (none []))));
    formed = λ items told. record { all = m.0; told = m.1; says = record { plan = NoPlan; made = made items k; stops = adds_none a x (IsFormStop items NoPlan) } };
  }
    where
      made : (items : List Bytes) (store : KeeperView) → IsFormMade (case asked (loaded items) m.0) items store store NoPlan result
      made items store = alone-formed asked (c m.0) (alone m.0) m.0 (λ l. is l m.0) result m.2 items store

-- what is refused before anything is read or loaded
pub unjudged-made : (i : SourceView) (k : KeeperView) (a : ℕ) (x : ℕ → List Bytes → Type 0) (asked : Command) (e : Outcome) → IsUnjudged asked e → IsMade asked i i k k (OnlyAdds a a x x) (Err e)
unjudged-made i k a x asked e w = record {
  read = no-count i.faults (said e ≡ Err ReadFault) (λ g. w.own.read (said-same e ReadFault g));
  keep = no-count k.faults (said e ≡ Err StoreFault) (λ g. w.own.store (said-same e StoreFault g));
  early = λ g. w.own.write (said-same e WriteFault g);
  judged = λ d g. subst (IsJudgedRightly asked) (said-same e d g) (unjudged-judged asked e w);
  unread = λ no g. w.own.read (said-same e ReadFault g);
  unloaded = λ no g. w.own.store (said-same e StoreFault g);
  unwritten = λ no. keeps-self k;
  taken = λ items told. takes-none (waited_by (case asked (loaded items))) i.left;
  caseless = λ items told none. refl;
  formed = λ items told.
      for-any i.left (λ all. IsForm asked items all k k (OnlyAdds a a x x) (Err e))
      (λ all. record { plan = NoPlan; made = refused-made items (case asked (loaded items) all) e k k (refused items all) (keeps-self k); stops = adds_none a x (IsFormStop items NoPlan) });
}
  where
    refused : (items : List Bytes) (all : Bytes) → IsRefusal (IsInHands (hands_of (case asked (loaded items) all))) e (step_in (room_of items) (case asked (loaded items) all))
    refused items all = unjudged-refusal (IsInHands (hands_of (case asked (loaded items) all))) (room_of items) asked (loaded items) all e w
