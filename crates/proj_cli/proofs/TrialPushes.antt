-- What becomes of the commands of a trial.
use Rattle.std.proofs.Common.{◌≡◌, ◌≢◌, ◌⊎◌, ◌+◌, ◌++◌, ℕ, true, false, List, [], Contains, Option, Result, Ok, Err, refl, sym, ap, subst, ◌∙◌, arith}
use Rattle.std.specs.Option.{option_map}
use Rattle.git_objects.specs.Paths.{Bytes}
use Rattle.git_objects.specs.Results.{◌>>=◌, refused_by}
use Rattle.object_store.specs.Objects.{Object}
use Rattle.commit_map.specs.Shown.{Shown}
use Rattle.filter_text.specs.Filters.{Filter}
use Rattle.path_names.specs.RefNames.{is_ref_name}
use Rattle.proj_io.specs.Views.{KeeperView}
use Rattle.push_laws.specs.Pushes.{pushing}
use Rattle.state_items.specs.Changes.{Plan}
use Rattle.state_items.specs.Items.{Break, Held, nothing, read_items}
use Rattle.state_items.specs.Repos.{repo}
use Rattle.repo_ground.specs.Contents.{Contents}
use Rattle.import_laws.specs.Bases.{base_of}
use Rattle.repo_ground.specs.Loads.{IsEmpty}
use Rattle.proj_words.specs.TrialTexts.{TrialPush, first_push, main, push_stream, second_push, third_push, trial_stream}
use Rattle.proj_words.specs.Words.{Command, Import, Push}
use Rattle.proj_words.specs.declared.outcome.Outcome.{Outcome}
use Rattle.proj_words.specs.declared.outcome.Outcome.TheVariants.{OutOfMemory, ReadFault, StoreFault}
use Rattle.proj_commands.specs.Cases.{Case, ImportCase, PushCase, break_outcome, head_of, loaded}
use Rattle.proj_commands.specs.Steps.{case}
use Rattle.proj_commands.specs.Push.{push_case}
use Rattle.proj_commands.specs.declared.lines.Telling.TheVariants.{Both}
use Rattle.proj_commands.specs.Filters.{projected, rule_by, sound}
use Rattle.proj_commands.specs.Hands.{Hand, IsInHands}
use Rattle.proj_commands.specs.Import.{tagged_ran}
use Rattle.proj_commands.specs.Makes.{IsMadeOf, IsStateOf, hands_of}
use Rattle.proj_cli.specs.Trials.{first_hands, first_left, hands_on, import_hands, import_left, left_by, push_hands, push_input, push_left, second_hands, second_left, third_hands, third_left}
use Rattle.proj_cli.specs.Trying.{IsEnded, IsLeft, IsTried, from_of}
use Rattle.proj_cli.proofs.TrialSteps.{command-counted, command-done, command-ended, ended-as, ended-left, ended-on, hands-both, hands-left, hands-right, import-plain, left-on, push-plain, unsound-ended}
use Rattle.proj_commands.specs.declared.pushing.Manner.TheVariants.{InLine}

-- ---- the ref

pub main-named : is_ref_name main ≡ true
unfolding is_ref_name
main-named = refl

-- ---- more hands

tried-as : (items : List Bytes) (h : Held) (ks ls : List Hand) (s : Contents) → ((o : Object) → IsInHands ks o → IsInHands ls o) → IsTried items h ks s → IsTried items h ls s
tried-as items h ks ls s f w = record { state = w.state; brought = λ o m. f o (w.brought o m) }

left-as : (ks ls : List Hand) (left : Result (List Bytes) Outcome) (s : Contents) (result : Result (Unit {0}) Outcome) → ((o : Object) → IsInHands ks o → IsInHands ls o) → IsLeft ks left s result → IsLeft ls left s result
left-as ks ls left s (Ok u) f w = (w.0, w.1, w.2, tried-as w.0 w.1 ks ls s f w.3)
left-as ks ls left s (Err e) f w = ended-as ks ls left e f w

-- ---- a push

unsound-input : (ks : List Hand) (p : TrialPush) (seconds : ℕ) (items : List Bytes) (e : Outcome) → (e ≡ OutOfMemory) ⊎ (sound p.filter ≡ Err e) → IsEnded ks (push_input p seconds items) e
unsound-input ks p seconds items e bad =
    ended-on ks (sound p.filter)
    (λ f. loaded items >>= λ h. head_of main h.refs >>= λ n. Ok (push_stream seconds p (option_map (λ (s : Shown). s.commit) (projected h f n)))) e (unsound-ended ks p.filter e bad)

pub unsound-left : (ks : List Hand) (p : TrialPush) (seconds : ℕ) (items : List Bytes) (e : Outcome) → (e ≡ OutOfMemory) ⊎ (sound p.filter ≡ Err e) → IsEnded ks (push_left p seconds items) e
unsound-left ks p seconds items e bad =
    ended-on ks (push_input p seconds items) (λ input. left_by (Push main p.filter) items input) e (unsound-input ks p seconds items e bad)

module _ (h : Held) (f : Filter) (seconds : ℕ) (p : TrialPush) where
  abbrev pushed : Bytes → Bytes → Case
  pushed input n = PushCase InLine Both h f main n (pushing (rule_by h.rule) f (repo h).commits n main input)

  abbrev name_of : Bytes → Option Bytes
  name_of n = option_map (λ (s : Shown). s.commit) (projected h f n)

  -- the stream upon a projection, if there is one
  abbrev pub text_of : Result (Option Bytes) Outcome → Bytes
  text_of (Ok from) = push_stream seconds p from
  text_of (Err e) = []

  input-by : (r : Result Bytes Outcome) → (r >>= λ n. Ok (push_stream seconds p (name_of n))) ≡ ((r >>= λ n. Ok (name_of n)) >>= λ from. Ok (push_stream seconds p from))
  input-by (Ok n) = refl
  input-by (Err e) = refl

  hands-by : (c : Bytes → Result Case Outcome) (r : Result Bytes Outcome) → ((input : Bytes) → c input ≡ (r >>= λ n. Ok (pushed input n)))
      → hands_of (r >>= λ n. Ok (pushed (text_of (r >>= λ m. Ok (name_of m))) n))
      ≡ hands_on ((r >>= λ n. Ok (name_of n)) >>= λ from. Ok (push_stream seconds p from)) (λ input. hands_of (c input))
  hands-by c (Ok n) q = sym (ap (λ (x : Result Case Outcome). hands_of x) (q (push_stream seconds p (name_of n))))
  hands-by c (Err e) q = refl

module _ (p : TrialPush) (seconds : ℕ) (items : List Bytes) (h : Held) (hands : List Hand) (f : Filter) (read : read_items items ≡ Ok h) (judged : sound p.filter ≡ Ok f) where
  abbrev more : List Hand
  more = push_hands p seconds items

  input-is : push_input p seconds items ≡ (from_of h f main >>= λ from. Ok (push_stream seconds p from))
  input-is =
      ap (λ (r : Result Filter Outcome). r >>= λ k. loaded items >>= λ l. head_of main l.refs >>= λ n. Ok (push_stream seconds p (option_map (λ (s : Shown). s.commit) (projected l k n)))) judged
      ∙ ap (λ (r : Result Held Outcome). r >>= λ l. head_of main l.refs >>= λ n. Ok (push_stream seconds p (option_map (λ (s : Shown). s.commit) (projected l f n)))) (ap (refused_by break_outcome) read)
      ∙ input-by h f seconds p (head_of main h.refs)

  case-is : (input : Bytes) → case (Push main p.filter) (loaded items) input ≡ push_case InLine Both h f main input
  case-is input =
      ap (λ (r : Result Filter Outcome). r >>= λ k. loaded items >>= λ l. head_of main l.refs >>= λ n. Ok (PushCase InLine Both l k main n (pushing (rule_by l.rule) k (repo l).commits n main input))) judged
      ∙ ap (λ (r : Result Held Outcome). r >>= λ l. head_of main l.refs >>= λ n. Ok (PushCase InLine Both l f main n (pushing (rule_by l.rule) f (repo l).commits n main input))) (ap (refused_by break_outcome) read)

  hands-are : hands_of (push_case InLine Both h f main (text_of h f seconds p (from_of h f main))) ≡ more
  hands-are =
      hands-by h f seconds p (λ input. case (Push main p.filter) (loaded items) input) (head_of main h.refs) case-is
      ∙ ap (λ (r : Result Bytes Outcome). hands_on r (λ input. hands_of (case (Push main p.filter) (loaded items) input))) (sym input-is)

  -- there is no projection to push upon
  pub from-ended : (refname : Bytes) (e : Outcome) → refname ≡ main → ((all : Bytes) → IsEnded (hands ++ hands_of (push_case InLine Both h f refname all)) (from_of h f refname) e)
      → IsEnded (hands ++ more) (push_left p seconds items) e
  from-ended refname e named w =
      let all = text_of h f seconds p (from_of h f main) in
      let here = subst (λ (r : Bytes). IsEnded (hands ++ hands_of (push_case InLine Both h f r all)) (from_of h f r) e) named (w all) in
      ended-on (hands ++ more) (push_input p seconds items) (λ input. left_by (Push main p.filter) items input) e
      (subst (λ (r : Result Bytes Outcome). IsEnded (hands ++ more) r e) (sym input-is)
      (ended-on (hands ++ more) (from_of h f main) (λ from. Ok (push_stream seconds p from)) e
      (subst (λ (ks : List Hand). IsEnded (hands ++ ks) (from_of h f main) e) hands-are here)))

  -- and where there is one
  module _ (refname : Bytes) (named : refname ≡ main) (from : Option Bytes) (is : from_of h f refname ≡ Ok from) (s s' : Contents)
      (w : (all : Bytes) → IsTried items h (hands ++ hands_of (push_case InLine Both h f refname all)) s) (all : Bytes) (told : all ≡ push_stream seconds p from)
      (before after : KeeperView) (q : Plan) where
    abbrev input : Bytes
    input = push_stream seconds p from

    given : push_input p seconds items ≡ Ok input
    given = input-is ∙ ap (λ (r : Result (Option Bytes) Outcome). r >>= λ x. Ok (push_stream seconds p x)) (subst (λ (r : Bytes). from_of h f r ≡ Ok from) named is)

    here : IsTried items h (hands ++ hands_of (push_case InLine Both h f main input)) s
    here = subst (λ (r : Bytes). IsTried items h (hands ++ hands_of (push_case InLine Both h f r input)) s) named (w input)

    made-here : (result : Result Bytes Outcome) → IsMadeOf (push_case InLine Both h f refname all) items h s s' before after q result → IsMadeOf (push_case InLine Both h f main input) items h s s' before after q result
    made-here result m =
        subst (λ (r : Bytes). IsMadeOf (push_case InLine Both h f r input) items h s s' before after q result) named
        (subst (λ (a : Bytes). IsMadeOf (push_case InLine Both h f refname a) items h s s' before after q result) told m)

    abbrev asked : Command
    asked = Push main p.filter

    abbrev there : List Hand
    there = hands_of (case asked (loaded items) input)

    abbrev before_it : List Hand
    before_it = hands ++ hands_of (push_case InLine Both h f main input)

    again : (o : Object) → IsInHands (before_it ++ there) o → IsInHands (hands ++ there) o
    again =
        hands-both before_it there (hands ++ there)
        (hands-both hands (hands_of (push_case InLine Both h f main input)) (hands ++ there) (hands-left hands there)
        (λ o m. hands-right hands there o (subst (λ (r : Result Case Outcome). IsInHands (hands_of r) o) (sym (case-is input)) m)))
        (hands-right hands there)

    pub push-done : (report : Bytes) (u : Unit {0}) → IsMadeOf (push_case InLine Both h f refname all) items h s s' before after q (Ok report) → IsLeft (hands ++ more) (push_left p seconds items) s' (Ok u)
    push-done report u m =
        subst (λ (r : Result Bytes Outcome). IsLeft (hands ++ hands_on r (λ a. hands_of (case asked (loaded items) a))) (r >>= λ a. left_by asked items a) s' (Ok u)) (sym given)
        (left-as (before_it ++ there) (hands ++ there) (left_by asked items input) s' (Ok u) again
        (command-done asked input items h before_it s s' here (push_case InLine Both h f main input) (push-plain h f main input) (case-is input) before after q report u (made-here (Ok report) m)))

    pub push-counted : (report : Bytes) → s.number ≡ before.number → IsMadeOf (push_case InLine Both h f refname all) items h s s' before after q (Ok report) → s'.number ≡ after.number
    push-counted report k m =
        command-counted asked input items h before_it s s' here (push_case InLine Both h f main input) (push-plain h f main input) (case-is input) before after q report k (made-here (Ok report) m)

    pub push-ended : (e : Outcome) → e ≢ ReadFault → e ≢ StoreFault → IsMadeOf (push_case InLine Both h f refname all) items h s s' before after q (Err e) → IsEnded (hands ++ more) (push_left p seconds items) e
    push-ended e a b m =
        subst (λ (r : Result Bytes Outcome). IsEnded (hands ++ hands_on r (λ x. hands_of (case asked (loaded items) x))) (r >>= λ x. left_by asked items x) e) (sym given)
        (ended-as (before_it ++ there) (hands ++ there) (left_by asked items input) e again
        (command-ended asked input items h before_it s s' here (push_case InLine Both h f main input) (push-plain h f main input) (case-is input) before after q e a b (made-here (Err e) m)))

-- ---- the import

none-read : read_items [] ≡ Ok nothing
unfolding read_items
none-read = refl

empty-state : (s : Contents) → IsEmpty s → IsStateOf [] nothing s
empty-state s w = record { current = record { read = none-read; number = w.number; size = w.size }; spells = w.spells; ground = w.ground }

pub empty-tried : (s : Contents) → IsEmpty s → IsTried [] nothing [] s
empty-tried s w = record { state = empty-state s w; brought = λ o m. none o (subst (λ (S : List Object). Contains S o) w.store m) }
  where
    none : (o : Object) → Contains [] o → IsInHands [] o
    none o m = absurd (omega (arith, m.1))

module _ (n : ℕ) (s s' : Contents) (w : IsEmpty s) (all : Bytes) (told : all ≡ trial_stream n) (before after : KeeperView) (q : Plan) where
  abbrev imported : Bytes → Result Case Outcome
  imported a = Ok (ImportCase false nothing (tagged_ran (base_of nothing) a))

  case-import : case (Import false) (loaded []) (trial_stream n) ≡ imported (trial_stream n)
  case-import = ap (λ (r : Result Held Break). case (Import false) (refused_by break_outcome r) (trial_stream n)) none-read

  import-here : (result : Result Bytes Outcome) → IsMadeOf (imported all) [] nothing s s' before after q result → IsMadeOf (imported (trial_stream n)) [] nothing s s' before after q result
  import-here result m = subst (λ (a : Bytes). IsMadeOf (imported a) [] nothing s s' before after q result) told m

  pub import-done : (report : Bytes) (u : Unit {0}) → IsMadeOf (imported all) [] nothing s s' before after q (Ok report) → IsLeft (import_hands n) (import_left n) s' (Ok u)
  import-done report u m =
      command-done (Import false) (trial_stream n) [] nothing [] s s' (empty-tried s w) (imported (trial_stream n)) (import-plain nothing (trial_stream n)) case-import before after q report u
      (import-here (Ok report) m)

  pub import-counted : (report : Bytes) → s.number ≡ before.number → IsMadeOf (imported all) [] nothing s s' before after q (Ok report) → s'.number ≡ after.number
  import-counted report k m =
      command-counted (Import false) (trial_stream n) [] nothing [] s s' (empty-tried s w) (imported (trial_stream n)) (import-plain nothing (trial_stream n)) case-import before after q report k
      (import-here (Ok report) m)

  pub import-ended : (e : Outcome) → e ≢ ReadFault → e ≢ StoreFault → IsMadeOf (imported all) [] nothing s s' before after q (Err e) → IsEnded (import_hands n) (import_left n) e
  import-ended e a b m =
      command-ended (Import false) (trial_stream n) [] nothing [] s s' (empty-tried s w) (imported (trial_stream n)) (import-plain nothing (trial_stream n)) case-import before after q e a b
      (import-here (Err e) m)

-- ---- one after another

-- what a push makes of a state that was tried, whatever was before
abbrev pub IsPushTried : TrialPush → ℕ → Contents → Contents → Result (Unit {0}) Outcome → Type 0
IsPushTried p seconds s s' result =
    (items : List Bytes) (h : Held) (hands : List Hand) → IsTried items h hands s → IsLeft (hands ++ push_hands p seconds items) (push_left p seconds items) s' result

pub next-tried : (ks : List Hand) (left : Result (List Bytes) Outcome) (p q : TrialPush) (a b : ℕ) (s s' : Contents) (u : Unit {0}) (result : Result (Unit {0}) Outcome) → p ≡ q → a ≡ b
    → IsLeft ks left s (Ok u) → IsPushTried p a s s' result → IsLeft (ks ++ hands_on left (push_hands q b)) (left >>= push_left q b) s' result
next-tried ks left p q a b s s' u result e d w next =
    left-on ks left w.0 (push_left q b) (push_hands q b) s' result w.2
    (subst (λ (c : ℕ). IsLeft (ks ++ push_hands q c w.0) (push_left q c w.0) s' result) d
    (subst (λ (r : TrialPush). IsLeft (ks ++ push_hands r a w.0) (push_left r a w.0) s' result) e (next w.0 w.1 ks w.3)))

module _ (n : ℕ) (e : Outcome) where
  pub second-ended : IsEnded (second_hands n) (second_left n) e → IsEnded (third_hands n) (third_left n) e
  second-ended w = ended-left (second_hands n) (second_left n) (push_left third_push (1700000002 + n)) (push_hands third_push (1700000002 + n)) e w

  pub first-ended : IsEnded (first_hands n) (first_left n) e → IsEnded (third_hands n) (third_left n) e
  first-ended w = second-ended (ended-left (first_hands n) (first_left n) (push_left second_push (1700000001 + n)) (push_hands second_push (1700000001 + n)) e w)

  pub none-imported : IsEnded (import_hands n) (import_left n) e → IsEnded (third_hands n) (third_left n) e
  none-imported w = first-ended (ended-left (import_hands n) (import_left n) (push_left first_push (1700000000 + n)) (push_hands first_push (1700000000 + n)) e w)
