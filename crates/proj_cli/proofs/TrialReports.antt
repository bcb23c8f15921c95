-- What a trial reports.
use Rattle.std.proofs.Common.{◌≡◌, ◌≢◌, List, [], ◌∷◌, ◌++◌, ℕ, length, Result, Ok, Err, append_assoc, refl, sym, ap, subst, ◌∙◌}
use Rattle.std.specs.Prelude.{codes, decimal}
use Rattle.git_objects.specs.Paths.{Bytes}
use Rattle.git_objects.specs.Results.{◌>>=◌, refused_by}
use Rattle.object_store.specs.Objects.{Object}
use Rattle.state_items.specs.Items.{Held, nothing, read_items}
use Rattle.state_items.specs.Repos.{repo}
use Rattle.repo_ground.specs.Contents.{Contents}
use Rattle.proj_words.specs.Words.{Export}
use Rattle.proj_words.specs.TrialTexts.{first_push, main, second_push, third_push}
use Rattle.proj_words.specs.declared.outcome.Outcome.{Outcome}
use Rattle.proj_words.specs.declared.outcome.Outcome.TheVariants.{Done, OutOfMemory, Collision, ReadFault, WriteFault, StoreFault}
use Rattle.proj_commands.specs.Cases.{Made, break_outcome, head_of, loaded, unchanged}
use Rattle.proj_commands.specs.Steps.{case}
use Rattle.proj_commands.specs.Hands.{Hand, IsInHands}
use Rattle.proj_commands.specs.Makes.{IsRefusal, IsReported, hands_of}
use Rattle.proj_cli.specs.Trials.{hands_on, history_line, report_hands, report_of, third_hands, third_left, trial_hands, trial_made}
use Rattle.proj_cli.specs.Trying.{IsEnded, IsLeft, IsLine, IsToldOf, IsTried, line_of}
use Rattle.proj_cli.proofs.TrialSteps.{ended-as, ended-left, ended-on, hands-both, hands-left, hands-right}

-- ---- three lines

module _ {A B C : Type 0} (ks : List Hand) where
  -- what comes behind the first of two is refused where they are
  ended-inner : (r : Result A Outcome) (f : A → Result B Outcome) (g : A → B → Result C Outcome) (e : Outcome) → IsEnded ks (r >>= f) e → IsEnded ks (r >>= λ x. f x >>= g x) e
  ended-inner (Ok x) f g e w = ended-on ks (f x) (g x) e w
  ended-inner (Err y) f g e w = ended-on {A = B} {B = C} ks (Err y) (λ b. Err y) e w

  -- the first of them is known
  told-behind : (r : Result A Outcome) (f : A → Result B Outcome) (g : A → B → Result C Outcome) (b : B) → (r >>= f) ≡ Ok b → (r >>= λ x. f x >>= g x) ≡ (r >>= λ x. g x b)
  told-behind (Ok x) f g b q = ap (λ (z : Result B Outcome). z >>= g x) q
  told-behind (Err y) f g b q = refl

text-as : (a d l m n : Bytes) → ((((a ++ 32 ∷ (d ++ 10 ∷ [])) ++ l) ++ m) ++ n) ≡ a ++ 32 ∷ (d ++ 10 ∷ (l ++ m ++ n))
text-as a d l m n =
    ap (λ (t : Bytes). t ++ n) (append_assoc (a ++ 32 ∷ (d ++ 10 ∷ [])) l m)
    ∙ append_assoc (a ++ 32 ∷ (d ++ 10 ∷ [])) (l ++ m) n
    ∙ append_assoc a (32 ∷ (d ++ 10 ∷ [])) (l ++ m ++ n)
    ∙ ap (λ (t : Bytes). a ++ 32 ∷ t) (append_assoc d (10 ∷ []) (l ++ m ++ n))

module _ (items : List Bytes) (h : Held) (read : read_items items ≡ Ok h) where
  abbrev head : Result Bytes Outcome
  head = head_of main h.refs

  abbrev first : Bytes → Result Bytes Outcome
  first n = history_line h n first_push.filter

  abbrev second : Bytes → Result Bytes Outcome
  second n = history_line h n second_push.filter

  abbrev third : Bytes → Result Bytes Outcome
  third n = history_line h n third_push.filter

  abbrev whole : Bytes → Bytes → Bytes → Bytes
  whole l m n = codes "commits " ++ decimal (length (repo h).commits) ++ 10 ∷ (l ++ m ++ n)

  loaded-report : report_of items ≡ (head >>= λ n. first n >>= λ a. second n >>= λ b. third n >>= λ c. Ok (whole a b c))
  loaded-report =
      ap (λ (r : Result Held Outcome). r >>= λ l. head_of main l.refs >>= λ n. history_line l n first_push.filter >>= λ a. history_line l n second_push.filter >>= λ b. history_line l n third_push.filter
      >>= λ c. Ok (codes "commits " ++ decimal (length (repo l).commits) ++ 10 ∷ (a ++ b ++ c))) (ap (refused_by break_outcome) read)

  pub first-ended : (ks : List Hand) (e : Outcome) → IsEnded ks (line_of h main first_push.filter) e → IsEnded ks (report_of items) e
  first-ended ks e w =
      subst (λ (r : Result Bytes Outcome). IsEnded ks r e) (sym loaded-report)
      (ended-inner ks head first (λ n a. second n >>= λ b. third n >>= λ c. Ok (whole a b c)) e w)

  module _ (l : Bytes) (p : line_of h main first_push.filter ≡ Ok l) where
    second-report : report_of items ≡ (head >>= λ n. second n >>= λ b. third n >>= λ c. Ok (whole l b c))
    second-report = loaded-report ∙ told-behind {C = Bytes} [] head first (λ n a. second n >>= λ b. third n >>= λ c. Ok (whole a b c)) l p

    pub second-ended : (ks : List Hand) (e : Outcome) → IsEnded ks (line_of h main second_push.filter) e → IsEnded ks (report_of items) e
    second-ended ks e w =
        subst (λ (r : Result Bytes Outcome). IsEnded ks r e) (sym second-report) (ended-inner ks head second (λ n b. third n >>= λ c. Ok (whole l b c)) e w)

    module _ (m : Bytes) (q : line_of h main second_push.filter ≡ Ok m) where
      third-report : report_of items ≡ (head >>= λ n. third n >>= λ c. Ok (whole l m c))
      third-report = second-report ∙ told-behind {C = Bytes} [] head second (λ n b. third n >>= λ c. Ok (whole l b c)) m q

      pub third-ended : (ks : List Hand) (e : Outcome) → IsEnded ks (line_of h main third_push.filter) e → IsEnded ks (report_of items) e
      third-ended ks e w = subst (λ (r : Result Bytes Outcome). IsEnded ks r e) (sym third-report) (ended-inner ks head third (λ n c. Ok (whole l m c)) e w)

      pub report-told : (n text : Bytes) (k : ℕ) → line_of h main third_push.filter ≡ Ok n → k ≡ length (repo h).commits
          → text ≡ ((((codes "commits" ++ 32 ∷ (decimal k ++ 10 ∷ [])) ++ l) ++ m) ++ n) → report_of items ≡ Ok text
      report-told n text k t count is =
          third-report
          ∙ head-there head t
          ∙ ap (λ (x : Bytes). Ok x) (sym (is ∙ text-as (codes "commits") (decimal k) l m n ∙ ap (λ (j : ℕ). codes "commits" ++ 32 ∷ (decimal j ++ 10 ∷ (l ++ m ++ n))) count))
        where
          head-there : (r : Result Bytes Outcome) → (r >>= third) ≡ Ok n → (r >>= λ x. third x >>= λ c. Ok (whole l m c)) ≡ Ok (whole l m n)
          head-there (Ok x) z = ap (λ (y : Result Bytes Outcome). y >>= λ c. Ok (whole l m c)) z
          head-there (Err y) z = absurd (let no : Err y ≡ Ok n = z in cc)

-- ---- the whole

ended-refusal : (ks : List Hand) (r : Result Made Outcome) (e : Outcome) → IsEnded ks r e → IsRefusal (IsInHands ks) e r
ended-refusal ks r Done w = w
ended-refusal ks r WriteFault w = w
ended-refusal ks r ReadFault w = tt
ended-refusal ks r StoreFault w = tt
ended-refusal ks r OutOfMemory w = tt
ended-refusal ks r (Collision n) w = w
ended-refusal ks r _ w = w

pub ended-reported : (ks : List Hand) (r : Result Made Outcome) (e : Outcome) → IsEnded ks r e → IsReported (IsInHands ks) r (Err e)
ended-reported ks (Ok m) e w = ended-refusal ks (Ok m) e w
ended-reported ks (Err x) e w = ended-refusal ks (Err x) e w

pub told-reported : (ks : List Hand) (r : Result Bytes Outcome) (result : Result Bytes Outcome) → IsToldOf ks r result → IsReported (IsInHands ks) (r >>= λ text. Ok (unchanged nothing text)) result
told-reported ks r (Ok text) q = subst (λ (x : Result Bytes Outcome). IsReported (IsInHands ks) (x >>= λ t. Ok (unchanged nothing t)) (Ok text)) (sym q) refl
told-reported ks r (Err e) w = ended-reported ks (r >>= λ t. Ok (unchanged nothing t)) e (ended-on ks r (λ t. Ok (unchanged nothing t)) e w)

-- no device is at fault
pub told-calm : (ks : List Hand) (r result : Result Bytes Outcome) → IsToldOf ks r result → (result ≢ Err ReadFault) × (result ≢ Err WriteFault) × (result ≢ Err StoreFault)
told-calm ks r result w =
    (λ q. subst (λ (x : Result Bytes Outcome). IsToldOf ks r x) q w, λ q. subst (λ (x : Result Bytes Outcome). IsToldOf ks r x) q w, λ q. subst (λ (x : Result Bytes Outcome). IsToldOf ks r x) q w)

-- ---- the lines, one after another

-- a line of another spelling
pub line-named : (items : List Bytes) (h : Held) (hands : List Hand) (r t u before after : Bytes) (s : Contents) (result : Result (Unit {0}) Outcome) → r ≡ main → t ≡ u
    → IsLine items h (hands ++ hands_of (case (Export r t) (loaded items) [])) (line_of h r t) before after s result
    → IsLine items h (hands ++ hands_of (case (Export main u) (loaded items) [])) (line_of h main u) before after s result
line-named items h hands r t u before after s result e d w =
    subst (λ (v : Bytes). IsLine items h (hands ++ hands_of (case (Export main v) (loaded items) [])) (line_of h main v) before after s result) d
    (subst (λ (v : Bytes). IsLine items h (hands ++ hands_of (case (Export v t) (loaded items) [])) (line_of h v t) before after s result) e w)

module _ (items : List Bytes) (h : Held) (hands : List Hand) (read : read_items items ≡ Ok h) where
  abbrev line_hands : Bytes → List Hand
  line_hands text = hands_of (case (Export main text) (loaded items) [])

  abbrev pub with_first : List Hand
  with_first = hands ++ line_hands first_push.filter

  abbrev pub with_second : List Hand
  with_second = with_first ++ line_hands second_push.filter

  abbrev pub with_third : List Hand
  with_third = with_second ++ line_hands third_push.filter

  abbrev every : List Hand
  every = hands ++ report_hands items

  abbrev former : List Hand
  former = line_hands first_push.filter ++ line_hands second_push.filter

  former-in : (o : Object) → IsInHands former o → IsInHands every o
  former-in o m = hands-right hands (report_hands items) o (hands-left former (line_hands third_push.filter) o m)

  first-in : (o : Object) → IsInHands with_first o → IsInHands every o
  first-in =
      hands-both hands (line_hands first_push.filter) every (hands-left hands (report_hands items))
      (λ o m. former-in o (hands-left (line_hands first_push.filter) (line_hands second_push.filter) o m))

  second-in : (o : Object) → IsInHands with_second o → IsInHands every o
  second-in =
      hands-both with_first (line_hands second_push.filter) every first-in
      (λ o m. former-in o (hands-right (line_hands first_push.filter) (line_hands second_push.filter) o m))

  third-in : (o : Object) → IsInHands with_third o → IsInHands every o
  third-in =
      hands-both with_second (line_hands third_push.filter) every second-in
      (λ o m. hands-right hands (report_hands items) o (hands-right former (line_hands third_push.filter) o m))

  pub none-told : (e : Outcome) → IsEnded with_first (line_of h main first_push.filter) e → IsEnded every (report_of items) e
  none-told e w = ended-as with_first every (report_of items) e first-in (first-ended items h read with_first e w)

  module _ (l : Bytes) (p : line_of h main first_push.filter ≡ Ok l) where
    pub first-told : (e : Outcome) → IsEnded with_second (line_of h main second_push.filter) e → IsEnded every (report_of items) e
    first-told e w = ended-as with_second every (report_of items) e second-in (second-ended items h read l p with_second e w)

    pub second-told : (m : Bytes) → line_of h main second_push.filter ≡ Ok m → (e : Outcome) → IsEnded with_third (line_of h main third_push.filter) e → IsEnded every (report_of items) e
    second-told m q e w = ended-as with_third every (report_of items) e third-in (third-ended items h read l p m q with_third e w)

-- ---- a trial

abbrev pub IsTrialTold : ℕ → Result Bytes Outcome → Type 0
IsTrialTold n result = IsToldOf (trial_hands n) (third_left n >>= report_of) result

pub trial-ended : (n : ℕ) (e : Outcome) → IsEnded (third_hands n) (third_left n) e → IsTrialTold n (Err e)
trial-ended n e w = ended-left (third_hands n) (third_left n) report_of report_hands e w

pub trial-told : (n : ℕ) (s : Contents) (u : Unit {0}) (result : Result Bytes Outcome) → IsLeft (third_hands n) (third_left n) s (Ok u)
    → ((items : List Bytes) (h : Held) (hands : List Hand) → IsTried items h hands s → IsToldOf (hands ++ report_hands items) (report_of items) result) → IsTrialTold n result
trial-told n s u result w next =
    subst (λ (x : Result (List Bytes) Outcome). IsToldOf (third_hands n ++ hands_on x report_hands) (x >>= report_of) result) (sym w.2) (next w.0 w.1 (third_hands n) w.3)

pub trial-reported : (n : ℕ) (result : Result Bytes Outcome) → IsTrialTold n result → IsReported (IsInHands (trial_hands n)) (trial_made n) result
trial-reported n result w = told-reported (trial_hands n) (third_left n >>= report_of) result w

pub trial-calm : (n : ℕ) (result : Result Bytes Outcome) → IsTrialTold n result → (result ≢ Err ReadFault) × (result ≢ Err WriteFault) × (result ≢ Err StoreFault)
trial-calm n result w = told-calm (trial_hands n) (third_left n >>= report_of) result w
