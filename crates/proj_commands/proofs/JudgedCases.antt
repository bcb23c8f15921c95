-- The case of a judged command, and what is held in it.
use Rattle.std.proofs.Common.{◌≡◌, ◌⊎◌, inl, inr, Bool, false, true, true≢false, ℕ, List, Option, Some, None, Result, Ok, Err, IfErr, IfSome, IsErr, refl, sym, ap, subst, subst₂, ◌∙◌}
use Rattle.std.specs.Result.{IsErrAnd}
use Rattle.git_objects.specs.Paths.{Bytes, Path}
use Rattle.git_objects.specs.Results.{◌>>=◌, or_refuse}
use Rattle.object_store.specs.Objects.{Object, IsStore}
use Rattle.filter_text.specs.Filters.{Filter}
use Rattle.filter_text.specs.Shapes.{shape}
use Rattle.commit_map.specs.Rules.{rule_number}
use Rattle.fast_import.specs.Replays.{empty_base}
use Rattle.push_laws.specs.Pushes.{pushing}
use Rattle.import_laws.specs.Bases.{base_of}
use Rattle.proj_gate.specs.Policies.{See, Push as PushAct}
use Rattle.state_items.specs.Items.{Held, read_items}
use Rattle.state_items.specs.Repos.{repo}
use Rattle.repo_ground.specs.Contents.{Contents}
use Rattle.repo_ground.specs.Loads.{IsLoadFault, IsLoaded}
use Rattle.repo_ground.specs.declared.state.LoadError.{LoadError}
use Rattle.proj_words.specs.Words.{Command, As, Import, Project, Push, Export, ExportTags, Name, Rule, Query, Ask, Verify, loads, PushMerges}
use Rattle.proj_words.specs.declared.outcome.Outcome.{Outcome}
use Rattle.proj_words.specs.declared.outcome.Outcome.TheVariants.{OutOfMemory, UnknownRef}
use Rattle.proj_commands.specs.Cases.{Case, ImportCase, ProjectCase, ExportCase, PushCase, NameCase, RuleCase, QueryCase, VerifyCase, head_of, query_case, verdict}
use Rattle.proj_commands.specs.Steps.{case, hand}
use Rattle.proj_commands.specs.Audit.{path_by}
use Rattle.proj_commands.specs.Export.{export_case, export_hand}
use Rattle.proj_commands.specs.Verify.{name_by}
use Rattle.proj_commands.specs.declared.judging.Claim.{Claim}
use Rattle.proj_commands.specs.Project.{project_case}
use Rattle.proj_commands.specs.Push.{push_case}
use Rattle.proj_commands.specs.Filters.{rule_by, sound}
use Rattle.proj_commands.specs.Judging.{IsClaimed, IsJudged, IsRefused, IsUnjudged}
use Rattle.proj_commands.specs.Makes.{IsState}
use Rattle.proj_commands.specs.Policy.{granted}
use Rattle.proj_commands.specs.Queries.{SoundQuery, hand_through, projects, sight, sound_of, sound_query}
use Rattle.proj_commands.specs.declared.lines.Telling.TheVariants.{Both, PushedAlone}
use Rattle.proj_commands.specs.declared.judging.Judged.{Judged}
use Rattle.proj_commands.specs.declared.judging.Judged.TheVariants as judged
use Rattle.proj_commands.proofs.Forming.{HoldsAll}
use Rattle.proj_commands.proofs.Refusing.{unsound-own}
use Rattle.proj_commands.specs.Import.{tagged_ran}
use Rattle.proj_commands.specs.declared.pushing.Manner.TheVariants.{InLine, Merging}
use Rattle.merge_laws.specs.Merges.{merging}

-- ---- loading

pub told-fault : (o : Option (List Bytes)) (items : List Bytes) (e : LoadError) → o ≡ Some items → IfSome o (λ xs. IsLoadFault e (read_items xs)) → IsLoadFault e (read_items items)
told-fault o items e told h = by (subst (λ (p : Option (List Bytes)). IfSome p (λ xs. IsLoadFault e (read_items xs))) told h)
  where
    by : IfSome (Some items) (λ xs. IsLoadFault e (read_items xs)) → IsLoadFault e (read_items items)
    by x = x

pub state-of : (told : Option (List Bytes)) (number : ℕ) (s : Contents) → IsLoaded told number s → IsState s
state-of told number s w = (w.items, w.held, record { current = w.current; spells = w.spells; ground = w.ground })

-- ---- cases

-- a sound filter goes on
pub read-filter : {A : Type 0} (text : Bytes) (f : Filter) (next : Filter → Result A Outcome) → sound text ≡ Ok f → (sound text >>= next) ≡ next f
read-filter {A} text f next is = ap (λ (s : Result Filter Outcome). s >>= next) is

-- what it comes to upon what is held
abbrev pub upon : Judged → Held → Bytes → Result Case Outcome
upon (judged.Import force) h all = Ok (ImportCase force h (tagged_ran (base_of h) all))
upon (judged.Project s) h all = project_case h (shape s.filter) s.refname
upon (judged.Push s) h all = push_case InLine Both h (shape s.filter) s.refname all
upon (judged.PushMerges s) h all = push_case Merging Both h (shape s.filter) s.refname all
upon (judged.Export s) h all = export_case false h (shape s.filter) s.refname
upon (judged.ExportTags s) h all = export_case true h (shape s.filter) s.refname
upon (judged.Name s) h all = Ok (NameCase (shape s.filter) s.refname (tagged_ran empty_base all))
upon (judged.Rule r) h all = Ok (RuleCase h (rule_number r))
upon (judged.Ask q) h all = query_case h (sound_of q)
upon (judged.Verify c) h all = Ok (VerifyCase (shape c.filter) c.commit.0 c.path all)
upon (judged.AsProject u s) h all = granted h u See s.refname (shape s.filter) >>= λ _. project_case h (shape s.filter) s.refname
upon (judged.AsPush u s) h all = granted h u PushAct s.refname (shape s.filter) >>= λ _. push_case InLine PushedAlone h (shape s.filter) s.refname all
upon (judged.AsExport u s) h all = granted h u See s.refname (shape s.filter) >>= λ _. export_case false h (shape s.filter) s.refname

-- a certificate needs nothing that is loaded
pub claim-case : (asked : Command) (c : Claim) → IsClaimed asked c → (loading : Result Held Outcome) (all : Bytes) → case asked loading all ≡ Ok (VerifyCase (shape c.filter) c.commit.0 c.path all)
claim-case asked c w loading all =
    ap (λ (a : Command). case a loading all) w.asked_is
    ∙ read-filter w.text (shape c.filter) (λ f. Ok (VerifyCase f (name_by w.digits) (path_by w.path) all)) w.sound_is
    ∙ ap (λ (n : Bytes). Ok (VerifyCase (shape c.filter) n (path_by w.path) all)) w.name_is
    ∙ ap (λ (q : Path). Ok (VerifyCase (shape c.filter) c.commit.0 q all)) w.path_is

pub case-upon : (asked : Command) (j : Judged) → IsJudged asked j → (h : Held) (all : Bytes) → case asked (Ok h) all ≡ upon j h all
case-upon asked (judged.Import force) w h all = ap (λ (a : Command). case a (Ok h) all) w
case-upon asked (judged.Project s) w h all = ap (λ (a : Command). case a (Ok h) all) w.asked_is ∙ read-filter w.text (shape s.filter) (λ f. project_case h f s.refname) w.sound_is
case-upon asked (judged.Push s) w h all = ap (λ (a : Command). case a (Ok h) all) w.asked_is ∙ read-filter w.text (shape s.filter) (λ f. push_case InLine Both h f s.refname all) w.sound_is
case-upon asked (judged.PushMerges s) w h all = ap (λ (a : Command). case a (Ok h) all) w.asked_is ∙ read-filter w.text (shape s.filter) (λ f. push_case Merging Both h f s.refname all) w.sound_is
case-upon asked (judged.Export s) w h all = ap (λ (a : Command). case a (Ok h) all) w.asked_is ∙ read-filter w.text (shape s.filter) (λ f. export_case false h f s.refname) w.sound_is
case-upon asked (judged.ExportTags s) w h all = ap (λ (a : Command). case a (Ok h) all) w.asked_is ∙ read-filter w.text (shape s.filter) (λ f. export_case true h f s.refname) w.sound_is
case-upon asked (judged.Name s) w h all =
    ap (λ (a : Command). case a (Ok h) all) w.asked_is ∙ read-filter w.text (shape s.filter) (λ f. Ok (NameCase f s.refname (tagged_ran empty_base all))) w.sound_is
case-upon asked (judged.Rule r) w h all = ap (λ (a : Command). case a (Ok h) all) w
case-upon asked (judged.Ask q) w h all = ap (λ (a : Command). case a (Ok h) all) w.asked_is ∙ ap (λ (s : Result SoundQuery Outcome). s >>= λ x. query_case h x) w.sound_is
case-upon asked (judged.Verify c) w h all = claim-case asked c w (Ok h) all
case-upon asked (judged.AsProject u s) w h all =
    ap (λ (a : Command). case a (Ok h) all) w.asked_is ∙ read-filter w.text (shape s.filter) (λ f. granted h u See s.refname f >>= λ _. project_case h f s.refname) w.sound_is
case-upon asked (judged.AsPush u s) w h all =
    ap (λ (a : Command). case a (Ok h) all) w.asked_is
    ∙ read-filter w.text (shape s.filter) (λ f. granted h u PushAct s.refname f >>= λ _. push_case InLine PushedAlone h f s.refname all) w.sound_is
case-upon asked (judged.AsExport u s) w h all =
    ap (λ (a : Command). case a (Ok h) all) w.asked_is ∙ read-filter w.text (shape s.filter) (λ f. granted h u See s.refname f >>= λ _. export_case false h f s.refname) w.sound_is

-- the first refusal of what is loaded is that of loading
pub case-unloaded : (asked : Command) (j : Judged) → IsJudged asked j → loads asked ≡ true → (x : Outcome) (all : Bytes) → case asked (Err x) all ≡ Err x
case-unloaded asked (judged.Import force) w l x all = ap (λ (a : Command). case a (Err x) all) w
case-unloaded asked (judged.Project s) w l x all = ap (λ (a : Command). case a (Err x) all) w.asked_is ∙ read-filter w.text (shape s.filter) (λ f. Err x) w.sound_is
case-unloaded asked (judged.Push s) w l x all = ap (λ (a : Command). case a (Err x) all) w.asked_is ∙ read-filter w.text (shape s.filter) (λ f. Err x) w.sound_is
case-unloaded asked (judged.PushMerges s) w l x all = ap (λ (a : Command). case a (Err x) all) w.asked_is ∙ read-filter w.text (shape s.filter) (λ f. Err x) w.sound_is
case-unloaded asked (judged.Export s) w l x all = ap (λ (a : Command). case a (Err x) all) w.asked_is ∙ read-filter w.text (shape s.filter) (λ f. Err x) w.sound_is
case-unloaded asked (judged.ExportTags s) w l x all = ap (λ (a : Command). case a (Err x) all) w.asked_is ∙ read-filter w.text (shape s.filter) (λ f. Err x) w.sound_is
case-unloaded asked (judged.Name s) w l x all = absurd (true≢false (sym l ∙ ap loads w.asked_is))
case-unloaded asked (judged.Rule r) w l x all = ap (λ (a : Command). case a (Err x) all) w
case-unloaded asked (judged.Ask q) w l x all = ap (λ (a : Command). case a (Err x) all) w.asked_is ∙ ap (λ (s : Result SoundQuery Outcome). s >>= λ y. Err x >>= λ h. query_case h y) w.sound_is
case-unloaded asked (judged.Verify c) w l x all = absurd (true≢false (sym l ∙ ap loads w.asked_is))
case-unloaded asked (judged.AsProject u s) w l x all = ap (λ (a : Command). case a (Err x) all) w.asked_is ∙ read-filter w.text (shape s.filter) (λ f. Err x) w.sound_is
case-unloaded asked (judged.AsPush u s) w l x all = ap (λ (a : Command). case a (Err x) all) w.asked_is ∙ read-filter w.text (shape s.filter) (λ f. Err x) w.sound_is
case-unloaded asked (judged.AsExport u s) w l x all = ap (λ (a : Command). case a (Err x) all) w.asked_is ∙ read-filter w.text (shape s.filter) (λ f. Err x) w.sound_is

sound-whole : {A : Type 0} (r : Result (Unit {0}) Outcome) (s : Result A Outcome) (x : A) → s ≡ Ok x → r ≡ (s >>= λ _. Ok tt) → IsErr r → ⊥
sound-whole {A} r s x is same refuses = true≢false (sym (subst (λ (y : Result (Unit {0}) Outcome). IsErr y) (same ∙ ap (λ (z : Result A Outcome). z >>= λ _. Ok tt) is) refuses))

read-whole : (r : Result (Unit {0}) Outcome) (f : Filter) (text : Bytes) → sound text ≡ Ok f → r ≡ (sound text >>= λ _. Ok tt) → IsErr r → ⊥
read-whole r f text is same refuses = sound-whole r (sound text) f is same refuses

-- judging a command that is judged doesn't refuse it
pub judged-whole : (asked : Command) (j : Judged) → IsJudged asked j → IsErr (verdict asked) → ⊥
judged-whole asked (judged.Import force) w refuses = true≢false (sym (subst (λ (a : Command). IsErr (verdict a)) w refuses))
judged-whole asked (judged.Project s) w refuses = read-whole (verdict asked) (shape s.filter) w.text w.sound_is (ap verdict w.asked_is) refuses
judged-whole asked (judged.Push s) w refuses = read-whole (verdict asked) (shape s.filter) w.text w.sound_is (ap verdict w.asked_is) refuses
judged-whole asked (judged.PushMerges s) w refuses = read-whole (verdict asked) (shape s.filter) w.text w.sound_is (ap verdict w.asked_is) refuses
judged-whole asked (judged.Export s) w refuses = read-whole (verdict asked) (shape s.filter) w.text w.sound_is (ap verdict w.asked_is) refuses
judged-whole asked (judged.ExportTags s) w refuses = read-whole (verdict asked) (shape s.filter) w.text w.sound_is (ap verdict w.asked_is) refuses
judged-whole asked (judged.Name s) w refuses = read-whole (verdict asked) (shape s.filter) w.text w.sound_is (ap verdict w.asked_is) refuses
judged-whole asked (judged.Rule r) w refuses = true≢false (sym (subst (λ (a : Command). IsErr (verdict a)) w refuses))
judged-whole asked (judged.Ask q) w refuses = sound-whole (verdict asked) (sound_query w.query) (sound_of q) w.sound_is (ap verdict w.asked_is) refuses
judged-whole asked (judged.Verify c) w refuses = read-whole (verdict asked) (shape c.filter) w.text w.sound_is (ap verdict w.asked_is) refuses
judged-whole asked (judged.AsProject u s) w refuses = read-whole (verdict asked) (shape s.filter) w.text w.sound_is (ap verdict w.asked_is) refuses
judged-whole asked (judged.AsPush u s) w refuses = read-whole (verdict asked) (shape s.filter) w.text w.sound_is (ap verdict w.asked_is) refuses
judged-whole asked (judged.AsExport u s) w refuses = read-whole (verdict asked) (shape s.filter) w.text w.sound_is (ap verdict w.asked_is) refuses

-- ---- forms

-- whether it is performed upon what is loaded
abbrev pub is_stored : Judged → Bool
is_stored (judged.Name s) = false
is_stored (judged.Verify c) = false
is_stored _ = true

pub judged-loads : (asked : Command) (j : Judged) → IsJudged asked j → is_stored j ≡ true → loads asked ≡ true
judged-loads asked (judged.Import force) w is = ap loads w
judged-loads asked (judged.Project s) w is = ap loads w.asked_is
judged-loads asked (judged.Push s) w is = ap loads w.asked_is
judged-loads asked (judged.PushMerges s) w is = ap loads w.asked_is
judged-loads asked (judged.Export s) w is = ap loads w.asked_is
judged-loads asked (judged.ExportTags s) w is = ap loads w.asked_is
judged-loads asked (judged.Name s) w is = absurd (true≢false (sym is))
judged-loads asked (judged.Rule r) w is = ap loads w
judged-loads asked (judged.Ask q) w is = ap loads w.asked_is
judged-loads asked (judged.Verify c) w is = absurd (true≢false (sym is))
judged-loads asked (judged.AsProject u s) w is = ap loads w.asked_is
judged-loads asked (judged.AsPush u s) w is = ap loads w.asked_is
judged-loads asked (judged.AsExport u s) w is = ap loads w.asked_is

-- ---- what a case holds

-- what it holds is a store
abbrev pub HoldsStore : Result Case Outcome → Type 0
HoldsStore (Ok c) = IsStore (hand c).held
HoldsStore (Err e) = Unit {0}

behind : {A : Type 0} (Says : Result Case Outcome → Type 0) → ((e : Outcome) → Says (Err e)) → (r : Result A Outcome) (next : A → Result Case Outcome) → ((x : A) → Says (next x)) → Says (r >>= next)
behind Says none (Ok x) next w = w x
behind Says none (Err e) next w = none e

-- a case of a filter's text and a ref, of which each holds these objects
by-text : (S : List Object) (r : Bytes) (h : Held) (s : Result Filter Outcome) (K : Filter → Bytes → Case) → ((f : Filter) (n : Bytes) → (hand (K f n)).held ≡ S) → HoldsAll S (s >>= λ f. head_of r h.refs >>= λ n. Ok (K f n))
by-text S r h s K w = behind (HoldsAll S) (λ e. tt) s (λ f. head_of r h.refs >>= λ n. Ok (K f n)) (λ f. behind (HoldsAll S) (λ e. tt) (head_of r h.refs) (λ n. Ok (K f n)) (λ n. w f n))

-- such a case of a user, whom the policy has to let do it
by-user : (S : List Object) (r : Bytes) (h : Held) (s : Result Filter Outcome) (p : Filter → Result (Unit {0}) Outcome) (K : Filter → Bytes → Case) → ((f : Filter) (n : Bytes) → (hand (K f n)).held ≡ S)
    → HoldsAll S (s >>= λ f. p f >>= λ _. head_of r h.refs >>= λ n. Ok (K f n))
by-user S r h s p K w =
    behind (HoldsAll S) (λ e. tt) s (λ f. p f >>= λ _. head_of r h.refs >>= λ n. Ok (K f n))
    (λ f. behind (HoldsAll S) (λ e. tt) (p f) (λ _. head_of r h.refs >>= λ n. Ok (K f n)) (λ _. behind (HoldsAll S) (λ e. tt) (head_of r h.refs) (λ n. Ok (K f n)) (λ n. w f n)))

through-held : (h : Held) (o : Option (Filter × Bytes)) → (hand_through h o).held ≡ h.objects
through-held h None = refl
through-held h (Some e) = refl

-- a query's case
by-query : (h : Held) (s : Result SoundQuery Outcome) → HoldsAll h.objects (s >>= λ q. query_case h q)
by-query h s =
    behind (HoldsAll h.objects) (λ e. tt) s (λ q. query_case h q)
    (λ q. behind (HoldsAll h.objects) (λ e. tt) (or_refuse UnknownRef (sight h q)) (λ x. Ok (QueryCase h x)) (λ x. through-held h (projects x)))

hand-held : (tagged : Bool) (h : Held) (f : Filter) (n : Bytes) → (export_hand tagged h f n).held ≡ h.objects
hand-held true h f n = refl
hand-held false h f n = refl

pub export-holds : (tagged : Bool) (f : Filter) (r : Bytes) (h : Held) → HoldsAll h.objects (export_case tagged h f r)
export-holds tagged f r h = behind (HoldsAll h.objects) (λ e. tt) (head_of r h.refs) (λ n. Ok (ExportCase tagged h f r n)) (λ n. hand-held tagged h f n)

pub user-export-holds : (u : Bytes) (f : Filter) (r : Bytes) (h : Held) → HoldsAll h.objects (granted h u See r f >>= λ _. export_case false h f r)
user-export-holds u f r h = behind (HoldsAll h.objects) (λ e. tt) (granted h u See r f) (λ _. export_case false h f r) (λ _. export-holds false f r h)

-- a form that doesn't load holds nothing of the state, and every other holds all its objects
pub case-holds : (asked : Command) (h : Held) (input : Bytes) → ((loads asked ≡ false) × HoldsStore (case asked (Ok h) input)) ⊎ HoldsAll h.objects (case asked (Ok h) input)
case-holds (Import force) h input = inr refl
case-holds (Project r t) h input = inr (by-text h.objects r h (sound t) (λ f n. ProjectCase h f n) (λ f n. refl))
case-holds (Export r t) h input = inr (by-text h.objects r h (sound t) (λ f n. ExportCase false h f r n) (λ f n. refl))
case-holds (ExportTags r t) h input = inr (by-text h.objects r h (sound t) (λ f n. ExportCase true h f r n) (λ f n. refl))
case-holds (Push r t) h input = inr (by-text h.objects r h (sound t) (λ f n. PushCase InLine Both h f r n (pushing (rule_by h.rule) f (repo h).commits n r input)) (λ f n. refl))
case-holds (PushMerges r t) h input = inr (by-text h.objects r h (sound t) (λ f n. PushCase Merging Both h f r n (merging (rule_by h.rule) f (repo h).commits n r input)) (λ f n. refl))
case-holds (Name r t) h input = inl (refl, behind HoldsStore (λ e. tt) (sound t) (λ f. Ok (NameCase f r (tagged_ran empty_base input))) (λ f. tt))
case-holds (Rule k) h input = inr refl
case-holds (Ask q) h input = inr (by-query h (sound_query q))
case-holds (Verify n t p) h input = inl (refl, behind HoldsStore (λ e. tt) (sound t) (λ f. Ok (VerifyCase f (name_by n) (path_by p) input)) (λ f. tt))
case-holds (As u (Project r t)) h input = inr (by-user h.objects r h (sound t) (granted h u See r) (λ f n. ProjectCase h f n) (λ f n. refl))
case-holds (As u (Export r t)) h input = inr (by-user h.objects r h (sound t) (granted h u See r) (λ f n. ExportCase false h f r n) (λ f n. refl))
case-holds (As u (Push r t)) h input =
    inr (by-user h.objects r h (sound t) (granted h u PushAct r) (λ f n. PushCase InLine PushedAlone h f r n (pushing (rule_by h.rule) f (repo h).commits n r input)) (λ f n. refl))
case-holds _ h input = inr tt

pub loaded-holds : (asked : Command) (h : Held) (input : Bytes) → loads asked ≡ true → HoldsAll h.objects (case asked (Ok h) input)
loaded-holds asked h input l = by (case-holds asked h input)
  where
    by : ((loads asked ≡ false) × HoldsStore (case asked (Ok h) input)) ⊎ HoldsAll h.objects (case asked (Ok h) input) → HoldsAll h.objects (case asked (Ok h) input)
    by (inl w) = absurd (true≢false (sym l ∙ w.0))
    by (inr w) = w

store-at : (S : List Object) (r : Result Case Outcome) → IsStore S → HoldsAll S r → HoldsStore r
store-at S (Ok c) s e = subst IsStore (sym e) s
store-at S (Err x) s e = tt

pub case-store : (asked : Command) (h : Held) (input : Bytes) → IsStore h.objects → HoldsStore (case asked (Ok h) input)
case-store asked h input s = by (case-holds asked h input)
  where
    by : ((loads asked ≡ false) × HoldsStore (case asked (Ok h) input)) ⊎ HoldsAll h.objects (case asked (Ok h) input) → HoldsStore (case asked (Ok h) input)
    by (inl w) = w.1
    by (inr w) = store-at h.objects (case asked (Ok h) input) s w

-- ---- what judging gives

-- a filter's text is refused, or there is no memory
pub text-refused : {A : Type 0} (asked same : Command) (t : Bytes) → asked ≡ same → (sound t >>= λ _. Ok tt) ≡ verdict asked
    → (result : Result A Outcome) (e : Outcome) → IsErrAnd result (λ x. x ≡ e) → (e ≡ OutOfMemory) ⊎ (sound t ≡ Err e) → IfErr result (IsUnjudged same)
text-refused asked same t one is (Ok x) e told why = absurd told
text-refused asked same t one is (Err x) e told why = subst₂ IsUnjudged one (sym told) (record { refused = by why; own = unsound-own t e why })
  where
    by : (e ≡ OutOfMemory) ⊎ (sound t ≡ Err e) → (e ≡ OutOfMemory) ⊎ (verdict asked ≡ Err e)
    by (inl m) = inl m
    by (inr g) = inr (sym is ∙ ap (λ (s : Result Filter Outcome). s >>= λ _. Ok tt) g)

-- a query is refused, or there is no memory
pub query-refused : {A : Type 0} (q : Query) (same : Command) → Ask q ≡ same → (result : Result A Outcome) (e : Outcome) → IsErrAnd result (λ x. x ≡ e) → IsRefused (sound_query q) e
    → IfErr result (IsUnjudged same)
query-refused q same one (Ok x) e told why = absurd told
query-refused q same one (Err x) e told why = subst₂ IsUnjudged one (sym told) (record { refused = by why.refused; own = why.own })
  where
    by : (e ≡ OutOfMemory) ⊎ (sound_query q ≡ Err e) → (e ≡ OutOfMemory) ⊎ (verdict (Ask q) ≡ Err e)
    by (inl m) = inl m
    by (inr g) = inr (ap (λ (s : Result SoundQuery Outcome). s >>= λ _. Ok tt) g)

-- what judging a query gives is refused with its filter, or there is no memory
pub filter-refused : {A B : Type 0} (t : Bytes) (K : Filter → B) (judges : Result B Outcome) → (sound t >>= λ f. Ok (K f)) ≡ judges
    → (result : Result A Outcome) (e : Outcome) → IsErrAnd result (λ x. x ≡ e) → (e ≡ OutOfMemory) ⊎ (sound t ≡ Err e) → IfErr result (IsRefused judges)
filter-refused t K judges is (Ok x) e told why = absurd told
filter-refused t K judges is (Err x) e told why = subst (IsRefused judges) (sym told) (record { refused = by why; own = unsound-own t e why })
  where
    by : (e ≡ OutOfMemory) ⊎ (sound t ≡ Err e) → (e ≡ OutOfMemory) ⊎ (judges ≡ Err e)
    by (inl m) = inl m
    by (inr g) = inr (sym is ∙ ap (λ (s : Result Filter Outcome). s >>= λ f. Ok (K f)) g)
