-- What is refused before a case comes up.
use Rattle.std.proofs.Common.{◌≡◌, ◌≢◌, ◌⊎◌, inl, inr, ℕ, true, false, List, Option, None, Some, Result, Ok, Err, refl, sym, ap, subst, ◌∙◌, append-nil, arith}
use Rattle.git_objects.specs.Paths.{Bytes}
use Rattle.git_objects.specs.Results.{◌>>=◌, refused_by}
use Rattle.object_store.specs.Objects.{Object}
use Rattle.filter_text.specs.Filters.{Filter}
use Rattle.filter_text.specs.Limits.{read}
use Rattle.filter_text.specs.declared.filter.FilterFault.{FilterFault}
use Rattle.filter_text.specs.declared.filter.FilterFault.TheVariants as texts
use Rattle.fast_import.specs.Replays.{empty_base}
use Rattle.filter_routes.specs.FaultTests.{fault}
use Rattle.filter_routes.specs.declared.fault.RouteFault.{RouteFault}
use Rattle.filter_routes.specs.declared.fault.RouteFault.TheVariants as routes
use Rattle.proj_gate.specs.Policies.{Act, Allowed, Denied, Rule as PolicyRule, See, Push as PushAct, Verdict, decide, rules}
use Rattle.proj_io.specs.Counts.{Counts}
use Rattle.proj_io.specs.Stops.{OnlyAdds, Nothing}
use Rattle.proj_io.specs.Views.{KeeperView}
use Rattle.state_items.specs.Fields.{BrokenAt, Clash}
use Rattle.state_items.specs.Items.{Break, Held, read_items}
use Rattle.state_items.specs.Changes.{NoPlan, Plan, Room, room_of}
use Rattle.repo_ground.specs.Changes.{KeepsItems}
use Rattle.repo_ground.specs.Loads.{IsLoadFault}
use Rattle.repo_ground.specs.declared.state.LoadError.{LoadError}
use Rattle.repo_ground.specs.declared.state.LoadError.TheVariants as load
use Rattle.proj_words.specs.Faults.{filter_outcome, route_outcome}
use Rattle.proj_words.specs.Words.{Command, As, Import, Project, Push, Export, ExportTags, Name, Rule, Ask, Verify, PushMerges}
use Rattle.proj_words.specs.declared.outcome.Outcome.{Outcome}
use Rattle.proj_words.specs.declared.outcome.Outcome.TheVariants.{Done, OutOfMemory, Collision, ReadFault, WriteFault, StoreFault, Usage}
use Rattle.proj_words.specs.declared.outcome.Outcome.TheVariants as outcomes
use Rattle.proj_commands.specs.Cases.{Case, Made, break_outcome, loaded, NameCase, VerifyCase, query_case, verdict}
use Rattle.proj_commands.specs.Steps.{case}
use Rattle.proj_commands.specs.Audit.{path_by}
use Rattle.proj_commands.specs.Export.{export_case}
use Rattle.proj_commands.specs.Project.{project_case}
use Rattle.proj_commands.specs.Push.{push_case}
use Rattle.proj_commands.specs.Filters.{sound, without_fault}
use Rattle.proj_commands.specs.Forms.{FormPlan, IsBeforeDevices, IsEarly, IsForm, IsFormMade, IsFormStop, load_outcome}
use Rattle.proj_commands.specs.Hands.{IsInHands}
use Rattle.proj_commands.specs.Judging.{IsOwn, IsUnjudged}
use Rattle.proj_commands.specs.Makes.{IsGoodPlan, IsRefusal, IsReported, IsStored, hands_of, step_in}
use Rattle.proj_commands.specs.Plans.{AreKept}
use Rattle.proj_commands.specs.Queries.{sound_query}
use Rattle.proj_commands.specs.Policy.{allowed, granted, policy_text}
use Rattle.proj_commands.specs.Verify.{name_by}
use Rattle.proj_commands.specs.declared.lines.Telling.TheVariants.{Both, PushedAlone}
use Rattle.proj_commands.proofs.Forming.{adds-nothing}
use Rattle.proj_commands.specs.Import.{tagged_ran}
use Rattle.proj_commands.specs.declared.pushing.Manner.TheVariants.{InLine, Merging}

-- ---- outcomes that no device tells, and that aren't the last

text-own : (d : FilterFault) → IsOwn (filter_outcome d)
text-own texts.TooLong = record { done = λ e. cc; read = λ e. cc; write = λ e. cc; store = λ e. cc }
text-own texts.TooDeep = record { done = λ e. cc; read = λ e. cc; write = λ e. cc; store = λ e. cc }
text-own texts.Syntax = record { done = λ e. cc; read = λ e. cc; write = λ e. cc; store = λ e. cc }
text-own texts.WorkspacePlace = record { done = λ e. cc; read = λ e. cc; write = λ e. cc; store = λ e. cc }
text-own texts.TooMany = record { done = λ e. cc; read = λ e. cc; write = λ e. cc; store = λ e. cc }
text-own texts.OutOfMemory = record { done = λ e. cc; read = λ e. cc; write = λ e. cc; store = λ e. cc }

fault-own : (d : RouteFault) → IsOwn (route_outcome d)
fault-own (routes.NotKeeping n) = record { done = λ e. cc; read = λ e. cc; write = λ e. cc; store = λ e. cc }
fault-own (routes.Overlap l a b) = record { done = λ e. cc; read = λ e. cc; write = λ e. cc; store = λ e. cc }
fault-own routes.OutOfMemory = record { done = λ e. cc; read = λ e. cc; write = λ e. cc; store = λ e. cc }

break-own : (d : Break) → IsOwn (break_outcome d)
break-own (item, BrokenAt at) = record { done = λ e. cc; read = λ e. cc; write = λ e. cc; store = λ e. cc }
break-own (item, Clash n) = record { done = λ e. cc; read = λ e. cc; write = λ e. cc; store = λ e. cc }

err-same : {A : Type 0} (x e : Outcome) → ◌≡◌ {A = Result A Outcome} (Err x) (Err e) → x ≡ e
err-same x e g = cc

route-own : (f : Filter) (o : Option RouteFault) (e : Outcome) → without_fault f o ≡ Err e → IsOwn e
route-own f None e g = cc
route-own f (Some d) e g = subst IsOwn (err-same (route_outcome d) e g) (fault-own d)

read-own : (r : Result Filter FilterFault) (e : Outcome) → (refused_by filter_outcome r >>= λ f. without_fault f (fault f)) ≡ Err e → IsOwn e
read-own (Ok f) e g = route-own f (fault f) e g
read-own (Err d) e g = subst IsOwn (err-same {A = Filter} (filter_outcome d) e g) (text-own d)

pub sound-own : (text : Bytes) (e : Outcome) → sound text ≡ Err e → IsOwn e
unfolding sound
sound-own text e g = read-own (read text) e g

said-own : (r : Result Held Break) (e : Outcome) → refused_by break_outcome r ≡ Err e → IsOwn e
said-own (Ok h) e g = cc
said-own (Err d) e g = subst IsOwn (err-same {A = Held} (break_outcome d) e g) (break-own d)

pub loaded-own : (items : List Bytes) (e : Outcome) → loaded items ≡ Err e → IsOwn e
loaded-own items e g = said-own (read_items items) e g

-- ---- loading

pub load-early : (items : List Bytes) (e : LoadError) → IsLoadFault e (read_items items) → IsEarly (loaded items) (load_outcome e)
load-early items load.StoreFault h = inr (inl refl)
load-early items load.OutOfMemory h = inl refl
load-early items (load.Damaged item at) h = inr (inr (ap (refused_by break_outcome) h))
load-early items (load.Collision n) h = inr (inr (ap (refused_by break_outcome) h.1))

pub load-write : (e : LoadError) → load_outcome e ≢ WriteFault
load-write load.StoreFault = λ g. cc
load-write load.OutOfMemory = λ g. cc
load-write (load.Damaged item at) = λ g. cc
load-write (load.Collision n) = λ g. cc

pub load-read : (e : LoadError) → load_outcome e ≢ ReadFault
load-read load.StoreFault = λ g. cc
load-read load.OutOfMemory = λ g. cc
load-read (load.Damaged item at) = λ g. cc
load-read (load.Collision n) = λ g. cc

pub load-store : (e : LoadError) → load_outcome e ≡ StoreFault → e ≡ load.StoreFault
load-store load.StoreFault g = refl
load-store load.OutOfMemory g = cc
load-store (load.Damaged item at) g = cc
load-store (load.Collision n) g = cc

pub load-before : {A : Type 0} (e : LoadError) (x : Outcome) → x ≡ load_outcome e → IsBeforeDevices {A = A} (Err x)
load-before e x is = (λ g. load-write e (sym is ∙ err-same x WriteFault g), λ g. load-read e (sym is ∙ err-same x ReadFault g))

pub load-counts : {S A : Type 0} (f g : ℕ) (e : LoadError) (x : Outcome) → x ≡ load_outcome e → Counts f g (◌≡◌ {A = Result S LoadError} (Err e) (Err load.StoreFault))
    → Counts f g (◌≡◌ {A = Result A Outcome} (Err x) (Err StoreFault))
load-counts f g e x is counts = record {
  later = counts.later;
  rose = λ h. counts.rose (ap Err (load-store e (sym is ∙ err-same x StoreFault h)));
}

-- ---- outcomes that no device tells, as results

pub memory-own : IsOwn OutOfMemory
memory-own = record { done = λ e. cc; read = λ e. cc; write = λ e. cc; store = λ e. cc }

pub unsound-own : (text : Bytes) (e : Outcome) → (e ≡ OutOfMemory) ⊎ (sound text ≡ Err e) → IsOwn e
unsound-own text e (inl m) = subst IsOwn (sym m) memory-own
unsound-own text e (inr g) = sound-own text e g

pub own-before : {A : Type 0} (e : Outcome) → IsOwn e → IsBeforeDevices {A = A} (Err e)
own-before e own = (λ g. own.write (err-same e WriteFault g), λ g. own.read (err-same e ReadFault g))

pub own-counts : {A : Type 0} (n : ℕ) (e : Outcome) → IsOwn e → Counts n n (◌≡◌ {A = Result A Outcome} (Err e) (Err StoreFault))
own-counts n e own = record { later = omega arith; rose = λ g. absurd (own.store (err-same e StoreFault g)) }

pub own-early : {A : Type 0} (e : Outcome) → IsOwn e → (◌≡◌ {A = Result A Outcome} (Err e) (Err WriteFault) → ⊥) × (◌≡◌ {A = Result A Outcome} (Err e) (Err StoreFault) → ⊥)
own-early e own = (λ g. own.write (err-same e WriteFault g), λ g. own.store (err-same e StoreFault g))

pub own-read : {A : Type 0} (n : ℕ) (e : Outcome) → IsOwn e → Counts n n (◌≡◌ {A = Result A Outcome} (Err e) (Err ReadFault))
own-read n e own = record { later = omega arith; rose = λ g. absurd (own.read (err-same e ReadFault g)) }

-- ---- and as outcomes

pub none-read : {A : Type 0} (e : Outcome) → IsBeforeDevices {A = A} (Err e) → e ≢ ReadFault
none-read e h = λ g. h.1 (ap Err g)

pub none-written : {A : Type 0} (n : ℕ) (e : Outcome) → IsBeforeDevices {A = A} (Err e) → Counts n n (e ≡ WriteFault)
none-written n e h = record { later = omega arith; rose = λ g. absurd (h.0 (ap Err g)) }

pub of-counts : {A : Type 0} (f g : ℕ) (e : Outcome) → Counts f g (◌≡◌ {A = Result A Outcome} (Err e) (Err StoreFault)) → Counts f g (e ≡ StoreFault)
of-counts f g e counts = record { later = counts.later; rose = λ h. counts.rose (ap Err h) }

-- ---- policies

allowed-own : (v : Verdict) (e : Outcome) → allowed v ≡ Err e → IsOwn e
allowed-own (Allowed line) e g = cc
allowed-own (Denied line) e g = subst IsOwn (err-same {A = Unit {0}} (outcomes.Denied line) e g) (record { done = λ e. cc; read = λ e. cc; write = λ e. cc; store = λ e. cc })

policy-own : (r : Result (List PolicyRule) ℕ) (decided : List PolicyRule → Verdict) (e : Outcome) → (refused_by outcomes.BadPolicy r >>= λ rs. allowed (decided rs)) ≡ Err e → IsOwn e
policy-own (Ok rs) decided e g = allowed-own (decided rs) e g
policy-own (Err line) decided e g = subst IsOwn (err-same {A = Unit {0}} (outcomes.BadPolicy line) e g) (record { done = λ e. cc; read = λ e. cc; write = λ e. cc; store = λ e. cc })

pub granted-own : (h : Held) (user : Bytes) (act : Act) (refname : Bytes) (f : Filter) (e : Outcome) → granted h user act refname f ≡ Err e → IsOwn e
granted-own h user act refname f e g = policy-own (rules (policy_text h)) (λ rs. decide rs user act refname f) e g

-- ---- refusals

refusal-own : (H : Object → Type 0) (e : Outcome) → e ≢ Done → e ≢ WriteFault → IsRefusal H e (Err e)
refusal-own H Done d w = d refl
refusal-own H WriteFault d w = w refl
refusal-own H OutOfMemory d w = tt
refusal-own H ReadFault d w = tt
refusal-own H StoreFault d w = tt
refusal-own H (Collision n) d w = inl refl
refusal-own H _ d w = refl

pub early-refusal : {A : Type 0} (H : Object → Type 0) (s : Result Made Outcome) (r : Result A Outcome) (e : Outcome) → (r ≡ Err e → (s ≡ Err e) × IsOwn e) → IsEarly r e → IsRefusal H e s
early-refusal H s r e f (inl m) = subst (λ (x : Outcome). IsRefusal H x s) (sym m) tt
early-refusal H s r e f (inr (inl k)) = subst (λ (x : Outcome). IsRefusal H x s) (sym k) tt
early-refusal H s r e f (inr (inr g)) = let h = f g in subst (λ (x : Result Made Outcome). IsRefusal H e x) (sym h.0) (refusal-own H e h.1.done h.1.write)

pub reported-err : (H : Object → Type 0) (s : Result Made Outcome) (e : Outcome) → IsRefusal H e s → IsReported H s (Err e)
reported-err H (Ok m) e h = h
reported-err H (Err x) e h = h

pub refusal-of : (H : Object → Type 0) (s : Result Made Outcome) (e : Outcome) → IsReported H s (Err e) → IsRefusal H e s
refusal-of H (Ok m) e h = h
refusal-of H (Err x) e h = h

pub plan-none : (room : Room) (r : Result Case Outcome) (e : Outcome) → FormPlan room r NoPlan (Err e)
plan-none room r StoreFault = inl refl
plan-none room r _ = refl

pub nothing-good : (items : List Bytes) (h : Held) (room : Room) → IsGoodPlan items h room NoPlan
nothing-good items h room = record { within = refl; addition = tt; kept = λ k. subst (λ (xs : List Bytes). AreKept xs h) (sym (append-nil items)) k }

pub stored-none : (e : Outcome) (p : Plan) (k l : KeeperView) → KeepsItems k l → IsStored (Err e) p k l
stored-none StoreFault p k l h = inl h
stored-none _ p k l h = h

pub refused-made : (items : List Bytes) (r : Result Case Outcome) (e : Outcome) (k l : KeeperView) → IsRefusal (IsInHands (hands_of r)) e (step_in (room_of items) r) → KeepsItems k l
    → IsFormMade r items k l NoPlan (Err e)
refused-made items r e k l h kept = record {
  reported = reported-err (IsInHands (hands_of r)) (step_in (room_of items) r) e h;
  planned = plan-none (room_of items) r e;
  good = λ g read. nothing-good items g (room_of items);
  stored = stored-none e NoPlan k l kept;
}

pub refused-form : (asked : Command) (items : List Bytes) (all : Bytes) (e : Outcome) (k l : KeeperView) (a b : ℕ) (x y : ℕ → List Bytes → Type 0)
    → IsRefusal (IsInHands (hands_of (case asked (loaded items) all))) e (step_in (room_of items) (case asked (loaded items) all)) → KeepsItems k l → OnlyAdds a b x y Nothing
    → IsForm asked items all k l (OnlyAdds a b x y) (Err e)
refused-form asked items all e k l a b x y h kept adds = record {
  plan = NoPlan;
  made = refused-made items (case asked (loaded items) all) e k l h kept;
  stops = adds-nothing a b x y (IsFormStop items NoPlan) adds;
}

-- of a form that begins with loading
pub load-refused : (asked : Command) (items : List Bytes) (all : Bytes) (e : Outcome) → ((x : Outcome) → case asked (Err x) all ≡ Err x) → IsEarly (loaded items) e
    → IsRefusal (IsInHands (hands_of (case asked (loaded items) all))) e (step_in (room_of items) (case asked (loaded items) all))
load-refused asked items all e first early =
    early-refusal (IsInHands (hands_of (case asked (loaded items) all))) (step_in (room_of items) (case asked (loaded items) all)) (loaded items) e
    (λ g. (ap (step_in (room_of items)) (ap (λ (l : Result Held Outcome). case asked l all) g ∙ first e), loaded-own items e g)) early

-- of one that is refused by judging

of-text : {A B : Type 0} (s : Result B Outcome) (next : B → Result A Outcome) (e : Outcome) → ◌≡◌ {A = Result (Unit {0}) Outcome} (s >>= λ _. Ok tt) (Err e) → (s >>= next) ≡ Err e
of-text (Ok f) next e g = cc
of-text (Err x) next e g = ap Err (err-same {A = Unit {0}} x e g)

-- it has no case, whatever is loaded and read
verdict-case : (asked : Command) (e : Outcome) → verdict asked ≡ Err e → (loading : Result Held Outcome) (all : Bytes) → case asked loading all ≡ Err e
verdict-case (Ask q) e g loading all = of-text (sound_query q) (λ s. loading >>= λ h. query_case h s) e g
verdict-case (Verify n t p) e g loading all = of-text (sound t) (λ f. Ok (VerifyCase f (name_by n) (path_by p) all)) e g
verdict-case (Import force) e g loading all = cc
verdict-case (Project r t) e g loading all = of-text (sound t) (λ f. loading >>= λ h. project_case h f r) e g
verdict-case (Push r t) e g loading all = of-text (sound t) (λ f. loading >>= λ h. push_case InLine Both h f r all) e g
verdict-case (PushMerges r t) e g loading all = of-text (sound t) (λ f. loading >>= λ h. push_case Merging Both h f r all) e g
verdict-case (Export r t) e g loading all = of-text (sound t) (λ f. loading >>= λ h. export_case false h f r) e g
verdict-case (ExportTags r t) e g loading all = of-text (sound t) (λ f. loading >>= λ h. export_case true h f r) e g
verdict-case (Name r t) e g loading all = of-text (sound t) (λ f. Ok (NameCase f r (tagged_ran empty_base all))) e g
verdict-case (Rule k) e g loading all = cc
verdict-case (As u (Project r t)) e g loading all = of-text (sound t) (λ f. loading >>= λ h. granted h u See r f >>= λ _. project_case h f r) e g
verdict-case (As u (Push r t)) e g loading all = of-text (sound t) (λ f. loading >>= λ h. granted h u PushAct r f >>= λ _. push_case InLine PushedAlone h f r all) e g
verdict-case (As u (Export r t)) e g loading all = of-text (sound t) (λ f. loading >>= λ h. granted h u See r f >>= λ _. export_case false h f r) e g
verdict-case _ e g loading all = ap Err (err-same {A = Unit {0}} Usage e g)

pub unjudged-refusal : (H : Object → Type 0) (room : Room) (asked : Command) (loading : Result Held Outcome) (all : Bytes) (e : Outcome) → IsUnjudged asked e → IsRefusal H e (step_in room (case asked loading all))
unjudged-refusal H room asked loading all e w = by w.refused
  where
    by : (e ≡ OutOfMemory) ⊎ (verdict asked ≡ Err e) → IsRefusal H e (step_in room (case asked loading all))
    by (inl m) = subst (λ (x : Outcome). IsRefusal H x (step_in room (case asked loading all))) (sym m) tt
    by (inr g) = early-refusal H (step_in room (case asked loading all)) (case asked loading all) e (λ g. (ap (step_in room) g, w.own)) (inr (inr (verdict-case asked e g loading all)))
