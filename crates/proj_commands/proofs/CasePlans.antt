-- Where a case comes from, and what a plan of it is.
use Rattle.std.proofs.Common.{◌≡◌, ◌⊎◌, inl, inr, true, false, List, [], ◌∷◌, All, Option, None, Result, Ok, Err, refl, sym, ap, subst, ◌∙◌, true≢false}
use Rattle.std.specs.Prelude.{length, nat_le, reverse}
use Rattle.std.proofs.lemmas.List.Elements.{All-cons, All-nil}
use Rattle.git_objects.specs.Paths.{Bytes, Path}
use Rattle.git_objects.specs.Results.{◌>>=◌, must, or_refuse, refused_by}
use Rattle.git_objects.specs.declared.limits.TheConstants.{INPUT_BYTES}
use Rattle.git_objects.specs.declared.quantity.Quantity.TheVariants.{Input}
use Rattle.object_store.specs.Objects.{IsStore}
use Rattle.filter_text.specs.Filters.{Filter}
use Rattle.filter_text.specs.Printing.{printed}
use Rattle.commit_map.specs.Shown.{Entries, Shown}
use Rattle.stream_reader.specs.declared.fault.StreamFault.{StreamFault}
use Rattle.fast_import.specs.Replays.{Ran, empty_base}
use Rattle.push_laws.specs.Pushes.{pushing}
use Rattle.proj_audit.specs.Certificates.{found_text, verify}
use Rattle.state_items.specs.Items.{Break, Held, nothing, read_items}
use Rattle.state_items.specs.Repos.{repo}
use Rattle.state_items.specs.Changes.{KeepPlan, NoPlan, Plan, Room, fresh, held_after, objects_of, passed_by_objects, room_of}
use Rattle.state_items.proofs.ReadObjects.{ok-same, value-of}
use Rattle.import_laws.specs.Bases.{base_of}
use Rattle.proj_gate.specs.Policies.{See, Push as PushAct}
use Rattle.proj_words.specs.Words.{Command, As, Import, Project, Push, Export, ExportTags, Name, Batch, Trial, Rule, Ask, Verify, Unknown, writes, PushMerges}
use Rattle.proj_words.specs.declared.outcome.Outcome.{Outcome}
use Rattle.proj_words.specs.declared.outcome.Outcome.TheVariants.{UnknownRef}
use Rattle.proj_words.specs.declared.outcome.Outcome.TheVariants as outcomes
use Rattle.proj_commands.specs.Audit.{path_by}
use Rattle.proj_commands.specs.Cases.{Case, ImportCase, ProjectCase, ExportCase, PushCase, NameCase, RuleCase, QueryCase, VerifyCase, query_case, Made, break_outcome, head_of, loaded, no_limit, streamed, unchanged}
use Rattle.proj_commands.specs.Steps.{case, made, hand, IsLawful, IsPlanOf, ArePlanned}
use Rattle.proj_commands.specs.Project.{IsKeepPlan}
use Rattle.proj_commands.specs.Lines.{name_line}
use Rattle.proj_commands.specs.Filters.{entries_of, projected, projection, recalled, rule_by, sound}
use Rattle.proj_commands.specs.Makes.{IsKeepOf, IsKeepPlanOf, IsPlanIn, recalled_made, OfProject, recalled_line, IsPlanned}
use Rattle.proj_commands.specs.Plans.{HoldWhatTheyShould, RecallLaw, recalls, IsSameState, changes_state}
use Rattle.proj_commands.specs.Policy.{granted}
use Rattle.proj_commands.specs.Queries.{sight, sound_query}
use Rattle.proj_commands.specs.Push.{push_case}
use Rattle.proj_commands.specs.Verify.{name_by, verify_outcome}
use Rattle.proj_commands.specs.declared.lines.Telling.TheVariants.{Both, PushedAlone}
use Rattle.proj_commands.proofs.RecalledTexts.{recalled-same}
use Rattle.proj_commands.specs.Import.{tagged_ran}
use Rattle.proj_commands.specs.declared.pushing.Manner.TheVariants.{InLine, Merging}
use Rattle.merge_laws.specs.Merges.{merging}

-- ---- where a case comes from

-- The form takes what is kept for projections, and may append them; the items spell the state, and a text the filter.
pub record IsProject (asked : Command) (items : List Bytes) (h : Held) (f : Filter) : Type 0 where
  pub text : Bytes
  pub takes_kept : recalls asked ≡ true
  pub may_append : writes asked ≡ true
  pub read : read_items items ≡ Ok h
  pub sound_is : sound text ≡ Ok f

abbrev pub IsFrom : Command → List Bytes → Case → Type 0
IsFrom asked items (ProjectCase h f n) = IsProject asked items h f
IsFrom asked items (ImportCase force h x) = changes_state asked ≡ true
IsFrom asked items (ExportCase tagged h f refname n) = Unit {0}
IsFrom asked items (PushCase manner telling h f refname n p) = changes_state asked ≡ true
IsFrom asked items (NameCase f refname x) = Unit {0}
IsFrom asked items (RuleCase h k) = changes_state asked ≡ true
IsFrom asked items (QueryCase h x) = Unit {0}
IsFrom asked items (VerifyCase f n q text) = Unit {0}

was-read : (r : Result Held Break) (h : Held) → refused_by break_outcome r ≡ Ok h → r ≡ Ok h
was-read (Ok g) h e = cc
was-read (Err d) h e = cc

pub read-from : (items : List Bytes) (h : Held) → loaded items ≡ Ok h → read_items items ≡ Ok h
read-from items h e = was-read (read_items items) h e

no-case : (asked : Command) (items : List Bytes) (x : Outcome) (c : Case) → Err x ≡ Ok c → IsFrom asked items c
no-case asked items x c g = absurd (let no : ⊥ = cc in no)

pub from : (asked : Command) (items : List Bytes) (all : Bytes) (c : Case) → case asked (loaded items) all ≡ Ok c → IsFrom asked items c
from (Import force) items all c g =
    let h = value-of (loaded items) (λ h. Ok (ImportCase force h (tagged_ran (base_of h) all))) c g in
    subst (IsFrom (Import force) items) (ok-same (ImportCase force h.value (tagged_ran (base_of h.value) all)) c h.rest) refl
from (Project r t) items all c g =
    let f = value-of (sound t) (λ f. loaded items >>= λ h. head_of r h.refs >>= λ n. Ok (ProjectCase h f n)) c g in
    let h = value-of (loaded items) (λ h. head_of r h.refs >>= λ n. Ok (ProjectCase h f.value n)) c f.rest in
    let n = value-of (head_of r h.value.refs) (λ n. Ok (ProjectCase h.value f.value n)) c h.rest in
    subst (IsFrom (Project r t) items) (ok-same (ProjectCase h.value f.value n.value) c n.rest)
    (record { text = t; takes_kept = refl; may_append = refl; read = read-from items h.value h.was; sound_is = f.was })
from (Export r t) items all c g =
    let f = value-of (sound t) (λ f. loaded items >>= λ h. head_of r h.refs >>= λ n. Ok (ExportCase false h f r n)) c g in
    let h = value-of (loaded items) (λ h. head_of r h.refs >>= λ n. Ok (ExportCase false h f.value r n)) c f.rest in
    let n = value-of (head_of r h.value.refs) (λ n. Ok (ExportCase false h.value f.value r n)) c h.rest in
    subst (IsFrom (Export r t) items) (ok-same (ExportCase false h.value f.value r n.value) c n.rest) tt
from (ExportTags r t) items all c g =
    let f = value-of (sound t) (λ f. loaded items >>= λ h. head_of r h.refs >>= λ n. Ok (ExportCase true h f r n)) c g in
    let h = value-of (loaded items) (λ h. head_of r h.refs >>= λ n. Ok (ExportCase true h f.value r n)) c f.rest in
    let n = value-of (head_of r h.value.refs) (λ n. Ok (ExportCase true h.value f.value r n)) c h.rest in
    subst (IsFrom (ExportTags r t) items) (ok-same (ExportCase true h.value f.value r n.value) c n.rest) tt
from (Push r t) items all c g =
    let f = value-of (sound t) (λ f. loaded items >>= λ h. head_of r h.refs >>= λ n. Ok (PushCase InLine Both h f r n (pushing (rule_by h.rule) f (repo h).commits n r all))) c g in
    let h = value-of (loaded items) (λ h. head_of r h.refs >>= λ n. Ok (PushCase InLine Both h f.value r n (pushing (rule_by h.rule) f.value (repo h).commits n r all))) c f.rest in
    let n = value-of (head_of r h.value.refs) (λ n. Ok (PushCase InLine Both h.value f.value r n (pushing (rule_by h.value.rule) f.value (repo h.value).commits n r all))) c h.rest in
    subst (IsFrom (Push r t) items) (ok-same (PushCase InLine Both h.value f.value r n.value (pushing (rule_by h.value.rule) f.value (repo h.value).commits n.value r all)) c n.rest) refl
from (PushMerges r t) items all c g =
    let f = value-of (sound t) (λ f. loaded items >>= λ h. head_of r h.refs >>= λ n. Ok (PushCase Merging Both h f r n (merging (rule_by h.rule) f (repo h).commits n r all))) c g in
    let h = value-of (loaded items) (λ h. head_of r h.refs >>= λ n. Ok (PushCase Merging Both h f.value r n (merging (rule_by h.rule) f.value (repo h).commits n r all))) c f.rest in
    let n = value-of (head_of r h.value.refs) (λ n. Ok (PushCase Merging Both h.value f.value r n (merging (rule_by h.value.rule) f.value (repo h.value).commits n r all))) c h.rest in
    subst (IsFrom (PushMerges r t) items) (ok-same (PushCase Merging Both h.value f.value r n.value (merging (rule_by h.value.rule) f.value (repo h.value).commits n.value r all)) c n.rest) refl
from (Name r t) items all c g =
    let f = value-of (sound t) (λ f. Ok (NameCase f r (tagged_ran empty_base all))) c g in
    subst (IsFrom (Name r t) items) (ok-same (NameCase f.value r (tagged_ran empty_base all)) c f.rest) tt
from (Rule k) items all c g =
    let h = value-of (loaded items) (λ h. Ok (RuleCase h k)) c g in
    subst (IsFrom (Rule k) items) (ok-same (RuleCase h.value k) c h.rest) refl
from (Ask q) items all c g =
    let s = value-of (sound_query q) (λ s. loaded items >>= λ h. query_case h s) c g in
    let h = value-of (loaded items) (λ h. query_case h s.value) c s.rest in
    let x = value-of (or_refuse UnknownRef (sight h.value s.value)) (λ x. Ok (QueryCase h.value x)) c h.rest in
    subst (IsFrom (Ask q) items) (ok-same (QueryCase h.value x.value) c x.rest) tt
from (Verify n t p) items all c g =
    let f = value-of (sound t) (λ f. Ok (VerifyCase f (name_by n) (path_by p) all)) c g in
    subst (IsFrom (Verify n t p) items) (ok-same (VerifyCase f.value (name_by n) (path_by p) all) c f.rest) tt
from (As u (Project r t)) items all c g =
    let f = value-of (sound t) (λ f. loaded items >>= λ h. granted h u See r f >>= λ _. head_of r h.refs >>= λ n. Ok (ProjectCase h f n)) c g in
    let h = value-of (loaded items) (λ h. granted h u See r f.value >>= λ _. head_of r h.refs >>= λ n. Ok (ProjectCase h f.value n)) c f.rest in
    let p = value-of (granted h.value u See r f.value) (λ _. head_of r h.value.refs >>= λ n. Ok (ProjectCase h.value f.value n)) c h.rest in
    let n = value-of (head_of r h.value.refs) (λ n. Ok (ProjectCase h.value f.value n)) c p.rest in
    subst (IsFrom (As u (Project r t)) items) (ok-same (ProjectCase h.value f.value n.value) c n.rest)
    (record { text = t; takes_kept = refl; may_append = refl; read = read-from items h.value h.was; sound_is = f.was })
from (As u (Export r t)) items all c g =
    let f = value-of (sound t) (λ f. loaded items >>= λ h. granted h u See r f >>= λ _. head_of r h.refs >>= λ n. Ok (ExportCase false h f r n)) c g in
    let h = value-of (loaded items) (λ h. granted h u See r f.value >>= λ _. head_of r h.refs >>= λ n. Ok (ExportCase false h f.value r n)) c f.rest in
    let p = value-of (granted h.value u See r f.value) (λ _. head_of r h.value.refs >>= λ n. Ok (ExportCase false h.value f.value r n)) c h.rest in
    let n = value-of (head_of r h.value.refs) (λ n. Ok (ExportCase false h.value f.value r n)) c p.rest in
    subst (IsFrom (As u (Export r t)) items) (ok-same (ExportCase false h.value f.value r n.value) c n.rest) tt
from (As u (Push r t)) items all c g =
    let f = value-of (sound t) (λ f. loaded items >>= λ h. granted h u PushAct r f >>= λ _. push_case InLine PushedAlone h f r all) c g in
    let h = value-of (loaded items) (λ h. granted h u PushAct r f.value >>= λ _. push_case InLine PushedAlone h f.value r all) c f.rest in
    let p = value-of (granted h.value u PushAct r f.value) (λ _. push_case InLine PushedAlone h.value f.value r all) c h.rest in
    let n = value-of (head_of r h.value.refs) (λ n. Ok (PushCase InLine PushedAlone h.value f.value r n (pushing (rule_by h.value.rule) f.value (repo h.value).commits n r all))) c p.rest in
    subst (IsFrom (As u (Push r t)) items) (ok-same (PushCase InLine PushedAlone h.value f.value r n.value (pushing (rule_by h.value.rule) f.value (repo h.value).commits n.value r all)) c n.rest) refl
from (As u asked) items all c g = no-case (As u asked) items _ c g
from Batch items all c g = no-case Batch items _ c g
from (Trial n) items all c g = no-case (Trial n) items _ c g
from Unknown items all c g = no-case Unknown items _ c g

-- ---- plans

name-plan : (room : Room) (f : Filter) (refname : Bytes) (x : Ran StreamFault) (m : Made) → made room (NameCase f refname x) ≡ Ok m → m.plan ≡ NoPlan
name-plan room f refname x m g =
    let r = value-of (streamed x)
    (λ r. no_limit (passed_by_objects (fresh [] (objects_of r.blobs r.commits)) None) >>= λ _. head_of refname r.heads >>= λ n. Ok (unchanged nothing (name_line (projection 1 f (reverse r.commits) n)))) m g in
    let l = value-of (no_limit (passed_by_objects (fresh [] (objects_of r.value.blobs r.value.commits)) None))
    (λ _. head_of refname r.value.heads >>= λ n. Ok (unchanged nothing (name_line (projection 1 f (reverse r.value.commits) n)))) m r.rest in
    let n = value-of (head_of refname r.value.heads) (λ n. Ok (unchanged nothing (name_line (projection 1 f (reverse r.value.commits) n)))) m l.rest in
    sym (ap (λ (y : Made). y.plan) (ok-same (unchanged nothing (name_line (projection 1 f (reverse r.value.commits) n.value))) m n.rest))

verify-plan : (room : Room) (f : Filter) (n : Bytes) (q : Path) (text : Bytes) (m : Made) → made room (VerifyCase f n q text) ≡ Ok m → m.plan ≡ NoPlan
verify-plan room f n q text m g =
    let l = value-of (must (outcomes.Limit Input None) (nat_le (length text) INPUT_BYTES)) (λ _. refused_by verify_outcome (verify n f q text) >>= λ x. Ok (unchanged nothing (found_text x))) m g in
    let x = value-of (refused_by verify_outcome (verify n f q text)) (λ x. Ok (unchanged nothing (found_text x))) m l.rest in
    sym (ap (λ (y : Made). y.plan) (ok-same (unchanged nothing (found_text x.value)) m x.rest))

pub verify-made-plan : (room : Room) (f : Filter) (n : Bytes) (q : Path) (text : Bytes) (m : Made) → made room (VerifyCase f n q text) ≡ Ok m → NoPlan ≡ m.plan
verify-made-plan room f n q text m g = sym (verify-plan room f n q text m g)

pub name-made-plan : (room : Room) (f : Filter) (refname : Bytes) (x : Ran StreamFault) (m : Made) → made room (NameCase f refname x) ≡ Ok m → NoPlan ≡ m.plan
name-made-plan room f refname x m g = sym (name-plan room f refname x m g)

module _ (law : RecallLaw) (asked : Command) (items : List Bytes) (kept : HoldWhatTheyShould asked items) where
  project-same : (h : Held) (f : Filter) (n : Bytes) → IsProject asked items h f → IsStore h.objects → recalled (entries_of h f) h.rule f (repo h).commits n ≡ projected h f n
  project-same h f n w store = recalled-same law items h w.text f n (kept h w.takes_kept w.read) store w.sound_is

  pub recalled-made : (room : Room) (c : Case) → IsFrom asked items c → IsStore (hand c).held → recalled_made room c ≡ made room c
  recalled-made room (ProjectCase h f n) w store = ap (λ (p : Option Shown). Ok (unchanged h (name_line p))) (project-same h f n w store)
  recalled-made room _ w store = refl

  keep-plan : (h : Held) (f : Filter) (n : Bytes) (p : Plan) → IsProject asked items h f → IsStore h.objects → IsKeepPlanOf h f n (room_of items) p → IsKeepPlan h f items p
  keep-plan h f n p w store k = by k.plan
    where
      by : (p ≡ NoPlan) ⊎ ((es : Entries) × (p ≡ KeepPlan h.rule (printed f) es) × IsKeepOf h f (room_of items) es) → IsKeepPlan h f items p
      by (inl e) = subst (IsKeepPlan h f items) (sym e) tt
      by (inr x) =
          subst (IsKeepPlan h f items) (sym x.1) (record {
            current = refl;
            canonical = refl;
            some = x.2.some;
            order = x.2.order;
            fresh = x.2.fresh;
            true_ones = λ i d lt. x.2.values i d lt ∙ project-same h f _ w store;
            fits = x.2.within;
          })

  pub kept-plan : (c : Case) (m : Made) (p : Plan) → IsFrom asked items c → IsStore (hand c).held → IsPlanIn (room_of items) c m p → IsPlanOf items c m p
  kept-plan (ProjectCase h f n) m p w store k = keep-plan h f n p w store k
  kept-plan (ExportCase tagged h f refname n) m p w store k = k.0
  kept-plan (PushCase manner telling h f refname n x) m p w store k = k.0
  kept-plan (QueryCase h x) m p w store k = k.0
  kept-plan (VerifyCase f n q text) m p w store k = k.0
  kept-plan _ m p w store k = k

pub lawful-plan : (items : List Bytes) (c : Case) (m : Made) (p : Plan) → IsPlanIn (room_of items) c m p → IsLawful items p c
lawful-plan items (ProjectCase h f n) m p k = k.holds
lawful-plan items (ExportCase tagged h f refname n) m p k = k.1
lawful-plan items (PushCase manner telling h f refname n x) m p k = k.1
lawful-plan items (QueryCase h x) m p k = k.1
lawful-plan items (VerifyCase f n q text) m p k = k.1
lawful-plan items _ m p k = tt

-- ---- forms that leave the state

same-none : (h : Held) (p : Plan) → p ≡ NoPlan → IsSameState h (held_after h p)
same-none h p e = subst (λ (q : Plan). IsSameState h (held_after h q)) (sym e) (record { objects = refl; refs = refl; rule = refl; tags = refl })

same-kept : (g h : Held) (f : Filter) (n : Bytes) (room : Room) (p : Plan) → IsKeepPlanOf g f n room p → IsSameState h (held_after h p)
same-kept g h f n room p k = by k.plan
  where
    by : (p ≡ NoPlan) ⊎ ((es : Entries) × (p ≡ KeepPlan g.rule (printed f) es) × IsKeepOf g f room es) → IsSameState h (held_after h p)
    by (inl e) = same-none h p e
    by (inr x) = subst (λ (q : Plan). IsSameState h (held_after h q)) (sym x.1) (record { objects = refl; refs = refl; rule = refl; tags = refl })

no-change : {A : Type 0} (asked : Command) → changes_state asked ≡ true → changes_state asked ≡ false → A
no-change asked t f = absurd (true≢false (sym t ∙ f))

pub stays-plan : (asked : Command) (items : List Bytes) (room : Room) (c : Case) (m : Made) (p : Plan) → IsFrom asked items c → recalled_made room c ≡ Ok m → IsPlanIn room c m p
    → changes_state asked ≡ false → (h : Held) → IsSameState h (held_after h p)
stays-plan asked items room (ProjectCase g f n) m p w done k leaves h = same-kept g h f n room p k
stays-plan asked items room (ImportCase force g x) m p w done k leaves h = no-change asked w leaves
stays-plan asked items room (ExportCase tagged g f refname n) m p w done k leaves h = same-none h p (k.0 ∙ sym (ap (λ (y : Made). y.plan) (ok-same _ m done)))
stays-plan asked items room (PushCase manner telling g f refname n x) m p w done k leaves h = no-change asked w leaves
stays-plan asked items room (NameCase f refname x) m p w done k leaves h = same-none h p (k ∙ name-plan room f refname x m done)
stays-plan asked items room (RuleCase g j) m p w done k leaves h = no-change asked w leaves
stays-plan asked items room (QueryCase g x) m p w done k leaves h = same-none h p (k.0 ∙ sym (ap (λ (y : Made). y.plan) (ok-same _ m done)))
stays-plan asked items room (VerifyCase f n q text) m p w done k leaves h = same-none h p (k.0 ∙ verify-plan room f n q text m done)

-- ---- forms that don't write

-- a form that may change the state may append
may-write : (asked : Command) → changes_state asked ≡ true → writes asked ≡ true
may-write (Project r t) e = refl
may-write (As u c) e = may-write c e
may-write asked e = e

no-write : {A : Type 0} (asked : Command) → writes asked ≡ true → writes asked ≡ false → A
no-write asked t f = absurd (true≢false (sym t ∙ f))

pub unwritten-plan : (asked : Command) (items : List Bytes) (room : Room) (c : Case) (m : Made) (p : Plan) → IsFrom asked items c → recalled_made room c ≡ Ok m → IsPlanIn room c m p
    → writes asked ≡ false → p ≡ NoPlan
unwritten-plan asked items room (ProjectCase g f n) m p w done k none = no-write asked w.may_append none
unwritten-plan asked items room (ImportCase force g x) m p w done k none = no-write asked (may-write asked w) none
unwritten-plan asked items room (ExportCase tagged g f refname n) m p w done k none = k.0 ∙ sym (ap (λ (y : Made). y.plan) (ok-same _ m done))
unwritten-plan asked items room (PushCase manner telling g f refname n x) m p w done k none = no-write asked (may-write asked w) none
unwritten-plan asked items room (NameCase f refname x) m p w done k none = k ∙ name-plan room f refname x m done
unwritten-plan asked items room (RuleCase g j) m p w done k none = no-write asked (may-write asked w) none
unwritten-plan asked items room (QueryCase g x) m p w done k none = k.0 ∙ sym (ap (λ (y : Made). y.plan) (ok-same _ m done))
unwritten-plan asked items room (VerifyCase f n q text) m p w done k none = k.0 ∙ verify-plan room f n q text m done

-- ---- what is said of a projection

pub for-project : (r : Result Case Outcome) (Says : Held → Filter → Bytes → Type 0) → ((h : Held) (f : Filter) (n : Bytes) → Says h f n) → OfProject r Says
for-project (Ok (ProjectCase h f n)) Says says = says h f n
for-project _ Says says = tt

pub of-project : (r : Result Case Outcome) (Some More : Held → Filter → Bytes → Type 0) → ((h : Held) (f : Filter) (n : Bytes) → Some h f n → More h f n) → OfProject r Some
    → OfProject r More
of-project (Ok (ProjectCase h f n)) Some More more some = more h f n some
of-project _ Some More more some = tt

-- its plan is one that may be kept, and its line is the one that what is kept leads to
recalled-case : (room : Room) (c : Case) (m : Made) (p : Plan) → recalled_made room c ≡ Ok m → IsPlanIn room c m p
    → OfProject (Ok c) (λ h f n. IsKeepPlanOf h f n room p × (m.output ≡ recalled_line h f n))
recalled-case room (ProjectCase h f n) m p done planned = (planned, sym (ap (λ (y : Made). y.output) (ok-same _ m done)))
recalled-case room _ m p done planned = tt

pub recalled-plan : (room : Room) (r : Result Case Outcome) (p : Plan) (w : IsPlanned room r p) → OfProject r (λ h f n. IsKeepPlanOf h f n room p × (w.step.output ≡ recalled_line h f n))
recalled-plan room r p w =
    subst (λ (x : Result Case Outcome). OfProject x (λ h f n. IsKeepPlanOf h f n room p × (w.step.output ≡ recalled_line h f n))) (sym w.came_up)
    (recalled-case room w.case w.step p w.done w.planned)

-- ---- a step's own plan

abbrev pub own_plan : Result Made Outcome → Plan
own_plan (Ok m) = m.plan
own_plan (Err e) = NoPlan

pub all-one : {A : Type 0} (P : A → Type 0) (x : A) → P x → All P (x ∷ [])
all-one P x h = All-cons P x [] h (All-nil P)

own-in : (items : List Bytes) (c : Case) → ((m : Made) → IsPlanOf items c m m.plan) → (s : Result Made Outcome) → ArePlanned items (c ∷ []) s (own_plan s)
own-in items c f (Ok m) = all-one (λ d. IsPlanOf items d m m.plan) c (f m)
own-in items c f (Err e) = tt

pub own-planned : (items : List Bytes) (room : Room) (c : Case) → ArePlanned items (c ∷ []) (made room c) (own_plan (made room c))
own-planned items room (ProjectCase h f n) = all-one (λ d. IsPlanOf items d (unchanged h (name_line (projected h f n))) NoPlan) (ProjectCase h f n) tt
own-planned items room (ImportCase force h x) = own-in items (ImportCase force h x) (λ m. refl) (made room (ImportCase force h x))
own-planned items room (ExportCase tagged h f refname n) = own-in items (ExportCase tagged h f refname n) (λ m. refl) (made room (ExportCase tagged h f refname n))
own-planned items room (PushCase manner telling h f refname n p) = own-in items (PushCase manner telling h f refname n p) (λ m. refl) (made room (PushCase manner telling h f refname n p))
own-planned items room (NameCase f refname x) = own-in items (NameCase f refname x) (λ m. refl) (made room (NameCase f refname x))
own-planned items room (RuleCase h k) = own-in items (RuleCase h k) (λ m. refl) (made room (RuleCase h k))
own-planned items room (QueryCase h x) = own-in items (QueryCase h x) (λ m. refl) (made room (QueryCase h x))
own-planned items room (VerifyCase f n q text) = own-in items (VerifyCase f n q text) (λ m. refl) (made room (VerifyCase f n q text))
