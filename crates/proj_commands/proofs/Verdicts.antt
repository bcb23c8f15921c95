-- Which refusals are of words or of a filter: those of judging a command, and no other.
use Rattle.std.proofs.Common.{◌≡◌, ◌⊎◌, inl, inr, ◌++◌, ℕ, Bool, true, false, List, [], Option, None, Some, Result, Ok, Err, IfErr, refl, sym, ap, subst, ◌∙◌, true≢false}
use Rattle.std.specs.Prelude.{length, nat_le, reverse, zip}
use Rattle.std.specs.List.{flat_map, last_or}
use Rattle.git_objects.specs.Paths.{Bytes}
use Rattle.git_objects.specs.Refs.{Refs, bytes_cmp}
use Rattle.git_objects.specs.Results.{◌>>=◌, must, or_refuse, refused_by}
use Rattle.git_objects.specs.Snapshots.{Snapshot}
use Rattle.git_objects.specs.declared.limits.TheConstants.{INPUT_BYTES}
use Rattle.git_objects.specs.declared.quantity.Quantity.{Quantity}
use Rattle.git_objects.specs.declared.quantity.Quantity.TheVariants.{Input}
use Rattle.std.specs.FinMap.{find as find_entry}
use Rattle.object_store.specs.Objects.{Object}
use Rattle.filter_text.specs.Filters.{Filter}
use Rattle.stream_reader.specs.declared.fault.StreamFault.{StreamFault}
use Rattle.stream_reader.specs.declared.fault.StreamFault.TheVariants as streams
use Rattle.tag_objects.specs.TagLists.{first_taken}
use Rattle.tag_objects.specs.declared.tag.Tag.{Tag}
use Rattle.fast_import.specs.Replays.{Ran, outcome_of}
use Rattle.push_laws.specs.Pushes.{PushRefusal, StreamRefused, CommitRefused}
use Rattle.push_laws.specs.PushReplays.{StreamRefusal, OtherRef, NotAtHead, FurtherParents, Faulty}
use Rattle.push_laws.specs.PushVerdicts.{Refusal, NoChange, BadWorkspace, Unseen, NotHeld, Blocked, TreeLimit}
use Rattle.proj_audit.specs.Certificates.{Fault, Syntax, NotProved, verify}
use Rattle.proj_gate.specs.Policies.{Act, Allowed, Denied, Push as PushAct, See, Verdict, decide, rules}
use Rattle.state_items.specs.Fields.{BrokenAt, Clash}
use Rattle.state_items.specs.Items.{Break, Held, read_items}
use Rattle.state_items.specs.Changes.{Plan, Room, fresh, objects_of, passed, passed_by_objects, rule_plan}
use Rattle.state_items.specs.Repos.{repo}
use Rattle.proj_io.specs.Views.{SinkView}
use Rattle.repo_ground.specs.Contents.{Contents, room_in}
use Rattle.repo_ground.specs.Moves.{Move, first_backward}
use Rattle.repo_ground.specs.declared.state.LoadError.{LoadError}
use Rattle.repo_ground.specs.declared.state.LoadError.TheVariants as load
use Rattle.proj_words.specs.Faults.{stream_outcome}
use Rattle.proj_words.specs.Words.{Command, As, Import, Project, Push, Export, ExportTags, Name, Batch, Trial, Rule, Ask, Verify, Unknown, PushMerges}
use Rattle.proj_words.specs.declared.outcome.Outcome.{Outcome}
use Rattle.proj_words.specs.declared.outcome.Outcome.TheVariants.{Done, Limit, OutOfMemory, UnknownRef, Collision, ReadFault, WriteFault, StoreFault}
use Rattle.proj_words.specs.declared.outcome.Outcome.TheVariants as outcomes
use Rattle.proj_commands.specs.Cases.{Case, ImportCase, ProjectCase, ExportCase, PushCase, NameCase, RuleCase, QueryCase, VerifyCase, IsJudgedRightly, Made, break_outcome, head_of, is_verdict, loaded, no_limit, streamed, verdict, within}
use Rattle.proj_commands.specs.Import.{all_forward, all_free, import_plan, no_backward, no_taken}
use Rattle.proj_commands.specs.Lines.{ref_line}
use Rattle.proj_commands.specs.Steps.{case}
use Rattle.proj_commands.specs.Push.{commit_refusal, no_refusal, push_outcome, push_plan, stream_refusal, told_line, parents_refusal}
use Rattle.proj_commands.specs.Export.{export_case}
use Rattle.proj_commands.specs.Policy.{allowed, granted, policy_text}
use Rattle.proj_commands.specs.Queries.{sight, sound_query}
use Rattle.proj_commands.specs.Rule.{rule_line}
use Rattle.proj_commands.specs.Verify.{verify_outcome}
use Rattle.proj_commands.specs.Filters.{sound}
use Rattle.proj_commands.specs.Forms.{load_outcome}
use Rattle.proj_commands.specs.Judging.{IsUnjudged}
use Rattle.proj_commands.specs.Makes.{IsAtHand, IsExported, IsFlowed, IsRefusal, IsReported, recalled_made, step_in}
use Rattle.proj_commands.proofs.Refusing.{refusal-of}
use Rattle.proj_commands.specs.declared.pushing.Manner.{Manner}
use Rattle.proj_commands.specs.declared.pushing.Manner.TheVariants.{InLine, Merging}

-- ---- results whose refusals are neither of words nor of a filter

abbrev pub IsOther : {A : Type 0} → Result A Outcome → Type 0
IsOther r = IfErr r (λ e. is_verdict e ≡ false)

other-on : {A B : Type 0} (r : Result A Outcome) (K : A → Result B Outcome) → IsOther r → ((a : A) → IsOther (K a)) → IsOther (r >>= K)
other-on (Ok a) K w more = more a
other-on (Err e) K w more = w

other-by : {A E : Type 0} (say : E → Outcome) (r : Result A E) → ((e : E) → is_verdict (say e) ≡ false) → IsOther (refused_by say r)
other-by say (Ok a) w = tt
other-by say (Err e) w = w e

other-found : {A : Type 0} (o : Option A) → IsOther (or_refuse UnknownRef o)
other-found None = refl
other-found (Some x) = tt

-- ---- loading

pub break-other : (b : Break) → is_verdict (break_outcome b) ≡ false
break-other (item, BrokenAt at) = refl
break-other (item, Clash n) = refl

pub load-other : (e : LoadError) → is_verdict (load_outcome e) ≡ false
load-other load.StoreFault = refl
load-other (load.Damaged item at) = refl
load-other (load.Collision n) = refl
load-other load.OutOfMemory = refl

pub loaded-other : (items : List Bytes) → IsOther (loaded items)
loaded-other items = other-by break_outcome (read_items items) break-other

-- ---- what comes of a case

stream-other : (f : StreamFault) → is_verdict (stream_outcome f) ≡ false
stream-other (streams.Syntax at) = refl
stream-other (streams.Unsupported at what) = refl
stream-other (streams.Unresolved at) = refl
stream-other (streams.BadPath at) = refl
stream-other (streams.NoSource at) = refl
stream-other (streams.Limit at which) = refl
stream-other (streams.Collision n) = refl
stream-other streams.OutOfMemory = refl

streamed-other : (x : Ran StreamFault) → IsOther (streamed x)
streamed-other x = other-by stream_outcome (outcome_of x.state x.fault) stream-other

limit-other : (o : Option Quantity) → IsOther (no_limit o)
limit-other None = tt
limit-other (Some q) = refl

within-other : (room : Room) (h : Held) (output : Bytes) (p : Plan) → IsOther (within room h output p)
within-other room h output p = other-on (no_limit (passed h room p)) (λ _. Ok (record { output = output; before = h; plan = p })) (limit-other (passed h room p)) (λ _. tt)

backward-other : (o : Option Move) → IsOther (no_backward o)
backward-other None = tt
backward-other (Some m) = refl

forward-other : (force : Bool) (cs : List Snapshot) (refs es : Refs) → IsOther (all_forward force cs refs es)
forward-other true cs refs es = tt
forward-other false cs refs es = backward-other (first_backward cs refs es)

taken-other : (o : Option Bytes) → IsOther (no_taken o)
taken-other None = tt
taken-other (Some n) = refl

free-other : (force : Bool) (tags ts : List Tag) → IsOther (all_free force tags ts)
free-other true tags ts = tt
free-other false tags ts = taken-other (first_taken tags ts)

parents-other : (m : Manner) (n : ℕ) → is_verdict (parents_refusal m n) ≡ false
parents-other InLine n = refl
parents-other Merging n = refl

replay-other : (m : Manner) (e : StreamRefusal) → is_verdict (stream_refusal m e) ≡ false
replay-other m (OtherRef at) = refl
replay-other m (NotAtHead expected got) = refl
replay-other m (FurtherParents n) = parents-other m n
replay-other m (Faulty e) = stream-other e

commit-other : (n : ℕ) (e : Refusal) → is_verdict (commit_refusal n e) ≡ false
commit-other n NoChange = refl
commit-other n BadWorkspace = refl
commit-other n (Unseen p) = refl
commit-other n (NotHeld p) = refl
commit-other n (Blocked p q) = refl
commit-other n (TreeLimit q) = refl

push-other : (m : Manner) (e : PushRefusal) → is_verdict (push_outcome m e) ≡ false
push-other m (StreamRefused e) = replay-other m e
push-other m (CommitRefused n e) = commit-other n e

pushed-other : (m : Manner) (o : Option PushRefusal) → IsOther (no_refusal m o)
pushed-other m None = tt
pushed-other m (Some e) = push-other m e

must-other : (e : Outcome) (b : Bool) → is_verdict e ≡ false → IsOther (must e b)
must-other e true w = tt
must-other e false w = w

certificate-other : (e : Fault) → is_verdict (verify_outcome e) ≡ false
certificate-other (Syntax at) = refl
certificate-other (NotProved n) = refl

pub made-other : (room : Room) (c : Case) → IsOther (recalled_made room c)
made-other room (ImportCase force h x) =
    other-on (streamed x) _ (streamed-other x) (λ r. other-on (all_forward force (reverse r.commits ++ (repo h).commits) h.refs r.heads) _
    (forward-other force (reverse r.commits ++ (repo h).commits) h.refs r.heads) (λ _. other-on (all_free force h.tags x.state.tags) _
    (free-other force h.tags x.state.tags) (λ _. within-other room h (flat_map ref_line r.heads) (import_plan h r x.state.tags))))
made-other room (ProjectCase h f n) = tt
made-other room (ExportCase tagged h f refname n) = tt
made-other room (PushCase manner telling h f refname n p) =
    other-on (no_refusal manner p.refusal) _ (pushed-other manner p.refusal)
    (λ _. within-other room h (flat_map (told_line telling) (zip p.stream.state.commits p.originals)) (push_plan h refname p (last_or None p.originals)))
made-other room (NameCase f refname x) =
    other-on (streamed x) _ (streamed-other x) (λ r. other-on (no_limit (passed_by_objects (fresh [] (objects_of r.blobs r.commits)) None)) _
    (limit-other (passed_by_objects (fresh [] (objects_of r.blobs r.commits)) None))
    (λ _. other-on (head_of refname r.heads) _ (other-found (find_entry bytes_cmp refname r.heads)) (λ n. tt)))
made-other room (RuleCase h k) = within-other room h (rule_line k) (rule_plan h k)
made-other room (QueryCase h x) = tt
made-other room (VerifyCase f n q text) =
    other-on (must (Limit Input None) (nat_le (length text) INPUT_BYTES)) _ (must-other (Limit Input None) (nat_le (length text) INPUT_BYTES) refl)
    (λ _. other-on (refused_by verify_outcome (verify n f q text)) _ (other-by verify_outcome (verify n f q text) certificate-other) (λ x. tt))

-- ---- policies

allowed-other : (v : Verdict) → IsOther (allowed v)
allowed-other (Allowed line) = tt
allowed-other (Denied line) = refl

pub granted-other : (h : Held) (user : Bytes) (act : Act) (refname : Bytes) (f : Filter) → IsOther (granted h user act refname f)
granted-other h user act refname f =
    other-on (refused_by outcomes.BadPolicy (rules (policy_text h))) (λ rs. allowed (decide rs user act refname f)) (other-by outcomes.BadPolicy (rules (policy_text h)) (λ line. refl))
    (λ rs. allowed-other (decide rs user act refname f))

-- ---- cases

pub apart-judged : (asked : Command) (e : Outcome) → is_verdict e ≡ false → IsJudgedRightly asked e
apart-judged asked e w = λ is. absurd (true≢false (sym is ∙ w))

other-judged : {A : Type 0} (asked : Command) (r : Result A Outcome) → IsOther r → IfErr r (IsJudgedRightly asked)
other-judged asked (Ok a) w = tt
other-judged asked (Err e) w = apart-judged asked e w

of-sound : {A : Type 0} (asked : Command) (s : Result A Outcome) (K : A → Result Case Outcome) → ((f : A) → IsOther (K f)) → verdict asked ≡ (s >>= λ _. Ok tt) → IfErr (s >>= K) (IsJudgedRightly asked)
of-sound asked (Ok f) K w same = other-judged asked (K f) (w f)
of-sound asked (Err e) K w same = λ is. same

-- The refusal of a case is that of judging the command, or another.
pub case-judged : (asked : Command) (loading : Result Held Outcome) (input : Bytes) → IsOther loading → IfErr (case asked loading input) (IsJudgedRightly asked)
case-judged (Import force) loading input w = other-judged (Import force) (case (Import force) loading input) (other-on loading _ w (λ h. tt))
case-judged (Project r t) loading input w =
    of-sound (Project r t) (sound t) _ (λ f. other-on loading _ w (λ h. other-on (head_of r h.refs) _ (other-found (find_entry bytes_cmp r h.refs)) (λ n. tt))) refl
case-judged (Export r t) loading input w =
    of-sound (Export r t) (sound t) _ (λ f. other-on loading _ w (λ h. other-on (head_of r h.refs) _ (other-found (find_entry bytes_cmp r h.refs)) (λ n. tt))) refl
case-judged (ExportTags r t) loading input w =
    of-sound (ExportTags r t) (sound t) _ (λ f. other-on loading _ w (λ h. other-on (head_of r h.refs) _ (other-found (find_entry bytes_cmp r h.refs)) (λ n. tt))) refl
case-judged (Push r t) loading input w =
    of-sound (Push r t) (sound t) _ (λ f. other-on loading _ w (λ h. other-on (head_of r h.refs) _ (other-found (find_entry bytes_cmp r h.refs)) (λ n. tt))) refl
case-judged (PushMerges r t) loading input w =
    of-sound (PushMerges r t) (sound t) _ (λ f. other-on loading _ w (λ h. other-on (head_of r h.refs) _ (other-found (find_entry bytes_cmp r h.refs)) (λ n. tt))) refl
case-judged (Name r t) loading input w = of-sound (Name r t) (sound t) _ (λ f. tt) refl
case-judged (Rule k) loading input w = other-judged (Rule k) (case (Rule k) loading input) (other-on loading _ w (λ h. tt))
case-judged (Ask q) loading input w =
    of-sound (Ask q) (sound_query q) _ (λ s. other-on loading _ w (λ h. other-on (or_refuse UnknownRef (sight h s)) _ (other-found (sight h s)) (λ x. tt))) refl
case-judged (Verify n t p) loading input w = of-sound (Verify n t p) (sound t) _ (λ f. tt) refl
case-judged (As u (Project r t)) loading input w =
    of-sound (As u (Project r t)) (sound t) _
    (λ f. other-on loading _ w (λ h. other-on (granted h u See r f) _ (granted-other h u See r f) (λ _. other-on (head_of r h.refs) _ (other-found (find_entry bytes_cmp r h.refs)) (λ n. tt)))) refl
case-judged (As u (Export r t)) loading input w =
    of-sound (As u (Export r t)) (sound t) _
    (λ f. other-on loading _ w (λ h. other-on (granted h u See r f) _ (granted-other h u See r f) (λ _. other-on (head_of r h.refs) _ (other-found (find_entry bytes_cmp r h.refs)) (λ n. tt)))) refl
case-judged (As u (Push r t)) loading input w =
    of-sound (As u (Push r t)) (sound t) _
    (λ f. other-on loading _ w (λ h. other-on (granted h u PushAct r f) _ (granted-other h u PushAct r f) (λ _. other-on (head_of r h.refs) _ (other-found (find_entry bytes_cmp r h.refs)) (λ n. tt)))) refl
case-judged (As u _) loading input w = λ _. refl
case-judged Batch loading input w = λ _. refl
case-judged (Trial n) loading input w = λ _. refl
case-judged Unknown loading input w = λ _. refl

-- ---- refusals

step-judged : (asked : Command) (room : Room) (r : Result Case Outcome) → IfErr r (IsJudgedRightly asked) → IfErr (step_in room r) (IsJudgedRightly asked)
step-judged asked room (Ok c) w = other-judged asked (recalled_made room c) (made-other room c)
step-judged asked room (Err e) w = w

-- why there is no report
pub refusal-judged : (asked : Command) (H : Object → Type 0) (e : Outcome) (s : Result Made Outcome) → IfErr s (IsJudgedRightly asked) → IsRefusal H e s → IsJudgedRightly asked e
refusal-judged asked H Done s w h = absurd h
refusal-judged asked H WriteFault s w h = absurd h
refusal-judged asked H OutOfMemory s w h = λ is. absurd (true≢false (sym is))
refusal-judged asked H ReadFault s w h = λ is. absurd (true≢false (sym is))
refusal-judged asked H StoreFault s w h = λ is. absurd (true≢false (sym is))
refusal-judged asked H (Collision n) s w h = λ is. absurd (true≢false (sym is))
refusal-judged asked H e s w h = subst (λ (r : Result Made Outcome). IfErr r (IsJudgedRightly asked)) h w

-- of a report of a case
pub reported-judged : (asked : Command) (H : Object → Type 0) (room : Room) (loading : Result Held Outcome) (input : Bytes) (result : Result Bytes Outcome) → IsOther loading
    → IsReported H (step_in room (case asked loading input)) result → (e : Outcome) → result ≡ Err e → IsJudgedRightly asked e
reported-judged asked H room loading input result w told e is =
    refusal-judged asked H e (step_in room (case asked loading input)) (step-judged asked room (case asked loading input) (case-judged asked loading input w))
    (refusal-of H (step_in room (case asked loading input)) e (subst (IsReported H (step_in room (case asked loading input))) is told))

-- of judging itself
pub unjudged-judged : (asked : Command) (e : Outcome) → IsUnjudged asked e → IsJudgedRightly asked e
unjudged-judged asked e w = by w.refused
  where
    by : (e ≡ OutOfMemory) ⊎ (verdict asked ≡ Err e) → IsJudgedRightly asked e
    by (inl memory) = apart-judged asked e (ap is_verdict memory)
    by (inr is) = λ _. is

-- ---- exports

refusal-other : (H : Object → Type 0) (e : Outcome) (s : Result Made Outcome) → IsOther s → IsRefusal H e s → is_verdict e ≡ false
refusal-other H Done s w h = absurd h
refusal-other H WriteFault s w h = absurd h
refusal-other H OutOfMemory s w h = refl
refusal-other H ReadFault s w h = refl
refusal-other H StoreFault s w h = refl
refusal-other H (Collision n) s w h = refl
refusal-other H e s w h = subst (λ (r : Result Made Outcome). IsOther r) h w

flowed-other : (H : Object → Type 0) (s : Result Made Outcome) (o q : SinkView) (e : Outcome) → IsOther s → IsFlowed H s o q e → is_verdict e ≡ false
flowed-other H (Ok m) o q Done w h = refl
flowed-other H (Ok m) o q WriteFault w h = refl
flowed-other H (Ok m) o q OutOfMemory w h = refl
flowed-other H (Ok m) o q e w h = refusal-other H e (Ok m) w h.0
flowed-other H (Err x) o q OutOfMemory w h = refl
flowed-other H (Err x) o q e w h = refusal-other H e (Err x) w h.0

-- upon a state
pub exported-other : (tagged : Bool) (h : Held) (f : Filter) (refname : Bytes) (items : List Bytes) (g : Held) (s s' : Contents) (o q : SinkView) (e : Outcome) → IsExported (export_case tagged h f refname) items g s s' o q e
    → is_verdict e ≡ false
exported-other tagged h f refname items g s s' o q e made =
    flowed-other (IsAtHand s.basis.store (export_case tagged h f refname)) (step_in (room_in s) (export_case tagged h f refname)) o q e
    (other-on (export_case tagged h f refname) (recalled_made (room_in s)) (other-on (head_of refname h.refs) _ (other-found (find_entry bytes_cmp refname h.refs)) (λ n. tt)) (made-other (room_in s)))
    made.flowed
