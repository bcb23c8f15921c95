-- Where no case of a judged command comes up, its ref has no commit.
use Rattle.std.proofs.Common.{◌≡◌, Bool, true≢false, [], Option, None, Some, Result, Ok, IsErr, refl, sym, ap, subst, ◌∙◌}
use Rattle.std.specs.FinMap.{find}
use Rattle.git_objects.specs.Paths.{Bytes}
use Rattle.git_objects.specs.Refs.{bytes_cmp}
use Rattle.git_objects.specs.Results.{◌>>=◌, or_refuse}
use Rattle.filter_text.specs.Shapes.{shape}
use Rattle.push_laws.specs.Pushes.{pushing}
use Rattle.ref_store.specs.Refs.{head_of}
use Rattle.state_items.proofs.RefsHeld.{head-found}
use Rattle.state_items.specs.Items.{Held}
use Rattle.state_items.specs.Repos.{repo}
use Rattle.repo_ground.specs.Contents.{Contents, Spells}
use Rattle.proj_gate.specs.Policies.{Push as PushAct}
use Rattle.proj_words.specs.Words.{Command}
use Rattle.proj_words.specs.declared.outcome.Outcome.{Outcome}
use Rattle.proj_words.specs.declared.outcome.Outcome.TheVariants.{UnknownRef}
use Rattle.proj_commands.specs.Cases.{Case, PushCase}
use Rattle.proj_commands.specs.Steps.{case}
use Rattle.proj_commands.specs.Filters.{rule_by}
use Rattle.proj_commands.specs.Judging.{IsJudged}
use Rattle.proj_commands.specs.Policy.{granted}
use Rattle.proj_commands.specs.Push.{push_case}
use Rattle.proj_commands.specs.declared.lines.Telling.TheVariants.{Both, PushedAlone}
use Rattle.proj_commands.specs.declared.judging.Claim.{Claim}
use Rattle.proj_commands.specs.declared.judging.Judged.{Judged}
use Rattle.proj_commands.specs.declared.judging.Judged.TheVariants as judged
use Rattle.proj_commands.specs.declared.subjects.Subject.{Subject}
use Rattle.proj_commands.proofs.JudgedCases.{case-upon, upon}
use Rattle.proj_commands.specs.declared.pushing.Manner.TheVariants.{InLine, Merging}
use Rattle.merge_laws.specs.Merges.{merging}

no-case : (asked : Command) (j : Judged) → IsJudged asked j → (h : Held) (all : Bytes) → IsErr (case asked (Ok h) all) → IsErr (upon j h all)
no-case asked j w h all none = subst (λ (r : Result Case Outcome). IsErr r) (case-upon asked j w h all) none

pub no-import : (asked : Command) (force : Bool) → IsJudged asked (judged.Import force) → (h : Held) → ((all : Bytes) → IsErr (case asked (Ok h) all)) → ⊥
no-import asked force w h none = true≢false (sym (no-case asked (judged.Import force) w h [] (none [])))

pub no-name : (asked : Command) (s : Subject) → IsJudged asked (judged.Name s) → (h : Held) → ((all : Bytes) → IsErr (case asked (Ok h) all)) → ⊥
no-name asked s w h none = true≢false (sym (no-case asked (judged.Name s) w h [] (none [])))

pub no-claim : (asked : Command) (c : Claim) → IsJudged asked (judged.Verify c) → (h : Held) → ((all : Bytes) → IsErr (case asked (Ok h) all)) → ⊥
no-claim asked c w h none = true≢false (sym (no-case asked (judged.Verify c) w h [] (none [])))

none-at : (o : Option Bytes) (K : Bytes → Case) → IsErr (or_refuse UnknownRef o >>= λ n. Ok (K n)) → o ≡ None
none-at None K e = refl
none-at (Some n) K e = absurd (true≢false (sym e))

pub no-head : (asked : Command) (s : Subject) → IsJudged asked (judged.Push s) → (h : Held) → ((all : Bytes) → IsErr (case asked (Ok h) all)) → find bytes_cmp s.refname h.refs ≡ None
no-head asked s w h none =
    none-at (find bytes_cmp s.refname h.refs) (λ n. PushCase InLine Both h (shape s.filter) s.refname n (pushing (rule_by h.rule) (shape s.filter) (repo h).commits n s.refname []))
    (no-case asked (judged.Push s) w h [] (none []))

pub no-merge-head : (asked : Command) (s : Subject) → IsJudged asked (judged.PushMerges s) → (h : Held) → ((all : Bytes) → IsErr (case asked (Ok h) all)) → find bytes_cmp s.refname h.refs ≡ None
no-merge-head asked s w h none =
    none-at (find bytes_cmp s.refname h.refs) (λ n. PushCase Merging Both h (shape s.filter) s.refname n (merging (rule_by h.rule) (shape s.filter) (repo h).commits n s.refname []))
    (no-case asked (judged.PushMerges s) w h [] (none []))

-- of a push of a user whom the policy lets push
pub no-user-head : (asked : Command) (u : Bytes) (s : Subject) → IsJudged asked (judged.AsPush u s) → (h : Held) → granted h u PushAct s.refname (shape s.filter) ≡ Ok tt → ((all : Bytes) → IsErr (case asked (Ok h) all))
    → find bytes_cmp s.refname h.refs ≡ None
no-user-head asked u s w h may none =
    none-at (find bytes_cmp s.refname h.refs) (λ n. PushCase InLine PushedAlone h (shape s.filter) s.refname n (pushing (rule_by h.rule) (shape s.filter) (repo h).commits n s.refname []))
    (subst (λ (p : Result (Unit {0}) Outcome). IsErr (p >>= λ _. push_case InLine PushedAlone h (shape s.filter) s.refname [])) may (no-case asked (judged.AsPush u s) w h [] (none [])))

-- the commit of a ref of a state is that of what is held
pub head-held : (h : Held) (s : Contents) → Spells h s → (refname : Bytes) → head_of s.refs refname ≡ find bytes_cmp refname h.refs
head-held h s w refname = head-found refname s.refs w.distinct ∙ ap (find bytes_cmp refname) w.refs
