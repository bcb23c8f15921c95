-- What the policy says of a judged command.
use Rattle.std.proofs.Common.{◌≡◌, ◌⊎◌, inl, inr, false, List, Result, Ok, Err, sym, ap, subst, ◌∙◌}
use Rattle.git_objects.specs.Paths.{Bytes}
use Rattle.git_objects.specs.Results.{◌>>=◌}
use Rattle.object_store.specs.Objects.{Object}
use Rattle.filter_text.specs.Filters.{Filter}
use Rattle.filter_text.specs.Shapes.{shape}
use Rattle.proj_gate.specs.Policies.{See, Push as PushAct}
use Rattle.proj_io.specs.Views.{KeeperView, SinkView}
use Rattle.state_items.specs.Changes.{Plan, Room, room_of}
use Rattle.state_items.specs.Items.{Held}
use Rattle.repo_ground.specs.Contents.{Contents}
use Rattle.proj_words.specs.Words.{Command}
use Rattle.proj_words.specs.declared.outcome.Outcome.{Outcome}
use Rattle.proj_words.specs.declared.outcome.Outcome.TheVariants.{OutOfMemory}
use Rattle.proj_commands.specs.Cases.{Case, loaded}
use Rattle.proj_commands.specs.Export.{export_case}
use Rattle.proj_commands.specs.Forms.{IsEarly, IsExport, user_exported_case}
use Rattle.proj_commands.specs.Hands.{IsInHands}
use Rattle.proj_commands.specs.Judging.{IsJudged, IsOwn, permission}
use Rattle.proj_commands.specs.Makes.{IsExported, IsMadeOf, IsRefusal, hands_of, step_in}
use Rattle.proj_commands.specs.Policy.{granted}
use Rattle.proj_commands.specs.Project.{project_case}
use Rattle.proj_commands.specs.Push.{push_case}
use Rattle.proj_commands.specs.Steps.{case}
use Rattle.proj_commands.specs.declared.judging.Judged.{Judged}
use Rattle.proj_commands.specs.declared.judging.Judged.TheVariants as judged
use Rattle.proj_commands.specs.declared.lines.Telling.TheVariants.{PushedAlone}
use Rattle.proj_commands.proofs.JudgedCases.{case-upon, upon}
use Rattle.proj_commands.proofs.Refusing.{early-refusal, granted-own, memory-own}
use Rattle.proj_commands.specs.declared.pushing.Manner.TheVariants.{InLine}
use Rattle.proj_commands.proofs.ExportRefusals.{refused-export}

-- ---- it lets a command be done

-- What is made of the command's own case is made of that of the user.
pub let-made : (p : Result (Unit {0}) Outcome) (r : Result Case Outcome) → p ≡ Ok tt → (items : List Bytes) (h : Held) (s s' : Contents) (k l : KeeperView) (q : Plan) (result : Result Bytes Outcome)
    → IsMadeOf r items h s s' k l q result → IsMadeOf (p >>= λ _. r) items h s s' k l q result
let-made p r may items h s s' k l q result made =
    subst (λ (x : Result Case Outcome). IsMadeOf x items h s s' k l q result) (sym (ap (λ (u : Result (Unit {0}) Outcome). u >>= λ _. r) may)) made

-- ---- it doesn't

permission-own : (h : Held) (j : Judged) (e : Outcome) → permission h j ≡ Err e → IsOwn e
permission-own h (judged.AsProject u s) e g = granted-own h u See s.refname (shape s.filter) e g
permission-own h (judged.AsPush u s) e g = granted-own h u PushAct s.refname (shape s.filter) e g
permission-own h (judged.AsExport u s) e g = granted-own h u See s.refname (shape s.filter) e g
permission-own h _ e g = cc

pub unpermitted-own : (h : Held) (j : Judged) (e : Outcome) → (e ≡ OutOfMemory) ⊎ (permission h j ≡ Err e) → IsOwn e
unpermitted-own h j e (inl m) = subst IsOwn (sym m) memory-own
unpermitted-own h j e (inr g) = permission-own h j e g

-- no case comes up
unpermitted-case : (h : Held) (j : Judged) (all : Bytes) (e : Outcome) → permission h j ≡ Err e → upon j h all ≡ Err e
unpermitted-case h (judged.AsProject u s) all e g = ap (λ (p : Result (Unit {0}) Outcome). p >>= λ _. project_case h (shape s.filter) s.refname) g
unpermitted-case h (judged.AsPush u s) all e g = ap (λ (p : Result (Unit {0}) Outcome). p >>= λ _. push_case InLine PushedAlone h (shape s.filter) s.refname all) g
unpermitted-case h (judged.AsExport u s) all e g = ap (λ (p : Result (Unit {0}) Outcome). p >>= λ _. export_case false h (shape s.filter) s.refname) g
unpermitted-case h _ all e g = cc

-- a refusal, or want of memory
pub asked-early : (p : Result (Unit {0}) Outcome) (e : Outcome) → (e ≡ OutOfMemory) ⊎ (p ≡ Err e) → IsEarly p e
asked-early p e (inl m) = inl m
asked-early p e (inr g) = inr (inr g)

pub unpermitted-refusal : (H : Object → Type 0) (room : Room) (asked : Command) (j : Judged) → IsJudged asked j → (h : Held) (all : Bytes) (e : Outcome) → (e ≡ OutOfMemory) ⊎ (permission h j ≡ Err e)
    → IsRefusal H e (step_in room (case asked (Ok h) all))
unpermitted-refusal H room asked j w h all e why =
    early-refusal H (step_in room (case asked (Ok h) all)) (permission h j) e (λ g. (ap (step_in room) (case-upon asked j w h all ∙ unpermitted-case h j all e g), permission-own h j e g))
    (asked-early (permission h j) e why)

-- ---- an export of a user

pub denied-export : (h : Held) (user refname : Bytes) (f : Filter) (e : Outcome) → (e ≡ OutOfMemory) ⊎ (granted h user See refname f ≡ Err e) → (items : List Bytes) → loaded items ≡ Ok h → (o : SinkView)
    → IsExport (user_exported_case (loaded items) user f refname) items o o e
denied-export h user refname f e why items read o =
    refused-export r items e o
    (early-refusal (IsInHands (hands_of r)) (step_in (room_of items) r) (granted h user See refname f) e (λ g. (ap (step_in (room_of items)) (none g), granted-own h user See refname f e g))
    (asked-early (granted h user See refname f) e why))
  where
    r : Result Case Outcome
    r = user_exported_case (loaded items) user f refname

    none : granted h user See refname f ≡ Err e → r ≡ Err e
    none g = ap (λ (l : Result Held Outcome). user_exported_case l user f refname) read ∙ ap (λ (p : Result (Unit {0}) Outcome). p >>= λ _. export_case false h f refname) g

pub let-exported : (p : Result (Unit {0}) Outcome) (r : Result Case Outcome) → p ≡ Ok tt → (items : List Bytes) (h : Held) (s s' : Contents) (o q : SinkView) (outcome : Outcome)
    → IsExported r items h s s' o q outcome → IsExported (p >>= λ _. r) items h s s' o q outcome
let-exported p r may items h s s' o q outcome made =
    subst (λ (x : Result Case Outcome). IsExported x items h s s' o q outcome) (sym (ap (λ (u : Result (Unit {0}) Outcome). u >>= λ _. r) may)) made
