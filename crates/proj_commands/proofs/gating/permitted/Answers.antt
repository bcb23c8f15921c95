-- Proves what src/gating.rt needs of `permitted`.
use Rattle.std.proofs.Common.{◌≡◌, ◌⊎◌, List, Ok, Err, sym, subst}
use Rattle.std.specs.Prelude.{MatchResult}
use Rattle.git_objects.specs.Paths.{Bytes}
use Rattle.filter_text.specs.Shapes.{shape}
use Rattle.proj_gate.specs.Policies.{Push, See}
use Rattle.proj_words.specs.declared.outcome.Outcome.TheVariants.{OutOfMemory}
use Rattle.state_items.specs.Items.{Held}
use Rattle.proj_commands.specs.Judging.{permission}
use Rattle.proj_commands.specs.Policy.{granted}
use Rattle.proj_commands.specs.declared.judging.Judged.{Judged}
use Rattle.proj_commands.proofs.gating.permitted.Goals as goal

pub returns-in-AsProject : goal.returns-in-AsProject
returns-in-AsProject c = λ (items : List Bytes) (h : Held) st.
    let s = c.in-AsProject.subject in
    subst (λ (j : Judged). MatchResult c.granted.result (λ u. permission h j ≡ Ok tt) (λ e. (e ≡ OutOfMemory) ⊎ (permission h j ≡ Err e))) (sym c.in-AsProject.is)
    (subst (λ (user : Bytes). MatchResult c.granted.result (λ u. granted h user See s.refname (shape s.filter) ≡ Ok tt) (λ e. (e ≡ OutOfMemory) ⊎ (granted h user See s.refname (shape s.filter) ≡ Err e)))
    c.bytes.ensures (c.granted.ensures items h st))

pub returns-in-AsPush : goal.returns-in-AsPush
returns-in-AsPush c = λ (items : List Bytes) (h : Held) st.
    let s = c.in-AsPush.subject in
    subst (λ (j : Judged). MatchResult c.granted-in-AsPush.result (λ u. permission h j ≡ Ok tt) (λ e. (e ≡ OutOfMemory) ⊎ (permission h j ≡ Err e))) (sym c.in-AsPush.is)
    (subst (λ (user : Bytes). MatchResult c.granted-in-AsPush.result (λ u. granted h user Push s.refname (shape s.filter) ≡ Ok tt) (λ e. (e ≡ OutOfMemory) ⊎ (granted h user Push s.refname (shape s.filter) ≡ Err e)))
    c.bytes-in-AsPush.ensures (c.granted-in-AsPush.ensures items h st))

pub returns-in-AsExport : goal.returns-in-AsExport
returns-in-AsExport c = λ (items : List Bytes) (h : Held) st.
    let s = c.in-AsExport.subject in
    subst (λ (j : Judged). MatchResult c.granted-in-AsExport.result (λ u. permission h j ≡ Ok tt) (λ e. (e ≡ OutOfMemory) ⊎ (permission h j ≡ Err e))) (sym c.in-AsExport.is)
    (subst (λ (user : Bytes). MatchResult c.granted-in-AsExport.result (λ u. granted h user See s.refname (shape s.filter) ≡ Ok tt) (λ e. (e ≡ OutOfMemory) ⊎ (granted h user See s.refname (shape s.filter) ≡ Err e)))
    c.bytes-in-AsExport.ensures (c.granted-in-AsExport.ensures items h st))
