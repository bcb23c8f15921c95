-- Proves what src/logging.rt needs of `log`.
use Rattle.std.proofs.Common.{◌≡◌, IsSome, Some, Err, ap, sym, subst, ◌∙◌, map}
use Rattle.std.specs.FinMap.{find}
use Rattle.commit_graph.specs.Graphs.{place_of}
use Rattle.filter_text.specs.Shapes.{shape}
use Rattle.git_objects.specs.Paths.{Bytes}
use Rattle.git_objects.specs.Refs.{bytes_cmp}
use Rattle.git_objects.specs.declared.name.Name.{Name}
use Rattle.history_ground.specs.Before as before
use Rattle.history_ground.specs.Heads.{IsSeenObject}
use Rattle.proj_words.specs.declared.outcome.Outcome.{Outcome}
use Rattle.repo_ground.specs.Contents.{Contents}
use Rattle.repo_ground.specs.contracts.state.State.{the_view}
use Rattle.proj_commands.specs.Hands.{seen_hand}
use Rattle.proj_commands.specs.Makes.{IsStateOf}
use Rattle.proj_commands.proofs.StatesShown.{head-placed}
use Rattle.read_cli.specs.Looks.{at_head, IsReport}
use Rattle.read_cli.specs.Outputs.{log_output}
use Rattle.read_cli.proofs.LogLines.{lines}
use Rattle.read_cli.proofs.HeadReports.{head-told, head-unshown}
use Rattle.read_cli.proofs.Logged.{logged}
use Rattle.read_cli.proofs.logging.log.Goals as goal

pub history_of-requires-clause-head : goal.history_of-requires-clause-head
history_of-requires-clause-head c =
    let q = c.requires.state in
    subst (λ (x : Contents). IsSome (place_of c.in-Some.head.0 x.basis.graph)) (sym c.state.view_is)
    (head-placed q.1 c.args.state.now c.args.subject.now.refname c.in-Some.head.0 q.2.spells (sym (c.in-Some.ensures.held q.1 q.2.spells)))

pub shown_before-requires-clause-head : goal.shown_before-requires-clause-head
shown_before-requires-clause-head c =
    let q = c.requires.state in
    subst (λ (x : Contents). IsSome (place_of c.in-Some.head.0 x.basis.graph)) (sym c.state.view_is)
    (head-placed q.1 c.args.state.now c.args.subject.now.refname c.in-Some.head.0 q.2.spells (sym (c.in-Some.ensures.held q.1 q.2.spells)))

pub returns-in-Err-clause-report : goal.returns-in-Err-clause-report
returns-in-Err-clause-report c = λ items h w.
    let v : Contents = the_view c.state.inside in
    let f = shape c.args.subject.now.filter in
    let r : Bytes = c.args.subject.now.refname in
    let n : Bytes = c.in-Some.head.0 in
    let e : find bytes_cmp r h.refs ≡ Some n = sym (c.in-Some.ensures.held h w.spells) in
    subst (λ (x : Contents). IsReport x.basis.store (at_head r h (seen_hand h f)) (at_head r h (log_output h f)) (Err c.apply_outcome.result)) c.state.view_is
    (subst (λ (o : Outcome). IsReport v.basis.store (at_head r h (seen_hand h f)) (at_head r h (log_output h f)) (Err o)) (sym c.apply_outcome.ensures)
    (head-unshown items h v f n (subst (IsStateOf items h) (sym c.state.view_is) w) (log_output h f) r e (IsSeenObject f v.basis n) (λ o m. m) c.shown_before.new.ground.store c.in-Err.ensures.same.store c.in-Err.error c.in-Err.ensures.err))

pub returns-clause-report : goal.returns-clause-report
returns-clause-report c = λ items h w.
    let v : Contents = the_view c.state.inside in
    let f = shape c.args.subject.now.filter in
    let r : Bytes = c.args.subject.now.refname in
    let n : Bytes = c.in-Some.head.0 in
    head-told items h v f n (subst (IsStateOf items h) (sym c.state.view_is) w) (log_output h f) r (sym (c.in-Some.ensures.held h w.spells)) c.of.result
    (c.of.ensures ∙ c.in-Ok-log_lines.ensures ∙ (λ i. lines (c.deref-2.ensures.value i) (c.deref-3.ensures.value i))
    ∙ logged items h v f n (subst (IsStateOf items h) (sym c.state.view_is) w) c.in-Ok.commits.items c.in-Ok-shown_before.shown.items c.in-Ok.ensures
    (c.in-Ok-shown_before.ensures.ok ∙ ap (map (λ (m : Name). before.shown_before f v.basis n m.0)) c.deref.ensures.value))
