-- Proves what src/checking.rt needs of `check`.
use Rattle.std.proofs.Common.{◌≡◌, inl, IsSome, Some, Err, sym, subst, ◌∙◌}
use Rattle.std.specs.FinMap.{find}
use Rattle.commit_graph.specs.Graphs.{place_of}
use Rattle.filter_text.specs.Shapes.{shape}
use Rattle.git_objects.specs.Paths.{Bytes}
use Rattle.git_objects.specs.Refs.{bytes_cmp}
use Rattle.proj_words.specs.declared.outcome.Outcome.{Outcome}
use Rattle.projection_ground.specs.Grounds.{IsShownOf, commits_of}
use Rattle.repo_ground.specs.Contents.{Contents}
use Rattle.repo_ground.specs.contracts.state.State.{the_view}
use Rattle.proj_commands.specs.Hands.{seen_hand}
use Rattle.proj_commands.specs.Makes.{IsStateOf}
use Rattle.proj_commands.proofs.StatesShown.{head-placed}
use Rattle.read_cli.specs.Looks.{at_head, IsReport}
use Rattle.read_cli.specs.Outputs.{check_output}
use Rattle.read_cli.proofs.Checked.{checked-held}
use Rattle.read_cli.proofs.HeadReports.{head-told, head-unshown}
use Rattle.read_cli.proofs.checking.check.Goals as goal

pub checked-requires-clause-head : goal.checked-requires-clause-head
checked-requires-clause-head c =
    let q = c.requires.state in
    subst (λ (x : Contents). IsSome (place_of c.in-Some.head.0 x.basis.graph)) (sym c.state.view_is)
    (head-placed q.1 c.args.state.now c.args.subject.now.refname c.in-Some.head.0 q.2.spells (sym (c.in-Some.ensures.held q.1 q.2.spells)))

pub returns-in-Err-clause-report : goal.returns-in-Err-clause-report
returns-in-Err-clause-report c = λ items h w.
    let v : Contents = the_view c.state.inside in
    let f = shape c.args.subject.now.filter in
    let r : Bytes = c.args.subject.now.refname in
    let n : Bytes = c.in-Some.head.0 in
    let e : find bytes_cmp r h.refs ≡ Some n = sym (c.in-Some.ensures.held h w.spells) in
    subst (λ (x : Contents). IsReport x.basis.store (at_head r h (seen_hand h f)) (at_head r h (check_output h f)) (Err c.apply_outcome.result)) c.state.view_is
    (subst (λ (o : Outcome). IsReport v.basis.store (at_head r h (seen_hand h f)) (at_head r h (check_output h f)) (Err o)) (sym c.apply_outcome.ensures)
    (head-unshown items h v f n (subst (IsStateOf items h) (sym c.state.view_is) w) (check_output h f) r e (IsShownOf f (commits_of v.basis)) (λ o m. inl (inl m)) c.checked.new.ground.store c.in-Err.ensures.same.store
    c.in-Err.error c.in-Err.ensures.err))

pub returns-clause-report : goal.returns-clause-report
returns-clause-report c = λ items h w.
    let v : Contents = the_view c.state.inside in
    let f = shape c.args.subject.now.filter in
    let r : Bytes = c.args.subject.now.refname in
    let n : Bytes = c.in-Some.head.0 in
    let u = subst (IsStateOf items h) (sym c.state.view_is) w in
    head-told items h v f n u (check_output h f) r (sym (c.in-Some.ensures.held h w.spells)) c.of.result
    (c.of.ensures ∙ c.in-Ok.ensures.ok ∙ checked-held items h v f n u)
