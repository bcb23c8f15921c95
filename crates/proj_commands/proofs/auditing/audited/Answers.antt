-- Proves what src/auditing.rt needs of `audited`.
use Rattle.std.proofs.Common.{Ok, ◌∙◌, sym, subst}
use Rattle.filter_text.specs.Shapes.{shape}
use Rattle.state_items.specs.Changes.{NoPlan}
use Rattle.repo_ground.specs.Contents.{Contents}
use Rattle.repo_ground.specs.contracts.state.State.{the_view}
use Rattle.proj_commands.specs.Cases.{query_case}
use Rattle.proj_commands.specs.Makes.{IsMadeOf, IsStateOf}
use Rattle.proj_commands.specs.Queries.{AuditOf}
use Rattle.proj_commands.proofs.Audits.{whole}
use Rattle.proj_commands.proofs.Heads.{head-stored}
use Rattle.proj_commands.proofs.auditing.audited.Goals as goal

pub audit_text-requires-clause-commit : goal.audit_text-requires-clause-commit
audit_text-requires-clause-commit c =
    let q = c.requires.state in
    let w = subst (IsStateOf q.0 q.1) (sym c.state.view_is) q.2 in
    head-stored q.0 q.1 (the_view c.state.inside) c.args.subject.now.refname c.in-Some.head.0 w (sym (c.in-Some.ensures.held q.1 q.2.spells))

pub returns-clause-made : goal.returns-clause-made
returns-clause-made c = λ items h store w.
    let v : Contents = the_view c.state.inside in
    let f = shape c.args.subject.now.filter in
    let q = c.args.path.now in
    let r = c.args.subject.now.refname in
    let s = subst (IsStateOf items h) (sym c.state.view_is) w in
    subst (λ (x : Contents). IsMadeOf (query_case h (AuditOf f r q)) items h x x store store NoPlan (Ok c.of.result)) c.state.view_is
    (whole items h v f r q s c.in-Some.head.0 (sym (c.in-Some.ensures.held h w.spells)) c.store_law.ensures c.grown_law.ensures c.requires.usable c.path_law.ensures.path c.of.result (c.of.ensures ∙ c.in_ok-text.ensures) store)
