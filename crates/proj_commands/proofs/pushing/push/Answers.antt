-- Proves what src/pushing.rt needs of `push`.
use Rattle.std.proofs.Common.{◌∙◌, None, Err, ap, sym}
use Rattle.std.specs.List.{last_or}
use Rattle.std.proofs.lemmas.Result.{err_from_is_err_and}
use Rattle.filter_text.specs.Filters.{Filter}
use Rattle.filter_text.specs.Shapes.{shape}
use Rattle.proj_io.specs.Views.{KeeperView, keeper_view}
use Rattle.std.proofs.lemmas.Option.{none-some}
use Rattle.proj_words.specs.declared.outcome.Outcome.TheVariants.{ReadFault, StoreFault}
use Rattle.proj_commands.proofs.Outcomes.{commit-read, commit-store, some-input}
use Rattle.proj_commands.proofs.PushPlans.{takes-at}
use Rattle.proj_commands.proofs.Pushes.{commit-done, commit-refused, is-batch, last-at, no-memory, no-ref, none-pushed, unplanned}
use Rattle.proj_commands.proofs.StatesShown.{head-placed}
use Rattle.proj_commands.specs.Refusals.{commit_outcome}
use Rattle.proj_commands.proofs.Uses.{counts-none, err-of, ok-never}
use Rattle.proj_commands.proofs.NamesGiven.{counts-by}
use Rattle.repo_ground.proofs.Cuts.{unused, used-as}
use Rattle.proj_commands.proofs.pushing.push.Goals as goal
use Rattle.fast_import.proofs.Stopping.{within_none}

pub returns-in_default-clause-made : goal.returns-in_default-clause-made
returns-in_default-clause-made g c = λ items h w.
    let before = c.args.store.now in
    let seen : KeeperView = keeper_view g.K.Keeper.items g.K.Keeper.number g.K.Keeper.faults before in
    let f : Filter = shape c.args.filter.now in
    let i = some-input (g.S.Source.left c.args.input.now) in
    let m =
    no-ref c.args.manner c.args.telling items h f c.args.refname.now i.0 c.args.state.now w (sym (c.in_default.ensures.held h w.spells)) seen (g.K.Keeper.moment before) (g.K.Keeper.left_since before)
    in
    (i.0, i.1, m.0, m.1, m.2)

pub planned_upon-requires-clause-head : goal.planned_upon-requires-clause-head
planned_upon-requires-clause-head g c =
    let q = c.requires.state in
    head-placed q.1 c.args.state.now c.args.refname.now c.in-Some.head.0 q.2.spells (sym (c.in-Some.ensures.held q.1 q.2.spells))

pub returns-in_err-plan-clause-made : goal.returns-in_err-plan-clause-made
returns-in_err-plan-clause-made g c = λ items h w.
    let before = c.args.store.now in
    let seen : KeeperView = keeper_view g.K.Keeper.items g.K.Keeper.number g.K.Keeper.faults before in
    let f : Filter = shape c.args.filter.now in
    let t = c.in_err-plan.ensures.planned items h w in
    let p = err_from_is_err_and c.from_residual.result c.from_residual.ensures.1 in
    let no = c.in_err-plan.ensures.early.1 in
    let m =
    unplanned c.args.manner c.args.telling items h f c.args.refname.now c.in-Some.head.0 t.0 t.1 c.args.state.now w c.requires.usable (sym (c.in-Some.ensures.held h w.spells)) c.planned_upon.new.state seen (g.K.Keeper.moment before)
    (g.K.Keeper.left_since before) c.in_err-plan.field-0.0 c.from_residual.result (p.1 ∙ ap Err p.2) t.3 (λ q. no (ap Err q))
    in
    (t.0, t.2, m.0, m.1, m.2)

pub returns-in_default-copied-clause-made : goal.returns-in_default-copied-clause-made
returns-in_default-copied-clause-made g c = λ items h w.
    let before = c.args.store.now in
    let seen : KeeperView = keeper_view g.K.Keeper.items g.K.Keeper.number g.K.Keeper.faults before in
    let f : Filter = shape c.args.filter.now in
    let t = c.in_ok-plan.ensures.planned items h w in
    let last = sym (c.in_default-copied.ensures ∙ c.last.ensures.value ∙ last-at c.deref.result.now ∙ ap (last_or None) c.deref.ensures.value) in
    let m =
    none-pushed c.args.manner c.args.telling items h f c.args.refname.now c.in-Some.head.0 t.0 t.1 c.args.state.now w c.requires.usable (sym (c.in-Some.ensures.held h w.spells)) c.planned_upon.new.state c.in_ok-plan.plan t.3 last seen
    (g.K.Keeper.moment before) (g.K.Keeper.left_since before) c.of.result (c.of.ensures ∙ c.new.ensures.items)
    in
    (t.0, t.2, m.0, m.1, m.2)

pub returns-in_default-push_prepared-clause-made : goal.returns-in_default-push_prepared-clause-made
returns-in_default-push_prepared-clause-made g c = λ items h w.
    let before = c.args.store.now in
    let seen : KeeperView = keeper_view g.K.Keeper.items g.K.Keeper.number g.K.Keeper.faults before in
    let f : Filter = shape c.args.filter.now in
    let t = c.in_ok-plan.ensures.planned items h w in
    let m =
    no-memory c.args.manner c.args.telling items h f c.args.refname.now c.in-Some.head.0 t.0 t.1 c.args.state.now w c.requires.usable (sym (c.in-Some.ensures.held h w.spells)) c.planned_upon.new.state seen (g.K.Keeper.moment before)
    (g.K.Keeper.left_since before) c.in_ok-plan.plan t.3
    in
    (t.0, t.2, m.0, m.1, m.2)

pub commit-requires-clause-batch : goal.commit-requires-clause-batch
commit-requires-clause-batch g c =
    let q = c.requires.state in
    let f : Filter = shape c.args.filter.now in
    let t = c.in_ok-plan.ensures.planned q.0 q.1 q.2 in
    let last = sym (c.in-Some-copied.ensures ∙ c.last.ensures.value ∙ last-at c.deref.result.now ∙ ap (last_or None) c.deref.ensures.value) in
    is-batch c.args.manner c.args.telling q.0 q.1 f c.args.refname.now c.in-Some.head.0 t.0 t.1 c.args.state.now q.2 c.requires.usable (sym (c.in-Some.ensures.held q.1 q.2.spells)) c.planned_upon.new.state c.in_ok-plan.plan t.3
    c.in-Ok.report c.in-Ok.batch c.in-Some-copied.last c.in-Ok.ensures last

pub returns-in-Ok-commit-clause-made : goal.returns-in-Ok-commit-clause-made
returns-in-Ok-commit-clause-made g c = λ items h w.
    let before = c.args.store.now in
    let now = c.commit.new.keeper in
    let f : Filter = shape c.args.filter.now in
    let t = c.in_ok-plan.ensures.planned items h w in
    let last = sym (c.in-Some-copied.ensures ∙ c.last.ensures.value ∙ last-at c.deref.result.now ∙ ap (last_or None) c.deref.ensures.value) in
    let e = c.in-Ok-commit.ensures in
    let m =
    commit-done c.args.manner c.args.telling items h f c.args.refname.now c.in-Some.head.0 t.0 t.1 c.args.state.now w c.requires.usable (sym (c.in-Some.ensures.held h w.spells)) c.planned_upon.new.state c.in_ok-plan.plan t.3
    c.in-Ok.report c.in-Ok.batch c.in-Some-copied.last c.in-Ok.ensures last c.commit.new.self
    (keeper_view g.K.Keeper.items g.K.Keeper.number g.K.Keeper.faults before) (keeper_view g.K.Keeper.items g.K.Keeper.number g.K.Keeper.faults now) (g.K.Keeper.moment before)
    (g.K.Keeper.moment now) (g.K.Keeper.left_since before) (g.K.Keeper.left_since now) (e.stops.0 h) tt (e.state h) (e.items h)
    in
    (t.0, t.2, m.0, m.1, m.2)

pub returns-in-Err-clause-made : goal.returns-in-Err-clause-made
returns-in-Err-clause-made g c = λ items h w.
    let before = c.args.store.now in
    let now = c.commit.new.keeper in
    let f : Filter = shape c.args.filter.now in
    let t = c.in_ok-plan.ensures.planned items h w in
    let last = sym (c.in-Some-copied.ensures ∙ c.last.ensures.value ∙ last-at c.deref.result.now ∙ ap (last_or None) c.deref.ensures.value) in
    let e = c.in-Err.ensures in
    let m =
    commit-refused c.args.manner c.args.telling items h f c.args.refname.now c.in-Some.head.0 t.0 t.1 c.args.state.now w c.requires.usable (sym (c.in-Some.ensures.held h w.spells)) c.planned_upon.new.state c.in_ok-plan.plan t.3
    c.in-Ok.report c.in-Ok.batch c.in-Some-copied.last c.in-Ok.ensures last c.commit.new.self
    (keeper_view g.K.Keeper.items g.K.Keeper.number g.K.Keeper.faults before) (keeper_view g.K.Keeper.items g.K.Keeper.number g.K.Keeper.faults now) (g.K.Keeper.moment before)
    (g.K.Keeper.moment now) (g.K.Keeper.left_since before) (g.K.Keeper.left_since now) (e.stops.0 h) c.in-Err.error c.commit_outcome.result c.commit_outcome.ensures (e.state h) e.store (e.items h)
    e.stops.1
    in
    (t.0, t.2, m.0, m.1, m.2)

-- ---- how much is read

pub returns-in_default-clause-taken : goal.returns-in_default-clause-taken
returns-in_default-clause-taken g c = λ items h n w is. absurd (none-some n (c.in_default.ensures.held h w.spells ∙ is))

pub returns-in_err-plan-clause-taken : goal.returns-in_err-plan-clause-taken
returns-in_err-plan-clause-taken g c = λ items h n w is. takes-at c.args.manner h (shape c.args.filter.now) c.args.refname.now c.in-Some.head.0 n (c.in-Some.ensures.held h w.spells) is _ _ (c.in_err-plan.ensures.taken items h w)

pub returns-in_default-copied-clause-taken : goal.returns-in_default-copied-clause-taken
returns-in_default-copied-clause-taken g c = λ items h n w is. takes-at c.args.manner h (shape c.args.filter.now) c.args.refname.now c.in-Some.head.0 n (c.in-Some.ensures.held h w.spells) is _ _ (c.in_ok-plan.ensures.taken items h w)

pub returns-in_default-push_prepared-clause-taken : goal.returns-in_default-push_prepared-clause-taken
returns-in_default-push_prepared-clause-taken g c = λ items h n w is. takes-at c.args.manner h (shape c.args.filter.now) c.args.refname.now c.in-Some.head.0 n (c.in-Some.ensures.held h w.spells) is _ _ (c.in_ok-plan.ensures.taken items h w)

pub returns-in-Ok-commit-clause-taken : goal.returns-in-Ok-commit-clause-taken
returns-in-Ok-commit-clause-taken g c = λ items h n w is. takes-at c.args.manner h (shape c.args.filter.now) c.args.refname.now c.in-Some.head.0 n (c.in-Some.ensures.held h w.spells) is _ _ (c.in_ok-plan.ensures.taken items h w)

pub returns-in-Err-clause-taken : goal.returns-in-Err-clause-taken
returns-in-Err-clause-taken g c = λ items h n w is. takes-at c.args.manner h (shape c.args.filter.now) c.args.refname.now c.in-Some.head.0 n (c.in-Some.ensures.held h w.spells) is _ _ (c.in_ok-plan.ensures.taken items h w)

-- ---- how much is taken

pub returns-in_default-clause-within : goal.returns-in_default-clause-within
returns-in_default-clause-within g c = within_none (g.S.Source.left c.args.input.now)

-- ---- which faults are answered

pub returns-in_default-clause-read : goal.returns-in_default-clause-read
returns-in_default-clause-read g c = counts-none _ _ (λ q. cc)

pub returns-in_err-plan-clause-read : goal.returns-in_err-plan-clause-read
returns-in_err-plan-clause-read g c =
    let p = err_from_is_err_and c.from_residual.result c.from_residual.ensures.1 in
    counts-by _ _ _ _ c.in_err-plan.ensures.read (λ q. ap Err (sym p.2 ∙ err-of p.0 ReadFault (sym p.1 ∙ q)))

pub returns-in_default-copied-clause-read : goal.returns-in_default-copied-clause-read
returns-in_default-copied-clause-read g c = counts-by _ _ _ _ c.in_ok-plan.ensures.read (λ q. absurd (ok-never _ _ q))

pub returns-in_default-push_prepared-clause-read : goal.returns-in_default-push_prepared-clause-read
returns-in_default-push_prepared-clause-read g c = counts-by _ _ _ _ c.in_ok-plan.ensures.read (λ q. absurd cc)

pub returns-in-Ok-commit-clause-read : goal.returns-in-Ok-commit-clause-read
returns-in-Ok-commit-clause-read g c = counts-by _ _ _ _ c.in_ok-plan.ensures.read (λ q. absurd (ok-never _ _ q))

pub returns-in-Err-clause-read : goal.returns-in-Err-clause-read
returns-in-Err-clause-read g c =
    counts-by _ _ _ _ c.in_ok-plan.ensures.read (λ q. absurd (commit-read c.in-Err.error (sym c.commit_outcome.ensures ∙ err-of _ _ q)))

pub returns-in_default-clause-used : goal.returns-in_default-clause-used
returns-in_default-clause-used g c = unused _ _ _ _ _ c.requires.open.0 (λ q. cc)

pub returns-in_err-plan-clause-used : goal.returns-in_err-plan-clause-used
returns-in_err-plan-clause-used g c =
    let p = err_from_is_err_and c.from_residual.result c.from_residual.ensures.1 in
    unused _ _ _ _ _ c.requires.open.0 (λ q. c.in_err-plan.ensures.early.1 (ap Err (sym p.2 ∙ err-of p.0 StoreFault (sym p.1 ∙ q))))

pub returns-in_default-copied-clause-used : goal.returns-in_default-copied-clause-used
returns-in_default-copied-clause-used g c = unused _ _ _ _ _ c.requires.open.0 (ok-never _ _)

pub returns-in_default-push_prepared-clause-used : goal.returns-in_default-push_prepared-clause-used
returns-in_default-push_prepared-clause-used g c = unused _ _ _ _ _ c.requires.open.0 (λ q. cc)

pub returns-in-Ok-commit-clause-used : goal.returns-in-Ok-commit-clause-used
returns-in-Ok-commit-clause-used g c = used-as _ _ _ _ _ _ _ (λ f. absurd (ok-never _ _ f)) (λ q. absurd (ok-never _ _ q)) c.in-Ok-commit.ensures.used

pub returns-in-Err-clause-used : goal.returns-in-Err-clause-used
returns-in-Err-clause-used g c =
    let o = c.commit_outcome.ensures in
    used-as _ _ _ _ _ _ _ (λ f. ap Err (o ∙ ap commit_outcome (err-of _ _ f))) (λ q. ap Err (commit-store c.in-Err.error (sym o ∙ err-of _ _ q))) c.in-Err.ensures.used
