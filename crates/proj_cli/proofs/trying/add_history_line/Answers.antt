-- Proves what src/trying.rt needs of `add_history_line`.
use Rattle.std.proofs.Common.{◌++◌, ◌∷◌, ◌∙◌, ℕ, [], length, append_assoc, sym, ap, subst}
use Rattle.std.specs.Prelude.{decimal}
use Rattle.git_objects.specs.Paths.{Bytes}
use Rattle.filter_text.specs.Printing.{printed}
use Rattle.filter_text.specs.Shapes.{shape}
use Rattle.repo_ground.specs.Contents.{Contents}
use Rattle.repo_ground.specs.contracts.state.State.{the_view}
use Rattle.proj_words.specs.Words.{Export}
use Rattle.proj_words.specs.declared.outcome.Outcome.{Outcome}
use Rattle.proj_words.specs.declared.outcome.Outcome.TheVariants.{OutOfMemory}
use Rattle.proj_commands.specs.Steps.{case}
use Rattle.proj_commands.specs.Cases.{loaded}
use Rattle.proj_commands.specs.Makes.{hands_of}
use Rattle.proj_cli.specs.Trying.{IsEnded, IsLine, IsTried, line_of}
use Rattle.proj_commands.proofs.NamesGiven.{passed-whole}
use Rattle.proj_commands.proofs.StatesShown.{head-placed}
use Rattle.proj_cli.proofs.TrialParts.{line-ended, line-is, line-tried, line-unsound, no-line}
use Rattle.proj_cli.proofs.trying.add_history_line.Goals as goal

pub returns-in_default : goal.returns-in_default
returns-in_default c = λ items h hands w.
    let ks = hands ++ hands_of (case (Export c.args.refname.now c.args.filter.now) (loaded items) []) in
    no-line ks h c.args.refname.now c.args.filter.now (sym (c.in_default.ensures.held h w.state.spells))

pub returns-in_err-filter : goal.returns-in_err-filter
returns-in_err-filter c = λ items h hands w.
    let t = c.args.filter.now in
    let r = c.args.refname.now in
    let ks = hands ++ hands_of (case (Export r t) (loaded items) []) in
    passed-whole (Unit {0}) c.from_residual.result c.in_err-filter.field-0.0 c.from_residual.ensures.1 (IsLine items h ks (line_of h r t) c.args.report.now.items c.args.report.now.items c.args.state.now)
    (line-unsound ks h r t c.in-Some.head.0 c.in_err-filter.field-0.0 (sym (c.in-Some.ensures.held h w.state.spells)) c.in_err-filter.ensures.err)

pub history-requires-clause-ground : goal.history-requires-clause-ground
history-requires-clause-ground c =
    let q = c.requires in
    let w = subst (IsTried q.0 q.1 q.2) (sym c.state.view_is) q.3 in
    w.state.ground

pub history-requires-clause-head : goal.history-requires-clause-head
history-requires-clause-head c =
    let q = c.requires in
    let w = subst (IsTried q.0 q.1 q.2) (sym c.state.view_is) q.3 in
    head-placed q.1 (the_view c.state.inside) c.args.refname.now c.in-Some.head.0 w.state.spells (sym (c.in-Some.ensures.held q.1 q.3.state.spells))

pub returns-in-Err : goal.returns-in-Err
returns-in-Err c = λ items h hands w.
    let v : Contents = the_view c.state.inside in
    let f = shape c.in_ok-filter.filter in
    let n : Bytes = c.in-Some.head.0 in
    let t = c.args.filter.now in
    let r = c.args.refname.now in
    let s = subst (IsTried items h hands) (sym c.state.view_is) w in
    subst (λ (o : Outcome). IsEnded (hands ++ hands_of (case (Export r t) (loaded items) [])) (line_of h r t) o) (sym c.apply_outcome.ensures)
    (line-ended items h hands v f r t n s (sym (c.in-Some.ensures.held h w.state.spells)) c.in_ok-filter.ensures.sound c.history.new.ground c.in-Err.ensures.same c.in-Err.error c.in-Err.ensures.err)

pub returns-in_err-text : goal.returns-in_err-text
returns-in_err-text c = λ items h hands w.
    let t = c.args.filter.now in
    let r = c.args.refname.now in
    let ks = hands ++ hands_of (case (Export r t) (loaded items) []) in
    passed-whole (Unit {0}) c.from_residual-in_err-text.result OutOfMemory c.from_residual-in_err-text.ensures.1 (IsLine items h ks (line_of h r t) c.args.report.now.items c.args.report.now.items _) tt

pub returns-in_err-add_line : goal.returns-in_err-add_line
returns-in_err-add_line c = λ items h hands w.
    let t = c.args.filter.now in
    let r = c.args.refname.now in
    let ks = hands ++ hands_of (case (Export r t) (loaded items) []) in
    passed-whole (Unit {0}) c.from_residual-in_err-add_line.result OutOfMemory c.from_residual-in_err-add_line.ensures.1 (IsLine items h ks (line_of h r t) c.args.report.now.items c.add_line.new.report.items _) tt

pub returns : goal.returns
returns c = λ items h hands w.
    let v : Contents = the_view c.state.inside in
    let f = shape c.in_ok-filter.filter in
    let n : Bytes = c.in-Some.head.0 in
    let t = c.args.filter.now in
    let r = c.args.refname.now in
    let s = subst (IsTried items h hands) (sym c.state.view_is) w in
    let e = sym (c.in-Some.ensures.held h w.state.spells) in
    let j = c.in_ok-filter.ensures.sound in (
      _,
      line-is items h hands v f r t n s e j c.history.new.ground.store c.in-Ok.commits.items c.in-Ok.ensures.ok,
      c.in_ok-add_line.ensures
          ∙ ap (λ (x : Bytes). c.args.report.now.items ++ x ++ 32 ∷ (decimal c.len.result ++ 10 ∷ [])) (c.deref.ensures.value ∙ c.in_ok-text.ensures)
          ∙ ap (λ (k : ℕ). c.args.report.now.items ++ printed f ++ 32 ∷ (decimal k ++ 10 ∷ [])) (c.len.ensures ∙ c.in-Ok.commits.ok.0)
          ∙ append_assoc c.args.report.now.items (printed f) (32 ∷ (decimal (length c.in-Ok.commits.items) ++ 10 ∷ [])),
      line-tried items h hands v f r t n s e j c.history.new.ground c.in-Ok.ensures.same c.in-Ok.ensures.map,
    )
