-- Proves what src/trying.rt needs of `trial_report`.
use Rattle.std.proofs.Common.{◌++◌, ◌∷◌, ◌∙◌, [], Err, Ok, sym, ap, subst}
use Rattle.std.specs.Prelude.{codes, decimal}
use Rattle.git_objects.specs.Paths.{Bytes}
use Rattle.repo_ground.specs.Contents.{Contents}
use Rattle.repo_ground.specs.contracts.state.State.{the_view}
use Rattle.proj_words.specs.TrialTexts.{TrialPush, first_push, second_push, third_push}
use Rattle.proj_words.specs.declared.outcome.Outcome.{Outcome}
use Rattle.proj_words.specs.declared.outcome.Outcome.TheVariants.{OutOfMemory}
use Rattle.proj_commands.specs.Makes.{IsStateOf}
use Rattle.proj_cli.specs.Trials.{report_hands, report_of}
use Rattle.proj_cli.specs.Trying.{IsEnded, IsToldOf}
use Rattle.proj_commands.proofs.NamesGiven.{passed-whole}
use Rattle.proj_cli.proofs.TrialParts.{commits-counted}
use Rattle.proj_cli.proofs.TrialPushes.{main-named}
use Rattle.proj_cli.proofs.TrialReports.{first-told, line-named, none-told, report-told, second-told, with_first, with_second}
use Rattle.proj_cli.proofs.trying.trial_report.Goals as goal

pub ref_name-requires : goal.ref_name-requires
ref_name-requires c = main-named

pub returns-in_err-refname : goal.returns-in_err-refname
returns-in_err-refname c = λ items h hands w.
    let ks = hands ++ report_hands items in
    passed-whole Bytes c.from_residual.result c.in_err-refname.field-0.0 c.from_residual.ensures.1 (IsToldOf ks (report_of items))
    (subst (λ (e : Outcome). IsEnded ks (report_of items) e) (sym c.in_err-refname.ensures.err) tt)

pub returns-in_err-add_line : goal.returns-in_err-add_line
returns-in_err-add_line c = λ items h hands w.
    let ks = hands ++ report_hands items in
    passed-whole Bytes c.from_residual-in_err-add_line.result OutOfMemory c.from_residual-in_err-add_line.ensures.1 (IsToldOf ks (report_of items)) tt

pub returns-in_err-add_history_line : goal.returns-in_err-add_history_line
returns-in_err-add_history_line c = λ items h hands w.
    let ks = hands ++ report_hands items in
    let e = c.in_err-add_history_line.field-0.0 in
    let named = c.in_ok-refname.ensures.ok in
    let one =
    line-named items h hands c.in_ok-refname.refname c.first_push-first.result.filter.now first_push.filter c.add_line.new.report.items c.add_history_line.new.report.items c.add_history_line.new.state (Err e) named
    (ap (λ (p : TrialPush). p.filter) c.first_push-first.ensures) (c.in_err-add_history_line.ensures items h hands w)
    in
    passed-whole Bytes c.from_residual-in_err-add_history_line.result e c.from_residual-in_err-add_history_line.ensures.1 (IsToldOf ks (report_of items)) (none-told items h hands w.state.current.read e one)

pub add_history_line-requires-2 : goal.add_history_line-requires-2
add_history_line-requires-2 c =
    let q = c.requires in
    let one = c.in_ok-add_history_line.ensures q.0 q.1 q.2 q.3 in
    (q.0, q.1, _, one.3)

pub returns-in_err-add_history_line-2 : goal.returns-in_err-add_history_line-2
returns-in_err-add_history_line-2 c = λ items h hands w.
    let ks = hands ++ report_hands items in
    let e = c.in_err-add_history_line-2.field-0.0 in
    let named = c.in_ok-refname.ensures.ok in
    let read = w.state.current.read in
    let one =
    line-named items h hands c.in_ok-refname.refname c.first_push-first.result.filter.now first_push.filter c.add_line.new.report.items c.add_history_line.new.report.items c.add_history_line.new.state (Ok tt) named
    (ap (λ (p : TrialPush). p.filter) c.first_push-first.ensures) (c.in_ok-add_history_line.ensures items h hands w)
    in
    let two =
    line-named items h (with_first items h hands read) c.in_ok-refname.refname c.second_push-second.result.filter.now second_push.filter c.add_history_line.new.report.items c.add_history_line-2.new.report.items
    c.add_history_line-2.new.state (Err e) named (ap (λ (p : TrialPush). p.filter) c.second_push-second.ensures) (c.in_err-add_history_line-2.ensures items h (with_first items h hands read) one.3)
    in
    passed-whole Bytes c.from_residual-in_err-add_history_line-2.result e c.from_residual-in_err-add_history_line-2.ensures.1 (IsToldOf ks (report_of items)) (first-told items h hands read one.0 one.1 e two)

pub add_history_line-requires-3 : goal.add_history_line-requires-3
add_history_line-requires-3 c =
    let q = c.requires in
    let one = c.in_ok-add_history_line.ensures q.0 q.1 q.2 q.3 in
    let two = c.in_ok-add_history_line-2.ensures q.0 q.1 _ one.3 in
    (q.0, q.1, _, two.3)

pub returns-in_err-add_history_line-3 : goal.returns-in_err-add_history_line-3
returns-in_err-add_history_line-3 c = λ items h hands w.
    let ks = hands ++ report_hands items in
    let e = c.in_err-add_history_line-3.field-0.0 in
    let named = c.in_ok-refname.ensures.ok in
    let read = w.state.current.read in
    let one =
    line-named items h hands c.in_ok-refname.refname c.first_push-first.result.filter.now first_push.filter c.add_line.new.report.items c.add_history_line.new.report.items c.add_history_line.new.state (Ok tt) named
    (ap (λ (p : TrialPush). p.filter) c.first_push-first.ensures) (c.in_ok-add_history_line.ensures items h hands w)
    in
    let two =
    line-named items h (with_first items h hands read) c.in_ok-refname.refname c.second_push-second.result.filter.now second_push.filter c.add_history_line.new.report.items c.add_history_line-2.new.report.items
    c.add_history_line-2.new.state (Ok tt) named (ap (λ (p : TrialPush). p.filter) c.second_push-second.ensures) (c.in_ok-add_history_line-2.ensures items h (with_first items h hands read) one.3)
    in
    let three =
    line-named items h (with_second items h hands read) c.in_ok-refname.refname c.third_push-third.result.filter.now third_push.filter c.add_history_line-2.new.report.items c.add_history_line-3.new.report.items
    c.add_history_line-3.new.state (Err e) named (ap (λ (p : TrialPush). p.filter) c.third_push-third.ensures) (c.in_err-add_history_line-3.ensures items h (with_second items h hands read) two.3)
    in
    passed-whole Bytes c.from_residual-in_err-add_history_line-3.result e c.from_residual-in_err-add_history_line-3.ensures.1 (IsToldOf ks (report_of items))
    (second-told items h hands read one.0 one.1 two.0 two.1 e three)

pub returns : goal.returns
returns c = λ items h hands w.
    let v : Contents = the_view c.state.inside in
    let named = c.in_ok-refname.ensures.ok in
    let read = w.state.current.read in
    let one =
    line-named items h hands c.in_ok-refname.refname c.first_push-first.result.filter.now first_push.filter c.add_line.new.report.items c.add_history_line.new.report.items c.add_history_line.new.state (Ok tt) named
    (ap (λ (p : TrialPush). p.filter) c.first_push-first.ensures) (c.in_ok-add_history_line.ensures items h hands w)
    in
    let two =
    line-named items h (with_first items h hands read) c.in_ok-refname.refname c.second_push-second.result.filter.now second_push.filter c.add_history_line.new.report.items c.add_history_line-2.new.report.items
    c.add_history_line-2.new.state (Ok tt) named (ap (λ (p : TrialPush). p.filter) c.second_push-second.ensures) (c.in_ok-add_history_line-2.ensures items h (with_first items h hands read) one.3)
    in
    let three =
    line-named items h (with_second items h hands read) c.in_ok-refname.refname c.third_push-third.result.filter.now third_push.filter c.add_history_line-2.new.report.items c.add_history_line-3.new.report.items
    c.add_history_line-3.new.state (Ok tt) named (ap (λ (p : TrialPush). p.filter) c.third_push-third.ensures) (c.in_ok-add_history_line-3.ensures items h (with_second items h hands read) two.3)
    in
    let begun = c.in_ok-add_line.ensures ∙ ap (λ (t : Bytes). t ++ codes "commits" ++ 32 ∷ (decimal c.len.result ++ 10 ∷ [])) c.new-report.ensures.items in
    report-told items h read one.0 one.1 two.0 two.1 three.0 c.of.result c.len.result three.1
    (c.len.ensures.len ∙ commits-counted items h v (subst (IsStateOf items h) (sym c.state.view_is) w.state))
    (c.of.ensures ∙ three.2 ∙ ap (λ (t : Bytes). t ++ three.0) (two.2 ∙ ap (λ (t : Bytes). t ++ two.0) (one.2 ∙ ap (λ (t : Bytes). t ++ one.0) begun)))
