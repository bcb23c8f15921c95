-- Proves what src/naming.rt needs of `head_line`.
use Rattle.std.proofs.Common.{◌∙◌, Result, Ok, sym, subst}
use Rattle.std.specs.Option.{option_map}
use Rattle.git_objects.specs.Paths.{Bytes}
use Rattle.commit_map.specs.Shown.{shown_value}
use Rattle.fast_import.specs.Replays.{empty_base}
use Rattle.filter_text.specs.Shapes.{shape}
use Rattle.repo_ground.specs.Contents.{Contents}
use Rattle.repo_ground.specs.contracts.state.State.{the_view}
use Rattle.proj_words.specs.declared.outcome.Outcome.{Outcome}
use Rattle.proj_words.specs.declared.outcome.Outcome.TheVariants as outcomes
use Rattle.proj_commands.specs.Cases.{NameCase}
use Rattle.proj_commands.specs.Makes.{IsReportOf}
use Rattle.proj_commands.specs.Refusals.{apply_outcome}
use Rattle.proj_commands.specs.StreamsGiven.{IsGiven}
use Rattle.proj_commands.proofs.NamesGiven.{known-head, line-given, none-quiet, passed-quiet, passed-whole, unknown-told, unshown-told, untold-memory}
use Rattle.proj_commands.proofs.Outcomes.{apply-quiet}
use Rattle.proj_commands.proofs.naming.head_line.Goals as goal
use Rattle.proj_commands.specs.Import.{tagged_ran}

pub returns-in_default-clause-made : goal.returns-in_default-clause-made
returns-in_default-clause-made c = λ all bytes w.
    unknown-told (shape c.args.filter.now) c.args.refname.now all bytes c.args.state.now c.args.heads.now w c.in_default.ensures

pub returns-in_default-clause-early : goal.returns-in_default-clause-early
returns-in_default-clause-early c = (λ q. cc, λ q. cc, λ q. cc)

pub projected-requires-clause-ground : goal.projected-requires-clause-ground
projected-requires-clause-ground c =
    let t = c.requires.given in
    let w = subst (λ (x : Contents). IsGiven t.0 x c.args.heads.now) (sym c.state.view_is) t.2 in
    w.taken.ground

pub projected-requires-clause-head : goal.projected-requires-clause-head
projected-requires-clause-head c =
    let t = c.requires.given in
    let w = subst (λ (x : Contents). IsGiven t.0 x c.args.heads.now) (sym c.state.view_is) t.2 in
    known-head (shape c.args.filter.now) c.args.refname.now t.0 t.1 (the_view c.state.inside) c.args.heads.now w c.in-Some.head.0 c.in-Some.ensures

pub returns-in-Err-clause-made : goal.returns-in-Err-clause-made
returns-in-Err-clause-made c = λ all bytes h.
    let w = subst (λ (x : Contents). IsGiven all x c.args.heads.now) (sym c.state.view_is) h in
    let e = c.in-Err.ensures in
    unshown-told (shape c.args.filter.now) c.args.refname.now all bytes (the_view c.state.inside) c.args.heads.now w c.projected.new.ground.store c.in-Err.error c.apply_outcome.result c.apply_outcome.ensures
    e.same.store e.err

pub returns-in-Err-clause-early : goal.returns-in-Err-clause-early
returns-in-Err-clause-early c = none-quiet _ c.apply_outcome.result (apply_outcome c.in-Err.error) c.apply_outcome.ensures (apply-quiet c.in-Err.error)

pub returns-in_err-line-in-Ok-clause-made : goal.returns-in_err-line-in-Ok-clause-made
returns-in_err-line-in-Ok-clause-made c = λ all bytes w.
    let f = shape c.args.filter.now in
    let n = c.args.refname.now in
    passed-whole Bytes c.from_residual.result outcomes.OutOfMemory c.from_residual.ensures.1 (λ (r : Result Bytes Outcome). IsReportOf (Ok (NameCase f n (tagged_ran empty_base all))) r) (untold-memory all f n)

pub returns-in_err-line-in-Ok-clause-early : goal.returns-in_err-line-in-Ok-clause-early
returns-in_err-line-in-Ok-clause-early c = passed-quiet _ c.from_residual.result outcomes.OutOfMemory c.from_residual.ensures.1 (λ q. cc, λ q. cc, λ q. cc)

pub returns-clause-made : goal.returns-clause-made
returns-clause-made c = λ all bytes h.
    let w = subst (λ (x : Contents). IsGiven all x c.args.heads.now) (sym c.state.view_is) h in
    line-given (shape c.args.filter.now) c.args.refname.now all bytes (the_view c.state.inside) c.args.heads.now w c.in-Some.head.0 c.of.result (option_map shown_value c.in-Ok.shown) c.in-Some.ensures
    c.in-Ok.ensures.ok (c.of.ensures ∙ c.in_ok-line-in-Ok.ensures)

pub returns-clause-early : goal.returns-clause-early
returns-clause-early c = (λ q. cc, λ q. cc, λ q. cc)
