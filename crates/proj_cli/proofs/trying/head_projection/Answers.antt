-- Proves what src/trying.rt needs of `head_projection`.
use Rattle.std.proofs.Common.{◌++◌, sym, subst}
use Rattle.git_objects.specs.Paths.{Bytes}
use Rattle.filter_text.specs.Shapes.{shape}
use Rattle.repo_ground.specs.Contents.{Contents}
use Rattle.repo_ground.specs.contracts.state.State.{the_view}
use Rattle.proj_words.specs.declared.outcome.Outcome.{Outcome}
use Rattle.proj_commands.specs.Push.{push_case}
use Rattle.proj_commands.specs.declared.lines.Telling.TheVariants.{Both}
use Rattle.proj_commands.specs.Makes.{hands_of}
use Rattle.proj_cli.specs.Trying.{IsEnded, IsTried, from_of}
use Rattle.proj_commands.proofs.StatesShown.{head-placed}
use Rattle.proj_cli.proofs.TrialParts.{head-seen, head-unseen, no-head}
use Rattle.proj_cli.proofs.trying.head_projection.Goals as goal
use Rattle.proj_commands.specs.declared.pushing.Manner.TheVariants.{InLine}

pub returns-in_default : goal.returns-in_default
returns-in_default c = λ items h hands all w.
    let f = shape c.args.filter.now in
    no-head (hands ++ hands_of (push_case InLine Both h f c.args.refname.now all)) h f c.args.refname.now (sym (c.in_default.ensures.held h w.state.spells))

pub seen_head-requires-clause-ground : goal.seen_head-requires-clause-ground
seen_head-requires-clause-ground c =
    let q = c.requires.state in
    let w = subst (IsTried q.0 q.1 q.2) (sym c.state.view_is) q.3 in
    w.state.ground

pub seen_head-requires-clause-head : goal.seen_head-requires-clause-head
seen_head-requires-clause-head c =
    let q = c.requires.state in
    let w = subst (IsTried q.0 q.1 q.2) (sym c.state.view_is) q.3 in
    head-placed q.1 (the_view c.state.inside) c.args.refname.now c.in-Some.head.0 w.state.spells (sym (c.in-Some.ensures.held q.1 q.3.state.spells))

pub returns-in-Err : goal.returns-in-Err
returns-in-Err c = λ items h hands all w.
    let v : Contents = the_view c.state.inside in
    let f = shape c.args.filter.now in
    let n : Bytes = c.in-Some.head.0 in
    let s = subst (IsTried items h hands) (sym c.state.view_is) w in
    subst (λ (o : Outcome). IsEnded (hands ++ hands_of (push_case InLine Both h f c.args.refname.now all)) (from_of h f c.args.refname.now) o) (sym c.apply_outcome.ensures)
    (head-unseen items h hands v f c.args.refname.now n all s (sym (c.in-Some.ensures.held h w.state.spells)) c.seen_head.new.ground c.in-Err.ensures.same c.in-Err.error c.in-Err.ensures.err)

pub returns : goal.returns
returns c = λ items h hands all w.
    let v : Contents = the_view c.state.inside in
    let f = shape c.args.filter.now in
    let n : Bytes = c.in-Some.head.0 in
    let s = subst (IsTried items h hands) (sym c.state.view_is) w in
    head-seen items h hands v f c.args.refname.now n all s (sym (c.in-Some.ensures.held h w.state.spells)) c.seen_head.new.ground c.in-Ok.ensures.same c.in-Ok.seen c.in-Ok.ensures.ok c.in-Ok.ensures.map
