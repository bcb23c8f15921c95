-- Proves what src/projecting.rt needs of `project_upon`.
use Rattle.std.proofs.Common.{List, ap, ◌∙◌}
use Rattle.filter_text.specs.Shapes.{shape}
use Rattle.git_objects.specs.Paths.{Bytes}
use Rattle.proj_io.specs.Views.{keeper_view}
use Rattle.repo_ground.specs.Contents.{Contents}
use Rattle.state_items.specs.Items.{Held}
use Rattle.proj_commands.specs.Project.{project_case}
use Rattle.proj_commands.proofs.CommandsMade.{away-made, away-state, away-stops}
use Rattle.proj_commands.proofs.projecting.project_upon.Goals as goal

pub project-requires-clause-open : goal.project-requires-clause-open
project-requires-clause-open g c = (c.requires.open.0, ap (λ (s : Contents). s.number) c.put_away.ensures.same ∙ c.requires.open.1)

pub project-requires-clause-state : goal.project-requires-clause-state
project-requires-clause-state g c =
    let q = c.requires.state in
    (q.0, q.1, away-state c.args.state.now c.put_away.new.self c.put_away.ensures q.0 q.1 q.2)

pub project-requires-clause-fresh : goal.project-requires-clause-fresh
project-requires-clause-fresh g c = c.put_away.ensures.none

pub returns-clause-made : goal.returns-clause-made
returns-clause-made g c = λ (items : List Bytes) (h : Held) w.
    let seen = keeper_view g.K.Keeper.items g.K.Keeper.number g.K.Keeper.faults in
    let at = g.K.Keeper.moment in
    let since = g.K.Keeper.left_since in
    let before = c.args.store.now in
    let now = c.project.new.store in
    let s : Contents = c.args.state.now in
    let s1 : Contents = c.put_away.new.self in
    let s2 : Contents = c.project.new.state in
    let away = c.put_away.ensures in
    let x = c.args.subject.now in
    let m = c.project.ensures.made items h (away-state s s1 away items h w) in (
      m.0,
      away-made s s1 away (project_case h (shape x.filter) x.refname) items h s2 (seen before) (seen now) m.0 c.project.result m.1,
      away-stops s s1 away h m.0 (g.K.Keeper.items before) (at before) (at now) (since before) (since now) m.2,
    )
