-- Proves what src/pushing.rt needs of `planned_merging`.
use Rattle.std.proofs.Common.{List, [], Ok, Err, sym, subst}
use Rattle.git_objects.specs.Paths.{Bytes}
use Rattle.filter_text.specs.Filters.{Filter}
use Rattle.filter_text.specs.Shapes.{shape}
use Rattle.state_items.specs.Items.{Held}
use Rattle.repo_ground.specs.Contents.{Contents}
use Rattle.repo_ground.specs.contracts.state.State.{the_view}
use Rattle.proj_commands.specs.Makes.{IsStateOf}
use Rattle.proj_commands.specs.Pushing.{IsPlannedUpon}
use Rattle.proj_commands.specs.declared.pushing.Manner.TheVariants.{Merging}
use Rattle.proj_commands.proofs.PushPlans.{merges-take, merges-err, merges-ok}
use Rattle.proj_commands.proofs.StateBases.{same-bytes}
use Rattle.proj_commands.proofs.pushing.planned_merging.Goals.{in-Ok, in-Err}
use Rattle.proj_commands.proofs.pushing.planned_merging.Goals as goal

pub returns-clause-planned : goal.returns-clause-planned
returns-clause-planned g c = λ items h st.
    let v : Contents = the_view c.state.inside in
    let f : Filter = shape c.args.filter.now in
    let refname : Bytes = c.args.refname.now in
    let n : Bytes = c.args.head.now.0 in
    let w = subst (IsStateOf items h) (sym c.state.view_is) st in
    let ground = c.plan_merges.new.ground in
    let result = c.match-plan_merges.result in
    elim c.match-plan_merges.branch [
      | in-Ok k ↦
          let t = k.in-Ok.ensures.planned in (
            t.0,
            t.1,
            same-bytes (g.S.Source.left c.args.input.now) t.0 t.2,
            subst (λ (x : Contents). IsPlannedUpon Merging items h f refname n t.0 x (record v { basis = ground }) result) c.state.view_is
                (merges-ok items h v f refname n t.0 w ground k.in-Ok.plan result k.result-is t.3),
          )
      | in-Err k ↦
          let t = k.in-Err.ensures.planned in (
            t.0,
            t.1,
            same-bytes (g.S.Source.left c.args.input.now) t.0 t.2,
            subst (λ (x : Contents). IsPlannedUpon Merging items h f refname n t.0 x (record v { basis = ground }) result) c.state.view_is
                (merges-err items h v f refname n t.0 w ground k.in-Err.fault k.merge_outcome.result result k.result-is k.merge_outcome.ensures t.3),
          )
    ]

pub returns-clause-taken : goal.returns-clause-taken
returns-clause-taken g c = λ (items : List Bytes) (h : Held) st.
    let v : Contents = the_view c.state.inside in
    let f : Filter = shape c.args.filter.now in
    let w = subst (IsStateOf items h) (sym c.state.view_is) st in
    elim c.match-plan_merges.branch [
      | in-Ok k ↦ merges-take items h v f c.args.refname.now c.args.head.now.0 [] w (g.S.Source.left c.args.input.now) (g.S.Source.left c.plan_merges.new.input) (Ok k.in-Ok.plan) k.in-Ok.ensures.taken
      | in-Err k ↦ merges-take items h v f c.args.refname.now c.args.head.now.0 [] w (g.S.Source.left c.args.input.now) (g.S.Source.left c.plan_merges.new.input) (Err k.in-Err.fault) k.in-Err.ensures.taken
    ]
