-- Proves what src/projecting.rt needs of `project`.
use Rattle.std.proofs.Common.{Err, Some, ap, sym, subst, ◌∙◌}
use Rattle.git_objects.specs.Paths.{Bytes}
use Rattle.git_objects.specs.declared.name.Name.{Name}
use Rattle.object_store.specs.Growth.{IsGrownBy}
use Rattle.commit_map.specs.Rules.{rule_number}
use Rattle.commit_map.specs.declared.rule.Rule.{Rule}
use Rattle.filter_apply.specs.Faults.{IsApplyFault}
use Rattle.filter_text.specs.Printing.{printed}
use Rattle.filter_text.specs.Shapes.{shape}
use Rattle.projection_ground.specs.Grounds.{IsShownOf, commits_of}
use Rattle.projection_ground.specs.declared.ground.Ground.{Ground}
use Rattle.proj_io.specs.Views.{keeper_view}
use Rattle.state_items.specs.Changes.{NoPlan}
use Rattle.proj_io.specs.declared.keeper.KeepError.{KeepError}
use Rattle.repo_ground.specs.Changes.{Appends, IsStopOf, keep_error_result}
use Rattle.repo_ground.specs.Contents.{Contents}
use Rattle.repo_ground.specs.Keeping.{keep_plan}
use Rattle.repo_ground.specs.Selecting.{IsSelected}
use Rattle.repo_ground.specs.contracts.state.State.{the_view}
use Rattle.proj_words.specs.declared.outcome.Outcome.TheVariants.{Collision}
use Rattle.proj_commands.specs.Project.{project_case}
use Rattle.proj_commands.specs.Makes.{IsMadeOf}
use Rattle.proj_commands.proofs.Keeps.{of-graph, state-projected, state-selected}
use Rattle.proj_commands.proofs.Projects.{adds-kept, adds-none, adds-present, collided, keeps-items, no-memory, projected-now, shown-grown, store-failed}
use Rattle.proj_commands.proofs.StatesShown.{head-placed}
use Rattle.proj_commands.proofs.projecting.project.Goals as goal

pub shown_line-requires-clause-head : goal.shown_line-requires-clause-head
shown_line-requires-clause-head g c =
    let q = c.requires.state in
    let s : Contents = c.args.state.now in
    let v : Contents = the_view c.state.inside in
    let f = shape c.args.filter.now in
    let chosen = subst (IsSelected (printed f) s) (sym c.state.view_is) c.in-Ok.ensures.selected in
    let w = state-selected q.0 q.1 s f q.2 c.requires.fresh v chosen in
    head-placed q.1 v c.args.refname.now c.in-Some.head.0 w.spells (sym (c.in-Some.ensures.held q.1 q.2.spells))

pub returns-in-Err-Collision-clause-made : goal.returns-in-Err-Collision-clause-made
returns-in-Err-Collision-clause-made g c = λ items h w.
    let s : Contents = c.args.state.now in
    let v : Contents = the_view c.state.inside in
    let f = shape c.args.filter.now in
    let seen = keeper_view g.K.Keeper.items g.K.Keeper.number g.K.Keeper.faults c.args.store.now in
    let chosen = subst (IsSelected (printed f) s) (sym c.state.view_is) c.in-Ok.ensures.selected in
    let e = c.in-Err-Collision.ensures in
    let clash = subst (IsApplyFault (IsShownOf f (commits_of v.basis)) c.shown_line.new.ground.store) c.in-Err-Collision.field-0-is e.err in (
      NoPlan,
      subst (λ (k : Name). IsMadeOf (project_case h f c.args.refname.now) items h s (record v { basis = c.shown_line.new.ground }) seen seen NoPlan (Err (Collision k))) (sym c.in-Err-Collision.name-is)
          (collided items h s f c.args.refname.now c.in-Some.head.0 w (sym (c.in-Some.ensures.held h w.spells)) c.requires.fresh v chosen c.shown_line.new.ground e.map e.same seen c.in-Err-Collision.name clash),
      adds-none (g.K.Keeper.moment c.args.store.now) (g.K.Keeper.left_since c.args.store.now) (IsStopOf h s NoPlan (g.K.Keeper.items c.args.store.now)),
    )

pub returns-in-Err-OutOfMemory-clause-made : goal.returns-in-Err-OutOfMemory-clause-made
returns-in-Err-OutOfMemory-clause-made g c = λ items h w.
    let s : Contents = c.args.state.now in
    let v : Contents = the_view c.state.inside in
    let f = shape c.args.filter.now in
    let n : Bytes = c.in-Some.head.0 in
    let found = sym (c.in-Some.ensures.held h w.spells) in
    let seen = keeper_view g.K.Keeper.items g.K.Keeper.number g.K.Keeper.faults c.args.store.now in
    let chosen = subst (IsSelected (printed f) s) (sym c.state.view_is) c.in-Ok.ensures.selected in (
      NoPlan,
      no-memory items h s f c.args.refname.now n w found (record v { basis = c.shown_line.new.ground }) seen seen (keeps-items seen)
          (shown-grown items h s f c.args.refname.now n w found c.requires.fresh v chosen c.shown_line.new.ground.store c.in-Err-OutOfMemory.ensures.same.store),
      adds-none (g.K.Keeper.moment c.args.store.now) (g.K.Keeper.left_since c.args.store.now) (IsStopOf h s NoPlan (g.K.Keeper.items c.args.store.now)),
    )

pub keep-requires-clause-state : goal.keep-requires-clause-state
keep-requires-clause-state g c =
    let q = c.requires.state in
    let s : Contents = c.args.state.now in
    let v : Contents = the_view c.state.inside in
    let f = shape c.args.filter.now in
    let chosen = subst (IsSelected (printed f) s) (sym c.state.view_is) c.in-Ok.ensures.selected in
    let e = c.in-Ok-shown_line.ensures in
    let projected = state-projected q.0 q.1 s f q.2 c.requires.fresh v chosen c.in-Some.head.0 c.shown_line.new.ground e.map e.same in
    record {
      spells = (q.1, projected.spells);
      originals = of-graph q.0 q.1 s f q.2 c.requires.fresh v chosen c.in-Some.head.0 c.shown_line.new.ground e.map e.same;
      selected = chosen.selected ∙ ap (λ (r : Rule). Some (printed f, rule_number r)) (sym (e.same.rule ∙ ap (λ (x : Contents). x.basis.rule) chosen.same));
    }

pub returns-in-Ok-keep-clause-made : goal.returns-in-Ok-keep-clause-made
returns-in-Ok-keep-clause-made g c = λ items h w.
    let s : Contents = c.args.state.now in
    let v : Contents = the_view c.state.inside in
    let f = shape c.args.filter.now in
    let n : Bytes = c.in-Some.head.0 in
    let there = sym (c.in-Some.ensures.held h w.spells) in
    let before = c.args.store.now in
    let now = c.keep.new.keeper in
    let chosen = subst (IsSelected (printed f) s) (sym c.state.view_is) c.in-Ok.ensures.selected in
    let e = c.in-Ok-shown_line.ensures in
    let k = c.in-Ok-keep.ensures in
    let spelled = (state-projected items h s f w c.requires.fresh v chosen n c.shown_line.new.ground e.map e.same).spells in
    let named = k.named (λ q. cc) in (
      keep_plan h (record v { basis = c.shown_line.new.ground }) (printed f),
      projected-now items h s f c.args.refname.now n w there c.requires.fresh v chosen c.shown_line.new.ground e.map e.same e.line.1 named c.recall_law.ensures c.requires.sound.0 c.requires.sound.1 c.keep.new.self
          (keeper_view g.K.Keeper.items g.K.Keeper.number g.K.Keeper.faults before) (keeper_view g.K.Keeper.items g.K.Keeper.number g.K.Keeper.faults now) c.in-Ok-shown_line.line
          (k.items h spelled) (k.state h spelled) k.basis e.line.0,
      adds-kept items h s f c.args.refname.now n w there c.requires.fresh v chosen c.shown_line.new.ground e.map e.same e.line.1 named c.recall_law.ensures c.requires.sound.0 c.requires.sound.1
          (g.K.Keeper.moment before) (g.K.Keeper.moment now) (g.K.Keeper.left_since before) (g.K.Keeper.left_since now) (g.K.Keeper.items before) (k.stops.0 h spelled),
    )

pub returns-in-Err-Failed-clause-made : goal.returns-in-Err-Failed-clause-made
returns-in-Err-Failed-clause-made g c = λ items h w.
    let s : Contents = c.args.state.now in
    let v : Contents = the_view c.state.inside in
    let f = shape c.args.filter.now in
    let n : Bytes = c.in-Some.head.0 in
    let there = sym (c.in-Some.ensures.held h w.spells) in
    let before = c.args.store.now in
    let now = c.keep.new.keeper in
    let chosen = subst (IsSelected (printed f) s) (sym c.state.view_is) c.in-Ok.ensures.selected in
    let e = c.in-Ok-shown_line.ensures in
    let k = c.in-Err-Failed.ensures in
    let spelled = (state-projected items h s f w c.requires.fresh v chosen n c.shown_line.new.ground e.map e.same).spells in
    let named = k.named (λ q. let is = c.in-Err-Failed.field-0-is in cc) in
    let kept = subst (λ (x : KeepError). Appends (keep_plan h (record v { basis = c.shown_line.new.ground }) (printed f)) (keeper_view g.K.Keeper.items g.K.Keeper.number g.K.Keeper.faults before) (keeper_view g.K.Keeper.items g.K.Keeper.number g.K.Keeper.faults now) (keep_error_result (Err x)))
    c.in-Err-Failed.field-0-is (k.items h spelled) in (
      keep_plan h (record v { basis = c.shown_line.new.ground }) (printed f),
      store-failed items h s f c.args.refname.now n w there c.requires.fresh v chosen c.shown_line.new.ground e.map e.same e.line.1 named c.recall_law.ensures c.requires.sound.0 c.requires.sound.1 c.keep.new.self
          (keeper_view g.K.Keeper.items g.K.Keeper.number g.K.Keeper.faults before) (keeper_view g.K.Keeper.items g.K.Keeper.number g.K.Keeper.faults now) kept k.basis,
      adds-kept items h s f c.args.refname.now n w there c.requires.fresh v chosen c.shown_line.new.ground e.map e.same e.line.1 named c.recall_law.ensures c.requires.sound.0 c.requires.sound.1
          (g.K.Keeper.moment before) (g.K.Keeper.moment now) (g.K.Keeper.left_since before) (g.K.Keeper.left_since now) (g.K.Keeper.items before) (k.stops.0 h spelled),
    )

pub returns-clause-made : goal.returns-clause-made
returns-clause-made g c = λ items h w.
    let s : Contents = c.args.state.now in
    let v : Contents = the_view c.state.inside in
    let f = shape c.args.filter.now in
    let n : Bytes = c.in-Some.head.0 in
    let there = sym (c.in-Some.ensures.held h w.spells) in
    let before = c.args.store.now in
    let now = c.keep.new.keeper in
    let chosen = subst (IsSelected (printed f) s) (sym c.state.view_is) c.in-Ok.ensures.selected in
    let e = c.in-Ok-shown_line.ensures in
    let k = c.in-Err-OutOfMemory-keep.ensures in
    let spelled = (state-projected items h s f w c.requires.fresh v chosen n c.shown_line.new.ground e.map e.same).spells in
    let stays = subst (λ (x : KeepError). Appends (keep_plan h (record v { basis = c.shown_line.new.ground }) (printed f)) (keeper_view g.K.Keeper.items g.K.Keeper.number g.K.Keeper.faults before) (keeper_view g.K.Keeper.items g.K.Keeper.number g.K.Keeper.faults now) (keep_error_result (Err x)))
    c.in-Err-OutOfMemory-keep.field-0-is (k.items h spelled) in
    let shown = subst (λ (q : Ground). IsGrownBy (IsShownOf f (commits_of v.basis)) v.basis.store q.store) (sym k.basis) e.same.store in (
      NoPlan,
      no-memory items h s f c.args.refname.now n w there c.keep.new.self (keeper_view g.K.Keeper.items g.K.Keeper.number g.K.Keeper.faults before) (keeper_view g.K.Keeper.items g.K.Keeper.number g.K.Keeper.faults now) stays
          (shown-grown items h s f c.args.refname.now n w there c.requires.fresh v chosen c.keep.new.self.basis.store shown),
      adds-present h s (g.K.Keeper.moment before) (g.K.Keeper.moment now) (g.K.Keeper.left_since before) (g.K.Keeper.left_since now) (g.K.Keeper.items before)
          (k.stops.1 (λ i. Err (c.in-Err-OutOfMemory-keep.field-0-is i))),
    )
