-- Proves what src/exporting.rt needs of `export`.
use Rattle.std.proofs.Common.{List, map, sym, subst, ◌∙◌}
use Rattle.git_objects.specs.Paths.{Bytes}
use Rattle.git_objects.specs.Parts.{name_bytes}
use Rattle.git_objects.specs.declared.name.Name.{Name}
use Rattle.filter_text.specs.Shapes.{shape}
use Rattle.fast_export.specs.Histories.{IsHistoryIn}
use Rattle.workspace.specs.Workspaces.{shown}
use Rattle.projection_laws.specs.Histories.{AreMade}
use Rattle.projection_laws.specs.Projections.{history_graph}
use Rattle.projection_ground.specs.Grounds.{commits_of}
use Rattle.proj_io.specs.Views.{sink_view}
use Rattle.repo_ground.specs.Contents.{Contents}
use Rattle.repo_ground.specs.contracts.state.State.{the_view}
use Rattle.proj_words.specs.declared.outcome.Outcome.{Outcome}
use Rattle.proj_commands.specs.Export.{export_case}
use Rattle.proj_commands.specs.Makes.{IsExported, IsStateOf}
use Rattle.proj_commands.proofs.Exports.{IsReached, exportable, failed, history-fault, reached-tags, short, tags-fault, whole}
use Rattle.proj_commands.proofs.StatesShown.{head-placed}
use Rattle.proj_commands.proofs.exporting.export.Goals as goal

-- ---- the tags

pub tags_beside-requires-clause-head : goal.tags_beside-requires-clause-head
tags_beside-requires-clause-head g c =
    let q = c.requires.state in
    head-placed q.1 c.args.state.now c.args.refname.now c.in-Some.head.0 q.2.spells (sym (c.in-Some.ensures.held q.1 q.2.spells))

pub returns-in-Err-clause-exported : goal.returns-in-Err-clause-exported
returns-in-Err-clause-exported g c = λ items h w.
    let s : Contents = c.args.state.now in
    let f = shape c.args.filter.now in
    let n : Bytes = c.in-Some.head.0 in
    let r = c.args.refname.now in
    let tagged = c.args.tagged in
    let seen = sink_view g.O.Sink.written g.O.Sink.faults g.O.Sink.refusals in
    let t : Contents = c.tags_beside.new.state in
    subst (λ (o : Outcome). IsExported (export_case tagged h f r) items h s t (seen c.args.out.now) (seen c.args.out.now) o) (sym c.apply_outcome.ensures)
    (tags-fault tagged items h s f r n w (sym (c.in-Some.ensures.held h w.spells)) t c.in-Err.ensures.rest c.in-Err.ensures.same (seen c.args.out.now) c.in-Err.error c.in-Err.ensures.err)

-- ---- the history

pub history-requires-clause-ground : goal.history-requires-clause-ground
history-requires-clause-ground g c =
    let q = c.requires.state in
    let u = reached-tags c.args.tagged q.0 q.1 c.args.state.now (shape c.args.filter.now) c.args.refname.now c.in-Some.head.0 q.2 (sym (c.in-Some.ensures.held q.1 q.2.spells)) c.tags_beside.new.state c.in-Ok.ensures.rest c.in-Ok.ensures.same in
    (subst (IsStateOf q.0 q.1) (sym c.state.view_is) u.state).ground

pub history-requires-clause-head : goal.history-requires-clause-head
history-requires-clause-head g c =
    let q = c.requires.state in
    let e = sym (c.in-Some.ensures.held q.1 q.2.spells) in
    let u = reached-tags c.args.tagged q.0 q.1 c.args.state.now (shape c.args.filter.now) c.args.refname.now c.in-Some.head.0 q.2 e c.tags_beside.new.state c.in-Ok.ensures.rest c.in-Ok.ensures.same in
    let x = subst (IsStateOf q.0 q.1) (sym c.state.view_is) u.state in
    head-placed q.1 (the_view c.state.inside) c.args.refname.now c.in-Some.head.0 x.spells e

pub returns-in-Err-history-clause-exported : goal.returns-in-Err-history-clause-exported
returns-in-Err-history-clause-exported g c = λ items h w.
    let s : Contents = c.args.state.now in
    let v : Contents = the_view c.state.inside in
    let f = shape c.args.filter.now in
    let n : Bytes = c.in-Some.head.0 in
    let r = c.args.refname.now in
    let tagged = c.args.tagged in
    let seen = sink_view g.O.Sink.written g.O.Sink.faults g.O.Sink.refusals in
    let e = sym (c.in-Some.ensures.held h w.spells) in
    let u : IsReached tagged items h s f n v = subst (IsReached tagged items h s f n) (sym c.state.view_is) (reached-tags tagged items h s f r n w e c.tags_beside.new.state c.in-Ok.ensures.rest c.in-Ok.ensures.same) in
    subst (λ (o : Outcome). IsExported (export_case tagged h f r) items h s (record v { basis = c.history.new.ground }) (seen c.args.out.now) (seen c.args.out.now) o) (sym c.apply_outcome-in-Err-history.ensures)
    (history-fault tagged items h s f r n w e v u c.history.new.ground c.in-Err-history.ensures.same c.in-Err-history.ensures.map (seen c.args.out.now) c.in-Err-history.error c.in-Err-history.ensures.err)

-- ---- what is written

pub write_tagged-requires : goal.write_tagged-requires
write_tagged-requires g c =
    let q = c.requires.state in
    let v : Contents = the_view c.state.inside in
    let u = reached-tags c.args.tagged q.0 q.1 c.args.state.now (shape c.args.filter.now) c.args.refname.now c.in-Some.head.0 q.2 (sym (c.in-Some.ensures.held q.1 q.2.spells)) c.tags_beside.new.state c.in-Ok.ensures.rest c.in-Ok.ensures.same in
    let x = subst (IsStateOf q.0 q.1) (sym c.state.view_is) u.state in
    subst (λ (ns : List Name). IsHistoryIn c.history.new.ground.store (map name_bytes ns)) (sym c.deref.ensures.value)
    (exportable c.history_law.ensures c.order_law.ensures q.0 q.1 v (shape c.args.filter.now) c.in-Some.head.0 x c.history.new.ground.store (map name_bytes c.in-Ok-history.names.items) c.in-Ok-history.ensures.ok)

pub returns-in-Ok-write_tagged-clause-exported : goal.returns-in-Ok-write_tagged-clause-exported
returns-in-Ok-write_tagged-clause-exported g c = λ items h w.
    let s : Contents = c.args.state.now in
    let v : Contents = the_view c.state.inside in
    let f = shape c.args.filter.now in
    let n : Bytes = c.in-Some.head.0 in
    let r = c.args.refname.now in
    let tagged = c.args.tagged in
    let seen = sink_view g.O.Sink.written g.O.Sink.faults g.O.Sink.refusals in
    let e = sym (c.in-Some.ensures.held h w.spells) in
    let u : IsReached tagged items h s f n v = subst (IsReached tagged items h s f n) (sym c.state.view_is) (reached-tags tagged items h s f r n w e c.tags_beside.new.state c.in-Ok.ensures.rest c.in-Ok.ensures.same) in
    let names = map name_bytes c.deref.result.now in
    let made = subst (λ (ns : List Name). AreMade c.history.new.ground.store (history_graph v.basis.rule (shown f) (commits_of v.basis) n) (map name_bytes ns)) (sym c.deref.ensures.value) c.in-Ok-history.ensures.ok in
    let beside = c.deref-2.ensures.value ∙ c.in-Ok.ensures.ok items h w in
    let within = exportable c.history_law.ensures c.order_law.ensures items h v f n u.state c.history.new.ground.store names made in
    whole tagged items h s f r n w e v u c.history.new.ground c.in-Ok-history.ensures.same c.in-Ok-history.ensures.map names made c.deref-2.result.now beside
    c.history_law.ensures c.stored_history_law.ensures c.tagged_again_law.ensures within (seen c.args.out.now) (seen c.write_tagged.new.out) c.in-Ok-write_tagged.ensures.text

pub returns-in-Err-Fault-clause-exported : goal.returns-in-Err-Fault-clause-exported
returns-in-Err-Fault-clause-exported g c = λ items h w.
    let s : Contents = c.args.state.now in
    let v : Contents = the_view c.state.inside in
    let f = shape c.args.filter.now in
    let n : Bytes = c.in-Some.head.0 in
    let r = c.args.refname.now in
    let tagged = c.args.tagged in
    let seen = sink_view g.O.Sink.written g.O.Sink.faults g.O.Sink.refusals in
    let e = sym (c.in-Some.ensures.held h w.spells) in
    let u : IsReached tagged items h s f n v = subst (IsReached tagged items h s f n) (sym c.state.view_is) (reached-tags tagged items h s f r n w e c.tags_beside.new.state c.in-Ok.ensures.rest c.in-Ok.ensures.same) in
    let names = map name_bytes c.deref.result.now in
    let made = subst (λ (ns : List Name). AreMade c.history.new.ground.store (history_graph v.basis.rule (shown f) (commits_of v.basis) n) (map name_bytes ns)) (sym c.deref.ensures.value) c.in-Ok-history.ensures.ok in
    let beside = c.deref-2.ensures.value ∙ c.in-Ok.ensures.ok items h w in
    failed tagged items h s f r n w e v u c.history.new.ground c.in-Ok-history.ensures.same c.in-Ok-history.ensures.map names made c.deref-2.result.now beside
    (seen c.args.out.now) (seen c.write_tagged.new.out) c.in-Err-Fault.ensures.front

pub returns-clause-exported : goal.returns-clause-exported
returns-clause-exported g c = λ items h w.
    let s : Contents = c.args.state.now in
    let v : Contents = the_view c.state.inside in
    let f = shape c.args.filter.now in
    let n : Bytes = c.in-Some.head.0 in
    let r = c.args.refname.now in
    let tagged = c.args.tagged in
    let seen = sink_view g.O.Sink.written g.O.Sink.faults g.O.Sink.refusals in
    let e = sym (c.in-Some.ensures.held h w.spells) in
    let u : IsReached tagged items h s f n v = subst (IsReached tagged items h s f n) (sym c.state.view_is) (reached-tags tagged items h s f r n w e c.tags_beside.new.state c.in-Ok.ensures.rest c.in-Ok.ensures.same) in
    let names = map name_bytes c.deref.result.now in
    let made = subst (λ (ns : List Name). AreMade c.history.new.ground.store (history_graph v.basis.rule (shown f) (commits_of v.basis) n) (map name_bytes ns)) (sym c.deref.ensures.value) c.in-Ok-history.ensures.ok in
    let beside = c.deref-2.ensures.value ∙ c.in-Ok.ensures.ok items h w in
    short tagged items h s f r n w e v u c.history.new.ground c.in-Ok-history.ensures.same c.in-Ok-history.ensures.map names made c.deref-2.result.now beside
    (seen c.args.out.now) (seen c.write_tagged.new.out) c.in-Err-OutOfMemory.ensures.front
