-- Proves what src/exporting.rt needs of `export_loaded`.
use Rattle.std.proofs.Common.{List, Result, refl}
use Rattle.git_objects.specs.Paths.{Bytes}
use Rattle.filter_text.specs.Shapes.{shape}
use Rattle.proj_io.specs.Views.{keeper_view, sink_view}
use Rattle.repo_ground.specs.Changes.{KeepsItems}
use Rattle.proj_words.specs.declared.outcome.Outcome.{Outcome}
use Rattle.state_items.specs.Items.{Held}
use Rattle.proj_commands.specs.Export.{export_case}
use Rattle.proj_commands.specs.Forms.{exported_case}
use Rattle.proj_commands.proofs.Forming.{export-of, loaded-state}
use Rattle.proj_commands.proofs.JudgedCases.{export-holds, state-of}
use Rattle.proj_commands.proofs.Refusing.{none-read, none-written, of-counts}
use Rattle.proj_commands.proofs.Verdicts.{exported-other}
use Rattle.proj_commands.proofs.exporting.export_loaded.Goals as goal
use Rattle.proj_commands.proofs.ExportRefusals.{no-read, no-store, unloaded-export}

pub returns-in-Err-clause-exported : goal.returns-in-Err-clause-exported
returns-in-Err-clause-exported g c = λ (items : List Bytes) told.
    let s = c.args.subject.now in
    unloaded-export (λ (l : Result Held Outcome). exported_case c.args.tagged l (shape s.filter) s.refname) (λ x. refl) items c.in-Err.outcome (sink_view g.O.Sink.written g.O.Sink.faults g.O.Sink.refusals c.args.out.now) (c.in-Err.ensures.err items told)

pub returns-in-Err-clause-unread : goal.returns-in-Err-clause-unread
returns-in-Err-clause-unread g c = none-read c.in-Err.outcome c.in-Err.ensures.early

pub returns-in-Err-clause-write : goal.returns-in-Err-clause-write
returns-in-Err-clause-write g c = none-written _ c.in-Err.outcome c.in-Err.ensures.early

pub returns-in-Err-clause-cause : goal.returns-in-Err-clause-cause
returns-in-Err-clause-cause g c = of-counts _ _ c.in-Err.outcome c.in-Err.ensures.cause

pub export-requires-clause-state : goal.export-requires-clause-state
export-requires-clause-state g c = state-of _ _ c.in-Ok.state c.in-Ok.ensures.ok

pub returns-in-Ok-clause-exported : goal.returns-in-Ok-clause-exported
returns-in-Ok-clause-exported g c = λ (items : List Bytes) told.
    let kept = keeper_view g.K.Keeper.items g.K.Keeper.number g.K.Keeper.faults in
    let shown = sink_view g.O.Sink.written g.O.Sink.faults g.O.Sink.refusals in
    let then = c.args.store.now in
    let mid = c.load.new.store in
    let does = c.in-Ok.ensures in
    let s = c.in-Ok.state in
    let f = shape c.args.subject.now.filter in
    let r = c.args.subject.now.refname in
    let same : KeepsItems (kept then) (kept mid) = (does.kept.number, does.kept.items) in
    export-of items (kept then) (kept mid) (g.K.Keeper.number then) s told same does.ok (λ (h : Held). export_case c.args.tagged h f r) (λ (l : Result Held Outcome). exported_case c.args.tagged l f r) (λ h. export-holds c.args.tagged f r h) (λ h. refl)
    c.export.new.state (shown c.args.out.now) (shown c.export.new.out) c.export.result
    (c.export.ensures.exported items does.ok.held (loaded-state items (kept then) (kept mid) (g.K.Keeper.number then) s told same does.ok))

pub returns-in-Ok-clause-other : goal.returns-in-Ok-clause-other
returns-in-Ok-clause-other g c =
    let shown = sink_view g.O.Sink.written g.O.Sink.faults g.O.Sink.refusals in
    let q = state-of _ _ c.in-Ok.state c.in-Ok.ensures.ok in
    exported-other c.args.tagged q.1 (shape c.args.subject.now.filter) c.args.subject.now.refname q.0 q.1 c.in-Ok.state c.export.new.state (shown c.args.out.now) (shown c.export.new.out) c.export.result (c.export.ensures.exported q.0 q.1 q.2)

pub returns-in-Ok-clause-unread : goal.returns-in-Ok-clause-unread
returns-in-Ok-clause-unread g c =
    let shown = sink_view g.O.Sink.written g.O.Sink.faults g.O.Sink.refusals in
    let q = state-of _ _ c.in-Ok.state c.in-Ok.ensures.ok in
    no-read _ q.0 q.1 _ _ (shown c.args.out.now) (shown c.export.new.out) c.export.result (c.export.ensures.exported q.0 q.1 q.2)

pub returns-in-Ok-clause-cause : goal.returns-in-Ok-clause-cause
returns-in-Ok-clause-cause g c =
    let shown = sink_view g.O.Sink.written g.O.Sink.faults g.O.Sink.refusals in
    let q = state-of _ _ c.in-Ok.state c.in-Ok.ensures.ok in
    no-store _ q.0 q.1 _ _ (shown c.args.out.now) (shown c.export.new.out) c.export.result (c.export.ensures.exported q.0 q.1 q.2) _ _ _ c.in-Ok.ensures.cause
