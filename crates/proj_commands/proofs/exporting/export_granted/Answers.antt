-- Proves what src/exporting.rt needs of `export_granted`.
use Rattle.std.proofs.Common.{false, List, Result, refl, ap}
use Rattle.git_objects.specs.Paths.{Bytes}
use Rattle.git_objects.specs.Results.{◌>>=◌, refused_by}
use Rattle.filter_text.specs.Shapes.{shape}
use Rattle.proj_gate.specs.Policies.{See}
use Rattle.proj_io.specs.Views.{keeper_view, sink_view}
use Rattle.repo_ground.specs.Changes.{KeepsItems}
use Rattle.proj_words.specs.declared.outcome.Outcome.{Outcome}
use Rattle.state_items.specs.Items.{Held}
use Rattle.proj_commands.specs.Cases.{break_outcome}
use Rattle.proj_commands.specs.Export.{export_case}
use Rattle.proj_commands.specs.Forms.{user_exported_case}
use Rattle.proj_commands.specs.Policy.{granted}
use Rattle.proj_commands.proofs.Forming.{export-of, loaded-state}
use Rattle.proj_commands.proofs.Grants.{denied-export, let-exported}
use Rattle.proj_commands.proofs.JudgedCases.{state-of, user-export-holds}
use Rattle.proj_commands.proofs.Refusing.{none-read, none-written, of-counts}
use Rattle.proj_commands.proofs.Verdicts.{exported-other}
use Rattle.proj_commands.proofs.exporting.export_granted.Goals as goal
use Rattle.proj_commands.proofs.ExportRefusals.{no-read, no-store, unloaded-export}

-- ---- nothing is loaded

pub returns-in-Err-clause-exported : goal.returns-in-Err-clause-exported
returns-in-Err-clause-exported g c = λ (items : List Bytes) told.
    let s = c.args.subject.now in
    unloaded-export (λ (l : Result Held Outcome). user_exported_case l c.args.user.now (shape s.filter) s.refname) (λ x. refl) items c.in-Err.outcome
    (sink_view g.O.Sink.written g.O.Sink.faults g.O.Sink.refusals c.args.out.now) (c.in-Err.ensures.err items told)

pub returns-in-Err-clause-unread : goal.returns-in-Err-clause-unread
returns-in-Err-clause-unread g c = none-read c.in-Err.outcome c.in-Err.ensures.early

pub returns-in-Err-clause-write : goal.returns-in-Err-clause-write
returns-in-Err-clause-write g c = none-written _ c.in-Err.outcome c.in-Err.ensures.early

pub returns-in-Err-clause-cause : goal.returns-in-Err-clause-cause
returns-in-Err-clause-cause g c = of-counts _ _ c.in-Err.outcome c.in-Err.ensures.cause

pub granted-requires-clause-state : goal.granted-requires-clause-state
granted-requires-clause-state g c = state-of _ _ c.in-Ok.state c.in-Ok.ensures.ok

pub export-requires-clause-state : goal.export-requires-clause-state
export-requires-clause-state g c = state-of _ _ c.in-Ok.state c.in-Ok.ensures.ok

-- ---- the policy doesn't let the user see it

pub returns-in-Err-granted-clause-exported : goal.returns-in-Err-granted-clause-exported
returns-in-Err-granted-clause-exported g c = λ (items : List Bytes) told.
    let kept = keeper_view g.K.Keeper.items g.K.Keeper.number g.K.Keeper.faults in
    let then = c.args.store.now in
    let mid = c.load.new.store in
    let does = c.in-Ok.ensures in
    let x = c.args.subject.now in
    let same : KeepsItems (kept then) (kept mid) = (does.kept.number, does.kept.items) in
    let st = loaded-state items (kept then) (kept mid) (g.K.Keeper.number then) c.in-Ok.state told same does.ok in
    denied-export does.ok.held c.args.user.now x.refname (shape x.filter) c.in-Err-granted.outcome (c.in-Err-granted.ensures items does.ok.held st) items (ap (refused_by break_outcome) st.current.read)
    (sink_view g.O.Sink.written g.O.Sink.faults g.O.Sink.refusals c.args.out.now)

-- ---- it does

pub returns-clause-exported : goal.returns-clause-exported
returns-clause-exported g c = λ (items : List Bytes) told.
    let kept = keeper_view g.K.Keeper.items g.K.Keeper.number g.K.Keeper.faults in
    let shown = sink_view g.O.Sink.written g.O.Sink.faults g.O.Sink.refusals in
    let then = c.args.store.now in
    let mid = c.load.new.store in
    let does = c.in-Ok.ensures in
    let s = c.in-Ok.state in
    let u : Bytes = c.args.user.now in
    let f = shape c.args.subject.now.filter in
    let r = c.args.subject.now.refname in
    let same : KeepsItems (kept then) (kept mid) = (does.kept.number, does.kept.items) in
    let st = loaded-state items (kept then) (kept mid) (g.K.Keeper.number then) s told same does.ok in
    let may = c.in-Ok-granted.ensures items does.ok.held st in
    export-of items (kept then) (kept mid) (g.K.Keeper.number then) s told same does.ok (λ (h : Held). granted h u See r f >>= λ _. export_case false h f r)
    (λ (l : Result Held Outcome). user_exported_case l u f r) (λ h. user-export-holds u f r h) (λ h. refl)
    c.export.new.state (shown c.args.out.now) (shown c.export.new.out) c.export.result
    (let-exported (granted does.ok.held u See r f) (export_case false does.ok.held f r) may items does.ok.held s c.export.new.state (shown c.args.out.now) (shown c.export.new.out) c.export.result
    (c.export.ensures.exported items does.ok.held st))

pub returns-clause-other : goal.returns-clause-other
returns-clause-other g c =
    let shown = sink_view g.O.Sink.written g.O.Sink.faults g.O.Sink.refusals in
    let q = state-of _ _ c.in-Ok.state c.in-Ok.ensures.ok in
    exported-other false q.1 (shape c.args.subject.now.filter) c.args.subject.now.refname q.0 q.1 c.in-Ok.state c.export.new.state (shown c.args.out.now) (shown c.export.new.out) c.export.result (c.export.ensures.exported q.0 q.1 q.2)

pub returns-clause-unread : goal.returns-clause-unread
returns-clause-unread g c =
    let shown = sink_view g.O.Sink.written g.O.Sink.faults g.O.Sink.refusals in
    let q = state-of _ _ c.in-Ok.state c.in-Ok.ensures.ok in
    no-read _ q.0 q.1 _ _ (shown c.args.out.now) (shown c.export.new.out) c.export.result (c.export.ensures.exported q.0 q.1 q.2)

pub returns-clause-cause : goal.returns-clause-cause
returns-clause-cause g c =
    let shown = sink_view g.O.Sink.written g.O.Sink.faults g.O.Sink.refusals in
    let q = state-of _ _ c.in-Ok.state c.in-Ok.ensures.ok in
    no-store _ q.0 q.1 _ _ (shown c.args.out.now) (shown c.export.new.out) c.export.result (c.export.ensures.exported q.0 q.1 q.2) _ _ _ c.in-Ok.ensures.cause
