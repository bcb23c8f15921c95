use Rattle.std.proofs.Common.{◌≡◌, List, Result, Ok, Err, IfErr, ap, map, subst, sym}
use Rattle.std.proofs.lemmas.Result.{err_from_is_err_and}
use Rattle.git_objects.specs.Parts.{name_bytes}
use Rattle.git_objects.specs.Snapshots.{Graph}
use Rattle.git_objects.specs.declared.name.Name.{Name}
use Rattle.filter_text.specs.Shapes.{shape}
use Rattle.object_store.specs.Objects.{Object}
use Rattle.filter_apply.specs.Faults.{IsApplyFault}
use Rattle.filter_apply.specs.declared.fault.ApplyError.{ApplyError}
use Rattle.filter_apply.specs.declared.fault.ApplyError.TheVariants.{OutOfMemory}
use Rattle.workspace.specs.Workspaces.{shown}
use Rattle.projection_laws.specs.Histories.{AreMade}
use Rattle.projection_laws.specs.Projections.{history_graph}
use Rattle.projection_ground.specs.Grounds.{commits_of}
use Rattle.history_ground.specs.Histories.{IsOfHistory}
use Rattle.projection_ground.proofs.Asking.{extends-none}
use Rattle.history_ground.proofs.HistoryEnds.{history-fault, history-grown, history-same}
use Rattle.history_ground.proofs.ProjectLemmas.{named-head, ok-still, place-within}
use Rattle.projection_ground.proofs.TurnLemmas.{handed-on, tree-held}
use Rattle.history_ground.proofs.histories.taken.Goals as goal

-- want of memory is a fault whatever is made
no-memory : {T : Type 0} (made : Object → Type 0) (S : List Object) → (r : Result T ApplyError) → IfErr r (λ e. e ≡ OutOfMemory) → IfErr r (IsApplyFault made S)
no-memory made S (Ok x) h = tt
no-memory made S (Err e) h = subst (IsApplyFault made S) (sym h) tt

pub new-requires-clause-root : goal.new-requires-clause-root
new-requires-clause-root c = tree-held c.args.ground.now c.in-Some.place c.tree-root.result.0 c.requires.ground (place-within c.args.head.now.0 c.args.ground.now.graph c.in-Some.place c.in-Some.ensures.place) c.tree-root.ensures

pub returns-in_err-asked-clause-same : goal.returns-in_err-asked-clause-same
returns-in_err-asked-clause-same c = extends-none (IsOfHistory (shape c.args.filter.now) c.args.ground.now c.args.head.now.0) c.args.ground.now c.new.new.ground c.new.ensures.same

pub returns-in_err-made-clause-same : goal.returns-in_err-made-clause-same
returns-in_err-made-clause-same c =
    let g = c.args.ground.now in
    let h = c.new.new.ground in
    history-grown (shape c.args.filter.now) c.args.head.now.0 g h c.take_all.new.ground c.in-Some.place c.requires.ground c.new.ensures.same
    (named-head g h c.in-Some.place c.args.head.now.0 c.new.ensures.same.graph c.in-Some.ensures.place) c.take_all.ensures.same

pub returns-in_err-made-clause-err : goal.returns-in_err-made-clause-err
returns-in_err-made-clause-err c =
    let f = shape c.args.filter.now in
    let g = c.args.ground.now in
    let h = c.new.new.ground in
    let p = err_from_is_err_and c.from_residual-in_err-made.result c.from_residual-in_err-made.ensures.1 in
    handed-on (IsApplyFault (IsOfHistory f g c.args.head.now.0) c.take_all.new.ground.store) c.from_residual-in_err-made.result p.0 c.in_err-made.field-0.0 p.1 p.2
    (history-fault f c.args.head.now.0 g h c.take_all.new.ground c.in-Some.place c.requires.ground c.new.ensures.same
    (named-head g h c.in-Some.place c.args.head.now.0 c.new.ensures.same.graph c.in-Some.ensures.place) c.in_err-made.field-0.0 c.in_err-made.ensures.err)

pub returns-clause-ok : goal.returns-clause-ok
returns-clause-ok c =
    let f = shape c.args.filter.now in
    let g = c.args.ground.now in
    let h = c.new.new.ground in
    let S = c.take_all.new.ground.store in
    let G = history_graph g.rule (shown f) (commits_of g) c.args.head.now.0 in
    let made : AreMade S G (map name_bytes c.in_ok-made.made.keys) =
    subst (λ (G : Graph). AreMade S G (map name_bytes c.in_ok-made.made.keys))
    (history-same f c.args.head.now.0 g h c.take_all.new.ground c.in-Some.place c.requires.ground c.new.ensures.same
    (named-head g h c.in-Some.place c.args.head.now.0 c.new.ensures.same.graph c.in-Some.ensures.place)) c.in_ok-made.ensures.ok in
    ok-still _ (λ v. AreMade S G (map name_bytes v.items)) c.names_of.result
    (λ v e. subst (AreMade S G) (ap (λ (ns : List Name). map name_bytes ns) (sym e)) made) c.names_of.ensures.ok

pub returns-clause-err : goal.returns-clause-err
returns-clause-err c =
    no-memory (IsOfHistory (shape c.args.filter.now) c.args.ground.now c.args.head.now.0) c.take_all.new.ground.store c.names_of.result c.names_of.ensures.err

pub returns-clause-same : goal.returns-clause-same
returns-clause-same c =
    let g = c.args.ground.now in
    let h = c.new.new.ground in
    history-grown (shape c.args.filter.now) c.args.head.now.0 g h c.take_all.new.ground c.in-Some.place c.requires.ground c.new.ensures.same
    (named-head g h c.in-Some.place c.args.head.now.0 c.new.ensures.same.graph c.in-Some.ensures.place) c.take_all.ensures.same
