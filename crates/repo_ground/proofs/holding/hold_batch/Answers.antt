use Rattle.std.proofs.Common.{List, [], map, subst, sym}
use Rattle.std.specs.List.{flat_map}
use Rattle.git_objects.specs.declared.name.Name.{Name}
use Rattle.fast_import.specs.Standing.{AreBlobsIn}
use Rattle.state_items.specs.Changes.{blob_object, commit_objects, objects_of}
use Rattle.repo_ground.specs.Changes.{AreNamedIn}
use Rattle.repo_ground.specs.Growing.{IsReady, IsStep}
use Rattle.repo_ground.proofs.Grows.{ready-front, step-front, step-then}
use Rattle.repo_ground.proofs.Walks.{on-ok}
use Rattle.repo_ground.proofs.holding.hold_batch.Goals as goal

pub returns-clause-step : goal.returns-clause-step
returns-clause-step c =
    let S = c.args.store.now in
    let old = c.make_room.new.held.keys in
    let same = c.in_ok-make_room.ensures in
    let mid = c.hold_blobs.new.held.keys in
    let new = c.hold_commits.new.held.keys in
    on-ok c.hold_commits.result
    (λ later blobs cs b d s.
    let r = subst (λ (ns : List Name). IsReady S ns (objects_of blobs cs)) (sym same) s in
    let front = map blob_object blobs in
    let back = flat_map commit_objects cs in
    let b' = subst (λ (ns : List Name). AreBlobsIn S ns blobs) (sym c.deref.ensures.value) b in
    let d' = subst (λ (ns : List Name). AreNamedIn S ns cs) (sym c.deref-2.ensures.value) d in
    let one = step-front S old mid front back r (c.in_ok-hold_blobs.ensures.step S blobs b' (ready-front S old front back r)) in
    subst (λ (ns : List Name). IsStep S ns new (objects_of blobs cs) []) same (step-then S old mid new (objects_of blobs cs) back [] one (later cs d' one.ready)))
    c.hold_commits.ensures.step
