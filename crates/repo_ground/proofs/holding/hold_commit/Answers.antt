use Rattle.std.proofs.Common.{List, [], ◌∷◌, ◌++◌, sym, subst}
use Rattle.object_store.specs.Objects.{Object}
use Rattle.object_store.specs.StoredSnapshots.{snapshot_object}
use Rattle.repo_ground.specs.Growing.{IsReady, IsStep}
use Rattle.repo_ground.specs.StoredObjects.{stored_objects}
use Rattle.repo_ground.proofs.Grows.{ready-front, step-front, step-then}
use Rattle.repo_ground.proofs.StoredCommits.{commit-spelled}
use Rattle.repo_ground.proofs.holding.hold_commit.Goals as goal

pub returns-clause-step : goal.returns-clause-step
returns-clause-step c =
    let S = c.args.store.now in
    let n = c.args.name.0 in
    let old = c.args.held.now.keys in
    let mid = c.hold_tree.new.held.keys in
    let new = c.hold.new.held.keys in
    let front = stored_objects S c.tree_of-tree.result.0 in
    λ x named found r.
    let last = snapshot_object x ∷ [] in
    let e = commit-spelled S n c.tree_of-tree.result.0 x r.whole c.tree_of-tree.ensures named in
    let q = subst (λ (os : List Object). IsReady S old os) e r in
    let tree = step-front S old mid front last q (c.in_ok-hold_tree.ensures.step (ready-front S old front last q)) in
    subst (λ (os : List Object). IsStep S old new os []) (sym e)
    (step-then S old mid new (front ++ last) last [] tree (c.in_ok-hold.ensures.step S (snapshot_object x) [] found tree.ready))
