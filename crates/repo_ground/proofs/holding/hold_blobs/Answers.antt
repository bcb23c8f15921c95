use Rattle.std.proofs.Common.{List, [], ◌∷◌, drop, map, subst, ap, length, ◌+◌, ◌≤◌, arith}
use Rattle.git_objects.specs.Paths.{Bytes}
use Rattle.object_store.specs.Objects.{Object}
use Rattle.state_items.specs.Changes.{blob_object}
use Rattle.repo_ground.specs.Growing.{IsStep}
use Rattle.repo_ground.proofs.Grows.{extends-then, step-then}
use Rattle.repo_ground.proofs.StoredCommits.{blobs-end, next-blob}
use Rattle.repo_ground.proofs.holding.hold_blobs.Goals as goal

pub loop-name-preserved : goal.loop-name-preserved
loop-name-preserved c =
    let names = c.args.names.now in
    let k = c.loop-name.name-index in
    let old = c.args.held.now.keys in
    let mid = c.loop-name.held.keys in
    let new = c.hold.new.held.keys in
    record {
      step = λ S bs blobs r.
          let all = map blob_object bs in
          let left = map blob_object (drop (k + 1) bs) in
          let next = next-blob S names bs k (record { 0 = [] }) c.loop-name-test.true blobs in
          let so_far = subst (λ (os : List Object). IsStep S old mid all os) (ap (map blob_object) next.left) (c.loop-name.invariant.step S bs blobs r) in
          step-then S old mid new all (blob_object next.blob ∷ left) left so_far
          (c.in_ok-hold.ensures.step S (blob_object next.blob) left next.found so_far.ready);
      extends = extends-then old mid new c.loop-name.invariant.extends c.in_ok-hold.ensures.extends;
    }

pub returns-clause-step : goal.returns-clause-step
returns-clause-step c =
    let old = c.args.held.now.keys in
    let new = c.loop-name.held.keys in
    let names = c.args.names.now in
    λ S bs h r.
    let end : length names ≤ c.loop-name.name-index = let t = c.loop-name-test.false in omega (arith, t) in
    subst (λ (left : List Bytes). IsStep S old new (map blob_object bs) (map blob_object left)) (blobs-end S names bs c.loop-name.name-index end h)
    (c.loop-name.invariant.step S bs h r)
