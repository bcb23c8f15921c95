use Rattle.std.proofs.Common.{List, [], ◌++◌, ◌+◌, drop, subst, ap, length, ◌≤◌, arith}
use Rattle.std.specs.List.{flat_map}
use Rattle.git_objects.specs.Snapshots.{Snapshot}
use Rattle.git_objects.specs.declared.kind.Kind.TheVariants.{Commit}
use Rattle.object_store.specs.Objects.{Object, has}
use Rattle.state_items.specs.Changes.{commit_objects}
use Rattle.repo_ground.specs.Growing.{IsStep}
use Rattle.repo_ground.proofs.Grows.{extends-then, ready-front, step-front, step-then}
use Rattle.repo_ground.proofs.StoredCommits.{commits-end, next-commit, named-at}
use Rattle.repo_ground.proofs.holding.hold_commits.Goals as goal

pub hold_commit-requires : goal.hold_commit-requires
hold_commit-requires c = named-at (has Commit c.args.store.now) c.args.names.now c.loop-name.name-index (record { 0 = [] }) c.loop-name-test.true c.requires

pub loop-name-preserved : goal.loop-name-preserved
loop-name-preserved c =
    let S = c.args.store.now in
    let names = c.args.names.now in
    let k = c.loop-name.name-index in
    let old = c.args.held.now.keys in
    let mid = c.loop-name.held.keys in
    let new = c.hold_commit.new.held.keys in
    record {
      step = λ cs named r.
          let all = flat_map commit_objects cs in
          let left = flat_map commit_objects (drop (k + 1) cs) in
          let next = next-commit S names cs k (record { 0 = [] }) c.loop-name-test.true named in
          let one = commit_objects next.commit in
          let so_far = subst (λ (os : List Object). IsStep S old mid all os) (ap (flat_map commit_objects) next.left) (c.loop-name.invariant.step cs named r) in
          step-then S old mid new all (one ++ left) left so_far
          (step-front S mid new one left so_far.ready (c.in_ok-hold_commit.ensures.step next.commit next.named next.found (ready-front S mid one left so_far.ready)));
      extends = extends-then old mid new c.loop-name.invariant.extends c.in_ok-hold_commit.ensures.extends;
    }

pub returns-clause-step : goal.returns-clause-step
returns-clause-step c =
    let S = c.args.store.now in
    let old = c.args.held.now.keys in
    let new = c.loop-name.held.keys in
    let names = c.args.names.now in
    λ cs h r.
    let end : length names ≤ c.loop-name.name-index = let t = c.loop-name-test.false in omega (arith, t) in
    subst (λ (left : List Snapshot). IsStep S old new (flat_map commit_objects cs) (flat_map commit_objects left)) (commits-end S names cs c.loop-name.name-index end h)
    (c.loop-name.invariant.step cs h r)
