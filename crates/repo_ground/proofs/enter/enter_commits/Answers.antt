use Rattle.std.proofs.Common.{[], ◌≤◌, length, arith}
use Rattle.repo_ground.proofs.CommitsEntered.{commits-first, commits-last, commits-next}
use Rattle.repo_ground.proofs.Entered.{front-none, front-then}
use Rattle.repo_ground.proofs.enter.enter_commits.Goals as goal

pub loop-name-init : goal.loop-name-init
loop-name-init c = record {
  entered = λ known cs m. commits-first c.args.store.now c.args.names.now known cs c.args.graph.now m;
  front = front-none c.args.graph.now;
}

pub enter_new-requires : goal.enter_new-requires
enter_new-requires c =
    let q = c.requires.may in
    let e = c.loop-name.invariant.entered q.0 q.1 q.2 in
    let x = commits-next c.args.store.now c.args.names.now q.0 q.1 c.loop-name.graph c.loop-name.name-index (record { 0 = [] }) c.loop-name-test.true q.2.named e in
    record { next = (e.now, x.commit, x.next) }

pub loop-name-preserved : goal.loop-name-preserved
loop-name-preserved c = record {
  entered = λ known cs m.
      let e = c.loop-name.invariant.entered known cs m in
      let x = commits-next c.args.store.now c.args.names.now known cs c.loop-name.graph c.loop-name.name-index (record { 0 = [] }) c.loop-name-test.true m.named e in
      x.left c.enter_new.new.graph (c.in_ok-enter_new.ensures.entered e.now x.commit x.next);
  front = front-then c.args.graph.now c.loop-name.graph c.enter_new.new.graph c.loop-name.invariant.front c.in_ok-enter_new.ensures.front;
}

pub returns-clause-entered : goal.returns-clause-entered
returns-clause-entered c = λ known cs m.
    let end : length c.args.names.now ≤ c.loop-name.name-index = let t = c.loop-name-test.false in omega (arith, t) in
    commits-last c.args.store.now c.args.names.now known cs c.loop-name.graph c.loop-name.name-index end m.named (c.loop-name.invariant.entered known cs m)
