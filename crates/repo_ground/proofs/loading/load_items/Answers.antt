use Rattle.std.proofs.Common.{◌≡◌, ℕ, subst, arith}
use Rattle.repo_ground.specs.Steps.{AreRead}
use Rattle.repo_ground.proofs.ItemRuns.{has-item, none-read, more-read, read-fault}
use Rattle.repo_ground.proofs.Stopping.{read-none, read-on}
use Rattle.repo_ground.proofs.loading.load_items.Goals as goal

pub loop-number-init : goal.loop-number-init
loop-number-init g c = record {
  read = none-read (g.K.Keeper.items c.args.keeper.now) c.args.reading.now c.requires.nothing;
  sum = omega arith;
  kept = read-none _ _ _ _ _ _ c.args.keeper.now c.requires.open;
  faults = omega arith;
}

pub loop-number-preserved : goal.loop-number-preserved
loop-number-preserved g c = record {
  read = more-read (g.K.Keeper.items c.args.keeper.now) (g.K.Keeper.items c.loop-number.keeper) c.loop-number.number c.loop-number.size c.in-Ok.now
      c.loop-number.reading c.load_item.new.reading c.loop-number.invariant.kept.items
      (has-item (g.K.Keeper.items c.args.keeper.now) c.loop-number.number c.args.count (g.K.Keeper.number c.args.keeper.now) c.loop-number-test.true c.requires.count (g.met.K.Keeper.counted c.args.keeper.now))
      c.loop-number.invariant.read c.in-Ok.ensures.item;
  sum = c.in-Ok.ensures.sum;
  kept = read-on _ _ _ _ _ _ _ _ _ c.loop-number.invariant.kept c.in-Ok.ensures.kept;
  faults = omega (arith, c.in-Ok.ensures.cause.later);
}

pub returns-in-Err-clause-read : goal.returns-in-Err-clause-read
returns-in-Err-clause-read g c =
    read-fault (g.K.Keeper.items c.args.keeper.now) (g.K.Keeper.items c.loop-number.keeper) c.loop-number.number c.loop-number.size c.loop-number.reading c.in-Err.e
    c.loop-number.invariant.kept.items
    (has-item (g.K.Keeper.items c.args.keeper.now) c.loop-number.number c.args.count (g.K.Keeper.number c.args.keeper.now) c.loop-number-test.true c.requires.count (g.met.K.Keeper.counted c.args.keeper.now))
    c.loop-number.invariant.read c.in-Err.ensures.item

pub returns-clause-read : goal.returns-clause-read
returns-clause-read g c =
    let all : c.loop-number.number ≡ c.args.count = omega (arith, c.loop-number-test.false, c.loop-number.auto.number-end) in
    subst (λ (n : ℕ). AreRead (g.K.Keeper.items c.args.keeper.now) n c.loop-number.size c.loop-number.reading) all c.loop-number.invariant.read

pub returns-in-Err-clause-kept : goal.returns-in-Err-clause-kept
returns-in-Err-clause-kept g c = read-on _ _ _ _ _ _ _ _ _ c.loop-number.invariant.kept c.in-Err.ensures.kept
