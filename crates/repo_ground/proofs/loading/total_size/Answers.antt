use Rattle.std.proofs.Common.{arith}
use Rattle.proj_io.specs.Uses.{IsOnlyRead}
use Rattle.repo_ground.proofs.Stopping.{read-none, read-on}
use Rattle.repo_ground.proofs.loading.total_size.Goals as goal

pub loop-item-init : goal.loop-item-init
loop-item-init g c = record {
  sum = omega arith;
  kept = read-none _ _ _ _ _ _ c.args.keeper.now c.requires;
  faults = omega arith;
}

pub loop-item-preserved : goal.loop-item-preserved
loop-item-preserved g c =
    let once : IsOnlyRead g.K.Keeper.items g.K.Keeper.number g.K.Keeper.is_open g.K.Keeper.tells g.K.Keeper.moment g.K.Keeper.left_since c.loop-item.keeper c.size.new.self = record {
      number = c.in-Ok.ensures.same;
      items = c.in-Ok.ensures.items;
      is_open = c.in-Ok.ensures.is_open;
      told = c.in-Ok.ensures.told;
      stops = c.in-Ok.ensures.stops;
    } in record {
      sum = omega arith;
      kept = read-on _ _ _ _ _ _ _ _ _ c.loop-item.invariant.kept once;
      faults = omega (arith, c.in-Ok.ensures.cause.later);
    }
