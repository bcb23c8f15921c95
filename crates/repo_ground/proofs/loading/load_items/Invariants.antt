use Rattle.std.proofs.Common.{◌≤◌, ◌^◌}
use Rattle.proj_io.specs.Uses.{IsOnlyRead}
use Rattle.repo_ground.specs.Steps.{AreRead}
use Rattle.repo_ground.proofs.loading.load_items.Given as goal

abbrev pub invariant-loop-number : goal.invariant-loop-number
invariant-loop-number g l = record {
  read : AreRead (g.K.Keeper.items l.fn.keeper) l.number l.size l.reading;
  sum : l.size ≤ 2 ^ 31;
  kept : IsOnlyRead g.K.Keeper.items g.K.Keeper.number g.K.Keeper.is_open g.K.Keeper.tells g.K.Keeper.moment g.K.Keeper.left_since l.fn.keeper l.keeper;
  faults : g.K.Keeper.faults l.fn.keeper ≤ g.K.Keeper.faults l.keeper;
}
