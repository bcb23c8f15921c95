use Rattle.std.proofs.Common.{◌≤◌, ◌^◌}
use Rattle.proj_io.specs.Uses.{IsOnlyRead}
use Rattle.repo_ground.proofs.loading.total_size.Given as goal

abbrev pub invariant-loop-item : goal.invariant-loop-item
invariant-loop-item g l = record {
  sum : l.total ≤ 2 ^ 31;
  kept : IsOnlyRead g.K.Keeper.items g.K.Keeper.number g.K.Keeper.is_open g.K.Keeper.tells g.K.Keeper.moment g.K.Keeper.left_since l.fn.keeper l.keeper;
  faults : g.K.Keeper.faults l.fn.keeper ≤ g.K.Keeper.faults l.keeper;
}
