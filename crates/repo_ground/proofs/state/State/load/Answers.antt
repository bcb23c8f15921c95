use Rattle.std.proofs.Common.{refl, arith, ◌∙◌}
use Rattle.proj_io.specs.Uses.{IsOnlyRead}
use Rattle.repo_ground.proofs.ItemRuns.{stays-on}
use Rattle.repo_ground.proofs.Stopping.{read-on}
use Rattle.repo_ground.proofs.WholeLoads.{loaded, unasked, no-fault-memory, no-fault-ok}
use Rattle.repo_ground.proofs.state.State.load.Goals as goal

pub returns-in-Err-new-clause-kept : goal.returns-in-Err-new-clause-kept
returns-in-Err-new-clause-kept g c =
    let counted : IsOnlyRead g.K.Keeper.items g.K.Keeper.number g.K.Keeper.is_open g.K.Keeper.tells g.K.Keeper.moment g.K.Keeper.left_since c.args.keeper.now c.count.new.self = record {
      number = c.in-Ok.ensures.same;
      items = c.in-Ok.ensures.items;
      is_open = c.in-Ok.ensures.is_open;
      told = c.in-Ok.ensures.told;
      stops = c.in-Ok.ensures.stops;
    } in
    read-on _ _ _ _ _ _ _ _ _ counted (read-on _ _ _ _ _ _ _ _ _ c.in-Ok-reserve_items.ensures.kept c.in-Ok-load_items.ensures.kept)

pub returns-in-Ok-new-clause-kept : goal.returns-in-Ok-new-clause-kept
returns-in-Ok-new-clause-kept g c =
    let counted : IsOnlyRead g.K.Keeper.items g.K.Keeper.number g.K.Keeper.is_open g.K.Keeper.tells g.K.Keeper.moment g.K.Keeper.left_since c.args.keeper.now c.count.new.self = record {
      number = c.in-Ok.ensures.same;
      items = c.in-Ok.ensures.items;
      is_open = c.in-Ok.ensures.is_open;
      told = c.in-Ok.ensures.told;
      stops = c.in-Ok.ensures.stops;
    } in
    read-on _ _ _ _ _ _ _ _ _ counted (read-on _ _ _ _ _ _ _ _ _ c.in-Ok-reserve_items.ensures.kept c.in-Ok-load_items.ensures.kept)

pub returns-in-Err-new-clause-cause : goal.returns-in-Err-new-clause-cause
returns-in-Err-new-clause-cause g c = record {
  later = omega (arith, c.in-Ok.ensures.cause.later, c.in-Ok-reserve_items.ensures.cause.later, c.in-Ok-load_items.ensures.cause.later);
  rose = λ e. absurd (no-fault-memory _ refl e);
}

pub returns-in-Ok-new-clause-cause : goal.returns-in-Ok-new-clause-cause
returns-in-Ok-new-clause-cause g c = record {
  later = omega (arith, c.in-Ok.ensures.cause.later, c.in-Ok-reserve_items.ensures.cause.later, c.in-Ok-load_items.ensures.cause.later);
  rose = λ e. absurd (no-fault-ok c.of.result _ refl e);
}

pub returns-in-Ok-new-clause-err : goal.returns-in-Ok-new-clause-err
returns-in-Ok-new-clause-err g c = unasked (g.K.Keeper.items c.args.keeper.now)

pub returns-in-Ok-new-clause-ok : goal.returns-in-Ok-new-clause-ok
returns-in-Ok-new-clause-ok g c =
    loaded (g.K.Keeper.items c.args.keeper.now) (g.K.Keeper.items c.reserve_items.new.keeper) c.in-Ok.count (g.K.Keeper.number c.args.keeper.now) c.in-Ok-load_items.size
    c.load_items.new.reading c.of.result
    (stays-on (g.K.Keeper.items c.args.keeper.now) (g.K.Keeper.items c.count.new.self) (g.K.Keeper.items c.reserve_items.new.keeper) c.in-Ok.ensures.items c.in-Ok-reserve_items.ensures.kept.items)
    (g.met.K.Keeper.counted c.args.keeper.now) c.in-Ok.ensures.number c.in-Ok-load_items.ensures.read
    (record { spells = c.of.ensures.spells; store = c.of.ensures.store; none = c.of.ensures.selected; empty = c.of.ensures.map; memo = c.of.ensures.memo ∙ c.in-Ok-new.ensures; many = c.of.ensures.number; long = c.of.ensures.size })
