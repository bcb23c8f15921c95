use Rattle.std.proofs.Common.{subst}
use Rattle.filter_text.specs.Shapes.{shape}
use Rattle.filter_routes.specs.Faults.{FirstNotKeeping}
use Rattle.filter_routes.proofs.Sounds.{sound-from, refusal-told}
use Rattle.filter_routes.proofs.search.fault_of.Goals as goal

pub unreachable-requires : goal.unreachable-requires
unreachable-requires c =
    let f = shape c.args.filter.now in
    c.requires.unsound (sound-from f (subst (FirstNotKeeping f) c.in_default.is c.first_not_keeping.ensures) c.in-Ok.ensures.1)

pub returns : goal.returns
returns c =
    let f = shape c.args.filter.now in
    refusal-told f c.in-Err.fault (subst (FirstNotKeeping f) c.in_default.is c.first_not_keeping.ensures) c.in-Err.ensures
