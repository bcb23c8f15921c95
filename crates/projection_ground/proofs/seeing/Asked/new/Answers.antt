use Rattle.filter_text.specs.Shapes.{shape}
use Rattle.object_store.specs.Unfolding.{flat}
use Rattle.projection_ground.specs.Asked.{IsNone}
use Rattle.projection_ground.proofs.Growing.{ground-tables, interned-front}
use Rattle.projection_ground.proofs.Asking.{asked-first}
use Rattle.projection_ground.proofs.seeing.Asked.new.Goals as goal

pub returns-clause-asked : goal.returns-clause-asked
returns-clause-asked c =
    asked-first (shape c.args.filter.now) (flat c.args.ground.now.store c.args.root.0) c.args.ground.now c.in_ok-number.number c.resolve.new.tables c.in_ok-file_place.field-0 c.in_ok-file_place.ensures.place c.if-is_some.ensures c.in_ok-number.ensures.number.there

pub returns-clause-same : goal.returns-clause-same
returns-clause-same c = ground-tables IsNone c.args.ground.now c.resolve.new.tables c.requires.ground (interned-front _ _ _ _ c.in_ok-number.ensures.number)
