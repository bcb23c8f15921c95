use Rattle.filter_text.specs.Shapes.{shape}
use Rattle.projection_ground.proofs.TrueEntries.{is-put}
use Rattle.projection_ground.proofs.true_maps.TrueMaps.put.Goals as goal

pub returns : goal.returns
returns c = is-put (shape c.args.filter.now) c.args.rule c.args.map c.args.self.now c.make_room.new.self c.add.new.self c.make_room.ensures c.add.ensures
