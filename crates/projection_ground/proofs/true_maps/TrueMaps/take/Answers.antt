use Rattle.filter_text.specs.Shapes.{shape}
use Rattle.projection_ground.proofs.TrueEntries.{is-taken}
use Rattle.projection_ground.proofs.true_maps.TrueMaps.take.Goals as goal

pub returns-in-Some : goal.returns-in-Some
returns-in-Some c =
    let x = c.in-Some.ensures in
    is-taken (shape c.args.filter.now) c.args.rule c.args.self.now c.take_at.new.self c.in-Some.i x.0 c.take_at.result x.1 x.2 x.3 c.take_at.ensures.left c.take_at.ensures.map
