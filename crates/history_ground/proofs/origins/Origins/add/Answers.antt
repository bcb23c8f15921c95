use Rattle.std.proofs.Common.{sym, ap, ◌∙◌}
use Rattle.history_ground.specs.Origins.{first_value, first_values}
use Rattle.history_ground.proofs.FirstLookups.{first-added, first-behind}
use Rattle.history_ground.proofs.origins.Origins.add.Goals as goal

pub returns : goal.returns
returns c =
    let es = c.self.inside.firsts.entries in
    let more = first-added c.args.self.now (first_values es) c.args.projected.0 (first_value c.args.first) c.get.result c.self.view_is c.get.ensures (sym c.is_some.ensures ∙ c.if-is_some.false) in
    ap first_values c.in_ok-insert.ensures.entries ∙ first-behind c.args.projected c.args.first es more.0 ∙ more.1
