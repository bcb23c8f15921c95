use Rattle.std.proofs.Common.{ap, ◌∙◌}
use Rattle.std.specs.Option.{option_map}
use Rattle.history_ground.specs.Origins.{Firsts, first_of, first_value}
use Rattle.history_ground.proofs.FirstLookups.{first-lookup}
use Rattle.history_ground.proofs.origins.Origins.get.Goals as goal

pub returns : goal.returns
returns c =
    ap (option_map first_value) (c.copied.ensures ∙ c.get.ensures.value)
    ∙ first-lookup c.args.projected.now.0 c.self.inside.firsts.entries
    ∙ ap (λ (m : Firsts). first_of c.args.projected.now.0 m) c.self.view_is
