use Rattle.std.proofs.Common.{ap, ◌∙◌}
use Rattle.merge_push.specs.Places.{Places, place_at}
use Rattle.merge_push.proofs.Placing.{place-lookup}
use Rattle.merge_push.proofs.entered.Entered.place.Goals as goal

pub returns : goal.returns
returns c =
    c.copied.ensures ∙ c.get.ensures.value
    ∙ place-lookup c.args.pushed.now.0 c.self.inside.places.entries
    ∙ ap (λ (m : Places). place_at c.args.pushed.now.0 m) c.self.view_is
