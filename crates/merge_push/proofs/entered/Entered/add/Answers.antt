use Rattle.std.proofs.Common.{sym, ap, ◌∙◌}
use Rattle.merge_push.specs.Places.{place_values}
use Rattle.merge_push.proofs.Placing.{place-added, place-behind}
use Rattle.merge_push.proofs.entered.Entered.add.Goals as goal

pub returns : goal.returns
returns c =
    let es = c.self.inside.places.entries in
    let more = place-added c.args.self.now (place_values es) c.args.pushed.0 c.args.place c.place.result c.self.view_is c.place.ensures (sym c.is_some.ensures ∙ c.if-is_some.false) in
    ap place_values c.in_ok-insert.ensures.entries ∙ place-behind c.args.pushed c.args.place es more.0 ∙ more.1
