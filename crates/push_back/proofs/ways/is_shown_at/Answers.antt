use Rattle.std.proofs.Common.{sym, ap, ◌∙◌}
use Rattle.std.specs.Option.{option_and_then}
use Rattle.std.specs.Ordering.{is_eq}
use Rattle.filter_routes.specs.Images.{image}
use Rattle.push_back.proofs.NextFilters.{shown-same}
use Rattle.push_back.proofs.ways.is_shown_at.Goals as goal

pub returns-in-Some : goal.returns-in-Some
returns-in-Some c = λ f h.
    shown-same c.in-Some.image c.args.shown.now c.is_eq.result (c.is_eq.ensures ∙ ap is_eq c.order.ensures) (option_and_then (image f) c.args.file.now)
    (sym c.in-Some.is ∙ c.in_ok-image_where.ensures f h)
