use Rattle.std.proofs.Common.{ap, ap₂, ◌∙◌}
use Rattle.std.specs.Ordering.{is_lt, ordering_then}
use Rattle.git_objects.specs.Paths.{path_cmp}
use Rattle.filter_unapply.proofs.PathOrders.{then-equal}
use Rattle.filter_unapply.proofs.blocking.comes_before.Goals as goal

pub returns : goal.returns
returns c =
    let a = c.args.a.now in
    let b = c.args.b.now in
    c.is_lt.ensures ∙ ap is_lt (c.then.ensures ∙ ap₂ ordering_then c.order-first.ensures c.order-second.ensures) ∙ then-equal (path_cmp a.0 b.0) (path_cmp a.1 b.1)
