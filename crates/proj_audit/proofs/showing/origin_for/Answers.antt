use Rattle.std.proofs.Common.{◌∙◌, ap, subst, sym}
use Rattle.std.proofs.lemmas.Option.{same_Some}
use Rattle.filter_text.specs.Shapes.{shape}
use Rattle.filter_routes.specs.TableValues.{Table}
use Rattle.workspace.specs.Laws.{IsUsable}
use Rattle.workspace.specs.Views.{found_value}
use Rattle.workspace.proofs.Usable.{with-usable}
use Rattle.proj_audit.proofs.showing.origin_for.Goals as goal

pub origin_of-requires : goal.origin_of-requires
origin_of-requires c =
    let there = c.in_ok-resolved.ensures.table.there in
    let same = same_Some there.0 c.in-Some.table.now (sym there.1 ∙ sym c.in-Some.ensures) in
    subst IsUsable (sym there.2 ∙ ap (λ (t : Table). shape t.filter) same)
    (with-usable (shape c.args.filter.now) (found_value c.in_ok-store.store c.in_ok-store.leaf) c.requires.usable)
