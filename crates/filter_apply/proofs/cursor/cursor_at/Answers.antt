use Rattle.std.proofs.Common.{IfSome, sym, subst, ◌∙◌}
use Rattle.git_objects.proofs.Order.{path_decides}
use Rattle.object_store.specs.Unfolding.{flat}
use Rattle.filter_apply.specs.Cursors.{IsCursor}
use Rattle.filter_apply.proofs.cursor.cursor_at.Goals as goal

pub returns-then-is_same-clause-cursor : goal.returns-then-is_same-clause-cursor
returns-then-is_same-clause-cursor g c =
    let S = c.args.store.now in (
      subst (λ o. IfSome o (IsCursor S (flat S c.args.root.0))) c.in-Some.is c.requires.cursor,
      (path_decides c.in-Some.kept.parent.now c.args.parent.now).0 (sym c.is_same.ensures ∙ c.if-is_same.true),
    )
