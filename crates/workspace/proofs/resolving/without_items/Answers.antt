use Rattle.std.proofs.Common.{◌∙◌, ap, sym, subst}
use Rattle.filter_routes.specs.Soundness.{IsSound}
use Rattle.workspace.specs.Views.{parts_value}
use Rattle.workspace.specs.Workspaces.{put_in}
use Rattle.workspace.proofs.Readable.{bare-usable}
use Rattle.workspace.proofs.resolving.without_items.Goals as goal

pub interned-requires : goal.interned-requires
interned-requires c =
    let s = parts_value c.args.parts.now in
    record { sound = subst IsSound (sym (c.in_ok-whole.ensures ∙ ap (put_in s) c.in_ok-list.ensures)) (bare-usable s c.requires.parts).sound }
