use Rattle.std.proofs.Common.{◌∙◌, ap, sym}
use Rattle.std.specs.Option.{option_map}
use Rattle.filter_text.specs.Shapes.{shape}
use Rattle.workspace.specs.Views.{parts_value}
use Rattle.workspace.proofs.Usable.{directory-path}
use Rattle.workspace.proofs.giving.leaf_gives.Goals as goal

pub found_gives-requires-clause-path : goal.found_gives-requires-clause-path
found_gives-requires-clause-path c =
    directory-path (shape c.args.filter.now) (parts_value c.in-Some.parts) c.requires.usable
    (sym c.parts_of.ensures ∙ ap (option_map parts_value) c.in-Some.is)
