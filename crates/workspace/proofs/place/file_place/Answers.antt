use Rattle.std.proofs.Common.{◌∙◌, ap, sym}
use Rattle.std.specs.Option.{option_map}
use Rattle.filter_text.specs.Shapes.{shape}
use Rattle.workspace.specs.Views.{parts_value}
use Rattle.workspace.proofs.Usable.{usable-before}
use Rattle.workspace.proofs.place.file_place.Goals as goal

pub table_of-requires : goal.table_of-requires
table_of-requires c =
    record { sound = (usable-before (shape c.args.filter.now) (parts_value c.in-Some.parts) c.requires.usable (sym c.parts_of.ensures ∙ ap (option_map parts_value) c.in-Some.is)).sound }
