use Rattle.std.proofs.Common.{ap, ◌∙◌}
use Rattle.fast_export.specs.Given.{is_named}
use Rattle.fast_export.specs.declared.known.Lines.{Lines}
use Rattle.indexmap.specs.IndexMap.{insert_entry}
use Rattle.fast_export.proofs.known.KnownLines.put.Goals as goal

pub returns : goal.returns
returns c =
    let lines : Lines = record { front = c.in_ok-to_vec.field-0; text = c.in_ok-to_vec-2.field-0 } in (
      lines,
      c.in_ok-to_vec.ensures.items_if_clones_equal (λ x y e. e),
      c.in_ok-to_vec-2.ensures.items_if_clones_equal (λ x y e. e),
      c.in_ok-insert.ensures.entries ∙ ap (λ es. insert_entry is_named es c.args.tree lines) c.self.view_is,
    )
