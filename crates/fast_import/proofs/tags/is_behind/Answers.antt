use Rattle.std.proofs.Common.{true, Option, ap, ◌∙◌}
use Rattle.std.specs.Option.{option_map_or}
use Rattle.std.specs.Ordering.{is_lt}
use Rattle.git_objects.specs.Refs.{bytes_cmp}
use Rattle.tag_objects.specs.declared.tag.Tag.{Tag}
use Rattle.fast_import.proofs.Keeping.{last-is}
use Rattle.fast_import.proofs.tags.is_behind.Goals as goal

pub returns-in-Some : goal.returns-in-Some
returns-in-Some c =
    c.is_lt.ensures ∙ ap is_lt c.cmp.ensures
    ∙ ap (λ (o : Option Tag). option_map_or (λ t. is_lt (bytes_cmp t.name c.args.name.now)) o true) (c.in-Some.ensures.value ∙ last-is c.args.tags.now)
