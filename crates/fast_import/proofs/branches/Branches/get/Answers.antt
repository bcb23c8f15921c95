use Rattle.std.proofs.Common.{Option, ap, ◌∙◌}
use Rattle.std.specs.Option.{option_map}
use Rattle.std.specs.FinMap.{find}
use Rattle.git_objects.specs.Parts.{name_bytes}
use Rattle.git_objects.specs.declared.name.Name.{Name}
use Rattle.git_objects.specs.Refs.{Refs, bytes_cmp}
use Rattle.fast_import.proofs.Heading.{found-heads}
use Rattle.fast_import.proofs.branches.Branches.get.Goals as goal

pub returns : goal.returns
returns c =
    ap (λ (o : Option Name). option_map name_bytes o) (c.copied.ensures ∙ c.get.ensures.value)
    ∙ found-heads c.args.refname.now c.self.inside.heads.entries
    ∙ ap (λ (t : Refs). find bytes_cmp c.args.refname.now t) c.self.view_is
