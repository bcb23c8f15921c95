use Rattle.std.proofs.Common.{List, ap, ◌∙◌}
use Rattle.std.specs.Option.{option_map}
use Rattle.git_objects.specs.Paths.{Bytes}
use Rattle.ref_store.specs.Refs.{head_of}
use Rattle.ref_store.specs.Pairs.{name_bytes}
use Rattle.ref_store.proofs.Heads.{head-lookup}
use Rattle.ref_store.proofs.refs.Refs.get.Goals as goal

pub returns : goal.returns
returns c =
    ap (option_map name_bytes) (c.copied.ensures ∙ c.get.ensures.value)
    ∙ head-lookup c.args.refname.now c.self.inside.heads.entries
    ∙ ap (λ (refs : List (Bytes × Bytes)). head_of refs c.args.refname.now) c.self.view_is
