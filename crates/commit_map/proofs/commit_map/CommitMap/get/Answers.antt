use Rattle.std.proofs.Common.{ap, ◌∙◌}
use Rattle.std.specs.Option.{option_map}
use Rattle.commit_map.specs.Shown.{Entries, kept_at}
use Rattle.commit_map.proofs.Lookups.{kept-lookup, value}
use Rattle.commit_map.proofs.commit_map.CommitMap.get.Goals as goal

pub returns : goal.returns
returns c =
    ap (option_map value) (c.copied.ensures ∙ c.get.ensures.value)
    ∙ kept-lookup c.args.original.now.0 c.self.inside.entries.entries
    ∙ ap (λ (m : Entries). kept_at c.args.original.now.0 m) c.self.view_is
