use Rattle.std.proofs.Common.{take, sym, ap, ◌∙◌}
use Rattle.std.proofs.lemmas.List.{take-map}
use Rattle.commit_map.specs.Shown.{Entries, entry_value, entry_values}
use Rattle.commit_map.proofs.commit_map.CommitMap.truncate.Goals as goal

pub returns : goal.returns
returns c =
    ap entry_values c.truncate.ensures.entries
    ∙ sym (take-map entry_value c.args.len c.self.inside.entries.entries)
    ∙ ap (λ (es : Entries). take c.args.len es) c.self.view_is
