use Rattle.std.proofs.Common.{◌≡◌, ◌++◌, ◌∷◌, [], None, ap, ◌∙◌}
use Rattle.commit_map.specs.Shown.{Entries, entry_value, entry_values, kept_at}
use Rattle.commit_map.proofs.Lookups.{behind}
use Rattle.commit_map.proofs.commit_map.CommitMap.set.Goals as goal

pub returns-clause-ok : goal.returns-clause-ok
returns-clause-ok c =
    let new : kept_at c.args.original.0 (entry_values c.self.inside.entries.entries) ≡ None = ap (λ (m : Entries). kept_at c.args.original.0 m) c.self.view_is ∙ c.requires in
    ap entry_values c.in_ok-insert.ensures.entries
    ∙ behind c.args.original c.args.shown c.self.inside.entries.entries new
    ∙ ap (λ (m : Entries). m ++ entry_value (c.args.original, c.args.shown) ∷ []) c.self.view_is
