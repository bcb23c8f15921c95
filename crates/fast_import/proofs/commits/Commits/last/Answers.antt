use Rattle.std.proofs.Common.{List, None, ap, ◌∙◌}
use Rattle.std.specs.List.{last_or}
use Rattle.fast_import.specs.declared.replayed.Made.{Made}
use Rattle.fast_import.proofs.Keeping.{last-is}
use Rattle.fast_import.proofs.commits.Commits.last.Goals as goal

pub returns : goal.returns
returns c = c.copied.ensures ∙ c.last.ensures.value ∙ last-is c.deref.result.now ∙ ap (λ (ms : List Made). last_or None ms) (c.deref.ensures.value ∙ c.self.view_is)
