use Rattle.std.proofs.Common.{sym, ap, ◌∙◌}
use Rattle.std.specs.Option.{option_copied}
use Rattle.path_names.specs.PathTexts.{parts_left}
use Rattle.path_names.proofs.SplitParts.{first_part, no_slash_part}
use Rattle.path_names.proofs.parts.Parts.next.Goals as goal

pub returns-in-Some : goal.returns-in-Some
returns-in-Some c =
    sym c.self.view_is ∙ ap (λ r. parts_left (option_copied r)) c.in_ok-text.was
    ∙ first_part c.in_ok-text.text.now c.in-Some.end (sym c.slash_in.ensures ∙ c.in-Some.is)

pub returns-in-None : goal.returns-in-None
returns-in-None c =
    sym c.self.view_is ∙ ap (λ r. parts_left (option_copied r)) c.in_ok-text.was
    ∙ no_slash_part c.in_ok-text.text.now (sym c.slash_in.ensures ∙ c.in-None.is)
