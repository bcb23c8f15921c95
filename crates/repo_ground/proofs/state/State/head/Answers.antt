use Rattle.std.proofs.Common.{◌≡◌, subst, ap, ◌∙◌}
use Rattle.std.specs.FinMap.{find}
use Rattle.std.specs.Option.{option_map}
use Rattle.git_objects.specs.Parts.{name_bytes}
use Rattle.git_objects.specs.Refs.{bytes_cmp}
use Rattle.state_items.specs.Items.{Held}
use Rattle.repo_ground.specs.Contents.{Contents, Spells}
use Rattle.state_items.proofs.RefsHeld.{head-found}
use Rattle.repo_ground.proofs.state.State.head.Goals as goal

pub returns-clause-held : goal.returns-clause-held
returns-clause-held c =
    subst (λ (s : Contents). (h : Held) → Spells h s → option_map name_bytes c.get.result ≡ find bytes_cmp c.args.refname.now h.refs) c.self.view_is
    (λ h s. c.get.ensures ∙ head-found c.args.refname.now c.self.inside.refs s.distinct ∙ ap (find bytes_cmp c.args.refname.now) s.refs)
