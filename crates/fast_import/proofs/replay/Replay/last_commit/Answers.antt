use Rattle.std.proofs.Common.{None, sym, ap, ◌∙◌, refl}
use Rattle.std.specs.List.{last_or}
use Rattle.std.specs.Option.{option_map}
use Rattle.fast_import.specs.Replaying.{Replaying}
use Rattle.fast_import.specs.declared.replayed.Made.{Made}
use Rattle.fast_import.proofs.Resolving.{last-made}
use Rattle.fast_import.proofs.replay.Replay.last_commit.Goals as goal

pub returns-in-None : goal.returns-in-None
returns-in-None c = λ S r h.
    ap (option_map (λ (m : Made). m.name.0)) (sym c.in-None.is ∙ c.last.ensures ∙ ap (λ (v : Replaying). last_or None v.commits) c.self.view_is)
    ∙ last-made S c.args.self.now.commits r.commits None None h.commits refl

pub returns-in-Some : goal.returns-in-Some
returns-in-Some c = λ S r h.
    ap (option_map (λ (m : Made). m.name.0)) (sym c.in-Some.is ∙ c.last.ensures ∙ ap (λ (v : Replaying). last_or None v.commits) c.self.view_is)
    ∙ last-made S c.args.self.now.commits r.commits None None h.commits refl
