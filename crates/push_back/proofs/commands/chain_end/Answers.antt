use Rattle.std.proofs.Common.{Option, ap, ◌∙◌}
use Rattle.std.specs.Option.{option_or}
use Rattle.git_objects.specs.Paths.{Bytes}
use Rattle.push_back.proofs.commands.chain_end.Goals as goal

pub returns-in-None : goal.returns-in-None
returns-in-None g c = λ S r h.
    c.from.ensures ∙ ap (λ (o : Option Bytes). option_or o (g.P.OnRef.from c.args.base.now)) (c.in-None.ensures S r h)

pub returns-in-Some : goal.returns-in-Some
returns-in-Some g c = λ S r h. ap (λ (o : Option Bytes). option_or o (g.P.OnRef.from c.args.base.now)) (c.in-Some.ensures S r h)
