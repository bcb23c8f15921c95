use Rattle.std.proofs.Common.{sym, ◌∙◌}
use Rattle.decision_lists.proofs.HasAt.{has-found, has-missed}
use Rattle.decision_lists.proofs.entry.fits.Goals as goal

pub returns-then-begins : goal.returns-then-begins
returns-then-begins c = has-found c.args.point c.args.front.now c.args.path.now (sym c.begins.ensures ∙ c.if-begins.true)

pub returns-else-begins : goal.returns-else-begins
returns-else-begins c = c.if-begins.false ∙ has-missed c.args.point c.args.front.now c.args.path.now (sym c.begins.ensures ∙ c.if-begins.false)
