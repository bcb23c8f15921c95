use Rattle.std.proofs.Common.{sym, subst, ◌∙◌}
use Rattle.path_trees.specs.Searches.{IsFrom}
use Rattle.path_trees.proofs.Searching.{from_rest}
use Rattle.path_trees.proofs.finder.Finder.from.Goals as goal

pub returns-then-precedes : goal.returns-then-precedes
returns-then-precedes c =
    let w = c.args.component.now in
    let k = from_rest c.self.inside.last.now w c.self.inside.all c.self.inside.rest (sym c.precedes.ensures ∙ c.if-precedes.true) c.self.invariant.behind in
    subst (λ all. IsFrom w all c.copy.result) c.self.view_is (subst (IsFrom w c.self.inside.all) (sym c.copy.ensures) k)
