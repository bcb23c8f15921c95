use Rattle.std.proofs.Common.{sym, ap, ◌∙◌}
use Rattle.stage_nodes.specs.declared.nodes.Node.{Node}
use Rattle.stage_nodes.specs.Expanding.{IsExpanded, IsWaste}
use Rattle.stage_nodes.specs.Roots.{IsOpened, IsUnopened}
use Rattle.stage_nodes.proofs.Opening.{read_node}
use Rattle.stage_nodes.proofs.Rooting.{already_open, root_opened, root_unopened, of_ok, of_err}
use Rattle.stage_nodes.proofs.nodes.Nodes.open_root.Goals as goal

pub returns-in-Open-clause-ok : goal.returns-in-Open-clause-ok
returns-in-Open-clause-ok c =
    let s = c.args.self.now in
    let r = read_node s.cells.items 0 c.index.result.now c.requires.stage.root c.index.ensures c.requires.stage.there in
    already_open c.args.store.now s c.requires.stage c.requires.held (ap (λ (n : Node). n.content) (sym r) ∙ c.in-Open.is)

pub returns-in-Held-clause-ok : goal.returns-in-Held-clause-ok
returns-in-Held-clause-ok c =
    let s = c.args.self.now in
    let r = read_node s.cells.items 0 c.index.result.now c.requires.stage.root c.index.ensures c.requires.stage.there in
    of_ok c.expand.result (IsExpanded c.args.store.now s c.expand.new.self 0 c.in-Held.found.name) (IsOpened c.args.store.now s c.expand.new.self)
    (root_opened c.args.store.now s c.requires.stage c.requires.held c.in-Held.found (ap (λ (n : Node). n.content) (sym r) ∙ c.in-Held.is) c.expand.new.self) c.expand.ensures.ok

pub returns-in-Held-clause-err : goal.returns-in-Held-clause-err
returns-in-Held-clause-err c =
    let s = c.args.self.now in
    let r = read_node s.cells.items 0 c.index.result.now c.requires.stage.root c.index.ensures c.requires.stage.there in
    of_err c.expand.result (IsWaste s c.expand.new.self) (IsUnopened s c.expand.new.self)
    (root_unopened c.args.store.now s c.requires.stage c.requires.held c.in-Held.found (ap (λ (n : Node). n.content) (sym r) ∙ c.in-Held.is) c.expand.new.self) c.expand.ensures.err

pub returns-in-Open-clause-err : goal.returns-in-Open-clause-err
returns-in-Open-clause-err c = tt
