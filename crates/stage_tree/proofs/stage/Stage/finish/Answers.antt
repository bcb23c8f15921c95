use Rattle.std.proofs.Common.{Ok, sym, ap, subst, ◌∙◌}
use Rattle.stage_tree.specs.Stages.{Staged}
use Rattle.stage_tree.specs.Finished.{IsFinished}
use Rattle.stage_nodes.specs.declared.nodes.Node.{Node}
use Rattle.stage_nodes.proofs.Opening.{read_node}
use Rattle.stage_tree.proofs.Finished.{finished, finished_unopened, open_root_is}
use Rattle.stage_tree.proofs.stage.Stage.finish.Goals as goal

pub finish-requires-clause-opened : goal.finish-requires-clause-opened
finish-requires-clause-opened c =
    let r = read_node c.self.inside.nodes.cells.items 0 c.index.result.now c.self.invariant.stage.root c.index.ensures c.self.invariant.stage.there in
    open_root_is c.args.store.now c.self.inside.nodes c.self.inside.most c.args.self.now c.self.view_is c.self.invariant.stage c.requires.0 c.requires.1 (ap (λ (n : Node). n.content) (sym r) ∙ c.in-Open.is)

pub returns-in-Held : goal.returns-in-Held
returns-in-Held c = λ t h.
    let r = read_node c.self.inside.nodes.cells.items 0 c.index.result.now c.self.invariant.stage.root c.index.ensures c.self.invariant.stage.there in
    subst (λ (v : Staged). IsFinished c.args.store.now c.args.store.now v t (Ok c.in-Held.found.name)) (sym c.self.view_is) (finished_unopened c.args.store.now c.self.inside.nodes c.self.inside.most c.args.self.now c.self.view_is c.self.invariant.stage t h c.in-Held.found (ap (λ (n : Node). n.content) (sym r) ∙ c.in-Held.is))

pub returns-in-Open : goal.returns-in-Open
returns-in-Open c = λ t h.
    let r = read_node c.self.inside.nodes.cells.items 0 c.index.result.now c.self.invariant.stage.root c.index.ensures c.self.invariant.stage.there in
    finished c.args.store.now c.self.inside.nodes c.self.inside.most c.args.self.now c.self.view_is c.self.invariant.stage t h (ap (λ (n : Node). n.content) (sym r) ∙ c.in-Open.is) c.finish.new.store c.finish.new.self c.finish.result c.finish.ensures.storing c.finish.ensures.ok c.finish.ensures.err

pub finish-requires-clause-store : goal.finish-requires-clause-store
finish-requires-clause-store c = c.requires.1.store
