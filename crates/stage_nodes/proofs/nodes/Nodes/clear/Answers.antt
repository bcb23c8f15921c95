use Rattle.std.proofs.Common.{Option, ℕ, refl, sym, ap, subst, ◌∙◌}
use Rattle.stage_nodes.specs.declared.nodes.Node.{Node}
use Rattle.stage_nodes.specs.Pools.{CanFree, IsFreed}
use Rattle.stage_nodes.proofs.Opening.{read_node}
use Rattle.stage_nodes.proofs.Counting.{can_clear, cleared, cleared_items}
use Rattle.stage_nodes.proofs.nodes.Nodes.clear.Goals as goal

pub free_all-requires : goal.free_all-requires
free_all-requires c =
    let s = c.args.self.now in
    let r = read_node s.cells.items 0 c.index-root.result.now c.requires.root c.index-root.ensures c.requires.there in
    subst (λ (o : Option ℕ). CanFree c.set.new.self o) (ap (λ (n : Node). n.first) (sym r))
    (can_clear s c.set.new.self c.set.new.self c.requires _ refl refl (ap (λ (n : Node). n.next) r ∙ c.requires.alone c.requires.root c.requires.there) c.set.ensures.cells (ap (λ v. v.items) c.set.ensures.names) c.set.ensures.free)

pub returns-clause-stage : goal.returns-clause-stage
returns-clause-stage c =
    let s = c.args.self.now in
    let r = read_node s.cells.items 0 c.index-root.result.now c.requires.root c.index-root.ensures c.requires.there in
    cleared s c.set.new.self c.free_all.new.self c.requires _ refl refl (ap (λ (n : Node). n.next) r ∙ c.requires.alone c.requires.root c.requires.there) c.set.ensures.cells (ap (λ v. v.items) c.set.ensures.names) c.set.ensures.free
    (subst (λ (o : Option ℕ). IsFreed c.set.new.self c.free_all.new.self o) (ap (λ (n : Node). n.first) r) c.free_all.ensures)

pub returns-clause-items : goal.returns-clause-items
returns-clause-items c =
    let s = c.args.self.now in
    let r = read_node s.cells.items 0 c.index-root.result.now c.requires.root c.index-root.ensures c.requires.there in
    cleared_items s c.set.new.self c.free_all.new.self c.requires _ refl refl (ap (λ (n : Node). n.next) r ∙ c.requires.alone c.requires.root c.requires.there) c.set.ensures.cells (ap (λ v. v.items) c.set.ensures.names) c.set.ensures.free
    (subst (λ (o : Option ℕ). IsFreed c.set.new.self c.free_all.new.self o) (ap (λ (n : Node). n.first) r) c.free_all.ensures)
