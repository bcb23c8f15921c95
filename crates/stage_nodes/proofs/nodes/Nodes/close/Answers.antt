use Rattle.std.proofs.Common.{Option, ℕ, None, sym, ap, subst, ◌∙◌, arith}
use Rattle.std.proofs.lemmas.Option.{slice_get_within}
use Rattle.std.specs.Prelude.{slice_set}
use Rattle.git_objects.specs.declared.mode.Mode.TheVariants.{Dir}
use Rattle.stage_nodes.specs.declared.nodes.Node.{Node}
use Rattle.stage_nodes.specs.declared.nodes.Content.TheVariants.{Held}
use Rattle.stage_nodes.specs.Pools.{CanFree, IsFreed}
use Rattle.stage_nodes.proofs.Opening.{read_node}
use Rattle.stage_nodes.proofs.Closing.{close_inside, close_can_free, is_closed_at}
use Rattle.stage_nodes.proofs.nodes.Nodes.close.Goals as goal

pub free_all-requires : goal.free_all-requires
free_all-requires c =
    let s = c.args.self.now in
    let r = read_node s.cells.items c.args.number c.index-node.result.now c.requires.reads.node c.index-node.ensures c.requires.reads.there in
    subst (λ (o : Option ℕ). CanFree c.set.new.self o) (ap (λ (n : Node). n.first) (sym r))
    (close_can_free s c.set.new.self c.set.new.self c.args.number c.args.name c.requires
    (c.set.ensures.cells ∙ ap (λ (x : Node). slice_set s.cells.items c.args.number (record x { content = Held (record { mode = Dir; name = c.args.name }); first = None })) r) (ap (λ v. v.items) c.set.ensures.names) c.set.ensures.free)

pub returns : goal.returns
returns c = λ h.
    let s = c.args.self.now in
    let r = read_node s.cells.items c.args.number c.index-node.result.now h.reads.node c.index-node.ensures h.reads.there in
    is_closed_at s c.set.new.self c.free_all.new.self c.args.number c.args.name h
    (c.set.ensures.cells ∙ ap (λ (x : Node). slice_set s.cells.items c.args.number (record x { content = Held (record { mode = Dir; name = c.args.name }); first = None })) r) (ap (λ v. v.items) c.set.ensures.names) c.set.ensures.free
    (subst (λ (o : Option ℕ). IsFreed c.set.new.self c.free_all.new.self o) (ap (λ (n : Node). n.first) r) c.free_all.ensures)

pub set-requires : goal.set-requires
set-requires c = close_inside c.args.self.now c.args.self.now c.args.self.now c.args.number c.args.name c.requires

pub index-node-requires : goal.index-node-requires
index-node-requires c = omega (arith, slice_get_within c.args.self.now.cells.items c.args.number c.requires.reads.node c.requires.reads.there)
