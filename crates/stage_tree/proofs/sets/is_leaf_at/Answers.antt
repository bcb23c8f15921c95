use Rattle.std.proofs.Common.{not, Some, sym, ap, subst, ◌∙◌, arith}
use Rattle.stage_nodes.proofs.NodePlaces.{node_inside}
use Rattle.stage_tree.proofs.CopyEdits.{read_is}
use Rattle.stage_nodes.specs.Ways.{HasPlace}
use Rattle.stage_tree.specs.Sets.{is_leaf, is_leaf_at, is_leaf_node}
use Rattle.stage_tree.proofs.sets.is_leaf_at.Goals as goal

pub returns-in_default : goal.returns-in_default
returns-in_default c = sym (ap (is_leaf_at c.args.nodes.now.cells.items) c.in_default.is)

pub index-requires : goal.index-requires
index-requires c = let h : HasPlace c.requires.0 c.args.nodes.now (Some c.in-Some.number) = subst (HasPlace c.requires.0 c.args.nodes.now) c.in-Some.is c.requires.1 in omega (arith, node_inside c.requires.0 c.args.nodes.now c.in-Some.number h)

pub returns-in-Held : goal.returns-in-Held
returns-in-Held c = let h : HasPlace c.requires.0 c.args.nodes.now (Some c.in-Some.number) = subst (HasPlace c.requires.0 c.args.nodes.now) c.in-Some.is c.requires.1 in ap not c.is_dir.ensures ∙ sym (ap (is_leaf_at c.args.nodes.now.cells.items) c.in-Some.is ∙ ap is_leaf_node (read_is c.requires.0 c.args.nodes.now c.in-Some.number h c.index.result.now c.index.ensures) ∙ ap is_leaf c.in-Held.is)

pub returns-in-Open : goal.returns-in-Open
returns-in-Open c = let h : HasPlace c.requires.0 c.args.nodes.now (Some c.in-Some.number) = subst (HasPlace c.requires.0 c.args.nodes.now) c.in-Some.is c.requires.1 in sym (ap (is_leaf_at c.args.nodes.now.cells.items) c.in-Some.is ∙ ap is_leaf_node (read_is c.requires.0 c.args.nodes.now c.in-Some.number h c.index.result.now c.index.ensures) ∙ ap is_leaf c.in-Open.is)
