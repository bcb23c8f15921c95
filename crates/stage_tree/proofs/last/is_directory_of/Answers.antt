use Rattle.std.proofs.Common.{◌≡◌, sym, ap, arith, ◌∙◌}
use Rattle.std.specs.Cmp.Lexicographic.{bytes_decides}
use Rattle.std.proofs.lemmas.Option.{slice_get_within}
use Rattle.stage_nodes.specs.declared.nodes.Node.{Node}
use Rattle.stage_nodes.specs.Forests.{node_component}
use Rattle.stage_nodes.proofs.Opening.{read_node}
use Rattle.stage_tree.proofs.FromLast.{child_node, child_there, child_within, child_component, child_content}
use Rattle.stage_tree.proofs.last.is_directory_of.Goals as goal

pub index-node-requires : goal.index-node-requires
index-node-requires c = omega (arith, slice_get_within c.args.nodes.now.cells.items c.args.number (child_node c.requires.opened.0 c.args.nodes.now c.requires.opened.1 c.requires.child.0 c.requires.child.1 c.args.number c.requires.child.2) (child_there c.requires.opened.0 c.args.nodes.now c.requires.opened.1 c.requires.child.0 c.requires.child.1 c.args.number c.requires.child.2))

pub is_named-requires : goal.is_named-requires
is_named-requires c =
    let r = read_node c.args.nodes.now.cells.items c.args.number c.index-node.result.now (child_node c.requires.opened.0 c.args.nodes.now c.requires.opened.1 c.requires.child.0 c.requires.child.1 c.args.number c.requires.child.2) c.index-node.ensures (child_there c.requires.opened.0 c.args.nodes.now c.requires.opened.1 c.requires.child.0 c.requires.child.1 c.args.number c.requires.child.2) in
    omega (arith, child_within c.requires.opened.0 c.args.nodes.now c.requires.opened.1 c.requires.child.0 c.requires.child.1 c.args.number c.requires.child.2, ap (λ (n : Node). n.at) r, ap (λ (n : Node). n.len) r)

pub returns-in-Open : goal.returns-in-Open
returns-in-Open c = λ e S q ns o h.
    let s = c.args.nodes.now in
    let r = read_node s.cells.items c.args.number c.index-node.result.now (child_node S s o q ns c.args.number h) c.index-node.ensures (child_there S s o q ns c.args.number h) in
    let named : node_component s.names.items c.index-node.result.now ≡ h.component = ap (node_component s.names.items) r ∙ child_component S s o q ns c.args.number h in (
      sym ((bytes_decides c.args.component.now (node_component s.names.items c.index-node.result.now)).0 (sym c.is_named.ensures ∙ e) ∙ named),
      sym (ap (λ (n : Node). n.content) r ∙ child_content S s o q ns c.args.number h) ∙ c.in-Open.is,
    )
