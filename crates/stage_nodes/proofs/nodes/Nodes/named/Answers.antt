use Rattle.std.proofs.Common.{◌≡◌, true, false, cond, Some, None, sym, ap, ◌∙◌, arith}
use Rattle.git_objects.specs.Paths.{same_bytes}
use Rattle.stage_nodes.specs.Forests.{node_component}
use Rattle.stage_nodes.specs.Ways.{named_first}
use Rattle.stage_nodes.proofs.Seeking.{passed, passed_at}
use Rattle.stage_nodes.proofs.nodes.Nodes.named.Goals as goal

pub index-node-requires : goal.index-node-requires
index-node-requires c =
    let s = c.args.self.now in
    omega (arith, (passed_at s.names.items s.cells.items c.args.link c.in_ok-number.number (sym c.in_ok-number.ensures) c.requires.walk).2.inside)

pub is_named-requires : goal.is_named-requires
is_named-requires c =
    let s = c.args.self.now in
    (passed s.names.items s.cells.items c.args.link c.in_ok-number.number c.index-node.result.now c.in_ok-number.ensures c.requires.walk c.index-node.ensures).within

pub returns-then-is_named : goal.returns-then-is_named
returns-then-is_named c =
    let s = c.args.self.now in
    let p = passed s.names.items s.cells.items c.args.link c.in_ok-number.number c.index-node.result.now c.in_ok-number.ensures c.requires.walk c.index-node.ensures in
    let t : same_bytes c.args.component.now (node_component s.names.items c.index-node.result.now) ≡ true = cc in
    sym (ap (named_first c.args.component.now) p.opened ∙ ap (λ b. cond b (Some c.in_ok-number.number) None) t)

pub returns-else-is_named : goal.returns-else-is_named
returns-else-is_named c =
    let s = c.args.self.now in
    let p = passed s.names.items s.cells.items c.args.link c.in_ok-number.number c.index-node.result.now c.in_ok-number.ensures c.requires.walk c.index-node.ensures in
    let t : same_bytes c.args.component.now (node_component s.names.items c.index-node.result.now) ≡ false = cc in
    sym (ap (named_first c.args.component.now) p.opened ∙ ap (λ b. cond b (Some c.in_ok-number.number) None) t)
