use Rattle.std.proofs.Common.{◌≡◌, ◌-◌, List, map, sym, ap, subst, ◌∙◌, arith}
use Rattle.git_objects.specs.Views.{entry_value}
use Rattle.git_objects.specs.declared.entry.Entry.{Entry}
use Rattle.path_trees.specs.Listed.{inserted, named}
use Rattle.path_trees.proofs.Gathering.{seen_at, seen_long}
use Rattle.std.specs.declared.cmp.Ordering.TheVariants.{Less}
use Rattle.stage_nodes.specs.Forests.{bytes_cmp, node_component}
use Rattle.stage_nodes.specs.declared.nodes.Link.TheVariants.{First, Next}
use Rattle.stage_nodes.proofs.Seeking.{passed_smaller}
use Rattle.stage_nodes.proofs.ChildEntries.{IsGathering, added_last, less_at, less_here, gathering_first, child_passed, no_open, gathering_next, gathering_end}
use Rattle.stage_nodes.proofs.nodes.Nodes.entries.Goals as goal

pub children-init : goal.children-init
children-init c = subst (λ (x : List Entry). IsGathering c.args.self.now c.args.directory x (First c.args.directory)) (sym (ap (map entry_value) c.in_ok-entries.ensures.items)) (gathering_first c.args.self.now c.args.directory c.requires)

pub index-node-requires : goal.index-node-requires
index-node-requires c =
    let s = c.args.self.now in
    omega (arith, (Rattle.stage_nodes.proofs.Seeking.passed_at s.names.items s.cells.items c.children.link c.in-Some.number (sym c.in-Some.ensures) c.children.invariant.walk).2.inside)

pub unreachable-requires : goal.unreachable-requires
unreachable-requires c = no_open c.args.self.now c.args.directory (map entry_value c.children.entries.items) c.children.link c.children.invariant c.in-Some.number c.in-Some.ensures c.index-node.result.now c.index-node.ensures c.in-Open.is

pub component-component-requires : goal.component-component-requires
component-component-requires c = (child_passed c.args.self.now c.args.directory (map entry_value c.children.entries.items) c.children.link c.children.invariant c.in-Some.number c.in-Some.ensures c.index-node.result.now c.index-node.ensures).within

pub children-smaller : goal.children-smaller
children-smaller c =
    let s = c.args.self.now in
    passed_smaller s.names.items s.cells.items c.component-component.result.now c.children.link c.in-Some.number c.index-node.result.now (child_passed s c.args.directory (map entry_value c.children.entries.items) c.children.link c.children.invariant c.in-Some.number c.in-Some.ensures c.index-node.result.now c.index-node.ensures)

pub children-preserved : goal.children-preserved
children-preserved c =
    let s = c.args.self.now in let es = map entry_value c.children.entries.items in
    subst (λ (x : List Entry). IsGathering s c.args.directory x (Next c.in-Some.number)) (sym (c.in_ok-insert-in-Held.ensures ∙ (λ i. inserted (named (c.component-component.ensures i) c.in-Held.found) es)))
    (gathering_next s c.args.directory es c.children.link c.children.invariant c.in-Some.number c.in-Some.ensures c.index-node.result.now c.index-node.ensures c.in-Held.found c.in-Held.is)

pub children-smaller-in_ok-push-in-Held : goal.children-smaller-in_ok-push-in-Held
children-smaller-in_ok-push-in-Held c =
    let s = c.args.self.now in
    passed_smaller s.names.items s.cells.items c.component-component.result.now c.children.link c.in-Some.number c.index-node.result.now (child_passed s c.args.directory (map entry_value c.children.entries.items) c.children.link c.children.invariant c.in-Some.number c.in-Some.ensures c.index-node.result.now c.index-node.ensures)

pub children-preserved-in_ok-push-in-Held : goal.children-preserved-in_ok-push-in-Held
children-preserved-in_ok-push-in-Held c =
    let s = c.args.self.now in let views = c.children.entries.items in let es = map entry_value views in
    let last = c.index.result.now in
    let listed = less_at (node_component s.names.items c.index-node.result.now) es (c.len-len.result - 1) (entry_value last)
    (less_here s c.args.directory es c.children.link c.children.invariant c.in-Some.number c.in-Some.ensures c.index-node.result.now c.index-node.ensures c.in-Held.found c.in-Held.is)
    (omega (arith, seen_long views, c.len-len.ensures)) (seen_at views (c.len-len.result - 1) last c.index.ensures) in
    let less : bytes_cmp last.component.now c.component-component.result.now ≡ Less = ap (bytes_cmp last.component.now) c.component-component.ensures ∙ listed in
    subst (λ (x : List Entry). IsGathering s c.args.directory x (Next c.in-Some.number))
    (sym (ap (map entry_value) c.in_ok-push-in-Held.ensures.items
    ∙ added_last views _ c.len-len.result last (omega (arith, c.len-len.ensures)) (omega arith) c.index.ensures c.children.invariant.good (c.keeps_order.ensures (cc) less c.in-Held.found)
    ∙ (λ i. inserted (named (c.component-component.ensures i) c.in-Held.found) es)))
    (gathering_next s c.args.directory es c.children.link c.children.invariant c.in-Some.number c.in-Some.ensures c.index-node.result.now c.index-node.ensures c.in-Held.found c.in-Held.is)

pub returns : goal.returns
returns c = gathering_end c.args.self.now c.args.directory (map entry_value c.children.entries.items) c.children.link c.children.invariant (sym c.in_default.ensures)
