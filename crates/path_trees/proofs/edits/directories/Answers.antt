use Rattle.std.proofs.Common.{◌≡◌, length, List, ap, sym, subst, arith}
use Rattle.git_objects.specs.declared.name.Name.{Name}
use Rattle.object_store.specs.Unfolding.{flat}
use Rattle.object_store.proofs.Unfolding.{flat_good}
use Rattle.path_trees.proofs.Directories.{IsSoFar, at_first, one_more, last_one}
use Rattle.path_trees.proofs.Lookups.{read_at}
use Rattle.path_trees.proofs.edits.directories.Goals as goal

pub loop-component-init : goal.loop-component-init
loop-component-init c =
    let S = c.args.store.now in
    subst (λ (names : List Name). IsSoFar S (flat S c.args.root.0) c.args.path.now names 0 c.args.root) (sym c.new-directories.ensures.items)
    (at_first S c.args.root c.args.path.now c.store_law.ensures.store c.requires)

pub returns-in-None-clause-names : goal.returns-in-None-clause-names
returns-in-None-clause-names c =
    let S = c.args.store.now in
    let same = c.components-component-items.ensures.components in
    let n : length c.components-component-items.result.now ≡ length c.args.path.now = ap length same in
    last_one S c.store_law.ensures.store (flat S c.args.root.0) (flat_good S c.store_law.ensures.store c.args.root.0 c.requires).tree c.args.path.now c.loop-component.directories.items c.loop-component.component-index c.loop-component.directory
    c.loop-component.invariant c.bytes.result.now c.in-None.ensures.name (omega arith)
    (read_at c.components-component-items.result.now c.args.path.now c.loop-component.component-index c.component-item.result c.bytes.result.now same c.bytes.ensures.bytes c.component-item.is)
    c.push.new.self.items c.in_ok-push.ensures.items

pub loop-component-preserved : goal.loop-component-preserved
loop-component-preserved c =
    let S = c.args.store.now in
    let same = c.components-component-items.ensures.components in
    let n : length c.components-component-items.result.now ≡ length c.args.path.now = ap length same in
    one_more S c.store_law.ensures.store (flat S c.args.root.0) (flat_good S c.store_law.ensures.store c.args.root.0 c.requires).tree c.args.path.now c.loop-component.directories.items c.loop-component.component-index c.loop-component.directory
    c.loop-component.invariant c.bytes.result.now c.in-Some.name c.in-Some.ensures.name (omega arith)
    (read_at c.components-component-items.result.now c.args.path.now c.loop-component.component-index c.component-item.result c.bytes.result.now same c.bytes.ensures.bytes c.component-item.is)
    c.push.new.self.items c.in_ok-push.ensures.items
