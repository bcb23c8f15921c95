use Rattle.std.proofs.Common.{ℕ, List, Option, IfSome, sym, subst, arith}
use Rattle.path_trees.proofs.Lookups.{path_long}
use Rattle.stage_nodes.specs.declared.nodes.Link.TheVariants.{First}
use Rattle.stage_nodes.specs.Ways.{IsStart}
use Rattle.stage_nodes.proofs.Finishing.{on_ok}
use Rattle.stage_nodes.proofs.Onward.{start_root}
use Rattle.stage_nodes.proofs.Rooting.{already_open}
use Rattle.stage_tree.specs.Sets.{IsChildOf}
use Rattle.stage_tree.proofs.FromLast.{root_is_open}
use Rattle.stage_tree.proofs.last.start.Goals as goal

pub start_beside-requires-clause-opened : goal.start_beside-requires-clause-opened
start_beside-requires-clause-opened c =
    let s = c.args.nodes.now in
    let q = c.args.last.now.directory.items in
    let ns = c.args.last.now.numbers.items in
    let h = subst (λ (o : Option ℕ). IfSome o (IsChildOf s q ns)) (sym c.in-Some.ensures.value) c.requires.marked.last_there in
    (c.args.store.now, (already_open c.args.store.now s c.requires.marked.stage c.requires.held (root_is_open s c.requires.marked.stage q ns c.in-Some.child h)).opened)

pub returns-in-Some-clause-ok : goal.returns-in-Some-clause-ok
returns-in-Some-clause-ok c =
    let s = c.args.nodes.now in
    let q = c.args.last.now.directory.items in
    let ns = c.args.last.now.numbers.items in
    let h = subst (λ (o : Option ℕ). IfSome o (IsChildOf s q ns)) (sym c.in-Some.ensures.value) c.requires.marked.last_there in
    let o = already_open c.args.store.now s c.requires.marked.stage c.requires.held (root_is_open s c.requires.marked.stage q ns c.in-Some.child h) in
    on_ok c.start_beside.result (λ link g. (o, g c.args.store.now o.opened)) c.start_beside.ensures.start

pub returns-clause-ok : goal.returns-clause-ok
returns-clause-ok c =
    let o = c.in_ok-open_root.ensures.ok in
    let p = c.args.components.now in
    let long = path_long p c.requires.path in
    (o, subst (λ (ns : List ℕ). IsStart c.args.store.now c.open_root.new.self p ns (First 0)) (sym c.truncate.ensures.items) (start_root c.args.store.now c.open_root.new.self p (omega (arith, long)) o.opened))
