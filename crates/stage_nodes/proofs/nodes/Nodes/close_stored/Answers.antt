use Rattle.std.proofs.lemmas.Result.{err_from_is_err_and}
use Rattle.stage_nodes.proofs.Deepest.{deepest_tips, deepest_fault, deepest_refused, can_close, is_stored_at}
use Rattle.stage_nodes.proofs.nodes.Nodes.close_stored.Goals as goal

pub store_tree-requires-clause-tips : goal.store_tree-requires-clause-tips
store_tree-requires-clause-tips c = deepest_tips c.args.store.now c.args.self.now c.requires.opened c.requires.store c.args.directory c.requires.deepest

pub returns-in_err-name-clause-err : goal.returns-in_err-name-clause-err
returns-in_err-name-clause-err c =
    let p = err_from_is_err_and c.from_residual.result c.from_residual.ensures.1 in
    rw (p.1, p.2) (deepest_fault c.args.store.now c.args.self.now c.requires.opened c.requires.store c.args.directory c.requires.deepest c.store_tree.new.store c.in_err-name.ensures.err.0 c.in_err-name.field-0.0 c.in_err-name.ensures.err.1)

pub returns-in_err-name-clause-storing : goal.returns-in_err-name-clause-storing
returns-in_err-name-clause-storing c = deepest_refused c.args.store.now c.args.self.now c.requires.opened c.requires.store c.args.directory c.requires.deepest c.store_tree.new.store c.in_err-name.ensures.err.0

pub close-requires : goal.close-requires
close-requires c = can_close c.args.store.now c.args.self.now c.requires.opened c.requires.store c.args.directory c.requires.deepest c.store_tree.new.store c.store_tree.ensures.store c.in_ok-name.ensures.ok.1 c.in_ok-name.name c.in_ok-name.ensures.ok.0

pub returns-clause-ok : goal.returns-clause-ok
returns-clause-ok c = λ h. is_stored_at c.args.store.now c.args.self.now c.requires.opened c.requires.store c.args.directory h c.store_tree.new.store c.store_tree.ensures.store c.in_ok-name.ensures.ok.1 c.in_ok-name.name c.in_ok-name.ensures.ok.0 c.close.new.self (c.close.ensures (can_close c.args.store.now c.args.self.now c.requires.opened c.requires.store c.args.directory h c.store_tree.new.store c.store_tree.ensures.store c.in_ok-name.ensures.ok.1 c.in_ok-name.name c.in_ok-name.ensures.ok.0))

pub returns-clause-storing : goal.returns-clause-storing
returns-clause-storing c = (is_stored_at c.args.store.now c.args.self.now c.requires.opened c.requires.store c.args.directory c.requires.deepest c.store_tree.new.store c.store_tree.ensures.store c.in_ok-name.ensures.ok.1 c.in_ok-name.name c.in_ok-name.ensures.ok.0 c.close.new.self (c.close.ensures (can_close c.args.store.now c.args.self.now c.requires.opened c.requires.store c.args.directory c.requires.deepest c.store_tree.new.store c.store_tree.ensures.store c.in_ok-name.ensures.ok.1 c.in_ok-name.name c.in_ok-name.ensures.ok.0))).storing

pub returns-in_err-name-clause-ok : goal.returns-in_err-name-clause-ok
returns-in_err-name-clause-ok c = let p = err_from_is_err_and c.from_residual.result c.from_residual.ensures.1 in rw (p.1) tt

pub returns-clause-err : goal.returns-clause-err
returns-clause-err c = tt

pub store_tree-requires-clause-store : goal.store_tree-requires-clause-store
store_tree-requires-clause-store c = c.requires.store
