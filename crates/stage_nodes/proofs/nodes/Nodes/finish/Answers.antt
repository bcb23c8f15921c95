use Rattle.std.proofs.Common.{List, ℕ, sym, subst, arith}
use Rattle.std.proofs.lemmas.Result.{err_from_is_err_and}
use Rattle.stage_nodes.specs.declared.nodes.Link.TheVariants.{First}
use Rattle.std.specs.Vec.{vec_len}
use Rattle.object_store.specs.Objects.{Object}
use Rattle.stage_nodes.specs.Closing.{IsStoring, IsTurn}
use Rattle.stage_nodes.proofs.Storing.{storing_none, storing_on}
use Rattle.stage_nodes.proofs.Finishing.{turn_closed, turned_last, turned_root, fewer_open, root_has_tips, root_fault, root_storing, root_stands, none_popped, on_ok, on_err, either}
use Rattle.stage_nodes.proofs.nodes.Nodes.finish.Goals as goal

pub directories-init : goal.directories-init
directories-init c = record {
  storing = storing_none c.args.store.now c.args.self.now c.requires.store c.requires.opened;
  turn = subst (λ (x : List ℕ). IsTurn c.args.self.now x (First 0)) (sym c.new-entered.ensures.items) (Rattle.stage_nodes.proofs.Turning.turn_first c.args.self.now);
}

pub store_tree-requires-clause-tips : goal.store_tree-requires-clause-tips
store_tree-requires-clause-tips c = root_has_tips c.args.store.now c.directories.store c.args.self.now c.directories.self c.directories.invariant.storing (turned_root c.directories.self c.descend.new.entered.items c.in-Ok.ensures (none_popped c.descend.new.entered.items (vec_len c.descend.new.entered) (omega arith) c.in_default-pop.ensures.variant.1))

pub returns-in_default-pop-clause-ok : goal.returns-in_default-pop-clause-ok
returns-in_default-pop-clause-ok c = on_ok c.store_tree.result (λ n h. root_stands c.args.store.now c.directories.store c.args.self.now c.directories.self c.directories.invariant.storing (turned_root c.directories.self c.descend.new.entered.items c.in-Ok.ensures (none_popped c.descend.new.entered.items (vec_len c.descend.new.entered) (omega arith) c.in_default-pop.ensures.variant.1)) c.store_tree.new.store c.store_tree.ensures.store h.1 n h.0) c.store_tree.ensures.ok

pub returns-in_default-pop-clause-err : goal.returns-in_default-pop-clause-err
returns-in_default-pop-clause-err c = on_err c.store_tree.result (λ e h. root_fault c.args.store.now c.directories.store c.args.self.now c.directories.self c.directories.invariant.storing (turned_root c.directories.self c.descend.new.entered.items c.in-Ok.ensures (none_popped c.descend.new.entered.items (vec_len c.descend.new.entered) (omega arith) c.in_default-pop.ensures.variant.1)) c.store_tree.new.store h.0 e h.1) c.store_tree.ensures.err

pub returns-in_default-pop-clause-storing : goal.returns-in_default-pop-clause-storing
returns-in_default-pop-clause-storing c = either c.store_tree.result (λ n h. root_storing c.args.store.now c.directories.store c.args.self.now c.directories.self c.directories.invariant.storing (turned_root c.directories.self c.descend.new.entered.items c.in-Ok.ensures (none_popped c.descend.new.entered.items (vec_len c.descend.new.entered) (omega arith) c.in_default-pop.ensures.variant.1)) c.store_tree.new.store c.store_tree.ensures.store h.1) (λ e h. subst (λ (T : List Object). IsStoring c.args.store.now T c.args.self.now c.directories.self) (sym h.0) c.directories.invariant.storing) c.store_tree.ensures.ok c.store_tree.ensures.err

pub close_stored-requires-clause-deepest : goal.close_stored-requires-clause-deepest
close_stored-requires-clause-deepest c = (turned_last c.directories.self c.descend.new.entered.items c.pop.new.self.items c.in-Some.directory c.in-Ok.ensures c.in-Some.ensures.items).deepest

pub returns-in_err-close_stored-clause-storing : goal.returns-in_err-close_stored-clause-storing
returns-in_err-close_stored-clause-storing c = storing_on c.args.store.now c.directories.store c.close_stored.new.store c.args.self.now c.directories.self c.close_stored.new.self c.directories.invariant.storing c.close_stored.ensures.storing

pub directories-smaller : goal.directories-smaller
directories-smaller c =
    let l = (turned_last c.directories.self c.descend.new.entered.items c.pop.new.self.items c.in-Some.directory c.in-Ok.ensures c.in-Some.ensures.items) in
    fewer_open c.directories.store c.close_stored.new.store c.directories.self c.close_stored.new.self c.in-Some.directory l.deepest (c.in_ok-close_stored.ensures.ok l.deepest)

pub directories-preserved : goal.directories-preserved
directories-preserved c =
    let l = (turned_last c.directories.self c.descend.new.entered.items c.pop.new.self.items c.in-Some.directory c.in-Ok.ensures c.in-Some.ensures.items) in
    record {
      storing = storing_on c.args.store.now c.directories.store c.close_stored.new.store c.args.self.now c.directories.self c.close_stored.new.self c.directories.invariant.storing c.close_stored.ensures.storing;
      turn = turn_closed c.directories.store c.close_stored.new.store c.directories.self c.close_stored.new.self c.pop.new.self.items c.in-Some.directory l (c.in_ok-close_stored.ensures.ok l.deepest);
    }

pub returns-in_default-clause-ok : goal.returns-in_default-clause-ok
returns-in_default-clause-ok c = tt

pub returns-in_err-close_stored-clause-ok : goal.returns-in_err-close_stored-clause-ok
returns-in_err-close_stored-clause-ok c = let p = err_from_is_err_and c.from_residual.result c.from_residual.ensures.1 in rw (p.1) tt
