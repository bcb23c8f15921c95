use Rattle.std.proofs.Common.{inl, inr, sym, refl, arith}
use Rattle.stage_nodes.proofs.Finishing.{on_ok, on_err}
use Rattle.stage_tree.proofs.Room.{leaf_child}
use Rattle.stage_tree.proofs.sets.most_with_leaf.Goals as goal

pub returns-then-is_leaf_at-clause-ok : goal.returns-then-is_leaf_at-clause-ok
returns-then-is_leaf_at-clause-ok c =
    let e = leaf_child c.args.store.now c.args.nodes.now c.requires.opened c.args.child c.requires.place (sym c.if-is_leaf_at.ensures) in
    on_ok c.most_with.result (λ m h. let r = h 0 refl in record { few = omega (arith, r.few, e); most = omega (arith, r.most, e) }) c.most_with.ensures.ok

pub returns-then-is_leaf_at-clause-err : goal.returns-then-is_leaf_at-clause-err
returns-then-is_leaf_at-clause-err c =
    let e = leaf_child c.args.store.now c.args.nodes.now c.requires.opened c.args.child c.requires.place (sym c.if-is_leaf_at.ensures) in
    on_err c.most_with.result (λ x h. elim h [ inl g ↦ inl g | inr g ↦ inr (g.0, omega (arith, g.1 0 refl, e)) ]) c.most_with.ensures.err

pub returns-else-is_leaf_at-clause-ok : goal.returns-else-is_leaf_at-clause-ok
returns-else-is_leaf_at-clause-ok c = on_ok c.most_with-else-is_leaf_at.result (λ m h. h 1 refl) c.most_with-else-is_leaf_at.ensures.ok

pub returns-else-is_leaf_at-clause-err : goal.returns-else-is_leaf_at-clause-err
returns-else-is_leaf_at-clause-err c = on_err c.most_with-else-is_leaf_at.result (λ x h. elim h [ inl g ↦ inl g | inr g ↦ inr (g.0, g.1 1 refl) ]) c.most_with-else-is_leaf_at.ensures.err
