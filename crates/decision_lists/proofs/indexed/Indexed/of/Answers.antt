use Rattle.std.proofs.Common.{arith, ◌++◌, ◌∷◌, [], sym, ap, ◌∙◌, length, append_assoc}
use Rattle.std.specs.Vec.Iter.{into_iter_items}
use Rattle.decision_lists.proofs.indexed.Indexed.of.Goals as goal

pub loop-e-init : goal.loop-e-init
loop-e-init c =
    let h = c.into_iter-e-iterator.ensures.into_iter_gives in
    record {
      list = ap (λ x. x ++ into_iter_items c.into_iter-e-iterator.result) c.new-list.ensures ∙ h.0;
      len = omega (arith, h.1, ap length h.0);
    }

pub loop-e-preserved : goal.loop-e-preserved
loop-e-preserved c =
    let h = c.in-Some.ensures.steps in
    let es = into_iter_items c.next.new.self in
    record {
      list = ap (λ x. x ++ es) c.in_ok-push.ensures ∙ append_assoc c.loop-e.list (c.in-Some.e ∷ []) es
          ∙ ap (λ x. c.loop-e.list ++ x) (sym h.0) ∙ c.loop-e.invariant.list;
      len = omega (arith, h.1, ap length h.0, c.loop-e.invariant.len);
    }
