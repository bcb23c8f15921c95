use Rattle.std.proofs.Common.{arith, ◌++◌, ap, ◌∙◌, refl, [], ◌∷◌, length}
use Rattle.std.specs.Vec.Iter.{into_iter_items}
use Rattle.decision_lists.specs.Operations.{heads, turned}
use Rattle.decision_lists.proofs.Making.{step}
use Rattle.decision_lists.proofs.operations.turned.Goals as goal

pub loop-e-init : goal.loop-e-init
loop-e-init c =
    let h = c.into_iter-e-iterator.ensures.into_iter_gives in
    record {
      list = ap (λ out. out ++ turned (heads out []) (into_iter_items c.into_iter-e-iterator.result)) c.unindexed-out.ensures ∙ ap (turned []) h.0;
      len = omega (arith, h.1, ap length h.0);
    }

pub loop-e-preserved : goal.loop-e-preserved
loop-e-preserved c =
    let h = c.in-Some.ensures.steps in
    record {
      list = step (λ hs es. turned hs es) c.loop-e.out c.push.new.self _ (into_iter_items c.next.new.self) (into_iter_items c.loop-e.e-iterator) c.in-Some.e
          (c.in_ok-push.ensures ∙ ap (λ x. c.loop-e.out ++ x ∷ []) c.in_ok-flipped.ensures) refl h.0 ∙ c.loop-e.invariant.list;
      len = omega (arith, h.1, ap length h.0, c.loop-e.invariant.len);
    }
