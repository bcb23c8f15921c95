use Rattle.std.proofs.Common.{arith, ◌++◌, ap, ◌∙◌, [], length}
use Rattle.std.specs.Vec.Iter.{into_iter_items}
use Rattle.decision_lists.specs.Operations.{heads, thin}
use Rattle.decision_lists.proofs.Making.{step, thin-next}
use Rattle.decision_lists.proofs.operations.push_thin.Goals as goal

pub loop-e-init : goal.loop-e-init
loop-e-init c =
    let h = c.into_iter-e-iterator.ensures.into_iter_gives in
    let out = c.args.out.now in
    record {
      list = ap (λ es. out ++ thin (heads out []) es) h.0;
      len = omega (arith, h.1, ap length h.0);
    }

pub loop-e-preserved : goal.loop-e-preserved
loop-e-preserved c =
    let h = c.in-Some.ensures.steps in
    let es = into_iter_items c.next.new.self in
    record {
      list = step (λ hs es. thin hs es) c.loop-e.out c.push_alive.new.out _ es (into_iter_items c.loop-e.e-iterator) c.in-Some.e
          c.in_ok-push_alive.ensures (thin-next _ c.in-Some.e es) h.0 ∙ c.loop-e.invariant.list;
      len = omega (arith, h.1, ap length h.0, c.loop-e.invariant.len);
    }
