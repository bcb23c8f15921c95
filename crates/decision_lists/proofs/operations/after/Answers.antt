use Rattle.std.proofs.Common.{arith, ◌++◌, ap, ◌∙◌, refl, [], length}
use Rattle.std.specs.Vec.Iter.{into_iter_items}
use Rattle.decision_lists.specs.Operations.{refine, after_how, heads}
use Rattle.decision_lists.proofs.Making.{step}
use Rattle.decision_lists.proofs.operations.after.Goals as goal

pub loop-e-init : goal.loop-e-init
loop-e-init c =
    let h = c.into_iter-e-iterator.ensures.into_iter_gives in
    let g = c.args.others.now in
    record {
      list = ap (λ out. out ++ refine (after_how g) [] (heads out []) (into_iter_items c.into_iter-e-iterator.result)) c.room-out.ensures
          ∙ ap (refine (after_how g) [] []) h.0;
      few = omega (arith, ap length c.room-out.ensures);
      len = omega (arith, h.1, ap length h.0);
    }

pub loop-e-preserved : goal.loop-e-preserved
loop-e-preserved c =
    let h = c.in-Some.ensures.steps in
    record {
      list = step (refine (after_how c.args.others.now) []) c.loop-e.out c.push_grown.new.out _ (into_iter_items c.next.new.self) (into_iter_items c.loop-e.e-iterator) c.in-Some.e
          c.in_ok-push_grown.ensures refl h.0 ∙ c.loop-e.invariant.list;
      few = omega (arith, c.if-len-most.false, c.len.ensures);
      len = omega (arith, h.1, ap length h.0, c.loop-e.invariant.len);
    }
