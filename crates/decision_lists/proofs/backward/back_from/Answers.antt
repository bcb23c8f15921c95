use Rattle.std.proofs.Common.{◌≡◌, ◌+◌, ◌∷◌, ◌++◌, [], ap, sym, ◌∙◌, drop, append-nil, arith}
use Rattle.std.proofs.lemmas.List.{drop_more, drop_all}
use Rattle.decision_lists.specs.Backward.{deads}
use Rattle.decision_lists.specs.Entries.{cone_of}
use Rattle.decision_lists.specs.Operations.{pulled}
use Rattle.decision_lists.proofs.WaysBack.{part-more, way-back-of}
use Rattle.decision_lists.proofs.backward.back_from.Goals as goal

pub loop-hole-preserved : goal.loop-hole-preserved
loop-hole-preserved c =
    let m = cone_of c.args.point c.args.target.now in
    let s = c.args.base.now in
    let all = c.args.holes.now in
    let i = c.loop-hole.hole-index in
    let e = c.hole-item.result in
    part-more m s c.loop-hole.list.items _ e (drop (i + 1) all) c.in_ok-push_dead.ensures
    ∙ ap (λ l. c.loop-hole.list.items ++ pulled m s (deads l)) (sym (drop_more all i e c.loop-hole-test.true ∙ ap (λ x. x ∷ drop (i + 1) all) (sym c.hole-item.is)))
    ∙ c.loop-hole.invariant

pub returns : goal.returns
returns c =
    let m = cone_of c.args.point c.args.target.now in
    let s = c.args.base.now in
    let all = c.args.holes.now in
    let i = c.loop-hole.hole-index in
    let l = c.loop-hole.list.items in
    let done : drop i all ≡ [] = drop_all i all (omega (arith, c.loop-hole-test.false)) in
    way-back-of c.args.point s c.args.target.now _ _ all l c.push.new.self.items
    (c.in_ok-joined-2.ensures ∙ append-nil s) (c.in_ok-joined.ensures ∙ append-nil c.args.target.now)
    (sym (append-nil l) ∙ ap (λ r. l ++ pulled m s (deads r)) (sym done) ∙ c.loop-hole.invariant)
    c.in_ok-push.ensures.items
