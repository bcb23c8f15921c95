use Rattle.std.proofs.Common.{◌≡◌, ◌∙◌, ap, arith, false, length, length-append, slice_get, Some, subst, sym, take, true, ◌∷◌, []}
use borrow.Author.Count.{below_more}
use Rattle.filter_text.specs.Filters.{append, only}
use Rattle.filter_text.specs.Shapes.{shape, shapes}
use Rattle.filter_routes.specs.Faults.{PairAt}
use Rattle.filter_routes.specs.Searching.{AreListsOf, clash_of}
use Rattle.filter_routes.proofs.Finding.{first-of-first, lists-more-one, member-at, no-pair-of-first, pair-of-first, some-first}
use Rattle.filter_routes.proofs.Members.{members-next}
use Rattle.filter_routes.proofs.search.lists_beside_first.Goals as goal

pub returns-then-branch-clause-pair : goal.returns-then-branch-clause-pair
returns-then-branch-clause-pair c =
    let ms = c.args.members.now in
    let i = c.loop-second.second in
    let g = c.index-members-second.result in
    let vs = c.loop-second.lists.items in
    let clash : clash_of (slice_get vs 0) (Some c.in_ok-branch.branch) ≡ true =
    ap (λ ws. clash_of (slice_get ws 0) (Some c.in_ok-branch.branch)) (sym c.as_slice.ensures.value) ∙ sym c.in_ok-clashes_with_first.ensures ∙ c.if-branch.true in
    c.overlap_of.ensures (shapes ms)
    (first-of-first c.args.number (shapes ms) i
    (pair-of-first ms i vs (shape g) c.in_ok-branch.branch c.loop-second.invariant.lists
    (omega (arith, some-first vs c.in_ok-branch.branch clash, c.loop-second.invariant.count))
    (member-at ms i g c.loop-second-test.true c.index-members-second.is) c.in_ok-branch.ensures clash)
    c.loop-second.invariant.apart)

pub loop-second-preserved : goal.loop-second-preserved
loop-second-preserved c =
    let ms = c.args.members.now in
    let i = c.loop-second.second in
    let g = c.index-members-second.result in
    let vs = c.loop-second.lists.items in
    let apart : clash_of (slice_get vs 0) (Some c.in_ok-branch.branch) ≡ false =
    ap (λ ws. clash_of (slice_get ws 0) (Some c.in_ok-branch.branch)) (sym c.as_slice.ensures.value) ∙ sym c.in_ok-clashes_with_first.ensures ∙ c.if-branch.false in
    record {
      lists = subst (λ fs. AreListsOf fs c.push.new.self.items) (sym (members-next ms i g c.loop-second-test.true c.index-members-second.is))
          (subst (AreListsOf (append (shapes (take i ms)) (only (shape g)))) (sym c.in-Ok.ensures.items)
          (lists-more-one (shapes (take i ms)) vs (shape g) c.in_ok-branch.branch c.loop-second.invariant.lists c.in_ok-branch.ensures));
      count = ap length c.in-Ok.ensures.items ∙ length-append vs (c.in_ok-branch.branch ∷ []) ∙ omega (arith, c.loop-second.invariant.count);
      apart = below_more (λ d. PairAt (shapes ms) 0 d → ⊥) i c.loop-second.invariant.apart
          (no-pair-of-first ms i vs (shape g) c.in_ok-branch.branch c.loop-second.invariant.lists c.loop-second.invariant.count
          (member-at ms i g c.loop-second-test.true c.index-members-second.is) c.in_ok-branch.ensures apart);
    }
