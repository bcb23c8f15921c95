use Rattle.std.proofs.Common.{◌≡◌, refl, sym, ◌∙◌, arith, take, false}
use Rattle.std.specs.Ordering.{nat_cmp}
use Rattle.std.specs.Cmp.Lexicographic.{slice_cmp}
use Rattle.std.proofs.lemmas.Iterator.{YieldsList-from_slice}
use Rattle.std.proofs.lemmas.Iterator.Search.{cmp_from_yields_List}
use Rattle.std.proofs.lemmas.List.{take_rest}
use Rattle.git_objects.proofs.Fronts.{front_ties, front_decides}
use Rattle.git_objects.proofs.entry_order.compare_bytes.Goals as goal

pub returns-in-Equal : goal.returns-in-Equal
returns-in-Equal c =
    let n = c.min-n.result in
    let front = cmp_from_yields_List (λ x y. y ≡ x) _ nat_cmp _ c.cmp.ensures.ran
    (YieldsList-from_slice (take n c.args.a.now) (cc))
    (λ it e. YieldsList-from_slice (take n c.args.b.now) (cc))
    (λ x y. refl) in
    c.cmp-in-Equal.ensures
    ∙ (λ i. slice_cmp nat_cmp (take_rest c.args.a.now n i) (take_rest c.args.b.now n i))
    ∙ front_ties n c.args.a.now c.args.b.now false false (omega arith) (omega arith) (sym c.in-Equal.is ∙ front)

pub returns-in_default : goal.returns-in_default
returns-in_default c =
    let n = c.min-n.result in
    let front = cmp_from_yields_List (λ x y. y ≡ x) _ nat_cmp _ c.cmp.ensures.ran
    (YieldsList-from_slice (take n c.args.a.now) (cc))
    (λ it e. YieldsList-from_slice (take n c.args.b.now) (cc))
    (λ x y. refl) in
    front
    ∙ front_decides n c.args.a.now c.args.b.now false false (omega arith) (omega arith) (λ e. c.in_default.not-Equal (front ∙ e))
