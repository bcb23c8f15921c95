use Rattle.std.proofs.Common.{◌≡◌, refl, ◌∙◌}
use Rattle.std.specs.Ordering.{nat_cmp}
use Rattle.std.specs.Cmp.Lexicographic.{slice_cmp}
use Rattle.std.proofs.lemmas.Iterator.{YieldsList-from_slice}
use Rattle.std.proofs.lemmas.Iterator.Consumers.{YieldsList-from_chain}
use Rattle.std.proofs.lemmas.Iterator.Search.{cmp_from_yields_List}
use Rattle.git_objects.proofs.Fronts.{key_joined}
use Rattle.git_objects.proofs.entry_order.compare_tails.Goals as goal

pub returns : goal.returns
returns c =
    cmp_from_yields_List (λ x y. y ≡ x) _ nat_cmp _ c.cmp.ensures.ran
    (YieldsList-from_chain (YieldsList-from_slice c.args.a.now (cc)) (YieldsList-from_slice c.slash.result.now (cc)) (cc) (cc))
    (λ it e. YieldsList-from_chain (YieldsList-from_slice c.args.b.now (cc)) (YieldsList-from_slice c.slash-2.result.now (cc)) (cc) (cc))
    (λ x y. refl)
    ∙ (λ i. slice_cmp nat_cmp (key_joined c.args.a.now c.slash.result.now c.args.a_dir c.slash.ensures i) (key_joined c.args.b.now c.slash-2.result.now c.args.b_dir c.slash-2.ensures i))
