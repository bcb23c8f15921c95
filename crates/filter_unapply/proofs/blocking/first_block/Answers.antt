use Rattle.std.proofs.Common.{◌≡◌, ◌∷◌, ◌++◌, ◌+◌, ◌-◌, [], arith, length, drop, take, sym, ap, ◌∙◌, get_or, List}
use Rattle.std.proofs.lemmas.List.{drop_more, length-drop, take-append-drop, take_all, take_more}
use Rattle.git_objects.specs.declared.name.Name.{Name}
use Rattle.object_store.specs.Unfolding.{flat}
use Rattle.path_trees.specs.Clashes.{clash}
use Rattle.filter_unapply.specs.Blocks.{lesser, with_clashes}
use Rattle.filter_unapply.proofs.BlockSteps.{block-more}
use Rattle.filter_unapply.proofs.blocking.first_block.Goals as goal

pub loop-i-preserved : goal.loop-i-preserved
loop-i-preserved c =
    let S = c.args.store.now in
    let all = c.args.parts.now in
    let i = c.loop-i.i in
    let a : Name = get_or all i (record { 0 = [] }) in
    let split : take i all ++ a ∷ drop (i + 1) all ≡ all =
    ap (λ (l : List Name). take i all ++ l) (sym (drop_more all i (record { 0 = [] }) c.loop-i-test.true)) ∙ take-append-drop i all in
    block-more S c.store_law.ensures.store c.args.kept a (take i all) (drop (i + 1) all) all (take (i + 1) all) split (take_more all i (record { 0 = [] }) c.loop-i-test.true) c.requires.kept
    c.loop-i.least c.in_ok-least-3.least
    (c.in_ok-least-3.ensures
    ∙ ap (λ o. lesser o (clash (flat S a.0) (flat S c.args.kept.0))) (c.in_ok-least-2.ensures ∙ ap (λ ns. with_clashes S a ns c.in_ok-least.least) (take_all (length all - (i + 1)) (drop (i + 1) all) (omega (arith, length-drop (i + 1) all)))
    ∙ ap (with_clashes S a (drop (i + 1) all)) c.in_ok-least.ensures))
    c.requires.parts c.requires.apart c.requires.other c.loop-i.invariant
