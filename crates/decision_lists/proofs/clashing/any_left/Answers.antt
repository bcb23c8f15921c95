use Rattle.std.proofs.Common.{◌≡◌, ◌<◌, ◌++◌, ◌||◌, ◌+◌, sym, ap, ◌∙◌, subst, [], ◌∷◌, drop, take, length, get_or}
use Rattle.std.proofs.lemmas.List.{drop_more, take_more}
use Rattle.decision_lists.specs.Operations.{heads}
use Rattle.decision_lists.specs.Cells.{cells, cells_at, any_clash}
use Rattle.decision_lists.proofs.Testing.{cells-next}
use Rattle.decision_lists.proofs.clashing.any_left.Goals as goal

pub loop-i-preserved : goal.loop-i-preserved
loop-i-preserved c =
    let all = c.args.list.now in
    let i = c.loop-i.i in
    let e = c.index-entries-i.result in
    let ks = cells (heads (take (i + 1) all) []) (drop (i + 1) all) in
    let there : i < length all = subst (λ xs. i < length xs) c.entries-entries.ensures c.loop-i-test.true in
    let is : get_or all i e ≡ e = sym (c.index-entries-i.is ∙ ap (λ xs. get_or xs i e) c.entries-entries.ensures) in
    ap (λ b. b || any_clash ks (cells [] c.args.others.now)) (sym c.if-branch.false)
    ∙ c.in_ok-any_right_of.ensures ks
    ∙ ap (λ hs. any_clash (cells_at e.0 e.1 (heads hs []) ks) (cells [] c.args.others.now)) c.front.ensures
    ∙ ap (λ xs. any_clash xs (cells [] c.args.others.now))
    (sym (cells-next all i e (drop_more all i e there ∙ ap (λ x. x ∷ drop (i + 1) all) is)
    (take_more all i e there ∙ ap (λ x. take i all ++ x ∷ []) is)))
    ∙ c.loop-i.invariant
