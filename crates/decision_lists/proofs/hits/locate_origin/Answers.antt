use Rattle.std.proofs.Common.{rules, ◌≡◌, ◌++◌, ◌+◌, ◌∷◌, [], ap, sym, ◌∙◌, drop, take, Some, is_some}
use Rattle.std.proofs.lemmas.Option.{slice_get_read}
use Rattle.std.proofs.lemmas.List.{drop_more, take_more}
use Rattle.std.specs.List.{slice_get}
use Rattle.decision_lists.specs.Entries.{base}
use Rattle.decision_lists.specs.Operations.{heads}
use Rattle.decision_lists.specs.Cells.{cells, origin}
use Rattle.decision_lists.specs.Hits.{longer_by, dropped, source_of}
use Rattle.decision_lists.proofs.Testing.{cells-next}
use Rattle.decision_lists.proofs.Locating.{origin-hit, origin-miss}
use Rattle.decision_lists.proofs.hits.locate_origin.Goals as goal

pub returns-in-Some-clause-source : goal.returns-in-Some-clause-source
returns-in-Some-clause-source c =
    let all = c.args.entries.now in
    let i = c.loop-i.i in
    let e = c.index-entries-i.result in
    let q = c.args.image.now in
    let there : slice_get all i ≡ Some e = search (rules, slice_get_read) in
    origin-hit all i e q c.in-Some.cut (heads (take i all) []) (cells (heads (take (i + 1) all) []) (drop (i + 1) all)) _ there
    (ap (λ o. longer_by (base e.0) (dropped q o)) (sym c.in-Some.is) ∙ c.cut_by.ensures.source)
    (ap (λ ks. origin ks q)
    (sym (cells-next all i e (drop_more all i e c.loop-i-test.true ∙ ap (λ x. x ∷ drop (i + 1) all) (sym c.index-entries-i.is))
    (take_more all i e c.loop-i-test.true ∙ ap (λ x. take i all ++ x ∷ []) (sym c.index-entries-i.is))))
    ∙ c.loop-i.invariant)

pub loop-i-preserved : goal.loop-i-preserved
loop-i-preserved c =
    let all = c.args.entries.now in
    let i = c.loop-i.i in
    let e = c.index-entries-i.result in
    let q = c.args.image.now in
    origin-miss e q (heads (take i all) []) (cells (heads (take (i + 1) all) []) (drop (i + 1) all)) _
    (ap (λ o. longer_by (base e.0) (dropped q o)) (sym c.in_default.is) ∙ c.cut_by.ensures.source)
    (ap (λ ks. origin ks q)
    (sym (cells-next all i e (drop_more all i e c.loop-i-test.true ∙ ap (λ x. x ∷ drop (i + 1) all) (sym c.index-entries-i.is))
    (take_more all i e c.loop-i-test.true ∙ ap (λ x. take i all ++ x ∷ []) (sym c.index-entries-i.is))))
    ∙ c.loop-i.invariant)

pub returns-in-Some-clause-route : goal.returns-in-Some-clause-route
returns-in-Some-clause-route c =
    let all = c.args.entries.now in
    let i = c.loop-i.i in
    let e = c.index-entries-i.result in
    let there : slice_get all i ≡ Some e = search (rules, slice_get_read) in
    ap (λ o. is_some (source_of o)) there ∙ c.in-Some.ensures.live
