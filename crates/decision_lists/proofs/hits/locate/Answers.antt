use Rattle.std.proofs.Common.{rules, ◌≡◌, ◌+◌, ◌∷◌, ap, subst, sym, ◌∙◌, length, drop, is_some, ◌≤◌, option_map, Some}
use Rattle.std.proofs.lemmas.Option.{slice_get_read}
use Rattle.std.proofs.lemmas.List.{drop_more}
use Rattle.std.specs.List.{slice_get}
use Rattle.decision_lists.specs.Entries.{base}
use Rattle.decision_lists.specs.Hits.{onto_rest, target_of}
use Rattle.decision_lists.proofs.Locating.{image-hit, base-cone, tail-length}
use Rattle.decision_lists.proofs.hits.locate.Goals as goal

pub returns-in-Some-clause-image : goal.returns-in-Some-clause-image
returns-in-Some-clause-image c =
    let all = c.args.entries.now in
    let i = c.loop-i.i in
    let e = c.index-entries-i.result in
    let p = c.args.path.now in
    let cut : length c.as_slice.result.now ≡ length (base e.0) =
    ap length c.as_slice.ensures.value ∙ ap length (sym (base-cone c.entry.inside.point c.entry.inside.base.items)) ∙ ap (λ x. length (base x.0)) c.entry.view_is in
    let target : e.1 ≡ Some c.in-Some.field-0.items = ap (λ x. x.1) (sym c.entry.view_is) ∙ ap (option_map (λ t. t.items)) c.in-Some.is in
    let there : slice_get all i ≡ Some e = search (rules, slice_get_read) in
    ap (λ n. onto_rest (target_of (slice_get all i)) (drop n p)) cut
    ∙ image-hit all (drop (i + 1) all) i e p c.in-Some.field-0.items there
    (drop_more all i e c.loop-i-test.true ∙ ap (λ x. x ∷ drop (i + 1) all) (sym c.index-entries-i.is))
    c.loop-i.invariant (sym c.has.ensures ∙ c.if-has.true) target

pub returns-in-Some-clause-route : goal.returns-in-Some-clause-route
returns-in-Some-clause-route c =
    let all = c.args.entries.now in
    let i = c.loop-i.i in
    let e = c.index-entries-i.result in
    let target : e.1 ≡ Some c.in-Some.field-0.items = ap (λ x. x.1) (sym c.entry.view_is) ∙ ap (option_map (λ t. t.items)) c.in-Some.is in
    let there : slice_get all i ≡ Some e = search (rules, slice_get_read) in
    ap (λ o. is_some (target_of o)) there ∙ ap (λ o. is_some o) target

pub returns-in-Some-clause-cut : goal.returns-in-Some-clause-cut
returns-in-Some-clause-cut c =
    let e = c.index-entries-i.result in
    let p = c.args.path.now in
    let cut : length c.as_slice.result.now ≡ length (base e.0) =
    ap length c.as_slice.ensures.value ∙ ap length (sym (base-cone c.entry.inside.point c.entry.inside.base.items)) ∙ ap (λ x. length (base x.0)) c.entry.view_is in
    subst (λ n. n ≤ length p) (sym cut) (tail-length e.0 p (sym c.has.ensures ∙ c.if-has.true))
