use Rattle.std.proofs.Common.{rules, ◌≡◌, ◌+◌, sym, ap, ◌∙◌, subst, false, [], ◌∷◌, drop, take, Some, None, IfOk}
use Rattle.filter_text.specs.Filters as plain
use Rattle.filter_text.specs.Shapes.{shape, shapes}
use Rattle.filter_text.proofs.RowLists.{shape-join, shape-chain}
use Rattle.filter_text.specs.declared.filter.Filter.TheViews.{the_lemmas}
use Rattle.decision_lists.specs.Entries.{at, below}
use Rattle.decision_lists.specs.Operations.{after_left}
use Rattle.filter_routes.specs.Lists.{Listed, entries_of}
use Rattle.filter_routes.proofs.Admitting.{listed-dir, listed-file, listed-exclude, chain-member, chain-more, join-member, join-grown, Grown}
use Rattle.filter_routes.proofs.Members.{members-split, members-next}
use Rattle.filter_routes.proofs.lists.+listing.Goals as goal

pub list_of-returns-in_ok-one_entry-in-Dir : goal.list_of-returns-in_ok-one_entry-in-Dir
list_of-returns-in_ok-one_entry-in-Dir t c =
    let p = c.in-Dir.path in
    let a = c.args.apart in
    let items = c.in_ok-one_entry-in-Dir.field-0.items in
    subst (λ f. Listed a f (Some items)) (sym (ap shape c.in-Dir.is))
    (subst (λ es. Listed a (plain.dir p) (Some es))
    (sym (c.in_ok-one_entry-in-Dir.ensures ∙ ap (λ q. (below q, Some q) ∷ []) c.components-path.ensures.components))
    (listed-dir a p c.components-path.ensures.path))

pub list_of-returns-in_ok-one_entry-in-File : goal.list_of-returns-in_ok-one_entry-in-File
list_of-returns-in_ok-one_entry-in-File t c =
    let p = c.in-File.path in
    let a = c.args.apart in
    let items = c.in_ok-one_entry-in-File.field-0.items in
    subst (λ f. Listed a f (Some items)) (sym (ap shape c.in-File.is))
    (subst (λ es. Listed a (plain.file p) (Some es))
    (sym (c.in_ok-one_entry-in-File.ensures ∙ ap (λ q. (at q, Some q) ∷ []) c.components-path-in-File.ensures.components))
    (listed-file a p c.components-path-in-File.ensures.path))

pub list_of-returns-in_ok-turned-in-Some : goal.list_of-returns-in_ok-turned-in-Some
list_of-returns-in_ok-turned-in-Some t c =
    let a = c.args.apart in
    let g = shape c.deref.result.now in
    let items = c.in_ok-turned-in-Some.field-0.items in
    let told : shape c.args.filter.now ≡ plain.exclude g = search (rules, the_lemmas) in
    let inner : Listed false g (Some c.in-Some.list.items) = subst (λ o. Listed false g (entries_of o)) c.in-Some.is c.in_ok-list_of-in-Exclude.ensures in
    subst (λ f. Listed a f (Some items)) (sym told)
    (subst (λ es. Listed a (plain.exclude g) (Some es))
    (sym c.in_ok-turned-in-Some.ensures)
    (listed-exclude a g c.in-Some.list.items c.if-not-apart.false inner))

pub list_of-returns-in-Join : goal.list_of-returns-in-Join
list_of-returns-in-Join t c =
    subst (λ f. IfOk c.list_of_join.result (λ o. Listed c.args.apart f (entries_of o)))
    (ap (λ xs. plain.join (shapes xs)) c.as_slice.ensures.value ∙ sym (ap shape c.in-Join.is ∙ shape-join c.in-Join.members))
    c.list_of_join.ensures

pub list_of-returns-in-Chain : goal.list_of-returns-in-Chain
list_of-returns-in-Chain t c =
    subst (λ f. IfOk c.list_of_chain.result (λ o. Listed c.args.apart f (entries_of o)))
    (ap (λ xs. plain.chain (shapes xs)) c.as_slice-in-Chain.ensures.value ∙ sym (ap shape c.in-Chain.is ∙ shape-chain c.in-Chain.members))
    c.list_of_chain.ensures

pub list_of_chain-returns-in-None : goal.list_of_chain-returns-in-None
list_of_chain-returns-in-None t c =
    let ms = c.args.members.now in
    let i = c.loop-m.m-index in
    let m = c.m-item.result in
    let a = c.args.apart in
    subst (λ fs. Listed a (plain.chain fs) None) (sym (members-split ms i m c.loop-m-test.true c.m-item.is))
    (chain-member a (shapes (take i ms)) (shapes (drop (i + 1) ms)) (shape m)
    (subst (λ o. Listed a (shape m) (entries_of o)) c.in-None.is c.in_ok-list_of.ensures))

pub list_of_chain-loop-m-preserved : goal.list_of_chain-loop-m-preserved
list_of_chain-loop-m-preserved t c =
    let ms = c.args.members.now in
    let i = c.loop-m.m-index in
    let m = c.m-item.result in
    let a = c.args.apart in
    subst (λ fs. Listed a (plain.chain fs) (Some c.in_ok-list-in-Some.list.items)) (sym (members-next ms i m c.loop-m-test.true c.m-item.is))
    (subst (λ es. Listed a (plain.chain (plain.append (shapes (take i ms)) (plain.only (shape m)))) (Some es))
    (sym (c.in_ok-list-in-Some.ensures.list ∙ ap (after_left c.loop-m.list.items) c.as_slice.ensures.value))
    (chain-more a (shapes (take i ms)) (shape m) c.loop-m.list.items c.in-Some.next.items c.loop-m.invariant
    (subst (λ o. Listed a (shape m) (entries_of o)) c.in-Some.is c.in_ok-list_of.ensures)))

pub list_of_join-returns-in-None : goal.list_of_join-returns-in-None
list_of_join-returns-in-None t c =
    let ms = c.args.members.now in
    let i = c.loop-m.m-index in
    let m = c.m-item.result in
    let a = c.args.apart in
    subst (λ fs. Listed a (plain.join fs) None) (sym (members-split ms i m c.loop-m-test.true c.m-item.is))
    (join-member a (shapes (take i ms)) (shapes (drop (i + 1) ms)) (shape m)
    (subst (λ o. Listed a (shape m) (entries_of o)) c.in-None.is c.in_ok-list_of.ensures))

pub list_of_join-returns-in-None-2 : goal.list_of_join-returns-in-None-2
list_of_join-returns-in-None-2 t c =
    let ms = c.args.members.now in
    let i = c.loop-m.m-index in
    let m = c.m-item.result in
    let a = c.args.apart in
    let es = c.loop-m.list in
    subst (λ fs. Listed a (plain.join fs) None) (sym (members-split ms i m c.loop-m-test.true c.m-item.is))
    (subst (λ o. Grown a (shapes (take i ms)) (shape m) (shapes (drop (i + 1) ms)) o) c.in-None-2.is
    (join-grown a (shapes (take i ms)) (shapes (drop (i + 1) ms)) (shape m) es c.in-Some.branch.items _ c.loop-m.invariant
    (subst (λ o. Listed a (shape m) (entries_of o)) c.in-Some.is c.in_ok-list_of.ensures)
    c.in_ok-with_branch-in-Some.ensures))

pub list_of_join-loop-m-preserved : goal.list_of_join-loop-m-preserved
list_of_join-loop-m-preserved t c =
    let ms = c.args.members.now in
    let i = c.loop-m.m-index in
    let m = c.m-item.result in
    let a = c.args.apart in
    let es = c.loop-m.list in
    subst (λ fs. Listed a (plain.join fs) (Some c.in-Some-2.longer)) (sym (members-next ms i m c.loop-m-test.true c.m-item.is))
    (subst (λ o. Grown a (shapes (take i ms)) (shape m) (shapes (drop (i + 1) ms)) o) c.in-Some-2.is
    (join-grown a (shapes (take i ms)) (shapes (drop (i + 1) ms)) (shape m) es c.in-Some.branch.items _ c.loop-m.invariant
    (subst (λ o. Listed a (shape m) (entries_of o)) c.in-Some.is c.in_ok-list_of.ensures)
    c.in_ok-with_branch-in-Some.ensures))
