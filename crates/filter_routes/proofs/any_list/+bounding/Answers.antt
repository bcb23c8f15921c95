use Rattle.std.proofs.Common.{rules, ◌≡◌, sym, ap, ◌∙◌, subst, [], ◌∷◌, take, Some, IfOk}
use Rattle.filter_text.specs.Filters as plain
use Rattle.filter_text.specs.Shapes.{shape, shapes}
use Rattle.filter_text.proofs.RowLists.{shape-join, shape-chain}
use Rattle.filter_text.specs.declared.filter.Filter.TheViews.{the_lemmas}
use Rattle.decision_lists.specs.Entries.{at, below}
use Rattle.decision_lists.specs.Operations.{turned, after_left}
use Rattle.filter_routes.specs.Lists.{IsListOf}
use Rattle.filter_routes.proofs.ListLaws.{list-dir, list-file, list-exclude, list-chain, list-join}
use Rattle.filter_routes.proofs.Finding.{one-list}
use Rattle.filter_routes.proofs.Members.{members-next}
use Rattle.filter_routes.proofs.any_list.+bounding.Goals as goal

pub list_within-returns-in-Dir : goal.list_within-returns-in-Dir
list_within-returns-in-Dir t c =
    let p = c.in-Dir.path in
    subst (λ f. IfOk c.one_entry-in-Dir.result (λ v. IsListOf f v.items)) (sym (ap shape c.in-Dir.is))
    (one-list c.one_entry-in-Dir.result (plain.dir p) ((below p, Some p) ∷ []) (list-dir p c.components-path.ensures.path)
    (subst (λ q. IfOk c.one_entry-in-Dir.result (λ v. v.items ≡ (below q, Some q) ∷ [])) c.components-path.ensures.components c.one_entry-in-Dir.ensures))

pub list_within-returns-in-File : goal.list_within-returns-in-File
list_within-returns-in-File t c =
    let p = c.in-File.path in
    subst (λ f. IfOk c.one_entry-in-File.result (λ v. IsListOf f v.items)) (sym (ap shape c.in-File.is))
    (one-list c.one_entry-in-File.result (plain.file p) ((at p, Some p) ∷ []) (list-file p c.components-path-in-File.ensures.path)
    (subst (λ q. IfOk c.one_entry-in-File.result (λ v. v.items ≡ (at q, Some q) ∷ [])) c.components-path-in-File.ensures.components c.one_entry-in-File.ensures))

pub list_within-returns-in_ok-list-in-Exclude : goal.list_within-returns-in_ok-list-in-Exclude
list_within-returns-in_ok-list-in-Exclude t c =
    let g = shape c.deref.result.now in
    let es = c.in_ok-list-in-Exclude.list.items in
    let told : shape c.args.filter.now ≡ plain.exclude g = search (rules, the_lemmas) in
    subst (λ f. IfOk c.turned.result (λ v. IsListOf f v.items)) (sym told)
    (one-list c.turned.result (plain.exclude g) (turned [] es) (list-exclude g es c.in_ok-list-in-Exclude.ensures)
    c.turned.ensures)

pub list_within-returns-in-Join : goal.list_within-returns-in-Join
list_within-returns-in-Join t c =
    subst (λ f. IfOk c.join_within.result (λ v. IsListOf f v.items))
    (ap (λ xs. plain.join (shapes xs)) c.as_slice.ensures.value ∙ sym (ap shape c.in-Join.is ∙ shape-join c.in-Join.members))
    c.join_within.ensures

pub list_within-returns-in-Chain : goal.list_within-returns-in-Chain
list_within-returns-in-Chain t c =
    subst (λ f. IfOk c.chain_within.result (λ v. IsListOf f v.items))
    (ap (λ xs. plain.chain (shapes xs)) c.as_slice-in-Chain.ensures.value ∙ sym (ap shape c.in-Chain.is ∙ shape-chain c.in-Chain.members))
    c.chain_within.ensures

pub chain_within-loop-m-preserved : goal.chain_within-loop-m-preserved
chain_within-loop-m-preserved t c =
    let ms = c.args.members.now in
    let i = c.loop-m.m-index in
    let m = c.m-item.result in
    subst (λ fs. IsListOf (plain.chain fs) c.in_ok-list-2.list.items) (sym (members-next ms i m c.loop-m-test.true c.m-item.is))
    (subst (IsListOf (plain.chain (plain.append (shapes (take i ms)) (plain.only (shape m)))))
    (sym (c.in_ok-list-2.ensures.list ∙ ap (after_left c.loop-m.list.items) c.as_slice.ensures.value))
    (list-chain (shapes (take i ms)) (shape m) c.loop-m.list.items c.in_ok-next.next.items c.loop-m.invariant c.in_ok-next.ensures))

pub join_within-loop-m-preserved : goal.join_within-loop-m-preserved
join_within-loop-m-preserved t c =
    let ms = c.args.members.now in
    let i = c.loop-m.m-index in
    let m = c.m-item.result in
    let es = c.loop-m.list in
    subst (λ fs. IsListOf (plain.join fs) c.in_ok-list.list) (sym (members-next ms i m c.loop-m-test.true c.m-item.is))
    (subst (IsListOf (plain.join (plain.append (shapes (take i ms)) (plain.only (shape m)))))
    (sym c.in_ok-list.ensures.list)
    (list-join (shapes (take i ms)) (shape m) es c.in_ok-branch.branch.items c.loop-m.invariant c.in_ok-branch.ensures))
