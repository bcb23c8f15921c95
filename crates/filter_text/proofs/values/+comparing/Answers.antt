use Rattle.std.proofs.Common.{◌∙◌, ap, sym}
use Rattle.filter_text.proofs.RowLists.{shape-join, shape-chain}
use Rattle.filter_text.proofs.Sames.{longer-differs}
use Rattle.filter_text.specs.Filters.{join, chain, same_filter, same_filters}
use Rattle.filter_text.specs.Shapes.{shape, shapes}
use Rattle.filter_text.proofs.values.+comparing.Goals as goal

pub same_all-returns-then-fs-gs : goal.same_all-returns-then-fs-gs
same_all-returns-then-fs-gs t c = longer-differs c.args.fs.now c.args.gs.now c.if-fs-gs.true

pub is_same-returns-in-Join : goal.is_same-returns-in-Join
is_same-returns-in-Join t c =
    c.same_join.ensures ∙ ap (λ xs. same_filter (join (shapes xs)) (shape c.args.b.now)) c.as_slice.ensures.value
    ∙ sym (ap (λ f. same_filter (shape f) (shape c.args.b.now)) c.in-Join.is ∙ ap (λ f. same_filter f (shape c.args.b.now)) (shape-join c.in-Join.fs))

pub is_same-returns-in-Chain : goal.is_same-returns-in-Chain
is_same-returns-in-Chain t c =
    c.same_chain.ensures ∙ ap (λ xs. same_filter (chain (shapes xs)) (shape c.args.b.now)) c.as_slice-in-Chain.ensures.value
    ∙ sym (ap (λ f. same_filter (shape f) (shape c.args.b.now)) c.in-Chain.is ∙ ap (λ f. same_filter f (shape c.args.b.now)) (shape-chain c.in-Chain.fs))

pub same_join-returns-in-Join : goal.same_join-returns-in-Join
same_join-returns-in-Join t c =
    let fs = join (shapes c.args.fs.now) in
    c.same_all.ensures ∙ ap (λ xs. same_filters (shapes c.args.fs.now) (shapes xs)) c.as_slice.ensures.value
    ∙ sym (ap (λ f. same_filter fs (shape f)) c.in-Join.is ∙ ap (same_filter fs) (shape-join c.in-Join.gs))

pub same_chain-returns-in-Chain : goal.same_chain-returns-in-Chain
same_chain-returns-in-Chain t c =
    let fs = chain (shapes c.args.fs.now) in
    c.same_all.ensures ∙ ap (λ xs. same_filters (shapes c.args.fs.now) (shapes xs)) c.as_slice.ensures.value
    ∙ sym (ap (λ f. same_filter fs (shape f)) c.in-Chain.is ∙ ap (same_filter fs) (shape-chain c.in-Chain.gs))
