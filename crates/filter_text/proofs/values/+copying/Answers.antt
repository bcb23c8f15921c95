use Rattle.std.proofs.Common.{◌≡◌, ◌∙◌, ◌+◌, ap, refl, sym, ◌∷◌, drop, true, arith}
use Rattle.std.proofs.lemmas.Bool.{and_parts, and_from}
use Rattle.std.proofs.lemmas.List.{drop_more, drop_all}
use Rattle.filter_text.specs.Filters.{Filter, Filters, no_more, more, append, only, has_paths, have_paths}
use Rattle.filter_text.specs.Shapes.{shape, shapes}
use Rattle.filter_text.proofs.RowLists.{shape-join, shape-chain, pushed}
use Rattle.filter_text.proofs.Resuming.{append-one, append-none}
use Rattle.filter_text.specs.Filters as plain
use Rattle.filter_text.proofs.values.+copying.Goals as goal

pub copy-returns-in_ok-copy_all-in-Join-clause-copy : goal.copy-returns-in_ok-copy_all-in-Join-clause-copy
copy-returns-in_ok-copy_all-in-Join-clause-copy t c =
    shape-join c.in_ok-copy_all-in-Join.field-0
    ∙ ap plain.join (c.in_ok-copy_all-in-Join.ensures.copies ∙ ap shapes c.as_slice.ensures.value)
    ∙ sym (ap shape c.in-Join.is ∙ shape-join c.in-Join.members)

pub copy-returns-in_ok-copy_all-in-Chain-clause-copy : goal.copy-returns-in_ok-copy_all-in-Chain-clause-copy
copy-returns-in_ok-copy_all-in-Chain-clause-copy t c =
    shape-chain c.in_ok-copy_all-in-Chain.field-0
    ∙ ap plain.chain (c.in_ok-copy_all-in-Chain.ensures.copies ∙ ap shapes c.as_slice-in-Chain.ensures.value)
    ∙ sym (ap shape c.in-Chain.is ∙ shape-chain c.in-Chain.members)

pub copy-returns-in_ok-copy_all-in-Join-clause-paths : goal.copy-returns-in_ok-copy_all-in-Join-clause-paths
copy-returns-in_ok-copy_all-in-Join-clause-paths t c =
    ap has_paths (shape-join c.in_ok-copy_all-in-Join.field-0) ∙ c.in_ok-copy_all-in-Join.ensures.paths

pub copy-returns-in_ok-copy_all-in-Chain-clause-paths : goal.copy-returns-in_ok-copy_all-in-Chain-clause-paths
copy-returns-in_ok-copy_all-in-Chain-clause-paths t c =
    ap has_paths (shape-chain c.in_ok-copy_all-in-Chain.field-0) ∙ c.in_ok-copy_all-in-Chain.ensures.paths

have-append : (fs : Filters) (f : Filter) → have_paths fs ≡ true → has_paths f ≡ true → have_paths (append fs (only f)) ≡ true
have-append no_more f h k = and_from (has_paths f) true k refl
have-append (more g fs) f h k =
    let w = and_parts (has_paths g) (have_paths fs) h in
    and_from (has_paths g) (have_paths (append fs (only f))) w.0 (have-append fs f w.1 k)

pub copy_all-loop-m-preserved : goal.copy_all-loop-m-preserved
copy_all-loop-m-preserved t c =
    let ms = c.args.members.now in
    let i = c.loop-m.m-index in
    let m = c.m-item.result in
    let rest = shapes (drop (i + 1) ms) in
    let longer = pushed c.loop-m.copies.items _ _ c.in_ok-push.ensures.items in
    record {
      copies = ap (λ fs. append fs rest) longer
          ∙ ap (λ f. append (append (shapes c.loop-m.copies.items) (only f)) rest) c.in_ok-copy.ensures.copy
          ∙ sym (append-one (shapes c.loop-m.copies.items) rest (shape m))
          ∙ ap (λ xs. append (shapes c.loop-m.copies.items) (shapes xs)) (sym (drop_more ms i m c.loop-m-test.true ∙ ap (λ x. x ∷ drop (i + 1) ms) (sym c.m-item.is)))
          ∙ c.loop-m.invariant.copies;
      paths = ap have_paths longer ∙ have-append (shapes c.loop-m.copies.items) _ c.loop-m.invariant.paths c.in_ok-copy.ensures.paths;
    }

pub copy_all-returns-clause-copies : goal.copy_all-returns-clause-copies
copy_all-returns-clause-copies t c =
    let ms = c.args.members.now in
    let i = c.loop-m.m-index in
    sym (append-none (shapes c.loop-m.copies.items))
    ∙ ap (λ xs. append (shapes c.loop-m.copies.items) (shapes xs)) (sym (drop_all i ms (omega arith)))
    ∙ c.loop-m.invariant.copies
