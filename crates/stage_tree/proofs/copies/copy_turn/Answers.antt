use Rattle.std.proofs.Common.{◌≡◌, ◌-◌, Some, None, List, get_or, sym, ap, subst, ◌∙◌, arith}
use Rattle.std.proofs.lemmas.Result.{err_from_is_err_and}
use Rattle.stage_tree.specs.declared.copies.Work.{Work}
use Rattle.stage_tree.specs.declared.copies.Work.TheVariants.{Siblings, Children}
use Rattle.stage_tree.specs.declared.copies.Turn.TheVariants.{Copy, Copied}
use Rattle.stage_tree.specs.Copies.{IsCopying, turns_of, works_of}
use Rattle.stage_tree.proofs.CopyTurns.{none_copied, head_link, head_waits, head_less, siblings_link, children_next, children_less, can_copy_one, node_copied, node_less, IsSplit, split_last, works_full}
use Rattle.stage_tree.proofs.copies.copy_turn.Goals as goal

pub target-requires : goal.target-requires
target-requires c =
    let s0 = c.requires.copying.0 in let source = c.requires.copying.1 in let h = c.requires.copying.2 in
    let s = c.args.nodes.now in let ws = c.args.works.now.items in
    let turn : c.args.turn ≡ Copy (Some c.in-Some.number) = c.in-Copy.is ∙ ap Copy c.in-Some.is in
    let g = subst (IsCopying s0 s source ws) turn h in
    head_link s0 s source ws c.in-Some.number g

pub returns-in_default-clause-ok : goal.returns-in_default-clause-ok
returns-in_default-clause-ok c = λ s0 source h.
    let turn : c.args.turn ≡ Copy None = c.in-Copy.is ∙ ap Copy c.in_default.is in
    none_copied s0 c.args.nodes.now source c.args.works.now.items (subst (IsCopying s0 c.args.nodes.now source c.args.works.now.items) turn h)

pub returns-in_ok-push-in-Copy-clause-ok : goal.returns-in_ok-push-in-Copy-clause-ok
returns-in_ok-push-in-Copy-clause-ok c = λ s0 source h.
    let s = c.args.nodes.now in let ws = c.args.works.now.items in
    let turn : c.args.turn ≡ Copy (Some c.in-Some.number) = c.in-Copy.is ∙ ap Copy c.in-Some.is in
    let g = subst (IsCopying s0 s source ws) turn h in
    subst (λ (v : List Work). IsCopying s0 s source v (Copy c.target.result)) (sym c.in_ok-push-in-Copy.ensures.items) (head_waits s0 s source ws c.in-Some.number g c.target.result c.target.ensures)

pub returns-in_ok-push-in-Copy-clause-less : goal.returns-in_ok-push-in-Copy-clause-less
returns-in_ok-push-in-Copy-clause-less c = λ s0 source h.
    let s = c.args.nodes.now in let ws = c.args.works.now.items in
    let turn : c.args.turn ≡ Copy (Some c.in-Some.number) = c.in-Copy.is ∙ ap Copy c.in-Some.is in
    let g = subst (IsCopying s0 s source ws) turn h in
    omega (arith, head_less s0 s source ws c.in-Some.number g c.target.result c.target.ensures, ap (works_of s0) c.in_ok-push-in-Copy.ensures.items, ap (turns_of s0) turn)

pub target-requires-in-Siblings : goal.target-requires-in-Siblings
target-requires-in-Siblings c =
    let s0 = c.requires.copying.0 in let source = c.requires.copying.1 in let h = c.requires.copying.2 in
    let s = c.args.nodes.now in let ws = c.args.works.now.items in
    let turn : c.args.turn ≡ Copied c.in-Copied.copy = c.in-Copied.is in
    let p : IsSplit ws (c.len-last.result - 1) (Siblings c.in-Siblings.number) (Children (c.in-Siblings.number) c.in-Copied.copy) = split_last ws (c.len-last.result - 1) (Siblings c.in-Siblings.number) (Children (c.in-Siblings.number) c.in-Copied.copy) (omega (arith, works_full ws c.args.turn c.in-Copied.copy turn c.requires.turn)) (sym c.in-Siblings.is ∙ c.index.ensures ∙ ap (get_or ws (c.len-last.result - 1)) c.in-Siblings.is) in
    let g = subst (λ (v : List Work). IsCopying s0 s source v (Copied c.in-Copied.copy)) p.whole (subst (IsCopying s0 s source ws) turn h) in
    siblings_link s0 s source p.front c.in-Siblings.number c.in-Copied.copy g

pub returns-in-Siblings-clause-ok : goal.returns-in-Siblings-clause-ok
returns-in-Siblings-clause-ok c = λ s0 source h.
    let s = c.args.nodes.now in let ws = c.args.works.now.items in
    let turn : c.args.turn ≡ Copied c.in-Copied.copy = c.in-Copied.is in
    let p : IsSplit ws (c.len-last.result - 1) (Siblings c.in-Siblings.number) (Children (c.in-Siblings.number) c.in-Copied.copy) = split_last ws (c.len-last.result - 1) (Siblings c.in-Siblings.number) (Children (c.in-Siblings.number) c.in-Copied.copy) (omega (arith, works_full ws c.args.turn c.in-Copied.copy turn c.requires.turn)) (sym c.in-Siblings.is ∙ c.index.ensures ∙ ap (get_or ws (c.len-last.result - 1)) c.in-Siblings.is) in
    let g = subst (λ (v : List Work). IsCopying s0 s source v (Copied c.in-Copied.copy)) p.whole (subst (IsCopying s0 s source ws) turn h) in
    subst (λ (v : List Work). IsCopying s0 s source v (Copy c.target-in-Siblings.result)) (sym p.changed) (children_next s0 s source p.front c.in-Siblings.number c.in-Copied.copy g c.target-in-Siblings.result c.target-in-Siblings.ensures)

pub returns-in-Siblings-clause-less : goal.returns-in-Siblings-clause-less
returns-in-Siblings-clause-less c = λ s0 source h.
    let s = c.args.nodes.now in let ws = c.args.works.now.items in
    let turn : c.args.turn ≡ Copied c.in-Copied.copy = c.in-Copied.is in
    let p : IsSplit ws (c.len-last.result - 1) (Siblings c.in-Siblings.number) (Children (c.in-Siblings.number) c.in-Copied.copy) = split_last ws (c.len-last.result - 1) (Siblings c.in-Siblings.number) (Children (c.in-Siblings.number) c.in-Copied.copy) (omega (arith, works_full ws c.args.turn c.in-Copied.copy turn c.requires.turn)) (sym c.in-Siblings.is ∙ c.index.ensures ∙ ap (get_or ws (c.len-last.result - 1)) c.in-Siblings.is) in
    let g = subst (λ (v : List Work). IsCopying s0 s source v (Copied c.in-Copied.copy)) p.whole (subst (IsCopying s0 s source ws) turn h) in
    omega (arith, children_less s0 s source p.front c.in-Siblings.number c.in-Copied.copy g c.target-in-Siblings.result c.target-in-Siblings.ensures, ap (works_of s0) p.whole, ap (works_of s0) p.changed, ap (turns_of s0) turn)

pub copy_one-requires : goal.copy_one-requires
copy_one-requires c =
    let s0 = c.requires.copying.0 in let source = c.requires.copying.1 in let h = c.requires.copying.2 in
    let s = c.args.nodes.now in let ws = c.args.works.now.items in
    let turn : c.args.turn ≡ Copied c.in-Copied.copy = c.in-Copied.is in
    let p : IsSplit ws (c.len-last.result - 1) (Children c.in-Children.number c.in-Children.next) (Children (c.in-Children.number) c.in-Copied.copy) = split_last ws (c.len-last.result - 1) (Children c.in-Children.number c.in-Children.next) (Children (c.in-Children.number) c.in-Copied.copy) (omega (arith, works_full ws c.args.turn c.in-Copied.copy turn c.requires.turn)) (sym c.in-Children.is ∙ c.index.ensures ∙ ap (get_or ws (c.len-last.result - 1)) c.in-Children.is) in
    let g = subst (λ (v : List Work). IsCopying s0 s source v (Copied c.in-Copied.copy)) p.whole (subst (IsCopying s0 s source ws) turn h) in
    can_copy_one s0 s source p.front c.in-Children.number c.in-Copied.copy c.in-Children.next g

pub returns-in_ok-copy-in-Children-clause-ok : goal.returns-in_ok-copy-in-Children-clause-ok
returns-in_ok-copy-in-Children-clause-ok c = λ s0 source h.
    let s = c.args.nodes.now in let ws = c.args.works.now.items in
    let turn : c.args.turn ≡ Copied c.in-Copied.copy = c.in-Copied.is in
    let p : IsSplit ws (c.len-last.result - 1) (Children c.in-Children.number c.in-Children.next) (Children (c.in-Children.number) c.in-Copied.copy) = split_last ws (c.len-last.result - 1) (Children c.in-Children.number c.in-Children.next) (Children (c.in-Children.number) c.in-Copied.copy) (omega (arith, works_full ws c.args.turn c.in-Copied.copy turn c.requires.turn)) (sym c.in-Children.is ∙ c.index.ensures ∙ ap (get_or ws (c.len-last.result - 1)) c.in-Children.is) in
    let g = subst (λ (v : List Work). IsCopying s0 s source v (Copied c.in-Copied.copy)) p.whole (subst (IsCopying s0 s source ws) turn h) in
    subst (λ (v : List Work). IsCopying s0 c.copy_one.new.nodes source v (Copied (Some c.in_ok-copy-in-Children.copy))) (sym (c.truncate.ensures.items ∙ p.less))
    (node_copied s0 s source p.front c.in-Children.number c.in-Copied.copy c.in-Children.next g c.copy_one.new.nodes c.in_ok-copy-in-Children.copy (c.in_ok-copy-in-Children.ensures.ok (can_copy_one s0 s source p.front c.in-Children.number c.in-Copied.copy c.in-Children.next g)))

pub returns-in_ok-copy-in-Children-clause-less : goal.returns-in_ok-copy-in-Children-clause-less
returns-in_ok-copy-in-Children-clause-less c = λ s0 source h.
    let s = c.args.nodes.now in let ws = c.args.works.now.items in
    let turn : c.args.turn ≡ Copied c.in-Copied.copy = c.in-Copied.is in
    let p : IsSplit ws (c.len-last.result - 1) (Children c.in-Children.number c.in-Children.next) (Children (c.in-Children.number) c.in-Copied.copy) = split_last ws (c.len-last.result - 1) (Children c.in-Children.number c.in-Children.next) (Children (c.in-Children.number) c.in-Copied.copy) (omega (arith, works_full ws c.args.turn c.in-Copied.copy turn c.requires.turn)) (sym c.in-Children.is ∙ c.index.ensures ∙ ap (get_or ws (c.len-last.result - 1)) c.in-Children.is) in
    let g = subst (λ (v : List Work). IsCopying s0 s source v (Copied c.in-Copied.copy)) p.whole (subst (IsCopying s0 s source ws) turn h) in
    omega (arith, node_less s0 s source p.front c.in-Children.number c.in-Copied.copy c.in-Children.next g, ap (works_of s0) p.whole, ap (works_of s0) (c.truncate.ensures.items ∙ p.less), ap (turns_of s0) turn)

pub returns-in_default-clause-err : goal.returns-in_default-clause-err
returns-in_default-clause-err c = tt

pub returns-in_default-clause-works : goal.returns-in_default-clause-works
returns-in_default-clause-works c = tt

pub returns-in_err-push-in-Copy-clause-ok : goal.returns-in_err-push-in-Copy-clause-ok
returns-in_err-push-in-Copy-clause-ok c = let p = err_from_is_err_and c.from_residual.result c.from_residual.ensures.1 in rw (p.1) tt

pub returns-in_err-push-in-Copy-clause-less : goal.returns-in_err-push-in-Copy-clause-less
returns-in_err-push-in-Copy-clause-less c = let p = err_from_is_err_and c.from_residual.result c.from_residual.ensures.1 in rw (p.1) tt

pub returns-in_err-copy-in-Children-clause-ok : goal.returns-in_err-copy-in-Children-clause-ok
returns-in_err-copy-in-Children-clause-ok c = let p = err_from_is_err_and c.from_residual-in_err-copy-in-Children.result c.from_residual-in_err-copy-in-Children.ensures.1 in rw (p.1) tt

pub returns-in_err-copy-in-Children-clause-less : goal.returns-in_err-copy-in-Children-clause-less
returns-in_err-copy-in-Children-clause-less c = let p = err_from_is_err_and c.from_residual-in_err-copy-in-Children.result c.from_residual-in_err-copy-in-Children.ensures.1 in rw (p.1) tt

pub returns-in_ok-push-in-Copy-clause-err : goal.returns-in_ok-push-in-Copy-clause-err
returns-in_ok-push-in-Copy-clause-err c = tt

pub returns-in_ok-push-in-Copy-clause-works : goal.returns-in_ok-push-in-Copy-clause-works
returns-in_ok-push-in-Copy-clause-works c = tt

pub returns-in-Siblings-clause-err : goal.returns-in-Siblings-clause-err
returns-in-Siblings-clause-err c = tt

pub returns-in-Siblings-clause-works : goal.returns-in-Siblings-clause-works
returns-in-Siblings-clause-works c = tt

pub returns-in_ok-copy-in-Children-clause-err : goal.returns-in_ok-copy-in-Children-clause-err
returns-in_ok-copy-in-Children-clause-err c = tt

pub returns-in_ok-copy-in-Children-clause-works : goal.returns-in_ok-copy-in-Children-clause-works
returns-in_ok-copy-in-Children-clause-works c = tt
