use Rattle.std.proofs.Common.{◌∙◌, ◌+◌, ◌<◌, ap, sym, length, arith}
use Rattle.filter_text.specs.Filters.{append, chain, only}
use Rattle.filter_text.specs.Shapes.{shape, shapes}
use Rattle.filter_text.proofs.RowLists.{pushed, shape-chain}
use Rattle.filter_text.proofs.Resuming.{append-one}
use Rattle.workspace.proofs.Splits.{filled, linked-around}
use Rattle.workspace.proofs.resolving.put_in.Goals.{else-is_empty-via-then-is_empty+else-is_empty-2, else-is_empty-via-else-is_empty}
use Rattle.workspace.proofs.resolving.put_in.Goals as goal

pub returns : goal.returns
returns c =
    let before = c.args.parts.now.before.now in
    let behind = c.args.parts.now.behind.now in
    let l = shape c.args.list in
    let some_left : 0 < length before + length behind = elim c.else-is_empty.branch [
      | else-is_empty-via-then-is_empty+else-is_empty-2 w ↦ omega (arith, filled (length behind) (sym w.is_empty-then-is_empty.ensures ∙ w.if-is_empty-2.false))
      | else-is_empty-via-else-is_empty w ↦ omega (arith, filled (length before) (sym c.is_empty.ensures ∙ w.if-is_empty.false))
    ] in
    shape-chain c.add_copies-2.new.onto
    ∙ ap chain (c.in_ok-add_copies-2.ensures
    ∙ ap (λ fs. append fs (shapes behind)) (pushed c.add_copies.new.onto.items c.push.new.self.items _ c.in_ok-push.ensures.items
    ∙ ap (λ fs. append fs (only l)) (c.in_ok-add_copies.ensures ∙ ap (λ xs. append (shapes xs) (shapes before)) c.new-pieces.ensures.items))
    ∙ sym (append-one (shapes before) (shapes behind) l))
    ∙ linked-around before behind l some_left
