use Rattle.std.proofs.Common.{◌≡◌, ◌+◌, ◌++◌, ◌∷◌, [], Bool, true, false, not, sym, ◌∙◌, arith}
use Rattle.std.specs.Cmp.Lexicographic.{bytes_decides}
use Rattle.std.proofs.lemmas.List.{take_more}
use Rattle.git_objects.specs.Paths.{same_bytes}
use Rattle.stage_tree.proofs.last.common.Goals as goal

not_back : (b : Bool) → false ≡ not b → b ≡ true
not_back true h = Rattle.std.proofs.Common.refl
not_back false h = absurd cc

pub loop-level-preserved : goal.loop-level-preserved
loop-level-preserved c =
    let a = c.args.a.now in
    let b = c.args.b.now in
    let k = c.loop-level.level in
    let same : c.index-a-level.result ≡ c.index-b-level.result = sym c.bytes.ensures.bytes ∙ (bytes_decides c.bytes.result.now c.bytes-in-loop-level.result.now).0 (not_back (same_bytes c.bytes.result.now c.bytes-in-loop-level.result.now) c.if-ne.ensures) ∙ c.bytes-in-loop-level.ensures.bytes in
    take_more a k c.index-a-level.result (omega arith)
    ∙ (λ i. c.loop-level.invariant i ++ (sym c.index-a-level.is ∙ same ∙ c.index-b-level.is) i ∷ [])
    ∙ sym (take_more b k c.index-b-level.result (omega arith))
