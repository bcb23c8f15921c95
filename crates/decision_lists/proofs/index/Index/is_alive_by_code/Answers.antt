use Rattle.std.proofs.Common.{arith, ◌++◌, ◌+◌, sym, ap, ◌∙◌, ◌∷◌, [], drop, take}
use Rattle.std.proofs.lemmas.List.{drop_more, drop_all, take_more}
use Rattle.decision_lists.specs.Index.{code_from, mixed}
use Rattle.decision_lists.proofs.Indexing.{code-more, dead-front, front-here, front-step, no-front, no-more}
use Rattle.decision_lists.proofs.index.Index.is_alive_by_code.Goals as goal

pub returns-then-has : goal.returns-then-has
returns-then-has c =
    let es = c.args.entries.now in
    let s = c.args.base.now in
    let i = c.loop-i.i in
    dead-front es c.args.point s
    (front-here es s i _ (drop_more s i [] c.loop-i-test.true) (sym c.if-has.true ∙ c.has.ensures) ∙ c.loop-i.invariant.fronts)

pub loop-i-preserved : goal.loop-i-preserved
loop-i-preserved c =
    let es = c.args.entries.now in
    let s = c.args.base.now in
    let i = c.loop-i.i in
    let x = c.index-base-i.result in
    let more = take_more s i x c.loop-i-test.true ∙ ap (λ y. take i s ++ y ∷ []) (sym c.index-base-i.is) in
    record {
      code = c.mixed-code.ensures ∙ ap (mixed c.loop-i.code) c.bytes.ensures.bytes ∙ ap (λ h. mixed h x) c.loop-i.invariant.code
          ∙ sym (code-more 1 (take i s) x) ∙ ap (code_from 1) (sym more);
      fronts = front-step es s i x (drop_more s i x c.loop-i-test.true ∙ ap (λ y. y ∷ drop (i + 1) s) (sym c.index-base-i.is)) more
          (sym c.if-has.false ∙ c.has.ensures) ∙ c.loop-i.invariant.fronts;
    }

pub returns : goal.returns
returns c =
    let s = c.args.base.now in
    let i = c.loop-i.i in
    no-front c.args.entries.now c.args.point s c.has-2.result
    (no-more _ (drop i s) (drop_all i s (omega arith)) ∙ c.loop-i.invariant.fronts)
    c.has-2.ensures
