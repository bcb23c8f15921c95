use Rattle.std.proofs.Common.{◌≡◌, ◌-◌, ◌+◌, ◌&&◌, ◌||◌, eqb, false, get_or, drop, sym, ap, ◌∙◌, arith, length-drop}
use Rattle.path_names.specs.RefNames.{has_pair}
use Rattle.path_names.proofs.Pairs.{pair_more, pair_end, apart, second_apart}
use Rattle.path_names.proofs.ref_name.has_pair.Goals as goal
use Rattle.path_names.proofs.ref_name.has_pair.Goals.{else-t-i-via-then-t-i+else-t-i-2, else-t-i-via-else-t-i}

pub loop-i-preserved : goal.loop-i-preserved
loop-i-preserved c =
    let a = c.args.a in
    let b = c.args.b in
    let t = c.args.t.now in
    let i = c.loop-i.i in
    let none : (eqb (get_or t (i - 1) 0) a && eqb (get_or t i 0) b) ≡ false =
    elim c.else-t-i.branch [
      | else-t-i-via-then-t-i+else-t-i-2 w ↦ second_apart (eqb (get_or t (i - 1) 0) a) _ _ w.if-t-i-2.false
      | else-t-i-via-else-t-i w ↦ ap (λ p. p && eqb (get_or t i 0) b) (apart _ _ w.if-t-i.false)
    ] in
    let step =
    pair_more a b t i c.loop-i.auto.i c.loop-i-test.true ∙ ap (λ p. p || has_pair a b (drop (i + 1 - 1) t)) none in
    sym step ∙ c.loop-i.invariant

pub returns : goal.returns
returns c =
    let t = c.args.t.now in
    let i = c.loop-i.i in
    sym (pair_end c.args.a c.args.b (drop (i - 1) t) (omega (arith, length-drop (i - 1) t))) ∙ c.loop-i.invariant
