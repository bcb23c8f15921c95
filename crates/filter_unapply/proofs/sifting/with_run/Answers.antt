use Rattle.std.proofs.Common.{◌≡◌, ◌<◌, ◌+◌, ◌-◌, [], ◌∷◌, ◌++◌, None, length, take, drop, arith, refl, sym, ap, subst, ◌∙◌, append_assoc}
use Rattle.object_store.specs.Unfolding.{flat}
use Rattle.stage_tree.specs.Stages.{Shows}
use Rattle.filter_unapply.specs.Sifted.{sifted}
use Rattle.filter_unapply.proofs.Fittings.{sifted-within}
use Rattle.filter_unapply.proofs.Runs.{found-in, run-at, run-before, run-next, run-whole}
use Rattle.filter_unapply.proofs.Stages.{shown-run}
use Rattle.filter_unapply.proofs.Told.{is_tree}
use Rattle.filter_unapply.proofs.sifting.with_run.Goals as goal

pub with_entry-requires-clause-found : goal.with_entry-requires-clause-found
with_entry-requires-clause-found c =
    let S = c.args.store.now in
    let less : c.loop-i.i < length c.args.list.now = omega (arith, c.loop-i-test.true, c.requires.within) in
    found-in S (flat S c.args.root.0) c.args.list.now c.args.founds.now c.requires.founds c.loop-i.i c.index-list-i.result less c.index-list-i.is _ None refl

pub loop-i-preserved : goal.loop-i-preserved
loop-i-preserved c =
    let S = c.args.store.now in
    let t = flat S c.args.root.0 in
    let b = c.args.inside in
    let es = c.args.list.now in
    let f = c.args.first in
    let i = c.loop-i.i in
    let e = c.index-list-i.result in
    let k = c.requires.alike.0 in
    let run = c.requires.alike.1 in
    let xs = take (i - f) (drop f es) in
    let rest = drop c.args.end es in
    let less : i < length es = omega (arith, c.loop-i-test.true, c.requires.within) in
    let next = shown-run S c.with_entry.new.stage t (is_tree S c.store_law.ensures.store c.args.root.0 c.requires.root) b k xs rest e (run-before es f i c.loop-i.auto.i k c.args.end c.loop-i-test.true run) (run-at es f i c.loop-i.auto.i k c.args.end e c.loop-i-test.true less c.index-list-i.is run)
    (c.in_ok-with_entry.ensures (sifted b (xs ++ rest) t) c.loop-i.invariant (sifted-within b (xs ++ rest) t)) in
    let list : xs ++ e ∷ rest ≡ take (i + 1 - f) (drop f es) ++ rest = sym (append_assoc xs (e ∷ []) rest) ∙ ap (λ ds. ds ++ rest) (sym (run-next es f i c.loop-i.auto.i e less c.index-list-i.is)) in
    subst (λ ds. Shows S c.with_entry.new.stage (sifted b ds t)) list next

pub returns : goal.returns
returns c =
    let S = c.args.store.now in
    let es = c.args.list.now in
    let f = c.args.first in
    let i = c.loop-i.i in
    let end : c.args.end ≡ i = omega (arith, c.loop-i-test.false, c.loop-i.auto.i-end c.requires.before) in
    let list : take (i - f) (drop f es) ++ drop c.args.end es ≡ drop f es = ap (λ n. take (i - f) (drop f es) ++ drop n es) end ∙ run-whole es f i c.loop-i.auto.i in
    subst (λ ds. Shows S c.loop-i.stage (sifted c.args.inside ds (flat S c.args.root.0))) list c.loop-i.invariant
