use Rattle.std.proofs.Common.{◌≡◌, ◌-◌, ◌<◌, List, Bool, true, length, arith, sym, subst}
use Rattle.commit_graph.specs.Graphs.{IsGraph}
use Rattle.commit_graph.specs.Marks.{AddsMarks}
use Rattle.commit_graph.proofs.Reaching.{IsSweeping, sweep-start, sweep-mark, sweep-end, mark-read, take-front}
use Rattle.commit_graph.proofs.graph.Graph.reached.Goals as goal

pub loop-i-init : goal.loop-i-init
loop-i-init c = sweep-start _ c.args.head c.args.low _ (omega arith) (c.in_ok-marks.ensures.items_if_clones_equal (λ b e. e))

pub loop-i-preserved-then-index : goal.loop-i-preserved-then-index
loop-i-preserved-then-index c =
    let rs = c.args.self.now in
    let low = c.args.low in
    let i = c.loop-i.i in
    let ms = c.loop-i.marks.items in
    let new = c.mark_all.new.marks in
    let s = c.loop-i.invariant in
    let long = s.long in
    let inside : i - 1 - low < length ms = omega (arith, long) in
    let size : length new ≡ length ms = let n = c.mark_all.auto.marks in let m = c.deref_mut.ensures.len in let k = c.loop-i.marks.ok in omega (arith, n, m, k) in
    let size' : length new ≡ c.loop-i.marks.len = let k = c.loop-i.marks.ok in omega (arith, size, k) in
    subst (λ (bs : List Bool). IsSweeping rs c.args.head low bs (i - 1)) (sym (take-front c.loop-i.marks.len new _ size'))
    (sweep-mark rs c.args.head low ms new i c.parents.result.now (subst IsGraph c.self.view_is c.self.invariant.graph) (omega arith) (omega (arith, long)) s
    (mark-read ms (i - 1 - low) _ true inside c.index.ensures c.if-index.true) c.parents.ensures.parents size
    (subst (λ (bs : List Bool). AddsMarks low bs new c.parents.result.now) c.deref_mut.ensures.value c.mark_all.ensures))

pub returns : goal.returns
returns c = sweep-end c.args.self.now c.args.head c.args.low c.loop-i.i _ (subst IsGraph c.self.view_is c.self.invariant.graph) c.loop-i.invariant c.loop-i-test.false
