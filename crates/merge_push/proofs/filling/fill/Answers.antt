use Rattle.std.proofs.Common.{◌≡◌, ◌<◌, length, arith, sym, subst, List, ap, ◌∙◌}
use Rattle.commit_graph.specs.Graphs.{Row}
use Rattle.filter_text.specs.Shapes.{shape}
use Rattle.projection_laws.specs.StoredGraphs.{name_at}
use Rattle.merge_push.proofs.Filled.{filled-fault, filled-more, filled-next}
use Rattle.merge_push.proofs.Stored.{name-placed, name-told}
use Rattle.merge_push.proofs.filling.fill.Goals as goal

pub keep_projection-requires-clause-head : goal.keep_projection-requires-clause-head
keep_projection-requires-clause-head c =
    let h = c.loop-place.ground in
    let t = c.loop-place-test.true in
    let e = c.loop-place.invariant.end in
    let g = c.args.ground.now in
    let l : c.loop-place.place < length g.graph = omega (arith, t, e) in
    name-placed h.graph c.loop-place.place c.name-name.result.0 (subst (λ (rows : List Row). c.loop-place.place < length rows) (sym c.loop-place.invariant.so_far.filled.same.graph) l) c.name-name.ensures

pub returns-in-Err-clause-filled : goal.returns-in-Err-clause-filled
returns-in-Err-clause-filled c =
    filled-more (shape c.args.filter.now) c.args.ground.now c.loop-place.ground c.keep_projection.new.ground c.loop-place.place c.loop-place.invariant.so_far c.requires.ground c.name-name.result.0 c.keep_projection.ensures.map c.keep_projection.ensures.same c.projection_law.ensures

pub returns-in-Err-clause-err : goal.returns-in-Err-clause-err
returns-in-Err-clause-err c =
    filled-fault (shape c.args.filter.now) c.args.ground.now c.loop-place.ground c.keep_projection.new.ground c.loop-place.place c.loop-place.invariant.so_far c.requires.ground c.name-name.result.0 c.keep_projection.ensures.map c.keep_projection.ensures.same c.keep_projection.new.ground.store c.in-Err.error c.in-Err.ensures.err

pub loop-place-preserved : goal.loop-place-preserved
loop-place-preserved c =
    let h = c.loop-place.ground in
    let t = c.loop-place-test.true in
    let e = c.loop-place.invariant.end in
    let g = c.args.ground.now in
    let l : c.loop-place.place < length g.graph = omega (arith, t, e) in
    let same = c.loop-place.invariant.so_far.filled.same.graph in
    let named : c.name-name.result.0 ≡ name_at g.graph c.loop-place.place =
    name-told h.graph c.loop-place.place c.name-name.result.0 (subst (λ (rows : List Row). c.loop-place.place < length rows) (sym same) l) c.name-name.ensures ∙ ap (λ (rows : List Row). name_at rows c.loop-place.place) same in
    record {
      so_far = filled-next (shape c.args.filter.now) g h c.keep_projection.new.ground c.loop-place.place c.loop-place.invariant.so_far c.requires.ground c.name-name.result.0 c.keep_projection.ensures.map c.keep_projection.ensures.same c.projection_law.ensures
          named c.in-Ok.ensures.kept;
      end = e;
    }
