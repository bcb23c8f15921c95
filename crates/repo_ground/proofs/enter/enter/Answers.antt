use Rattle.std.proofs.Common.{ap, ◌∙◌}
use Rattle.std.proofs.lemmas.Slice.Zip.{either_empty_from_Zip}
use Rattle.std.specs.Iterator.Adapters.{zip_first, zip_second}
use Rattle.std.specs.Slice.Iter.{iter_rest}
use Rattle.repo_ground.proofs.Entered.{entering-end, entering-first, entering-next, entering-then, front-none, front-then}
use Rattle.repo_ground.proofs.enter.enter.Goals as goal

pub loop-name-init : goal.loop-name-init
loop-name-init c = record {
  entered = λ S H held h l f.
      let gives = c.into_iter-name-iterator.ensures.into_iter_gives in
      let zipped = c.zip-name-items.ensures in
      entering-first S H held c.args.names.now c.args.graph.now c.args.blobs.now.keys (iter_rest (zip_first c.into_iter-name-iterator.result)) (iter_rest (zip_second c.into_iter-name-iterator.result)) c.args.objects.now
      (ap (λ i. iter_rest (zip_first i)) gives ∙ ap iter_rest zipped.first ∙ c.iter.ensures.rest) (ap (λ i. iter_rest (zip_second i)) gives ∙ zipped.second.0) h l f;
  front = (front-none c.args.graph.now, front-none c.args.blobs.now.keys);
}

pub enter_one-requires : goal.enter_one-requires
enter_one-requires c =
    let r = c.requires.new in
    let i = c.loop-name.name-iterator in
    let j = c.next.new.self in
    let s = c.in-Some.ensures.steps in
    record {
      arrived = entering-next r.0 r.1 r.2 c.args.names.now c.loop-name.graph c.loop-name.blobs.keys (iter_rest (zip_first i)) (iter_rest (zip_first j)) (iter_rest (zip_second i)) (iter_rest (zip_second j))
          c.in-Some.name.now c.in-Some.object.now s.0 s.1 (c.loop-name.invariant.entered r.0 r.1 r.2 r.3 r.4 r.5);
    }

pub loop-name-preserved : goal.loop-name-preserved
loop-name-preserved c = record {
  entered = λ S H held h l f.
      let i = c.loop-name.name-iterator in
      let j = c.next.new.self in
      let s = c.in-Some.ensures.steps in
      entering-then S H held c.args.names.now c.loop-name.graph c.loop-name.blobs.keys (iter_rest (zip_first i)) (iter_rest (zip_first j)) (iter_rest (zip_second i)) (iter_rest (zip_second j))
      c.in-Some.name.now c.in-Some.object.now s.0 s.1 (c.loop-name.invariant.entered S H held h l f)
      c.enter_one.new.graph c.enter_one.new.blobs.keys c.in_ok-enter_one.ensures.rows c.in_ok-enter_one.ensures.blobs;
  front = (
    front-then c.args.graph.now c.loop-name.graph c.enter_one.new.graph c.loop-name.invariant.front.0 c.in_ok-enter_one.ensures.front.0,
    front-then c.args.blobs.now.keys c.loop-name.blobs.keys c.enter_one.new.blobs.keys c.loop-name.invariant.front.1 c.in_ok-enter_one.ensures.front.1,
  );
}

pub returns-clause-entered : goal.returns-clause-entered
returns-clause-entered c = λ S H held h l f.
    let i = c.loop-name.name-iterator in
    entering-end S H held c.args.names.now c.loop-name.graph c.loop-name.blobs.keys (iter_rest (zip_first i)) (iter_rest (zip_second i))
    (either_empty_from_Zip i c.next.new.self c.next.result c.in-None.is c.next.ensures.steps) (c.loop-name.invariant.entered S H held h l f)
