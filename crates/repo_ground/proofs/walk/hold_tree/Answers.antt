use Rattle.std.proofs.Common.{List, [], ◌∷◌, ◌++◌, length, ap, subst, ◌∙◌, arith, length-append}
use Rattle.object_store.specs.Objects.{Object, HasChildren}
use Rattle.repo_ground.specs.Beside.{AreBeside}
use Rattle.repo_ground.specs.Growing.{IsReady, IsStep, held_of}
use Rattle.repo_ground.specs.StoredObjects.{AreOpen, counted, frame_steps, frames_steps, itself, stored_objects}
use Rattle.repo_ground.specs.declared.walk.Frame.{Frame}
use Rattle.repo_ground.proofs.Grows.{extends-then, step-then}
use Rattle.repo_ground.proofs.Passing.{beside-front, passed-beside, passed-open, passed-step, passed-work}
use Rattle.repo_ground.proofs.Walks.{frames-push, open-front}
use Rattle.repo_ground.proofs.walk.hold_tree.Goals as goal

pub turn-requires-clause-frame : goal.turn-requires-clause-frame
turn-requires-clause-frame c =
    let S = c.args.store.now in
    passed-open S c.in-Some.frame c.pass_beside-beside.new.frame c.pass_beside-beside.ensures
    (open-front S c.pop.new.self.items c.in-Some.frame (subst (λ (ds : List Frame). AreOpen S ds) c.in-Some.ensures.items c.trees.invariant.opened)).1

pub turn-requires-clause-frames : goal.turn-requires-clause-frames
turn-requires-clause-frames c =
    let S = c.args.store.now in
    (open-front S c.pop.new.self.items c.in-Some.frame (subst (λ (ds : List Frame). AreOpen S ds) c.in-Some.ensures.items c.trees.invariant.opened)).0

pub trees-smaller : goal.trees-smaller
trees-smaller c =
    let S = c.args.store.now in
    let e = ap length (ap (frames_steps counted (tt ∷ []) S) c.in-Some.ensures.items ∙ frames-push counted (tt ∷ []) S c.pop.new.self.items c.in-Some.frame) in
    omega (
      arith,
      e,
      c.in_ok-turn.ensures.work,
      passed-work S c.in-Some.frame c.pass_beside-beside.new.frame c.pass_beside-beside.ensures,
      length-append (frame_steps counted (tt ∷ []) S c.in-Some.frame) (frames_steps counted (tt ∷ []) S c.pop.new.self.items),
    )

pub trees-preserved : goal.trees-preserved
trees-preserved c =
    let S = c.args.store.now in
    let old = c.args.held.now.keys in
    let mid = c.trees.held.keys in
    let os = stored_objects S c.args.root.0 in
    let d = c.in-Some.frame in
    let d' = c.pass_beside-beside.new.frame in
    let p = c.pass_beside-beside.ensures in
    let rest = frames_steps itself [] S c.pop.new.self.items in
    let e = ap (frames_steps itself [] S) c.in-Some.ensures.items ∙ frames-push itself [] S c.pop.new.self.items d in
    let beside : IsReady S old os → AreBeside (held_of S mid) c.pop.new.self.items × HasChildren (held_of S mid) d.beside = λ r. beside-front (held_of S mid) c.pop.new.self.items d (subst (λ (ds : List Frame). AreBeside (held_of S mid) ds) c.in-Some.ensures.items (c.trees.invariant.beside r)) in
    let so_far : IsReady S old os → IsStep S old mid os (frame_steps itself [] S d' ++ rest) = λ r.
    let popped = subst (λ (x : List Object). IsStep S old mid os x) e (c.trees.invariant.step r) in
    step-then S old mid mid os (frame_steps itself [] S d ++ rest) (frame_steps itself [] S d' ++ rest) popped (passed-step S mid d d' rest p (beside r).1 popped.ready) in
    record {
      step = λ r. let before = so_far r in
          step-then S old mid c.turn.new.held.keys os (frame_steps itself [] S d' ++ rest) (frames_steps itself [] S c.turn.new.frames.items) before (c.in_ok-turn.ensures.step before.ready);
      opened = c.in_ok-turn.ensures.frames;
      extends = extends-then old mid c.turn.new.held.keys c.trees.invariant.extends c.in_ok-turn.ensures.extends;
      beside = λ r. c.in_ok-turn.ensures.beside (so_far r).ready (passed-beside (held_of S mid) d d' p (beside r).1, (beside r).0);
    }
