use Rattle.std.proofs.Common.{List, [], ◌∷◌, ◌++◌, length, Some, sym, ap, subst, ◌∙◌, arith, length-append}
use Rattle.git_objects.specs.declared.kind.Kind.TheVariants.{Blob, Tree}
use Rattle.object_store.specs.Objects.{Object}
use Rattle.repo_ground.specs.Growing.{IsReady, IsStep, held_of}
use Rattle.repo_ground.specs.StoredObjects.{AreOpen, HasNext, next_steps, blob_at, counted, frame_steps, frames_steps, itself, tree_at, tree_steps}
use Rattle.repo_ground.specs.declared.walk.Child.{Child}
use Rattle.repo_ground.specs.declared.walk.Frame.{Frame}
use Rattle.repo_ground.specs.Beside.{AreBeside}
use Rattle.repo_ground.proofs.Passing.{beside-push, beside-stay}
use Rattle.repo_ground.proofs.Walks.{frame-end, frame-next, on-ok, open-push}
use Rattle.object_store.proofs.Parts.{find-has}
use Rattle.repo_ground.proofs.walk.turn.Goals as goal

pub open_tree-requires : goal.open_tree-requires
open_tree-requires c =
    let S = c.args.store.now in
    subst (λ (ds : List Frame). AreOpen S ds) (sym c.in_ok-push-in-Some-TreeChild.ensures.items)
    (open-push S c.args.frames.now.items (record { name = c.args.frame.name; entries = c.next_child.new.entries; beside = c.args.frame.beside }) c.requires.frames
    (record { tree = c.requires.frame.tree; children = (c.in-Some-TreeChild.ensures.children S c.requires.frame.children).1 }))

pub returns-in-None-clause-step : goal.returns-in-None-clause-step
returns-in-None-clause-step c =
    let S = c.args.store.now in
    let n = c.args.frame.name in
    let old = c.args.held.now.keys in
    let rest = frames_steps itself [] S c.args.frames.now.items in
    let e = ap (λ (t : List Object). t ++ rest) (frame-end itself [] S n c.args.frame.entries c.next_child.new.entries c.args.frame.beside c.in-None.ensures.none (c.in-None.ensures.objects S)) in
    on-ok c.hold.result
    (λ step r. subst (λ (x : List Object). IsStep S old c.hold.new.held.keys x rest) (sym e)
    (step S (tree_at S n.0) rest (find-has S Tree n.0 r.whole c.requires.frame.tree) (subst (λ (x : List Object). IsReady S old x) e r)))
    c.hold.ensures.step

pub returns-in_ok-push-in-Some-BlobChild-clause-step : goal.returns-in_ok-push-in-Some-BlobChild-clause-step
returns-in_ok-push-in-Some-BlobChild-clause-step c =
    let S = c.args.store.now in
    let n = c.in-Some-BlobChild.name in
    let old = c.args.held.now.keys in
    let rest = frames_steps itself [] S c.push.new.self.items in
    let e =
    frame-next itself [] S c.args.frame.name c.args.frame.entries c.next_child.new.entries c.args.frame.beside c.args.frames.now.items c.in-Some-BlobChild.field-0 (c.in-Some-BlobChild.ensures.objects S)
    ∙ (λ i. next_steps itself [] S (Some (c.in-Some-BlobChild.field-0-is i)) ++ frames_steps itself [] S (sym c.in_ok-push-in-Some-BlobChild.ensures.items i)) in
    on-ok c.hold-in-Some-BlobChild.result
    (λ step r. subst (λ (x : List Object). IsStep S old c.hold-in-Some-BlobChild.new.held.keys x rest) (sym e)
    (step S (blob_at S n.0) rest (find-has S Blob n.0 r.whole (subst (λ (k : Child). HasNext S (Some k)) c.in-Some-BlobChild.field-0-is (c.in-Some-BlobChild.ensures.children S c.requires.frame.children).0)) (subst (λ (x : List Object). IsReady S old x) e r)))
    c.hold-in-Some-BlobChild.ensures.step

pub returns-in_ok-push-in-Some-BlobChild-clause-work : goal.returns-in_ok-push-in-Some-BlobChild-clause-work
returns-in_ok-push-in-Some-BlobChild-clause-work c =
    let S = c.args.store.now in
    let e = ap length
    (frame-next counted (tt ∷ []) S c.args.frame.name c.args.frame.entries c.next_child.new.entries c.args.frame.beside c.args.frames.now.items c.in-Some-BlobChild.field-0 (c.in-Some-BlobChild.ensures.work S)
    ∙ (λ i. next_steps counted (tt ∷ []) S (Some (c.in-Some-BlobChild.field-0-is i)) ++ frames_steps counted (tt ∷ []) S (sym c.in_ok-push-in-Some-BlobChild.ensures.items i))) in
    on-ok c.hold-in-Some-BlobChild.result
    (λ step. omega (arith, e, length-append (frame_steps counted (tt ∷ []) S c.args.frame) (frames_steps counted (tt ∷ []) S c.args.frames.now.items)))
    c.hold-in-Some-BlobChild.ensures.step

pub returns-in_ok-push-in-Some-BlobChild-clause-frames : goal.returns-in_ok-push-in-Some-BlobChild-clause-frames
returns-in_ok-push-in-Some-BlobChild-clause-frames c =
    let S = c.args.store.now in
    on-ok c.hold-in-Some-BlobChild.result
    (λ step. subst (λ (ds : List Frame). AreOpen S ds) (sym c.in_ok-push-in-Some-BlobChild.ensures.items)
    (open-push S c.args.frames.now.items (record { name = c.args.frame.name; entries = c.next_child.new.entries; beside = c.args.frame.beside }) c.requires.frames
    (record { tree = c.requires.frame.tree; children = (c.in-Some-BlobChild.ensures.children S c.requires.frame.children).1 })))
    c.hold-in-Some-BlobChild.ensures.step

pub returns-in_ok-push-in-Some-TreeChild-clause-step : goal.returns-in_ok-push-in-Some-TreeChild-clause-step
returns-in_ok-push-in-Some-TreeChild-clause-step c =
    let S = c.args.store.now in
    let n = c.in-Some-TreeChild.name in
    let old = c.args.held.now.keys in
    let e =
    frame-next itself [] S c.args.frame.name c.args.frame.entries c.next_child.new.entries c.args.frame.beside c.args.frames.now.items c.in-Some-TreeChild.field-0 (c.in-Some-TreeChild.ensures.objects S)
    ∙ (λ i. next_steps itself [] S (Some (c.in-Some-TreeChild.field-0-is i)) ++ frames_steps itself [] S (sym c.in_ok-push-in-Some-TreeChild.ensures.items i)) in
    on-ok c.open_tree.result
    (λ step r. subst (λ (x : List Object). IsStep S old old x (frames_steps itself [] S c.open_tree.new.frames.items)) (sym e)
    (step (subst (λ (x : List Object). IsReady S old x) e r)))
    c.open_tree.ensures.step

pub returns-in_ok-push-in-Some-TreeChild-clause-work : goal.returns-in_ok-push-in-Some-TreeChild-clause-work
returns-in_ok-push-in-Some-TreeChild-clause-work c =
    let S = c.args.store.now in
    let n = c.in-Some-TreeChild.name in
    let next = tt ∷ tree_steps counted (tt ∷ []) S n.0 in
    let e = ap length
    (frame-next counted (tt ∷ []) S c.args.frame.name c.args.frame.entries c.next_child.new.entries c.args.frame.beside c.args.frames.now.items c.in-Some-TreeChild.field-0 (c.in-Some-TreeChild.ensures.work S)
    ∙ (λ i. next_steps counted (tt ∷ []) S (Some (c.in-Some-TreeChild.field-0-is i)) ++ frames_steps counted (tt ∷ []) S (sym c.in_ok-push-in-Some-TreeChild.ensures.items i))) in
    on-ok c.open_tree.result
    (λ step. omega (
      arith,
      e,
      step,
      length-append (frame_steps counted (tt ∷ []) S c.args.frame) (frames_steps counted (tt ∷ []) S c.args.frames.now.items),
      length-append next (frames_steps counted (tt ∷ []) S c.push-in-Some-TreeChild.new.self.items),
    ))
    c.open_tree.ensures.work

pub returns-in-None-clause-beside : goal.returns-in-None-clause-beside
returns-in-None-clause-beside c =
    let S = c.args.store.now in
    let n = c.args.frame.name in
    let old = c.args.held.now.keys in
    let rest = frames_steps itself [] S c.args.frames.now.items in
    let e = ap (λ (t : List Object). t ++ rest) (frame-end itself [] S n c.args.frame.entries c.next_child.new.entries c.args.frame.beside c.in-None.ensures.none (c.in-None.ensures.objects S)) in
    on-ok c.hold.result
    (λ step r h.
    let one = step S (tree_at S n.0) rest (find-has S Tree n.0 r.whole c.requires.frame.tree) (subst (λ (x : List Object). IsReady S old x) e r) in
    beside-stay S old c.hold.new.held.keys c.args.frames.now.items c.hold.ensures.extends one.ready.holds.held h.1)
    c.hold.ensures.step

pub returns-in_ok-push-in-Some-BlobChild-clause-beside : goal.returns-in_ok-push-in-Some-BlobChild-clause-beside
returns-in_ok-push-in-Some-BlobChild-clause-beside c =
    let S = c.args.store.now in
    let n = c.in-Some-BlobChild.name in
    let old = c.args.held.now.keys in
    let new = c.hold-in-Some-BlobChild.new.held.keys in
    let d : Frame = record { name = c.args.frame.name; entries = c.next_child.new.entries; beside = c.args.frame.beside } in
    let rest = frames_steps itself [] S c.push.new.self.items in
    let e =
    frame-next itself [] S c.args.frame.name c.args.frame.entries c.next_child.new.entries c.args.frame.beside c.args.frames.now.items c.in-Some-BlobChild.field-0 (c.in-Some-BlobChild.ensures.objects S)
    ∙ (λ i. next_steps itself [] S (Some (c.in-Some-BlobChild.field-0-is i)) ++ frames_steps itself [] S (sym c.in_ok-push-in-Some-BlobChild.ensures.items i)) in
    on-ok c.hold-in-Some-BlobChild.result
    (λ step r h.
    let one = step S (blob_at S n.0) rest (find-has S Blob n.0 r.whole (subst (λ (k : Child). HasNext S (Some k)) c.in-Some-BlobChild.field-0-is (c.in-Some-BlobChild.ensures.children S c.requires.frame.children).0)) (subst (λ (x : List Object). IsReady S old x) e r) in
    subst (λ (ds : List Frame). AreBeside (held_of S new) ds) (sym c.in_ok-push-in-Some-BlobChild.ensures.items)
    (beside-stay S old new (c.args.frames.now.items ++ d ∷ []) c.hold-in-Some-BlobChild.ensures.extends one.ready.holds.held (beside-push (held_of S old) c.args.frames.now.items d h.1 h.0)))
    c.hold-in-Some-BlobChild.ensures.step

pub returns-in_ok-push-in-Some-TreeChild-clause-beside : goal.returns-in_ok-push-in-Some-TreeChild-clause-beside
returns-in_ok-push-in-Some-TreeChild-clause-beside c =
    let H = held_of c.args.store.now c.args.held.now.keys in
    let d : Frame = record { name = c.args.frame.name; entries = c.next_child.new.entries; beside = c.args.frame.beside } in
    on-ok c.open_tree.result
    (λ later r h. later r.holds (subst (λ (ds : List Frame). AreBeside H ds) (sym c.in_ok-push-in-Some-TreeChild.ensures.items) (beside-push H c.args.frames.now.items d h.1 h.0)))
    c.open_tree.ensures.beside
