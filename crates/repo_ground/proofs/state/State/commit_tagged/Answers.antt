-- Proves what src/commit.rt needs of `commit_tagged`.
use Rattle.std.proofs.Common.{◌≤◌, ◌+◌, sym, subst, ◌∙◌}
use Rattle.projection_ground.specs.Grounds.{IsGround}
use Rattle.repo_ground.specs.Changes.{IsCommitted, tagged_batch_plan}
use Rattle.repo_ground.specs.Contents.{Contents}
use Rattle.repo_ground.specs.Drafting.{IsDraft, IsDraftOrNot, with_draft}
use Rattle.repo_ground.specs.declared.draft.Draft.{Draft}
use Rattle.git_objects.specs.declared.limits.TheConstants.{STORE_BYTES}
use Rattle.repo_ground.proofs.Cuts.{cut-same, draft-committed, refused-is}
use Rattle.repo_ground.proofs.state.State.commit_tagged.Goals as goal

pub returns-in-Err-clause-state : goal.returns-in-Err-clause-state
returns-in-Err-clause-state g c = λ h blobs cs w.
    let s = c.args.self.now in
    let m = c.mark-mark.ensures in
    let same = c.cut_back.ensures ∙ cut-same c.mark-mark.result.names c.mark-mark.result.blobs c.mark-mark.result.commits s c.append_batch.new.self m.names m.blobs m.commits c.in-Err.ensures.more in
    refused-is h (tagged_batch_plan h c.args.batch blobs cs c.args.tags.items) s c.cut_back.new.self c.in-Err.error (c.in-Err.ensures.prepared h blobs cs w) same

pub settle-requires-clause-number : goal.settle-requires-clause-number
settle-requires-clause-number g c =
    let q = c.requires.batch in
    let p = tagged_batch_plan q.0 c.args.batch q.1 q.2 c.args.tags.items in
    let made : IsDraft q.0 p c.args.self.now c.append_batch.new.self c.in-Ok-Some.draft = subst (λ o. IsDraftOrNot q.0 p c.args.self.now c.append_batch.new.self o) c.in-Ok-Some.field-0-is (c.in-Ok-Some.ensures.prepared q.0 q.1 q.2 q.3) in
    made.room.0

pub settle-requires-clause-size : goal.settle-requires-clause-size
settle-requires-clause-size g c =
    let q = c.requires.batch in
    let p = tagged_batch_plan q.0 c.args.batch q.1 q.2 c.args.tags.items in
    let made : IsDraft q.0 p c.args.self.now c.append_batch.new.self c.in-Ok-Some.draft = subst (λ o. IsDraftOrNot q.0 p c.args.self.now c.append_batch.new.self o) c.in-Ok-Some.field-0-is (c.in-Ok-Some.ensures.prepared q.0 q.1 q.2 q.3) in
    subst (λ (d : Draft). c.append_batch.new.self.size + d.size ≤ STORE_BYTES) (sym c.in-Ok-Some.draft-is) made.room.1

pub returns-clause-state : goal.returns-clause-state
returns-clause-state g c = λ h blobs cs w.
    let s = c.args.self.now in
    let p = tagged_batch_plan h c.args.batch blobs cs c.args.tags.items in
    let d = c.in-Ok-Some.draft in
    let made : IsDraft h p s c.append_batch.new.self d = subst (λ o. IsDraftOrNot h p s c.append_batch.new.self o) c.in-Ok-Some.field-0-is (c.in-Ok-Some.ensures.prepared h blobs cs w) in
    subst (λ (x : Contents). IsCommitted h p s x × IsGround x.basis) (sym c.settle.ensures)
    (subst (λ (x : Draft). IsCommitted h p s (with_draft c.append_batch.new.self x)) (sym c.in-Ok-Some.draft-is) (draft-committed h p s c.append_batch.new.self d c.in-Ok-Some.ensures.more made), made.ground)
