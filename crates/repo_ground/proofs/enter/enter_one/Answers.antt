use Rattle.state_items.proofs.RowsHeld.{blob-more}
use Rattle.repo_ground.proofs.enter.enter_one.Goals as goal

pub returns-in_ok-insert-in-Blob-clause-blobs : goal.returns-in_ok-insert-in-Blob-clause-blobs
returns-in_ok-insert-in-Blob-clause-blobs c =
    let o = c.args.object in
    let a = c.requires.arrived in
    blob-more c.args.blobs.now.keys c.insert.new.self.keys c.args.key o.kind o.body.now c.in-Blob.is a.0 a.1.unknown c.in_ok-insert-in-Blob.ensures.keys
