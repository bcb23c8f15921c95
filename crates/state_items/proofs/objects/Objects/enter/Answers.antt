use Rattle.std.proofs.Common.{take, drop, ◌∙◌}
use Rattle.state_items.proofs.Naming.{last-fits-of}
use Rattle.state_items.proofs.RowsHeld.{blob-more}
use Rattle.state_items.proofs.objects.Objects.enter.Goals as goal

pub returns-in_ok-insert-in-Blob-clause-blobs : goal.returns-in_ok-insert-in-Blob-clause-blobs
returns-in_ok-insert-in-Blob-clause-blobs c =
    λ _. blob-more c.args.self.now.blobs.keys c.insert.new.self.keys c.args.key c.args.part.kind (take c.args.part.len (drop c.args.part.at c.args.self.now.incoming.piece))
    c.in-Blob.is c.requires.named c.requires.arrived.unknown c.in_ok-insert-in-Blob.ensures.keys

pub returns-in-Tree-clause-fits : goal.returns-in-Tree-clause-fits
returns-in-Tree-clause-fits c = λ S e.
    c.tree_fits.ensures
    ∙ last-fits-of S c.args.self.now.incoming.objects c.args.part.kind (take c.args.part.len (drop c.args.part.at c.args.self.now.incoming.piece)) c.args.key.0 c.in-Tree.is e c.requires.named
