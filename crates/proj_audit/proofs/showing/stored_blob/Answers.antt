use Rattle.proj_audit.proofs.OneBlob.{one-blob}
use Rattle.proj_audit.proofs.showing.stored_blob.Goals as goal

pub returns-in-Ok : goal.returns-in-Ok
returns-in-Ok c =
    one-blob c.new-store.result c.put_slice.new.self c.in-Ok.name.0 c.args.bytes.now c.new-store.ensures c.in-Ok.ensures.ok.0 c.in-Ok.ensures.ok.2
