use Rattle.fast_import.proofs.Stepping.{blob_done, blob_refused}
use Rattle.fast_import.proofs.replay.Replay.blob.Goals as goal

pub returns-in-Err : goal.returns-in-Err
returns-in-Err c = λ base at r h.
    blob_refused base c.args.store.now c.bring.new.store c.bring.new.self r at c.args.mark c.args.content.now c.in-Err.fault (rw c.bytes.ensures at c.in-Err.ensures.refused) (rw c.bytes.ensures at c.bring.ensures.grown)

pub returns-in-Ok : goal.returns-in-Ok
returns-in-Ok c = λ base at r h.
    blob_done base c.args.store.now c.bring.new.store c.args.self.now c.bring.new.self c.mark.new.self r at c.args.mark c.args.content.now c.in-Ok.name h
    (rw c.bytes.ensures at c.in-Ok.ensures.named) c.in-Ok.ensures.behind (rw c.bytes.ensures at c.bring.ensures.grown) c.mark.result c.mark.ensures.ok c.mark.ensures.err
