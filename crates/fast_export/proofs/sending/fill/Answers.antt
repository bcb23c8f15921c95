use Rattle.std.proofs.Common.{append-nil}
use Rattle.fast_export.proofs.Sent.{put_as, put_behind}
use Rattle.fast_export.proofs.sending.fill.Goals as goal

pub returns-clause-put : goal.returns-clause-put
returns-clause-put g c = put_as _ _ _ _ _ _ _ (append-nil _) (put_behind _ _ _ _ _ _ _ _ c.in_ok-extend_from_slice.ensures.items c.send.ensures.put)
