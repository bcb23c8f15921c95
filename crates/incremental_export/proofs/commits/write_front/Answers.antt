use Rattle.std.proofs.Common.{[]}
use Rattle.fast_export.proofs.Sent.{put_as, put_before, put_behind, put_err, put_none, put_short, put_stop}
use Rattle.incremental_export.proofs.commits.write_front.Goals as goal

pub returns-in_err-add_head : goal.returns-in_err-add_head
returns-in_err-add_head g c = put_err _ _ _ _ _ _ _ c.from_residual.ensures.1 (put_none _ _ _ _)

pub returns-in_err-put : goal.returns-in_err-put
returns-in_err-put g c =
    put_err _ _ _ _ _ c.in_err-put.field-0.0 _ c.from_residual-in_err-put.ensures.1
    (put_stop _ _ _ [] _ _ _ _ (put_stop _ _ _ _ _ _ _ _ (put_behind _ _ _ _ _ _ _ _ c.in_ok-add_head.ensures (put_as _ _ _ _ _ _ _ c.message.ensures c.in_err-put.ensures))))

pub returns-in_err-push : goal.returns-in_err-push
returns-in_err-push g c =
    put_err _ _ _ _ _ _ _ c.from_residual-in_err-push.ensures.1
    (put_stop _ _ _ [] _ _ _ _ (put_short _ _ _ _ [] _ _ (put_behind _ _ _ _ _ _ _ _ c.in_ok-add_head.ensures (put_as _ _ _ _ _ _ _ c.message.ensures c.in_ok-put.ensures))))

pub returns-in_err-add_parents : goal.returns-in_err-add_parents
returns-in_err-add_parents g c =
    put_err _ _ _ _ _ _ _ c.from_residual-in_err-add_parents.ensures.1
    (put_short _ _ _ _ _ _ _ (put_before _ _ _ _ _ _ _ c.in_ok-push.ensures.items (put_behind _ _ _ _ _ _ _ _ c.in_ok-add_head.ensures (put_as _ _ _ _ _ _ _ c.message.ensures c.in_ok-put.ensures))))

pub returns : goal.returns
returns g c = put_before _ _ _ _ _ _ _ c.in_ok-add_parents.ensures (put_before _ _ _ _ _ _ _ c.in_ok-push.ensures.items (put_behind _ _ _ _ _ _ _ _ c.in_ok-add_head.ensures (put_as _ _ _ _ _ _ _ c.message.ensures c.in_ok-put.ensures)))
