use Rattle.fast_import.specs.Bases.{base_in}
use Rattle.fast_import.specs.Replays.{command_step}
use Rattle.stream_reader.specs.declared.command.Command.TheVariants.{Commit}
use Rattle.fast_import.proofs.Committing.{begun_done}
use Rattle.fast_import.proofs.replay.Replay.commit.Goals as goal

pub returns-in-Err : goal.returns-in-Err
returns-in-Err g c = λ at r h. record { done = tt; refused = (c.in-Err.ensures at r h).not_begun }

pub returns-in-Ok : goal.returns-in-Ok
returns-in-Ok g c = λ at r h.
    begun_done c.args.store.now c.args.self.now c.put_draft.new.self c.args.head
    (command_step (base_in c.args.store.now (g.B.Base.commits c.args.base.now) (g.B.Base.refs c.args.base.now) (g.B.Base.blobs c.args.base.now)) r at (Commit c.args.head))
    c.in-Ok.begun c.draft_of.result (c.in-Ok.ensures at r h) c.draft_of.ensures c.put_draft.ensures
