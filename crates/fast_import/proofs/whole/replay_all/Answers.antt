use Rattle.std.proofs.Common.{Ok, Err, ap, subst}
use Rattle.stream_reader.specs.Readers.{Reading}
use Rattle.stream_reader.specs.declared.progress.Progress.{Progress}
use Rattle.fast_import.specs.Bases.{base_in}
use Rattle.fast_import.specs.Replaying.{Replaying}
use Rattle.fast_import.specs.declared.whole.ReplayError.{ReplayError}
use Rattle.fast_import.specs.Waited.{IsTakenIn}
use Rattle.fast_import.specs.Whole.{IsWholeRun}
use Rattle.fast_import.proofs.Stopping.{replayed_refused, replayed_whole}
use Rattle.fast_import.proofs.whole.replay_all.Goals as goal

pub returns-in-Err-clause-stream : goal.returns-in-Err-clause-stream
returns-in-Err-clause-stream g c =
    let base = base_in c.args.store.now (g.B.Base.commits c.args.base.now) (g.B.Base.refs c.args.base.now) (g.B.Base.blobs c.args.base.now) in
    let h = c.in-Err.ensures.stream in
    let w = subst (λ (p : Progress). IsWholeRun p base c.args.store.now c.run_whole.new.store h.0 (Err c.in-Err.error)) (ap (λ (r : Reading). r.progress) c.new.ensures) h.3 in
    (h.0, h.1, h.2, replayed_refused base c.args.store.now c.run_whole.new.store h.0 c.in-Err.error w)

pub returns-in-Ok-clause-stream : goal.returns-in-Ok-clause-stream
returns-in-Ok-clause-stream g c =
    let base = base_in c.args.store.now (g.B.Base.commits c.args.base.now) (g.B.Base.refs c.args.base.now) (g.B.Base.blobs c.args.base.now) in
    let h = c.in-Ok.ensures.stream in
    let w = subst (λ (p : Progress). IsWholeRun p base c.args.store.now c.run_whole.new.store h.0 (Ok c.in-Ok.replay)) (ap (λ (r : Reading). r.progress) c.new.ensures) h.3 in
    (h.0, h.1, h.2, replayed_whole base c.args.store.now c.run_whole.new.store h.0 c.in-Ok.replay c.finish.result w (c.finish.ensures.gives c.run_whole.new.store))

pub returns-in-Err-clause-taken : goal.returns-in-Err-clause-taken
returns-in-Err-clause-taken g c =
    let base = base_in c.args.store.now (g.B.Base.commits c.args.base.now) (g.B.Base.refs c.args.base.now) (g.B.Base.blobs c.args.base.now) in
    subst (λ (p : Progress). IsTakenIn {A = Replaying} {E = ReplayError} p base (g.S.Source.left c.args.input.now) (g.S.Source.left c.run_whole.new.input) (Err c.in-Err.error)) (ap (λ (r : Reading). r.progress) c.new.ensures) c.in-Err.ensures.taken

pub returns-in-Ok-clause-taken : goal.returns-in-Ok-clause-taken
returns-in-Ok-clause-taken g c =
    let base = base_in c.args.store.now (g.B.Base.commits c.args.base.now) (g.B.Base.refs c.args.base.now) (g.B.Base.blobs c.args.base.now) in
    subst (λ (p : Progress). IsTakenIn {A = Replaying} {E = ReplayError} p base (g.S.Source.left c.args.input.now) (g.S.Source.left c.run_whole.new.input) (Ok c.in-Ok.replay)) (ap (λ (r : Reading). r.progress) c.new.ensures) c.in-Ok.ensures.taken
