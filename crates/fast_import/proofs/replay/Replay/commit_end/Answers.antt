use Rattle.std.proofs.Common.{sym, ◌∙◌}
use Rattle.fast_import.proofs.Committing.{end_done, end_refused}
use Rattle.fast_import.proofs.replay.Replay.commit_end.Goals as goal

pub returns-in-Err : goal.returns-in-Err
returns-in-Err c = λ base r h.
    end_refused base c.args.store.now c.end_of-ended.new.store c.args.self.now c.take_draft.new.self r c.args.at c.in-Some.draft h (sym c.take_draft.ensures.value ∙ c.in-Some.is) c.end_of-ended.ensures.store c.in-Err.fault c.in-Err.ensures.err

pub returns : goal.returns
returns c = λ base r h.
    end_done base c.args.store.now c.end_of-ended.new.store c.args.self.now c.enter.new.self r c.args.at c.in-Some.draft h (sym c.take_draft.ensures.value ∙ c.in-Some.is) c.end_of-ended.ensures.store
    (record { made = c.in-Ok.made; refname = c.end_of-ended.new.draft.refname; mark = c.end_of-ended.new.draft.mark }) c.take_draft.new.self
    (λ d k. record { made_commit = c.in-Ok.ensures.ok d k; on_branch = c.end_of-ended.ensures.same.0 ∙ k.of_branch; at_mark = c.end_of-ended.ensures.same.1 ∙ k.with_mark }) c.take_draft.ensures.after c.enter.result c.enter.ensures.ok c.enter.ensures.err
