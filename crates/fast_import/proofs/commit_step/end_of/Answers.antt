use Rattle.fast_import.proofs.Ending.{commit_fault, commit_grown, commit_in, parents_there, tree_clash, tree_grown}
use Rattle.fast_import.proofs.commit_step.end_of.Goals as goal

pub returns-in-Err-clause-err : goal.returns-in-Err-clause-err
returns-in-Err-clause-err c = λ d h. tree_clash c.finished.new.store d c.in-Err.fault (c.in-Err.ensures.err d.tree h.stage)

pub returns-in-Err-clause-store : goal.returns-in-Err-clause-store
returns-in-Err-clause-store c = λ d h. tree_grown c.args.store.now c.finished.new.store d (c.finished.ensures.store d.tree h.stage)

pub put_commit-requires-clause-parents : goal.put_commit-requires-clause-parents
put_commit-requires-clause-parents c =
    let d = c.requires.0 in
    let h = c.requires.1 in
    parents_there c.args.store.now c.finished.new.store c.args.draft.now d h (c.finished.ensures.store d.tree h.stage)

pub returns-in-Err-put_commit-clause-err : goal.returns-in-Err-put_commit-clause-err
returns-in-Err-put_commit-clause-err c = λ d h.
    commit_fault c.args.store.now c.finished.new.store c.args.draft.now d h c.in-Ok.tree (c.finished.ensures.store d.tree h.stage).store (c.in-Ok.ensures.ok d.tree h.stage) c.put_commit.new.store c.in-Err-put_commit.fault c.in-Err-put_commit.ensures.err

pub returns-in-Err-put_commit-clause-store : goal.returns-in-Err-put_commit-clause-store
returns-in-Err-put_commit-clause-store c = λ d h.
    commit_grown c.args.store.now c.finished.new.store c.args.draft.now d h c.in-Ok.tree (c.finished.ensures.store d.tree h.stage).store (c.in-Ok.ensures.ok d.tree h.stage) c.put_commit.new.store (c.finished.ensures.store d.tree h.stage) c.put_commit.ensures.store

pub returns-in-Ok-put_commit-clause-store : goal.returns-in-Ok-put_commit-clause-store
returns-in-Ok-put_commit-clause-store c = λ d h.
    commit_grown c.args.store.now c.finished.new.store c.args.draft.now d h c.in-Ok.tree (c.finished.ensures.store d.tree h.stage).store (c.in-Ok.ensures.ok d.tree h.stage) c.put_commit.new.store (c.finished.ensures.store d.tree h.stage) c.put_commit.ensures.store

pub returns-in-Ok-put_commit-clause-ok : goal.returns-in-Ok-put_commit-clause-ok
returns-in-Ok-put_commit-clause-ok c = λ d h.
    commit_in c.args.store.now c.finished.new.store c.args.draft.now d h c.in-Ok.tree (c.finished.ensures.store d.tree h.stage).store (c.in-Ok.ensures.ok d.tree h.stage) c.put_commit.new.store c.in-Ok-put_commit.name c.put_commit.ensures.store
    c.in-Ok-put_commit.ensures.ok.0 c.in-Ok-put_commit.ensures.ok.1
