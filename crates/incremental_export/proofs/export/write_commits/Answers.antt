use Rattle.std.proofs.Common.{[], length, arith, ◌<◌}
use Rattle.git_objects.specs.declared.name.Name.{Name}
use Rattle.fast_export.proofs.Sent.{put_err}
use Rattle.incremental_export.proofs.ChangesWritten.{less_commits, more_commits, next_new, no_commits}
use Rattle.incremental_export.proofs.WantedNames.{commit_there}
use Rattle.incremental_export.proofs.export.write_commits.Goals as goal

abbrev unread : Name
unread = record { 0 = [] }

pub write_commit-requires-clause-commit : goal.write_commit-requires-clause-commit
write_commit-requires-clause-commit g c = commit_there c.args.store.now c.args.commits.now c.loop-name.name-index unread c.requires.commits.held (omega arith)

pub write_commit-requires-clause-new : goal.write_commit-requires-clause-new
write_commit-requires-clause-new g c = next_new c.args.commits.now c.loop-name.name-index unread (omega arith) c.loop-name.marks c.requires.commits.distinct c.loop-name.invariant.given

pub returns-in_err-write_commit-clause-put : goal.returns-in_err-write_commit-clause-put
returns-in_err-write_commit-clause-put g c =
    let within : c.loop-name.name-index < length c.args.commits.now = omega arith in
    put_err _ _ _ _ _ c.in_err-write_commit.field-0.0 _ c.from_residual.ensures.1
    (less_commits c.args.store.now c.args.refname.now c.args.commits.now c.loop-name.name-index unread within _ _ _ _ _ _ c.loop-name.marks c.in_err-write_commit.field-0.0 c.loop-name.invariant c.in_err-write_commit.ensures.put)

pub loop-name-preserved : goal.loop-name-preserved
loop-name-preserved g c =
    let within : c.loop-name.name-index < length c.args.commits.now = omega arith in
    more_commits c.args.store.now c.args.refname.now c.args.commits.now c.loop-name.name-index unread within _ _ _ _ _ _ c.loop-name.marks c.write_commit.new.marks c.loop-name.invariant
    c.in_ok-write_commit.ensures.put c.in_ok-write_commit.ensures.marks c.in_ok-write_commit.ensures.given c.in_ok-write_commit.ensures.names c.in_ok-write_commit.ensures.store

pub loop-name-init : goal.loop-name-init
loop-name-init g c = no_commits _ _ c.args.store.now c.args.refname.now c.args.commits.now c.args.marks.now c.requires.marks
