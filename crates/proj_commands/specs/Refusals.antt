-- The outcomes of what lower crates refuse.
use Rattle.std.specs.Prelude.{None}
use Rattle.fast_import.specs.declared.whole.ReplayError.{ReplayError}
use Rattle.fast_import.specs.declared.whole.ReplayError.TheVariants as replays
use Rattle.filter_apply.specs.declared.fault.ApplyError.{ApplyError}
use Rattle.filter_apply.specs.declared.fault.ApplyError.TheVariants as shows
use Rattle.proj_audit.specs.declared.verifying.VerifyFault.{VerifyFault}
use Rattle.proj_audit.specs.declared.verifying.VerifyFault.TheVariants as certificates
use Rattle.repo_ground.specs.declared.commit.CommitError.{CommitError}
use Rattle.repo_ground.specs.declared.commit.CommitError.TheVariants as commits
use Rattle.proj_words.specs.Faults.{stream_outcome}
use Rattle.proj_words.specs.declared.outcome.Outcome.{Outcome}
use Rattle.proj_words.specs.declared.outcome.Outcome.TheVariants.{OutOfMemory, Limit, Collision, NotProved, ReadFault, StoreFault, Syntax}

-- why nothing was committed
abbrev pub commit_outcome : CommitError → Outcome
commit_outcome commits.StoreFault = StoreFault
commit_outcome (commits.Limit q) = Limit q None
commit_outcome commits.OutOfMemory = OutOfMemory

-- why nothing is shown
abbrev pub apply_outcome : ApplyError → Outcome
apply_outcome (shows.Collision n) = Collision n
apply_outcome shows.OutOfMemory = OutOfMemory

-- why a stream isn't replayed
abbrev pub replay_outcome : ReplayError → Outcome
replay_outcome replays.ReadFault = ReadFault
replay_outcome (replays.Stream f) = stream_outcome f

-- why a certificate isn't accepted
abbrev pub certificate_outcome : VerifyFault → Outcome
certificate_outcome (certificates.Syntax at) = Syntax at
certificate_outcome (certificates.NotProved n) = NotProved n
certificate_outcome certificates.OutOfMemory = OutOfMemory
