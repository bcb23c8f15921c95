-- Which outcomes lower crates' refusals have.
use Rattle.std.proofs.Common.{◌≡◌, [], Option, None, Some, IfSome, refl, sym}
use Rattle.std.specs.Prelude.{◌≢◌}
use Rattle.git_objects.specs.Paths.{Bytes}
use Rattle.stream_reader.specs.declared.fault.StreamFault.{StreamFault}
use Rattle.stream_reader.specs.declared.fault.StreamFault.TheVariants as faults
use Rattle.fast_import.specs.declared.whole.ReplayError.{ReplayError}
use Rattle.fast_import.specs.declared.whole.ReplayError.TheVariants as replays
use Rattle.filter_apply.specs.declared.fault.ApplyError.{ApplyError}
use Rattle.filter_apply.specs.declared.fault.ApplyError.TheVariants as shows
use Rattle.repo_ground.specs.declared.commit.CommitError.{CommitError}
use Rattle.repo_ground.specs.declared.commit.CommitError.TheVariants as commits
use Rattle.proj_words.specs.Faults.{stream_outcome}
use Rattle.proj_words.specs.declared.outcome.Outcome.{Outcome}
use Rattle.proj_words.specs.declared.outcome.Outcome.TheVariants.{Limit, OutOfMemory, ReadFault, WriteFault, StoreFault}
use Rattle.proj_commands.specs.Refusals.{apply_outcome, commit_outcome, replay_outcome}

-- none of the faults of devices
abbrev pub IsQuiet : Outcome → Type 0
IsQuiet e = (e ≢ ReadFault) × (e ≢ WriteFault) × (e ≢ StoreFault)

pub stream-quiet : (f : StreamFault) → IsQuiet (stream_outcome f)
stream-quiet (faults.Syntax at) = (λ e. cc, λ e. cc, λ e. cc)
stream-quiet (faults.Unsupported at what) = (λ e. cc, λ e. cc, λ e. cc)
stream-quiet (faults.Unresolved at) = (λ e. cc, λ e. cc, λ e. cc)
stream-quiet (faults.BadPath at) = (λ e. cc, λ e. cc, λ e. cc)
stream-quiet (faults.NoSource at) = (λ e. cc, λ e. cc, λ e. cc)
stream-quiet (faults.Limit at which) = (λ e. cc, λ e. cc, λ e. cc)
stream-quiet (faults.Collision n) = (λ e. cc, λ e. cc, λ e. cc)
stream-quiet faults.OutOfMemory = (λ e. cc, λ e. cc, λ e. cc)

pub replay-read : (e : ReplayError) → replay_outcome e ≡ ReadFault → e ≡ replays.ReadFault
replay-read replays.ReadFault q = refl
replay-read (replays.Stream f) q = absurd ((stream-quiet f).0 q)

pub replay-write : (e : ReplayError) → replay_outcome e ≢ WriteFault
replay-write replays.ReadFault q = cc
replay-write (replays.Stream f) q = (stream-quiet f).1 q

pub replay-store : (e : ReplayError) → replay_outcome e ≢ StoreFault
replay-store replays.ReadFault q = cc
replay-store (replays.Stream f) q = (stream-quiet f).2 q

pub commit-store : (e : CommitError) → commit_outcome e ≡ StoreFault → e ≡ commits.StoreFault
commit-store commits.StoreFault q = refl
commit-store (commits.Limit l) q = let no : Limit l None ≡ StoreFault = q in cc
commit-store commits.OutOfMemory q = let no : OutOfMemory ≡ StoreFault = q in cc

pub commit-read : (e : CommitError) → commit_outcome e ≢ ReadFault
commit-read commits.StoreFault q = cc
commit-read (commits.Limit l) q = cc
commit-read commits.OutOfMemory q = cc

pub commit-write : (e : CommitError) → commit_outcome e ≢ WriteFault
commit-write commits.StoreFault q = cc
commit-write (commits.Limit l) q = cc
commit-write commits.OutOfMemory q = cc

pub apply-quiet : (e : ApplyError) → IsQuiet (apply_outcome e)
apply-quiet (shows.Collision n) = (λ e. cc, λ e. cc, λ e. cc)
apply-quiet shows.OutOfMemory = (λ e. cc, λ e. cc, λ e. cc)

-- ---- an input

-- what a source told, or else nothing
pub some-input : (left : Option Bytes) → (all : Bytes) × IfSome left (λ l. all ≡ l)
some-input None = ([], tt)
some-input (Some l) = (l, refl)

pub told-input : (left : Option Bytes) (all : Bytes) → IfSome left (λ l. l ≡ all) → IfSome left (λ l. all ≡ l)
told-input None all h = tt
told-input (Some l) all h = sym h
