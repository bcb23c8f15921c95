-- How far a pushed stream is read before it is known what becomes of it.
use Rattle.std.specs.Prelude.{◌+◌, ◌≤◌, ℕ, length, OnOk, IfSome, Option, Result}
use Rattle.std.specs.Option.{option_map}
use Rattle.std.specs.Io.KnownBytes.{Consumes}
use Rattle.git_objects.specs.Paths.{Bytes}
use Rattle.git_objects.specs.Results.{refused_by}
use Rattle.git_objects.specs.Snapshots.{tree_at}
use Rattle.git_objects.specs.Trees.{Flat}
use Rattle.filter_text.specs.Filters.{Filter}
use Rattle.workspace.specs.Workspaces.{shown}
use Rattle.projection_laws.specs.Projections.{projection}
use Rattle.projection_ground.specs.Grounds.{commits_of}
use Rattle.projection_ground.specs.declared.ground.Ground.{Ground}
use Rattle.stream_reader.specs.Verdicts.{from_start, start}
use Rattle.stream_reader.specs.declared.command.Placed.{Placed}
use Rattle.stream_reader.specs.declared.fault.StreamFault.TheVariants.{Syntax}
use Rattle.fast_import.specs.Replays.{Replay, nothing_yet}
use Rattle.fast_import.specs.Waited.{Step, waited_from}
use Rattle.push_laws.specs.PushReplays.{StreamRefusal, push_base, push_step}

-- what one command of a push makes of a replay
abbrev pub PushStep : Type 0
PushStep = Replay → Placed → Result Replay StreamRefusal

-- The same in the words of any stream. How far is read depends on which command is refused, and not on why: each refusal
-- counts as a fault at the command's place.
abbrev pub as_step : PushStep → Step
as_step one r p = refused_by (λ e. Syntax p.at) (one r p)

-- the place up to which a stream has to be read whose commands are carried out so
abbrev pub waited_by : PushStep → Bytes → ℕ
waited_by one all = waited_from (as_step one) nothing_yet start (from_start all)

-- The place up to which a pushed stream has to be read: of a fault of reading, its place; of a command that is refused, the
-- place of the next line behind it that is no comment, or the input's length where there is none; else the place behind the
-- line `done`, or the input's length where there is no such line.
abbrev pub push_waited : Bytes → Option Bytes → Flat → Bytes → ℕ
push_waited refname from shown all = waited_by (push_step (push_base refname from shown) refname from) all

-- the same of a push to a ref that is at the commit h
abbrev pub plan_waited : Filter → Ground → Bytes → Bytes → Bytes → ℕ
plan_waited f g refname h all =
    push_waited refname (option_map (λ s. s.commit) (projection g.rule (shown f) (commits_of g) h)) (shown f (tree_at (commits_of g) h)) all

-- A source that tells has given at most 2^25 bytes behind that place, and no fewer than up to it where all went well.
abbrev pub IsTakenTo : {A E : Type 0} → (Bytes → ℕ) → Option Bytes → Option Bytes → Result A E → Type 0
IsTakenTo waited before after result =
    IfSome before (λ all. (given : Bytes) × Consumes before after given × (length given ≤ waited all + 33554432) × OnOk result (waited all ≤ length given))
