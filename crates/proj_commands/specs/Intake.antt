-- How much of its input a command takes.
use Rattle.std.specs.Prelude.{ℕ, [], ◌+◌, ◌≤◌, length, Option, Result, Ok, Err, IfSome}
use Rattle.std.specs.Io.KnownBytes.{Consumes}
use Rattle.std.specs.Option.{option_map}
use Rattle.git_objects.specs.Paths.{Bytes}
use Rattle.git_objects.specs.Snapshots.{tree_at}
use Rattle.filter_text.specs.Filters.{Filter}
use Rattle.fast_import.specs.Replays.{Base, empty_base}
use Rattle.fast_import.specs.Waited.{waited_in as waited_by_reader}
use Rattle.stream_reader.specs.Verdicts.{tagged_start}
use Rattle.import_laws.specs.Bases.{base_of}
use Rattle.workspace.specs.Workspaces.{shown}
use Rattle.state_items.specs.Items.{Held}
use Rattle.state_items.specs.Repos.{repo}
use Rattle.push_back.specs.Waited.{push_waited}
use Rattle.projection_laws.specs.Projections.{projections}
use Rattle.merge_laws.specs.Merges.{shown_trees}
use Rattle.merge_push.specs.Waited.{merge_waited}
use Rattle.proj_words.specs.declared.outcome.Outcome.{Outcome}
use Rattle.proj_commands.specs.Cases.{Case, ImportCase, NameCase, PushCase, VerifyCase}
use Rattle.proj_commands.specs.Filters.{projected, rule_by}
use Rattle.proj_commands.specs.declared.pushing.Manner.{Manner}
use Rattle.proj_commands.specs.declared.pushing.Manner.TheVariants.{InLine, Merging}

-- for a stream upon what is there, which may have annotated tags
abbrev pub tagged_waited : Base → Bytes → ℕ
tagged_waited base all = waited_by_reader tagged_start base all

-- for a push to a ref that is at the commit n
abbrev pub pushed_to : Manner → Held → Filter → Bytes → Bytes → Bytes → ℕ
pushed_to InLine h f refname n all = push_waited refname (option_map (λ s. s.commit) (projected h f n)) (shown f (tree_at (repo h).commits n)) all
pushed_to Merging h f refname n all =
    merge_waited refname (option_map (λ s. s.commit) (projected h f n)) (shown f (tree_at (repo h).commits n))
    (shown_trees f (repo h).commits (projections (rule_by h.rule) (shown f) [] (repo h).commits)) all

-- The place up to which an input has to be read for a case: the place of its fault, of the line behind the command that is refused, or behind
-- the stream's last line. A certificate is read whole, up to 2^29 + 1 bytes of it: 2^25 bytes behind this place.
abbrev pub waited_in : Case → Bytes → ℕ
waited_in (ImportCase force h x) all = tagged_waited (base_of h) all
waited_in (PushCase m w h f refname n p) all = pushed_to m h f refname n all
waited_in (NameCase f refname x) all = tagged_waited empty_base all
waited_in (VerifyCase f n q text) all = 503316481
waited_in _ all = 0

abbrev pub waited_if : Result Case Outcome → Bytes → ℕ
waited_if (Ok c) all = waited_in c all
waited_if (Err e) all = 0

-- of the case that comes up with an input, if one does
abbrev pub waited_by : (Bytes → Result Case Outcome) → Bytes → ℕ
waited_by case all = waited_if (case all) all

-- A source that tells has given at most 2^25 bytes behind a place of what it told.
abbrev pub TakesUpTo : (Bytes → ℕ) → Option Bytes → Option Bytes → Type 0
TakesUpTo place before after = IfSome before (λ all. (given : Bytes) × Consumes before after given × (length given ≤ place all + 33554432))
