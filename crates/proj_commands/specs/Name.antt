-- The command `name`: the projection of a ref of a stream upon nothing.
use Rattle.std.specs.Prelude.{List, [], Option, Some, None, Ok, Result, reverse}
use Rattle.std.specs.FinMap.{find as find_entry}
use Rattle.git_objects.specs.Paths.{Bytes}
use Rattle.git_objects.specs.Snapshots.{Snapshot}
use Rattle.git_objects.specs.Refs.{bytes_cmp}
use Rattle.git_objects.specs.Results.{◌>>=◌}
use Rattle.stream_reader.specs.declared.fault.StreamFault.{StreamFault}
use Rattle.fast_import.specs.Replays.{Ran, empty_base, heads_of}
use Rattle.filter_text.specs.Filters.{Filter}
use Rattle.state_items.specs.Changes.{fresh, objects_of, passed_by_objects}
use Rattle.state_items.specs.Items.{nothing}
use Rattle.proj_words.specs.declared.outcome.Outcome.{Outcome}
use Rattle.proj_commands.specs.Filters.{history, projection}
use Rattle.proj_commands.specs.Cases.{Made, head_of, no_limit, streamed, unchanged}
use Rattle.proj_commands.specs.Hands.{Hand, components_for, hand_of}
use Rattle.proj_commands.specs.Lines.{name_line}

-- the projections that a head and its ancestors have, under the first rule
abbrev pub history_at : Filter → List Snapshot → Option Bytes → List Snapshot
history_at f cs None = []
history_at f cs (Some n) = history 1 f cs n

-- what comes of it, or the first refusal: of the stream, of the limits, and of the ref
abbrev pub name_made : Filter → Bytes → Ran StreamFault → Result Made Outcome
name_made f refname x = do
  r ← streamed x
  _ ← no_limit (passed_by_objects (fresh [] (objects_of r.blobs r.commits)) None)
  n ← head_of refname r.heads
  Ok (unchanged nothing (name_line (projection 1 f (reverse r.commits) n)))

-- what it brings together
abbrev pub name_hand : Filter → Bytes → Ran StreamFault → Hand
name_hand f refname x =
    hand_of [] (history_at f (reverse x.state.commits) (find_entry bytes_cmp refname (heads_of x.state))) empty_base x
    (components_for f x.state.commits)
