-- Replaying a pushed stream with merges: commits in line upon a projection, on one ref, each of which may have other commits as
-- further parents.
use Rattle.std.specs.Prelude.{◌+◌, ◌++◌, Bool, true, not, ◌&&◌, List, [], ◌∷◌, length, map, filter_map, Option, Result, Ok}
use Rattle.std.specs.Option.{option_map, option_to_list}
use Rattle.std.specs.List.{list_any}
use Rattle.git_objects.specs.Paths.{Bytes, same_bytes}
use Rattle.git_objects.specs.Results.{◌>>=◌, must, refused_by}
use Rattle.git_objects.specs.Trees.{Flat}
use Rattle.object_store.specs.TreeObjects.{blob_of}
use Rattle.stream_reader.specs.declared.command.Command.{Command}
use Rattle.stream_reader.specs.declared.command.Command.TheVariants as commands
use Rattle.stream_reader.specs.declared.command.Placed.{Placed}
use Rattle.stream_reader.specs.Verdicts.{start, verdict}
use Rattle.fast_import.specs.Replays.{Base, Ran, Replay, begun, nothing_yet, ran_by, step, with_merges}
use Rattle.push_laws.specs.PushReplays.{StreamRefusal, OtherRef, NotAtHead, FurtherParents, Faulty, at_the_end, chain_end, is_same_name, pushed_parent}

-- whether no name comes twice
abbrev pub is_once : List Bytes → Bool
is_once [] = true
is_once (n ∷ ns) = not (list_any (same_bytes n) ns) && is_once ns

-- What is there: the projection of the ref's commit, if there is one, with the tree that is shown; the projections of the graph's
-- commits, with theirs; the ref at the first; and the blobs of its tree.
abbrev pub merge_base : Bytes → Option Bytes → Flat → List (Bytes × Flat) → Base
merge_base refname from seen projected = record {
  commits = map (λ n. (n, seen)) (option_to_list from) ++ projected;
  refs = map (λ n. (refname, n)) (option_to_list from);
  blobs = filter_map (λ e. blob_of e.1) seen;
}

-- One command: a commit or a reset on another ref is refused; then a first parent that is none or isn't the chain's end; then a
-- further one that isn't there, line by line, and one more than 16; and then the further parents of a commit two of whose
-- parents are one name.
abbrev pub merge_command : Base → Bytes → Option Bytes → Replay → Placed → Command → Result Replay StreamRefusal
merge_command base refname from r p (commands.Commit h) = do
  _ ← must (OtherRef p.at) (same_bytes h.refname refname)
  first ← refused_by Faulty (pushed_parent base r h h.from)
  _ ← must (NotAtHead (chain_end from r) first) (is_same_name (chain_end from r) first)
  parents ← refused_by Faulty (with_merges base r (option_to_list first) h.merges)
  _ ← must (FurtherParents (length r.commits + 1)) (is_once parents)
  Ok (begun base r h first parents)
merge_command base refname from r p (commands.Reset name target) = do
  _ ← must (OtherRef p.at) (same_bytes name refname)
  refused_by Faulty (step base r p)
merge_command base refname from r p c = refused_by Faulty (step base r p)

abbrev pub merge_step : Base → Bytes → Option Bytes → Replay → Placed → Result Replay StreamRefusal
merge_step base refname from r p = merge_command base refname from r p p.command

-- the replay of a stream that is pushed to a ref, upon what is there
abbrev pub merge_replay_upon : Base → Bytes → Option Bytes → Bytes → Ran StreamRefusal
merge_replay_upon base refname from input =
    at_the_end refname from
    (ran_by (merge_step base refname from) (option_map Faulty (verdict start input).fault) nothing_yet (verdict start input).commands)

-- The replay of such a stream upon this projection and what is shown, where these projections are there; its commits are the
-- pushed ones.
abbrev pub merge_replay : Bytes → Option Bytes → Flat → List (Bytes × Flat) → Bytes → Ran StreamRefusal
merge_replay refname from seen projected input = merge_replay_upon (merge_base refname from seen projected) refname from input
