-- Replaying a pushed stream: a chain of commits upon a projection, on one ref.
use Rattle.std.specs.Prelude.{ℕ, ◌+◌, Bool, true, false, if◌then◌else◌, length, map, filter_map, Option, Some, None, Result, Ok}
use Rattle.std.specs.Option.{option_map, option_or, option_to_list}
use Rattle.std.specs.List.{last_or}
use Rattle.git_objects.specs.Paths.{Bytes, is_nil, same_bytes}
use Rattle.git_objects.specs.Trees.{Flat}
use Rattle.git_objects.specs.Results.{◌>>=◌, must, or_refuse, refused_by}
use Rattle.git_objects.specs.Snapshots.{snapshot_name}
use Rattle.object_store.specs.TreeObjects.{blob_of}
use Rattle.stream_reader.specs.declared.command.Command.{Command}
use Rattle.stream_reader.specs.declared.command.Command.TheVariants as commands
use Rattle.stream_reader.specs.declared.command.CommitHead.{CommitHead}
use Rattle.stream_reader.specs.declared.command.Placed.{Placed}
use Rattle.stream_reader.specs.declared.commit_ref.CommitRef.{CommitRef}
use Rattle.stream_reader.specs.declared.fault.StreamFault.{StreamFault}
use Rattle.stream_reader.specs.declared.fault.StreamFault.TheVariants.{Unresolved}
use Rattle.stream_reader.specs.Verdicts.{start, verdict}
use Rattle.fast_import.specs.Replays.{Base, Ran, Replay, begun, branch, nothing_yet, ran_by, step, target_name}

-- why the stream of a push is refused
pub data StreamRefusal : Type 0 where
  -- a commit or a reset on another ref, at this place
  OtherRef : ℕ → StreamRefusal
  -- a commit or the end isn't at the first of these names, but at the second
  NotAtHead : Option Bytes → Option Bytes → StreamRefusal
  -- the further parents of the commit of this number, from 1, are refused
  FurtherParents : ℕ → StreamRefusal
  -- a fault of any stream
  Faulty : StreamFault → StreamRefusal

-- what is there: the projection, if there is one, with the tree that is shown; the ref at it; and this tree's blobs
abbrev pub push_base : Bytes → Option Bytes → Flat → Base
push_base refname from shown = record {
  commits = map (λ n. (n, shown)) (option_to_list from);
  refs = map (λ n. (refname, n)) (option_to_list from);
  blobs = filter_map (λ e. blob_of e.1) shown;
}

-- the chain's end: the projection at first, and then the commit that was pushed last
abbrev pub chain_end : Option Bytes → Replay → Option Bytes
chain_end from r = option_or (option_map snapshot_name (last_or None r.commits)) from

abbrev pub is_same_name : Option Bytes → Option Bytes → Bool
is_same_name None None = true
is_same_name (Some m) (Some n) = same_bytes m n
is_same_name _ _ = false

-- a commit's parent, where digits are their own name, known or not
abbrev pub pushed_parent : Base → Replay → CommitHead → Option CommitRef → Result (Option Bytes) StreamFault
pushed_parent base r h None = Ok (branch r h.refname)
pushed_parent base r h (Some c) = or_refuse (Unresolved c.at) (target_name base r c.target) >>= λ n. Ok (Some n)

-- One command: a commit or a reset on another ref is refused, then a parent that is none or isn't the chain's end, and then
-- a merge.
abbrev pub push_command : Base → Bytes → Option Bytes → Replay → Placed → Command → Result Replay StreamRefusal
push_command base refname from r p (commands.Commit h) = do
  _ ← must (OtherRef p.at) (same_bytes h.refname refname)
  first ← refused_by Faulty (pushed_parent base r h h.from)
  _ ← must (NotAtHead (chain_end from r) first) (is_same_name (chain_end from r) first)
  _ ← must (FurtherParents (length r.commits + 1)) (is_nil h.merges)
  Ok (begun base r h first (option_to_list first))
push_command base refname from r p (commands.Reset name target) = do
  _ ← must (OtherRef p.at) (same_bytes name refname)
  refused_by Faulty (step base r p)
push_command base refname from r p c = refused_by Faulty (step base r p)

abbrev pub push_step : Base → Bytes → Option Bytes → Replay → Placed → Result Replay StreamRefusal
push_step base refname from r p = push_command base refname from r p p.command

-- whether the ref, where it is set, is at the chain's end; one that is unset is refused after a commit alone
abbrev pub end_refusal : Option Bytes → Replay → Option Bytes → Option StreamRefusal
end_refusal from r None = if is_nil r.commits then None else Some (NotAtHead (chain_end from r) None)
end_refusal from r (Some n) =
    if is_same_name (chain_end from r) (Some n) then None else Some (NotAtHead (chain_end from r) (Some n))

-- with the refusal that comes behind the whole stream
abbrev pub at_the_end : Bytes → Option Bytes → Ran StreamRefusal → Ran StreamRefusal
at_the_end refname from x = record {
  tried = x.tried;
  state = x.state;
  fault = option_or x.fault (end_refusal from x.state (branch x.state refname));
}

-- The replay of a stream that is pushed to a ref, upon this projection and what is shown; its commits are the pushed ones.
abbrev pub push_replay : Bytes → Option Bytes → Flat → Bytes → Ran StreamRefusal
push_replay refname from shown input =
    at_the_end refname from
    (ran_by (push_step (push_base refname from shown) refname from) (option_map Faulty (verdict start input).fault) nothing_yet
    (verdict start input).commands)
