use Rattle.std.proofs.Common.{◌≡◌, false, List, take, filter_map}
use Rattle.std.specs.List.{list_any}
use Rattle.git_objects.specs.Paths.{same_bytes}
use Rattle.object_store.specs.Objects.{Object}
use Rattle.fast_import.specs.Replays.{Replay, target_name}
use Rattle.fast_import.specs.Standing.{IsReplayOf}
use Rattle.stream_reader.specs.declared.commit_ref.CommitRef.{CommitRef}
use Rattle.merge_push.specs.Grounds.{ground_in}
use Rattle.merge_push.proofs.commands.is_named.Given as goal

-- none of the lines so far gives the name
abbrev pub invariant-loop-line : goal.invariant-loop-line
invariant-loop-line l = (S : List Object) (r : Replay) → IsReplayOf S l.replay r →
    list_any (same_bytes l.name.0) (filter_map (λ (m : CommitRef). target_name (ground_in S l.base) r m.target) (take l.line-index l.lines)) ≡ false
