use Rattle.std.proofs.Common.{◌≡◌, true, List, length, take}
use Rattle.object_store.specs.Objects.{Object}
use Rattle.fast_import.specs.Replays.{Replay, target_name}
use Rattle.fast_import.specs.Standing.{IsReplayOf}
use Rattle.stream_reader.specs.declared.commit_ref.CommitRef.{CommitRef}
use Rattle.push_back.specs.Grounds.{from_of}
use Rattle.push_laws.specs.PushReplays.{chain_end}
use Rattle.merge_laws.specs.MergeReplays.{is_once}
use Rattle.merge_push.specs.Grounds.{ground_in}
use Rattle.merge_push.proofs.Repeating.{names}
use Rattle.merge_push.proofs.commands.repeats.Given as goal

-- no name of the lines so far has come again
abbrev pub invariant-loop-i : goal.invariant-loop-i
invariant-loop-i l = record {
  once : (S : List Object) (r : Replay) → IsReplayOf S l.replay r →
      is_once (names (λ (m : CommitRef). target_name (ground_in S l.base) r m.target) (chain_end (from_of l.base.push) r) (take l.i l.merges)) ≡ true;
  end : l.i-end ≡ length l.merges;
}
