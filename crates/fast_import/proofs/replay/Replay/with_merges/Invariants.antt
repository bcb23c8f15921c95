use Rattle.std.proofs.Common.{◌≡◌, List, map, drop}
use Rattle.std.specs.Option.{option_map, option_to_list}
use Rattle.git_objects.specs.Parts.{name_bytes}
use Rattle.object_store.specs.Objects.{Object}
use Rattle.fast_import.specs.Bases.{base_in}
use Rattle.fast_import.specs.Replays.{Replay as ReplayOf}
use Rattle.fast_import.specs.Replays.{with_merges}
use Rattle.fast_import.specs.Standing.{IsReplayOf}
use Rattle.fast_import.proofs.replay.Replay.with_merges.Given as goal

abbrev pub invariant-loop-merge : goal.invariant-loop-merge
invariant-loop-merge g l =
    (S : List Object) (r : ReplayOf) → IsReplayOf S l.self r →
    with_merges (base_in S (g.B.Base.commits l.base) (g.B.Base.refs l.base) (g.B.Base.blobs l.base)) r (option_to_list (option_map name_bytes l.fn.first)) l.merges
    ≡ with_merges (base_in S (g.B.Base.commits l.base) (g.B.Base.refs l.base) (g.B.Base.blobs l.base)) r (map name_bytes l.parents.items) (drop l.merge-index l.merges)
