-- Replaying a pushed stream with merges into a store.
use Rattle.std.specs.Prelude.{◌≡◌, ℕ, ◌+◌, Bool, false, not, length, List, ◌++◌, Result, Ok, IfErr, IfOk, OnOk, None, Option}
use Rattle.std.specs.List.{list_any}
use Rattle.std.specs.Option.{option_map_or, option_to_list}
use Rattle.std.specs.Result.{result_err}
use Rattle.git_objects.specs.Paths.{Bytes, same_bytes}
use Rattle.git_objects.specs.Results.{◌>>=◌, must, refused_by}
use Rattle.git_objects.specs.Trees.{Flat}
use Rattle.object_store.specs.Growth.{IsGrownBy}
use Rattle.object_store.specs.Objects.{Object}
use Rattle.stream_reader.specs.declared.command.CommitHead.{CommitHead}
use Rattle.fast_import.specs.Made.{IsMadeBy}
use Rattle.stream_reader.specs.declared.command.Placed.{Placed}
use Rattle.stream_reader.specs.declared.commit_ref.CommitRef.{CommitRef}
use Rattle.fast_import.specs.Replaying.{Replaying}
use Rattle.fast_import.specs.Replays.{Replay, given_by, nothing_yet, step, target_name}
use Rattle.fast_import.specs.Standing.{IsReplayOf, IsReplayedOf}
use Rattle.fast_import.specs.declared.replayed.Replayed.{Replayed as ReplayedNames}
use Rattle.push_laws.specs.PushReplays.{StreamRefusal, FurtherParents as RepeatedParent, Faulty, chain_end}
use Rattle.push_back.specs.Grounds.{from_of}
use Rattle.push_back.specs.Replaying.{IsPushError, Tells}
use Rattle.push_back.specs.declared.error.PushError.{PushError}
use Rattle.merge_laws.specs.MergeReplays.{is_once, merge_base, merge_replay}
use Rattle.merge_laws.specs.StreamLaws.{named}
use Rattle.merge_push.specs.Grounds.{Ground, IsGroundIn, ground_in, merge_base_in, step_in}

-- whether two of the names that a commit's lines give are one, where it is upon the chain's end
abbrev pub repeats : List Object → Ground → Replay → CommitHead → Bool
repeats S g r h = not (is_once (option_to_list (chain_end (from_of g.push) r) ++ named (ground_in S g) r h.merges))

-- whether a line gives the name of the chain's end, or one that these lines give
abbrev pub comes_again : List Object → Ground → Replay → List CommitRef → CommitRef → Bool
comes_again S g r ms m =
    option_map_or (λ n. list_any (same_bytes n) (option_to_list (chain_end (from_of g.push) r) ++ named (ground_in S g) r ms)) (target_name (ground_in S g) r m.target) false

-- what is left, refused for names that repeat
abbrev pub once_more : Bool → ℕ → Result Replay StreamRefusal → Result Replay StreamRefusal
once_more again n x = x >>= λ s. must (RepeatedParent n) (not again) >>= λ u. Ok s

-- Of a command the push refuses no more than whether names repeat; or it has this refusal.
pub record IsMergeJudged (v : Replaying) (g : Ground) (p : Placed) (result : Result Bool PushError) : Type 0 where
  pub passed : IfOk result (λ again. (S : List Object) (r : Replay) → IsReplayOf S v r → IsGroundIn S g →
      step_in S g r p ≡ once_more again (length r.commits + 1) (refused_by Faulty (step (merge_base_in S g) r p)))
  pub refused : IfErr result (λ e. (S : List Object) (r : Replay) → IsReplayOf S v r → IsGroundIn S g → Tells (result_err (step_in S g r p)) e)

-- the objects that a stream's commands bring, up to the one that is refused
abbrev pub IsMadeOfMerges : Bytes → Option Bytes → Flat → List (Bytes × Flat) → Bytes → Object → Type 0
IsMadeOfMerges refname from shown projected all o =
    IsMadeBy (merge_base refname from shown projected) nothing_yet (merge_replay refname from shown projected all).tried o

-- What became of a pushed stream with merges: what it gives exactly where it has no refusal, or this refusal.
pub record IsMergedWhole (refname : Bytes) (from : Option Bytes) (shown : Flat) (projected : List (Bytes × Flat)) (S S' : List Object) (all : Bytes) (result : Result ReplayedNames PushError) : Type 0 where
  pub taken : OnOk result ((merge_replay refname from shown projected all).fault ≡ None)
  pub given : IfOk result (λ g. IsReplayedOf S' g (given_by (merge_replay refname from shown projected all).state))
  pub refused : IfErr result (IsPushError (merge_replay refname from shown projected all).fault (IsMadeOfMerges refname from shown projected all) S')
  pub grown : IsGrownBy (IsMadeOfMerges refname from shown projected all) S S'
