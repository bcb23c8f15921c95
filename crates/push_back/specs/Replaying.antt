-- Replaying a pushed stream into a store.
use Rattle.std.specs.Prelude.{◌≡◌, ◌⊎◌, ⊤, ℕ, true, false, List, Ok, Err, Option, Some, None, Result, IsOkAnd, IfErr, IfOk, OnOk}
use Rattle.std.specs.Option.{option_map}
use Rattle.std.specs.Result.{result_err}
use Rattle.git_objects.specs.Parts.{name_bytes}
use Rattle.git_objects.specs.Paths.{Bytes, same_bytes}
use Rattle.git_objects.specs.Results.{refused_by}
use Rattle.git_objects.specs.Trees.{Flat}
use Rattle.object_store.specs.Growth.{IsGrownBy}
use Rattle.object_store.specs.Objects.{Object}
use Rattle.stream_reader.specs.Verdicts.{start, verdict}
use Rattle.stream_reader.specs.declared.command.CommitHead.{CommitHead}
use Rattle.stream_reader.specs.declared.command.Placed.{Placed}
use Rattle.fast_import.specs.Made.{IsMadeAt, IsMadeBy, IsPutFault}
use Rattle.fast_import.specs.Replaying.{Replaying}
use Rattle.fast_import.specs.Replays.{Base, Ran, Replay, branch, given_by, named_parent, nothing_yet, ran_by, step}
use Rattle.fast_import.specs.Standing.{IsReplayOf, IsReplayedOf}
use Rattle.fast_import.specs.declared.replayed.Replayed.{Replayed as ReplayedNames}
use Rattle.push_back.specs.Grounds.{Ground, IsGroundIn, from_of, push_base_in}
use Rattle.push_laws.specs.PushReplays.{StreamRefusal, OtherRef, NotAtHead, FurtherParents, Faulty, at_the_end, chain_end, end_refusal, is_same_name, push_base, push_replay, push_step}
use Rattle.push_back.specs.Waited.{PushStep}
use Rattle.push_back.specs.declared.error.PushError.{PushError}
use Rattle.push_back.specs.declared.error.PushError.TheVariants as errors

-- the refusal that an error tells
abbrev pub told : PushError → Option StreamRefusal
told errors.ReadFault = None
told (errors.OtherRef at) = Some (OtherRef at)
told (errors.NotAtHead m n) = Some (NotAtHead (option_map name_bytes m) (option_map name_bytes n))
told (errors.FurtherParents n) = Some (FurtherParents n)
told (errors.Stream f) = Some (Faulty f)

-- It tells this refusal.
pub record Tells (refusal : Option StreamRefusal) (e : PushError) : Type 0 where
  pub which : StreamRefusal
  pub there : refusal ≡ Some which
  pub same : told e ≡ Some which

-- no more is made, whatever the stream says: another object has the name of one that is made, or there is no memory
abbrev pub IsFreeFault : (Object → Type 0) → List Object → PushError → Type 0
IsFreeFault made S (errors.Stream f) = IsPutFault made S f
IsFreeFault made S e = ⊥

-- why a command or a stream isn't taken: its refusal, or because no more is made
abbrev pub IsPushFault : Option StreamRefusal → (Object → Type 0) → List Object → PushError → Type 0
IsPushFault refusal made S e = Tells refusal e ⊎ IsFreeFault made S e

-- ---- one command

-- what a push makes of it, by the definition
abbrev pub step_in : List Object → Ground → Replay → Placed → Result Replay StreamRefusal
step_in S g r p = push_step (push_base_in S g) g.refname (from_of g) r p

-- The push itself refuses nothing of a command, so that it does what it does in any replay; or it has this refusal.
pub record IsJudged (v : Replaying) (g : Ground) (p : Placed) (result : Result Unit PushError) : Type 0 where
  pub passed : OnOk result ((S : List Object) (r : Replay) → IsReplayOf S v r → IsGroundIn S g →
      step_in S g r p ≡ refused_by Faulty (step (push_base_in S g) r p))
  pub refused : IfErr result (λ e. (S : List Object) (r : Replay) → IsReplayOf S v r → IsGroundIn S g → Tells (result_err (step_in S g r p)) e)

-- A command of which this is left was tried: the names then stand for the replay behind it, or it is refused.
pub record IsTriedBy (left : Result Replay StreamRefusal) (S S' : List Object) (after : Replaying) (r : Replay) (p : Placed) (result : Result Unit PushError) : Type 0 where
  pub done : OnOk result (IsOkAnd left (IsReplayOf S' after))
  pub refused : IfErr result (IsPushFault (result_err left) (IsMadeAt r p.command) S')
  pub grown : IsGrownBy (IsMadeAt r p.command) S S'

-- a commit is on the ref, and upon the chain's end
pub record IsAtHead (base : Base) (refname : Bytes) (from : Option Bytes) (r : Replay) (h : CommitHead) : Type 0 where
  pub here : same_bytes h.refname refname ≡ true
  pub upon : named_parent base r h ≡ Ok (chain_end from r)

-- it is on another ref; or its first parent isn't there, or isn't the chain's end
abbrev pub IsOffHead : Base → Bytes → Option Bytes → Replay → ℕ → CommitHead → PushError → Type 0
IsOffHead base refname from r at h (errors.OtherRef a) = (a ≡ at) × (same_bytes h.refname refname ≡ false)
IsOffHead base refname from r at h (errors.Stream f) = (same_bytes h.refname refname ≡ true) × (named_parent base r h ≡ Err f)
IsOffHead base refname from r at h (errors.NotAtHead m n) =
    (same_bytes h.refname refname ≡ true) × (named_parent base r h ≡ Ok (option_map name_bytes n)) × (option_map name_bytes m ≡ chain_end from r)
    × (is_same_name (chain_end from r) (option_map name_bytes n) ≡ false)
IsOffHead base refname from r at h e = ⊥

-- The end has no refusal, or this one.
pub record IsEndJudged (v : Replaying) (refname : Bytes) (from : Option Bytes) (result : Result Unit PushError) : Type 0 where
  pub passed : OnOk result ((S : List Object) (r : Replay) → IsReplayOf S v r → end_refusal from r (branch r refname) ≡ None)
  pub refused : IfErr result (λ e. (S : List Object) (r : Replay) → IsReplayOf S v r → Tells (end_refusal from r (branch r refname)) e)

-- ---- a whole stream, by whatever a push makes of its commands

-- why it isn't taken; a fault of the source has its own cause
abbrev pub IsPushError : Option StreamRefusal → (Object → Type 0) → List Object → PushError → Type 0
IsPushError refusal made S errors.ReadFault = ⊤
IsPushError refusal made S e = IsPushFault refusal made S e

-- the run of a stream that is pushed to a ref, upon that projection or upon none
abbrev pub ran_whole : PushStep → Bytes → Option Bytes → Bytes → Ran StreamRefusal
ran_whole one refname from all =
    at_the_end refname from (ran_by one (option_map Faulty (verdict start all).fault) nothing_yet (verdict start all).commands)

-- What became of a stream of such a run: what it gives exactly where it has no refusal, or this refusal.
pub record IsRanWhole (base : Base) (x : Ran StreamRefusal) (S S' : List Object) (result : Result ReplayedNames PushError) : Type 0 where
  pub taken : OnOk result (x.fault ≡ None)
  pub given : IfOk result (λ g. IsReplayedOf S' g (given_by x.state))
  pub refused : IfErr result (IsPushError x.fault (IsMadeBy base nothing_yet x.tried) S')
  pub grown : IsGrownBy (IsMadeBy base nothing_yet x.tried) S S'

-- What became of a stream that is run into a replay, which then stands for what it gives.
pub record IsRanOn (base : Base) (x : Ran StreamRefusal) (S S' : List Object) (after : Replaying) (result : Result Unit PushError) : Type 0 where
  pub taken : OnOk result (x.fault ≡ None)
  pub stands : OnOk result (IsReplayOf S' after x.state)
  pub refused : IfErr result (IsPushError x.fault (IsMadeBy base nothing_yet x.tried) S')
  pub grown : IsGrownBy (IsMadeBy base nothing_yet x.tried) S S'

-- where a command goes on, it does what it does in any replay
abbrev pub Goes : Base → PushStep → Type 0
Goes base one = (r s : Replay) (p : Placed) → one r p ≡ Ok s → step base r p ≡ Ok s

-- Over a store that has grown it still stands, and makes the same of each command.
pub record Lasts {G : Type 0} (stands : List Object → G → Type 0) (one : List Object → G → PushStep) (S : List Object) (g : G) : Type 0 where
  pub still : (T : List Object) → IsGrownBy (λ o. ⊤) S T → stands T g
  pub same : (T : List Object) → IsGrownBy (λ o. ⊤) S T → (r : Replay) (p : Placed) → one T g r p ≡ one S g r p

-- ---- a whole stream

-- the objects that its commands bring, up to the one that is refused
abbrev pub IsMadeOfPush : Bytes → Option Bytes → Flat → Bytes → Object → Type 0
IsMadeOfPush refname from shown all o = IsMadeBy (push_base refname from shown) nothing_yet (push_replay refname from shown all).tried o

-- What became of a pushed stream: what it gives exactly where it has no refusal, or this refusal.
pub record IsPushedWhole (refname : Bytes) (from : Option Bytes) (shown : Flat) (S S' : List Object) (all : Bytes) (result : Result ReplayedNames PushError) : Type 0 where
  pub taken : OnOk result ((push_replay refname from shown all).fault ≡ None)
  pub given : IfOk result (λ g. IsReplayedOf S' g (given_by (push_replay refname from shown all).state))
  pub refused : IfErr result (IsPushError (push_replay refname from shown all).fault (IsMadeOfPush refname from shown all) S')
  pub grown : IsGrownBy (IsMadeOfPush refname from shown all) S S'
