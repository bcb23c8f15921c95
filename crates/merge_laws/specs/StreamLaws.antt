-- What replaying a pushed stream with merges keeps to.
use Rattle.std.specs.Prelude.{◌≡◌, ℕ, ◌+◌, Bool, true, false, not, is_some, List, [], ◌++◌, length, map, filter_map, Option, Some, None, Ok}
use Rattle.std.specs.List.{list_all}
use Rattle.std.specs.Option.{option_to_list}
use Rattle.git_objects.specs.Paths.{Bytes, is_nil, same_bytes}
use Rattle.git_objects.specs.Results.{◌>>=◌, must, refused_by}
use Rattle.git_objects.specs.Snapshots.{Graph, has}
use Rattle.git_objects.specs.Trees.{Flat}
use Rattle.filter_text.specs.Filters.{Filter}
use Rattle.stream_reader.specs.declared.command.Command.{Command}
use Rattle.stream_reader.specs.declared.command.Command.TheVariants as commands
use Rattle.stream_reader.specs.declared.command.CommitHead.{CommitHead}
use Rattle.stream_reader.specs.declared.command.Placed.{Placed}
use Rattle.stream_reader.specs.declared.commit_ref.CommitRef.{CommitRef}
use Rattle.stream_reader.specs.declared.commit_ref.Target.{Target}
use Rattle.stream_reader.specs.declared.commit_ref.Target.TheVariants as targets
use Rattle.stream_reader.specs.Verdicts.{start, verdict}
use Rattle.object_store.specs.Objects.{Object}
use Rattle.fast_import.specs.Made.{IsMadeBy}
use Rattle.fast_import.specs.Replays.{Base, Replay, named_parent, nothing_yet, ran_by, step, target_name, value_at}
use Rattle.workspace.specs.Workspaces.{shown}
use Rattle.commit_map.specs.declared.rule.Rule.{Rule}
use Rattle.projection_laws.specs.Projections.{projection, projections}
use Rattle.push_laws.specs.PushLaws.{commit_of}
use Rattle.push_laws.specs.PushReplays.{StreamRefusal, FurtherParents, Faulty, chain_end, push_replay, push_step}
use Rattle.push_laws.specs.Pushes.{Pushing, pushing}
use Rattle.merge_laws.specs.MergeLaws.{AreJoined, IsApartFromEmpty, projected_names}
use Rattle.merge_laws.specs.MergeReplays.{is_once, merge_base, merge_replay, merge_step}
use Rattle.merge_laws.specs.Merges.{merging}

-- The commits that a replay has made are in line upon the projection, joined with others that are there or came before, and none
-- has a parent twice: what the law of pushes with merges asks for.
abbrev pub JoinedLaw : Type 0
JoinedLaw = (refname : Bytes) (from : Option Bytes) (seen : Flat) (projected : List (Bytes × Flat)) (input : Bytes) →
    AreJoined (map (λ e. e.0) (merge_base refname from seen projected).commits) from (merge_replay refname from seen projected input).state.commits

-- The pushed commits of a stream, upon the commit h of a graph, are as the law of pushes with merges asks for it.
abbrev pub PushedJoinedLaw : Type 0
PushedJoinedLaw = (k : Rule) (f : Filter) (g : Graph) (h refname input : Bytes) →
    AreJoined (projected_names (projections k (shown f) [] g)) (commit_of (projection k (shown f) g h)) (merging k f g h refname input).stream.state.commits

-- The trees of the other projections don't matter, nor their order: no commit begins with one of them.
abbrev pub NamesLaw : Type 0
NamesLaw = (refname : Bytes) (from : Option Bytes) (seen : Flat) (projected others : List (Bytes × Flat)) (input : Bytes) →
    ((n : Bytes) → is_some (value_at n projected) ≡ is_some (value_at n others)) → merge_replay refname from seen projected input ≡ merge_replay refname from seen others input

-- Nor do they for what the commands make that were tried.
abbrev pub TriedLaw : Type 0
TriedLaw = (refname : Bytes) (from : Option Bytes) (seen : Flat) (projected others : List (Bytes × Flat)) (input : Bytes) →
    ((n : Bytes) → is_some (value_at n projected) ≡ is_some (value_at n others)) → (o : Object) →
    IsMadeBy (merge_base refname from seen projected) nothing_yet (merge_replay refname from seen projected input).tried o →
    IsMadeBy (merge_base refname from seen others) nothing_yet (merge_replay refname from seen others input).tried o

-- Where a push with merges goes on, so does any replay.
abbrev pub GoesOnLaw : Type 0
GoesOnLaw = (refname : Bytes) (from : Option Bytes) (seen : Flat) (projected : List (Bytes × Flat)) (r s : Replay) (p : Placed) →
    merge_step (merge_base refname from seen projected) refname from r p ≡ Ok s → step (merge_base refname from seen projected) r p ≡ Ok s

-- the names that lines give, as far as they give one
abbrev pub named : Base → Replay → List CommitRef → List Bytes
named base r ms = filter_map (λ m. target_name base r m.target) ms

-- A commit upon the chain's end does what it does in any replay, unless two of its parents are one name; these are the names that its
-- lines give.
abbrev pub CommitLaw : Type 0
CommitLaw = (refname : Bytes) (from : Option Bytes) (seen : Flat) (projected : List (Bytes × Flat)) (r : Replay) (at : ℕ) (h : CommitHead) →
    same_bytes h.refname refname ≡ true → named_parent (merge_base refname from seen projected) r h ≡ Ok (chain_end from r) →
    merge_step (merge_base refname from seen projected) refname from r (record { at = at; command = commands.Commit h })
    ≡ (refused_by Faulty (step (merge_base refname from seen projected) r (record { at = at; command = commands.Commit h })) >>= λ s.
    must (FurtherParents (length r.commits + 1)) (is_once (option_to_list (chain_end from r) ++ named (merge_base refname from seen projected) r h.merges)) >>= λ u. Ok s)

-- ---- streams without merges

-- whether no line merges
abbrev pub is_plain : Command → Bool
is_plain (commands.Commit h) = is_nil h.merges
is_plain c = true

-- Upon the same commits and blobs a stream without lines that merge is replayed as one of a push without them.
abbrev pub PlainLaw : Type 0
PlainLaw = (base : Base) (refname : Bytes) (from : Option Bytes) (end : Option StreamRefusal) (r : Replay) (ps : List Placed) → list_all (λ p. is_plain p.command) ps ≡ true →
    ran_by (merge_step base refname from) end r ps ≡ ran_by (push_step base refname from) end r ps

-- whether a line names a commit by its digits
abbrev pub is_by_digits : Option CommitRef → Bool
is_by_digits None = false
is_by_digits (Some c) = are_digits c.target
  where
    are_digits : Target → Bool
    are_digits (targets.Digits n) = true
    are_digits t = false

-- whether no line merges, and no reset is to digits
abbrev pub is_usual : Command → Bool
is_usual (commands.Commit h) = is_nil h.merges
is_usual (commands.Reset refname from) = not (is_by_digits from)
is_usual c = true

-- A stream of such commands is replayed as one of a push without merges: the wider base changes nothing.
abbrev pub UsualLaw : Type 0
UsualLaw = (refname : Bytes) (from : Option Bytes) (seen : Flat) (projected : List (Bytes × Flat)) (input : Bytes) →
    list_all (λ p. is_usual p.command) (verdict start input).commands ≡ true → merge_replay refname from seen projected input ≡ push_replay refname from seen input

-- two pushes with the same stream, the same originals and the same refusal
pub record IsSamePush (p q : Pushing) : Type 0 where
  pub stream : p.stream ≡ q.stream
  pub originals : p.originals ≡ q.originals
  pub refusal : p.refusal ≡ q.refusal

-- So the push of such a stream is what it is without merges; where nothing is projected, as long as its first tree is no other one
-- of the empty tree's name.
abbrev pub SamePushLaw : Type 0
SamePushLaw = (k : Rule) (f : Filter) (g : Graph) (h refname input : Bytes) → has g h ≡ true → list_all (λ p. is_usual p.command) (verdict start input).commands ≡ true →
    (projection k (shown f) g h ≡ None → IsApartFromEmpty (pushing k f g h refname input).stream.state.commits) →
    IsSamePush (merging k f g h refname input) (pushing k f g h refname input)
