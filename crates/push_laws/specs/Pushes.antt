-- A whole push: its stream, the commits that it makes, and their originals.
use Rattle.std.specs.Prelude.{ℕ, List, [], ◌∷◌, Option, Some, None, Result, Ok, Err}
use Rattle.std.specs.Option.{option_map, option_or}
use Rattle.git_objects.specs.Paths.{Bytes}
use Rattle.git_objects.specs.Trees.{Flat}
use Rattle.git_objects.specs.Snapshots.{Snapshot, Graph, snapshot_name, tree_at}
use Rattle.filter_text.specs.Filters.{Filter}
use Rattle.workspace.specs.Workspaces.{shown}
use Rattle.commit_map.specs.declared.rule.Rule.{Rule}
use Rattle.projection_laws.specs.Projections.{projection}
use Rattle.fast_import.specs.Replays.{Base, Ran}
use Rattle.push_laws.specs.PushVerdicts.{Refusal, Verdict, original_of, original_tree, verdict}
use Rattle.push_laws.specs.PushReplays.{StreamRefusal, push_base, push_replay}

-- why a push is refused: by its stream, or by the commit of this number, from 1
pub data PushRefusal : Type 0 where
  StreamRefused : StreamRefusal → PushRefusal
  CommitRefused : ℕ → Refusal → PushRefusal

-- What its stream stands upon, the stream's replay, the original commits that were made, each for the pushed commit of its
-- number, and the first refusal: the stream's before any commit's.
pub record Pushing : Type 0 where
  pub base : Base
  pub stream : Ran StreamRefusal
  pub originals : List Snapshot
  pub refusal : Option PushRefusal

-- the original with those behind it, or none where the commit is refused
abbrev pub made_upon : Bytes → Snapshot → Result Flat Refusal → (Flat → List Snapshot) → List Snapshot
made_upon h c (Ok u) later = original_of h c u ∷ later u
made_upon h c (Err e) later = []

-- The originals of commits up to the first one that is refused. h is the original commit before them, t its tree, and
-- `seen` what the commit before them shows.
abbrev pub made_from : Filter → Bytes → Flat → Flat → List Snapshot → List Snapshot
made_from f h t seen [] = []
made_from f h t seen (c ∷ cs) =
    made_upon h c (original_tree f t seen c.tree) (λ u. made_from f (snapshot_name (original_of h c u)) u c.tree cs)

-- the refusal of commits, if one is refused
abbrev pub refusal_of : Verdict → Option PushRefusal
refusal_of (Ok ps) = None
refusal_of (Err e) = Some (CommitRefused e.0 e.1)

-- a push whose stream was replayed upon the commit h, whose projection is `from`
abbrev pub pushed : Filter → Graph → Bytes → Bytes → Option Bytes → Ran StreamRefusal → Pushing
pushed f g h refname from x = record {
  base = push_base refname from (shown f (tree_at g h));
  stream = x;
  originals = made_from f h (tree_at g h) (shown f (tree_at g h)) x.state.commits;
  refusal = option_or (option_map StreamRefused x.fault) (refusal_of (verdict f g h x.state.commits));
}

-- the push of a stream to a ref that is at the commit h of a graph, through a filter and by a rule
abbrev pub pushing : Rule → Filter → Graph → Bytes → Bytes → Bytes → Pushing
pushing k f g h refname input =
    let from : Option Bytes = option_map (λ s. s.commit) (projection k (shown f) g h) in
    pushed f g h refname from (push_replay refname from (shown f (tree_at g h)) input)
