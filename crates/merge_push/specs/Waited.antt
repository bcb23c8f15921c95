-- How far a pushed stream with merges is read before it is known what becomes of it.
use Rattle.std.specs.Prelude.{ℕ, List, [], Option}
use Rattle.std.specs.Option.{option_map}
use Rattle.git_objects.specs.Paths.{Bytes}
use Rattle.git_objects.specs.Snapshots.{tree_at}
use Rattle.git_objects.specs.Trees.{Flat}
use Rattle.filter_text.specs.Filters.{Filter}
use Rattle.workspace.specs.Workspaces.{shown}
use Rattle.projection_laws.specs.Projections.{projection, projections}
use Rattle.projection_ground.specs.Grounds.{commits_of}
use Rattle.projection_ground.specs.declared.ground.Ground.{Ground}
use Rattle.push_back.specs.Waited.{waited_by}
use Rattle.merge_laws.specs.MergeReplays.{merge_base, merge_step}
use Rattle.merge_laws.specs.Merges.{shown_trees}

-- The place up to which a pushed stream with merges has to be read: of a fault of reading, its place; of a command that is refused,
-- the place of the next line behind it that is no comment, or the input's length where there is none; else the place behind the
-- line `done`, or the input's length where there is no such line.
abbrev pub merge_waited : Bytes → Option Bytes → Flat → List (Bytes × Flat) → Bytes → ℕ
merge_waited refname from shown projected all = waited_by (merge_step (merge_base refname from shown projected) refname from) all

-- the same of a push to a ref that is at the commit h
abbrev pub merges_waited : Filter → Ground → Bytes → Bytes → Bytes → ℕ
merges_waited f g refname h all =
    merge_waited refname (option_map (λ s. s.commit) (projection g.rule (shown f) (commits_of g) h)) (shown f (tree_at (commits_of g) h))
    (shown_trees f (commits_of g) (projections g.rule (shown f) [] (commits_of g))) all
