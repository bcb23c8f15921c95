-- What a hole takes of what a stage shows.
use Rattle.std.specs.Prelude.{Bool, not, List, filter}
use Rattle.git_objects.specs.Paths.{Path}
use Rattle.git_objects.specs.Trees.{Flat}
use Rattle.object_store.specs.Objects.{Object}
use Rattle.stage_tree.specs.Stages.{Staged, Shows}

-- A stage that showed a part of the tree now shows this part without the paths that are taken.
abbrev pub IsWithout : List Object → Flat → (Path → Bool) → Staged → Staged → Type 0
IsWithout S t taken before after =
    (kept : Path → Bool) → Shows S before (filter (λ e. kept e.0) t) → Shows S after (filter (λ e. not (taken e.0)) (filter (λ e. kept e.0) t))
