-- How long the paths are that come of putting at a path what stands at a node.
use Rattle.std.specs.Prelude.{◌≡◌, ◌⊎◌, OnOk, IfErr, Result, Ok, Err, ℕ, ◌+◌, ◌-◌, Bool, true, nat_le, cond, ◌&&◌, List, [], ◌∷◌, length, Option, Some, None}
use Rattle.std.specs.List.{list_all}
use Rattle.git_objects.specs.declared.limits.TheConstants.{PATH_BYTES, PATH_COMPONENTS}
use Rattle.git_objects.specs.Paths.{Path}
use Rattle.git_objects.specs.Trees.{Node, rests}
use Rattle.object_store.specs.Objects.{Object}
use Rattle.path_trees.specs.Standing.{node}
use Rattle.stage_nodes.specs.declared.nodes.Content.{Content}
use Rattle.stage_nodes.specs.declared.nodes.Content.TheVariants.{Held, Open}
use Rattle.stage_tree.specs.declared.limits.Measure.{Measure}
use Rattle.stage_tree.specs.declared.limits.Measure.TheVariants.{Components, Bytes}
use Rattle.stage_tree.specs.declared.fault.StageFault.{StageFault}
use Rattle.stage_tree.specs.declared.fault.StageFault.TheVariants.{OutOfMemory}
use Rattle.stage_tree.specs.Edits.{paths_put}
use Rattle.stage_nodes.specs.Forests.{Forest, Nil, Bin}

-- what a component of so many bytes takes of a limit, with the slash behind it
abbrev pub weight : Measure → ℕ → ℕ
weight Components n = 1
weight Bytes n = n + 1

-- the most of it that a path may have
abbrev pub limit_of : Measure → ℕ
limit_of Components = PATH_COMPONENTS
limit_of Bytes = PATH_BYTES + 1

abbrev pub cost : Measure → Path → ℕ
cost m [] = 0
cost m (c ∷ p) = weight m (length c) + cost m p

-- what a path leaves of a limit
abbrev pub room_left : ℕ → ℕ → Option ℕ
room_left limit n = cond (nat_le n limit) (Some (limit - n)) None

-- whether the rests of the paths through a node take no more than that, by whether those through its children do
abbrev pub content_fits : Measure → List Object → ℕ → Content → Bool → Bool
content_fits m S room (Held f) children = list_all (λ e. nat_le (cost m e.0) room) (rests (node S f))
content_fits m S room Open children = children

abbrev pub fits_in : Measure → List Object → ℕ → Forest → Bool
fits_in m S room Nil = true
fits_in m S room (Bin k c x l r) =
    nat_le (weight m (length c)) room
    && content_fits m S (room - weight m (length c)) x (fits_in m S (room - weight m (length c)) l)
    && fits_in m S room r

-- whether all paths that come of putting a leaf or a tree at a path take no more than a limit
abbrev pub put_fits : Measure → ℕ → Path → Node → Bool
put_fits m limit p x = list_all (λ q. nat_le (cost m q) limit) (paths_put p x)

-- a result is what a test says, or there was no memory
pub record IsJudged (test : Result (Unit {0}) StageFault) (result : Result (Unit {0}) StageFault) : Type 0 where
  pub passed : OnOk result (test ≡ Ok tt)
  pub refused : IfErr result (λ e. (e ≡ OutOfMemory) ⊎ (test ≡ Err e))
