-- The edits of a tree as a stage makes them, each with its refusals in their order.
use Rattle.std.specs.Prelude.{◌≡◌, ◌⊎◌, nat_le, if◌then◌else◌, List, ◌++◌, length, map, OnOk, IfErr, IsOkAnd, Result, Ok, Err}
use Rattle.std.specs.List.{list_all}
use Rattle.git_objects.specs.declared.limits.TheConstants.{PATH_BYTES, PATH_COMPONENTS, TREE_FILES}
use Rattle.git_objects.specs.Paths.{Path, text}
use Rattle.git_objects.specs.Results.{◌>>=◌, must, or_refuse}
use Rattle.git_objects.specs.Trees.{Flat, Node, put, remove, rests, standing}
use Rattle.object_store.specs.Objects.{Object}
use Rattle.stage_tree.specs.declared.fault.StageFault.{StageFault}
use Rattle.stage_tree.specs.declared.fault.StageFault.TheVariants.{NoSource, TooDeep, TooLong, TooMany, OutOfMemory}
use Rattle.stage_tree.specs.Stages.{Staged, Shows}

-- a tree that has not too many files
abbrev pub few_files : Flat → Result Flat StageFault
few_files t = if nat_le (length t) TREE_FILES then Ok t else Err TooMany

-- the paths that come of putting a leaf or a tree at a path
abbrev pub paths_put : Path → Node → List Path
paths_put p x = map (λ e. p ++ e.0) (rests x)

-- each of them has few components, and each of them a short text
abbrev pub within_paths : Path → Node → Result (Unit {0}) StageFault
within_paths p x =
    must TooDeep (list_all (λ q. nat_le (length q) PATH_COMPONENTS) (paths_put p x)) >>= λ _.
    must TooLong (list_all (λ q. nat_le (length (text q)) PATH_BYTES) (paths_put p x))

-- ---- the edits

-- a leaf or a tree is put at a path
abbrev pub set_in : Flat → Path → Node → Result Flat StageFault
set_in t p x = few_files (put t p x)

-- what stands at s is taken out, and then put at p
abbrev pub renamed : Flat → Path → Path → Result Flat StageFault
renamed t s p = or_refuse NoSource (standing t s) >>= λ x. within_paths p x >>= λ _. Ok (put (remove t s) p x)

-- what stands at s is put at p too
abbrev pub copied : Flat → Path → Path → Result Flat StageFault
copied t s p = or_refuse NoSource (standing t s) >>= λ x. within_paths p x >>= λ _. few_files (put t p x)

-- ---- an edit of a stage

-- An edit was made: it isn't refused, and the stage shows the tree that is left. Or it wasn't: it is refused so, or
-- there was no memory, and the stage shows the tree that it showed.
pub record IsEdited {A : Type 0} (S : List Object) (after : Staged) (t : Flat) (left : Result Flat StageFault) (result : Result A StageFault) : Type 0 where
  pub done : OnOk result (IsOkAnd left (Shows S after))
  pub refused : IfErr result (λ e. Shows S after t × ((e ≡ OutOfMemory) ⊎ (left ≡ Err e)))
