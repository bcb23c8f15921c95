-- What stands at the bases of a decision list's entries.
use Rattle.std.specs.Prelude.{◌≡◌, ℕ, true, List, length, slice_get, sum_by, Option, Some, IfSome}
use Rattle.std.specs.Option.{option_map}
use Rattle.git_objects.specs.Paths.{Path}
use Rattle.git_objects.specs.Trees.{Flat, standing}
use Rattle.object_store.specs.Objects.{Object, has_child}
use Rattle.path_trees.specs.Standing.{node}
use Rattle.path_trees.specs.declared.found.Found.{Found}
use Rattle.decision_lists.specs.Entries.{Entry, base}
use Rattle.filter_apply.specs.Parts.{base_in}

-- this is what stands at the path in the tree, and the store has it
pub record IsFoundAt (S : List Object) (t : Flat) (p : Path) (found : Option Found) : Type 0 where
  pub stands : option_map (node S) found ≡ standing t p
  pub held : IfSome found (λ f. has_child S f.mode f.name.0 ≡ true)

-- for each entry what stands at its base
pub record AreFoundAt (S : List Object) (t : Flat) (es : List Entry) (founds : List (Option Found)) : Type 0 where
  pub as_many : length founds ≡ length es
  pub each : (i : ℕ) (found : Option Found) → slice_get founds i ≡ Some found → IsFoundAt S t (base_in (slice_get es i)) found

-- how many components the bases have together
abbrev pub base_lengths : List Entry → ℕ
base_lengths es = sum_by (λ e. length (base e.0)) es
