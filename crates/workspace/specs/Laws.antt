-- What the filter for a tree keeps to.
use Rattle.std.specs.Prelude.{◌≡◌, true, false, ◌++◌, Option, Some}
use Rattle.std.specs.Option.{option_and_then}
use Rattle.git_objects.specs.Paths.{Path, is_path}
use Rattle.git_objects.specs.Trees.{Leaf, Flat, IsTree, at}
use Rattle.filter_text.specs.Filters.{Filter, chain, is_filter, has_paths, has_workspace}
use Rattle.filter_routes.specs.Lenses.{seen_through}
use Rattle.filter_routes.specs.Origins.{lens_of}
use Rattle.filter_routes.specs.Soundness.{IsSound}
use Rattle.workspace.specs.Workspaces.{Split, split, place, file_name, with_leaf}

-- a sound filter of paths
pub record IsUsable (f : Filter) : Type 0 where
  pub paths : has_paths f ≡ true
  pub sound : IsSound f

-- The filter for a tree is sound again and has no workspace left; and the leaf at the workspace place is the one that the
-- pieces before the workspace show as its file.
pub record ResolveLaw : Type 0 where
  pub usable : (f : Filter) (x : Option Leaf) → IsUsable f → IsUsable (with_leaf f x)
  pub resolved : (f : Filter) (x : Option Leaf) → is_filter f ≡ true → has_workspace (with_leaf f x) ≡ false
  pub place_path : (f : Filter) (p : Path) → IsUsable f → place f ≡ Some p → is_path p ≡ true
  pub place_shown : (f : Filter) (s : Split) (t : Flat) → IsUsable f → split f ≡ Some s → IsTree t →
      at (seen_through (lens_of (chain s.before)) t) (s.directory ++ file_name) ≡ option_and_then (at t) (place f)
