-- The laws of laying, for every lens and all trees.
use Rattle.std.specs.Prelude.{◌≡◌, true, false, is_some, Some, None}
use Rattle.std.specs.Ordering.{is_lt}
use Rattle.git_objects.specs.Paths.{Path, is_path, path_cmp, comparable}
use Rattle.git_objects.specs.Trees.{Flat, IsTree, at, under}
use Rattle.filter_text.specs.Filters.{Filter, has_paths}
use Rattle.filter_routes.specs.Images.{image}
use Rattle.filter_routes.specs.Origins.{lens_of}
use Rattle.filter_routes.specs.Soundness.{IsSound}
use Rattle.filter_routes.specs.Lenses.{Lens, IsLens, seen_through}
use Rattle.filter_unapply.specs.Laying.{below}
use Rattle.filter_unapply.specs.Laying.{pre, laid_through, NotHeld, Blocked, LaidTree}

-- a path with a leaf
abbrev pub HasLeaf : Flat → Path → Type 0
HasLeaf t p = is_some (at t p) ≡ true

-- in path order the first path of which it holds
pub record IsFirst (P : Path → Type 0) (p : Path) : Type 0 where
  pub holds : P p
  pub first : (q : Path) → P q → is_lt (path_cmp q p) ≡ false

-- a path of the tree that no path is shown as
abbrev pub IsLost : Lens → Flat → Path → Type 0
IsLost f n q = HasLeaf n q × (f.origin q ≡ None)

-- two different paths that are comparable, the first with an image
pub record IsBlock (f : Lens) (u : Flat) (p q : Path) : Type 0 where
  pub path : HasLeaf u p
  pub image : is_some (f.image p) ≡ true
  pub by : HasLeaf u q
  pub comparable : comparable p q ≡ true
  pub other : p ≡ q → ⊥

-- When each answer comes: NotHeld at the first path that no path is shown as, otherwise Blocked at the first path from
-- what is laid that is comparable with another, and otherwise the tree.
pub record OutcomeLaw : Type 0 where
  pub not_held : (f : Lens) (t n : Flat) (q : Path) → IsTree n → laid_through f t n ≡ NotHeld q → IsFirst (IsLost f n) q
  pub blocked : (f : Lens) (t n : Flat) (p q : Path) → IsTree t → laid_through f t n ≡ Blocked p q → IsFirst (λ r. (s : Path) × IsBlock f (pre f t n) r s) p
  pub by : (f : Lens) (t n : Flat) (p q : Path) → IsTree t → laid_through f t n ≡ Blocked p q → IsFirst (IsBlock f (pre f t n) p) q
  pub held : (f : Lens) (t n : Flat) (p q : Path) → laid_through f t n ≡ Blocked p q → (s : Path) → IsLost f n s → ⊥
  pub tree : (f : Lens) (t n : Flat) → IsTree n → ((s : Path) → IsLost f n s → ⊥) → IsTree (pre f t n) → laid_through f t n ≡ LaidTree (pre f t n)

-- what is laid is a tree, and is shown again exactly
pub record ShownAgainLaw : Type 0 where
  pub tree : (f : Lens) (t n u : Flat) → IsLens f → IsTree t → IsTree n → laid_through f t n ≡ LaidTree u → IsTree u
  pub shown_again : (f : Lens) (t n u : Flat) → IsLens f → IsTree t → IsTree n → laid_through f t n ≡ LaidTree u → seen_through f u ≡ n

-- what is shown of a tree is a tree, and laying it gives the tree back
pub record GivenBackLaw : Type 0 where
  pub tree : (f : Lens) (t : Flat) → IsLens f → IsTree t → IsTree (seen_through f t)
  pub given_back : (f : Lens) (t : Flat) → IsLens f → IsTree t → laid_through f t (seen_through f t) ≡ LaidTree t

-- each path without an image keeps what it had
abbrev pub UnseenLaw : Type 0
UnseenLaw = (f : Lens) (t n u : Flat) → IsLens f → IsTree t → IsTree n → laid_through f t n ≡ LaidTree u → (p : Path) → f.image p ≡ None → at u p ≡ at t p

-- laying again forgets what was laid first
abbrev pub LaidAgainLaw : Type 0
LaidAgainLaw = (f : Lens) (t n u m : Flat) → IsLens f → IsTree t → IsTree n → laid_through f t n ≡ LaidTree u → IsTree m → laid_through f u m ≡ laid_through f t m

-- the filter `:/a` is a lens, shows what lies below a, and holds every tree
pub record BelowLaw : Type 0 where
  pub lens : (a : Path) → is_path a ≡ true → IsLens (below a)
  pub shows : (a : Path) (t : Flat) → IsTree t → seen_through (below a) t ≡ under t a
  pub holds : (a : Path) (t n : Flat) (q : Path) → laid_through (below a) t n ≡ NotHeld q → ⊥

-- For a sound filter without a workspace, or one that is read as the paths below its place.
pub record LayingLaw : Type 0 where
  -- what is laid is a tree, and is shown again exactly
  pub tree : (r : Filter) (t n u : Flat) → has_paths r ≡ true → IsSound r → IsTree t → IsTree n → laid_through (lens_of r) t n ≡ LaidTree u → IsTree u
  pub shown_again : (r : Filter) (t n u : Flat) → has_paths r ≡ true → IsSound r → IsTree t → IsTree n → laid_through (lens_of r) t n ≡ LaidTree u → seen_through (lens_of r) u ≡ n
  -- what is shown of a tree is a tree, and laying it gives the tree back
  pub shown_tree : (r : Filter) (t : Flat) → has_paths r ≡ true → IsSound r → IsTree t → IsTree (seen_through (lens_of r) t)
  pub given_back : (r : Filter) (t : Flat) → has_paths r ≡ true → IsSound r → IsTree t → laid_through (lens_of r) t (seen_through (lens_of r) t) ≡ LaidTree t
  -- laying again forgets what was laid first
  pub laid_again : (r : Filter) (t n u m : Flat) → has_paths r ≡ true → IsSound r → IsTree t → IsTree n → laid_through (lens_of r) t n ≡ LaidTree u → laid_through (lens_of r) u m ≡ laid_through (lens_of r) t m
  -- each path without an image keeps what it had, and each other one has what was laid at its image
  pub hidden : (r : Filter) (t n u : Flat) (p : Path) → has_paths r ≡ true → IsSound r → IsTree t → IsTree n → laid_through (lens_of r) t n ≡ LaidTree u → image r p ≡ None → at u p ≡ at t p
  pub laid_at : (r : Filter) (t n u : Flat) (p q : Path) → has_paths r ≡ true → IsSound r → IsTree t → IsTree n → laid_through (lens_of r) t n ≡ LaidTree u → is_path p ≡ true → image r p ≡ Some q → at u p ≡ at n q
