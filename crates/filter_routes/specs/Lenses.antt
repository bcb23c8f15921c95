-- What a projection shows of a tree: a way from paths to the paths that are shown for them, and the way back.
use Rattle.std.specs.Prelude.{◌≡◌, true, [], ◌∷◌, Option, Some, None}
use Rattle.std.specs.FinMap.{put as put_entry}
use Rattle.git_objects.specs.Paths.{Path, is_path, path_cmp, comparable}
use Rattle.git_objects.specs.Trees.{Leaf, Flat, IsTree, at}

pub record Lens : Type 0 where
  -- the path that is shown for this one, if one is
  pub image : Path → Option Path
  -- the path that is shown as this one, if one is
  pub origin : Path → Option Path

-- at most one path is shown as each path, and nothing comparable is shown of paths that are not comparable
pub record IsLens (f : Lens) : Type 0 where
  pub image_path : (p q : Path) → is_path p ≡ true → f.image p ≡ Some q → is_path q ≡ true
  pub image_origin : (p q : Path) → is_path p ≡ true → f.image p ≡ Some q → f.origin q ≡ Some p
  pub origin_path : (p q : Path) → is_path q ≡ true → f.origin q ≡ Some p → is_path p ≡ true
  pub origin_image : (p q : Path) → is_path q ≡ true → f.origin q ≡ Some p → f.image p ≡ Some q
  pub apart : (p r q s : Path) → is_path p ≡ true → is_path r ≡ true → f.image p ≡ Some q → f.image r ≡ Some s → comparable q s ≡ true → comparable p r ≡ true

-- the leaf entered at the path, where there is one
abbrev pub entered : Option Path → Leaf → Flat → Flat
entered None x t = t
entered (Some p) x t = put_entry path_cmp p x t

-- t with each leaf of s entered at what its path becomes
abbrev pub carried : (Path → Option Path) → Flat → Flat → Flat
carried to [] t = t
carried to (e ∷ s) t = entered (to e.0) e.1 (carried to s t)

-- the leaf of each path that has an image, at that image
abbrev pub seen_through : Lens → Flat → Flat
seen_through f t = carried f.image t []

-- What is seen of a tree through a lens is a tree; at each path it has the leaf of the path's origin, or none.
pub record SeenLaw : Type 0 where
  pub tree : (f : Lens) (t : Flat) → IsLens f → IsTree t → IsTree (seen_through f t)
  pub leaf : (f : Lens) (t : Flat) (q p : Path) → IsLens f → IsTree t → is_path q ≡ true → f.origin q ≡ Some p → at (seen_through f t) q ≡ at t p
  pub none : (f : Lens) (t : Flat) (q : Path) → IsLens f → IsTree t → is_path q ≡ true → f.origin q ≡ None → at (seen_through f t) q ≡ None
