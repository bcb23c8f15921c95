-- When a filter is sound.
use Rattle.std.specs.Prelude.{◌≡◌, Bool, true, false, ◌&&◌, Some, ◌⊎◌, ⊤}
use Rattle.git_objects.specs.Paths.{Path, is_path, comparable}
use Rattle.filter_text.specs.Filters.{Filter, Filters, nop, sub, onto, dir, file, exclude, join, chain, workspace, no_more, more}
use Rattle.filter_routes.specs.Images.{image}

-- two filters have one path, or paths with comparable images
pub record Clash (f g : Filter) : Type 0 where
  pub p : Path
  pub q : Path
  pub x : Path
  pub y : Path
  pub path_p : is_path p ≡ true
  pub path_q : is_path q ≡ true
  pub image_p : image f p ≡ Some x
  pub image_q : image g q ≡ Some y
  pub meet : (p ≡ q) ⊎ (comparable x y ≡ true)

-- a filter that only keeps paths, and is built of what an exclude may hold
abbrev mutual
  pub is_keeping : Filter → Bool
  is_keeping nop = true
  is_keeping (sub a) = false
  is_keeping (onto a) = false
  is_keeping (dir a) = true
  is_keeping (file a) = true
  is_keeping (exclude f) = false
  is_keeping (join fs) = are_keeping fs
  is_keeping (chain fs) = are_keeping fs
  is_keeping (workspace a) = false

  pub are_keeping : Filters → Bool
  are_keeping no_more = true
  are_keeping (more f fs) = is_keeping f && are_keeping fs

-- a branch clashes with none of these
abbrev pub IsApart : Filter → Filters → Type 0
IsApart f no_more = ⊤
IsApart f (more g gs) = (Clash f g → ⊥) × IsApart f gs

-- no two branches clash
abbrev pub AreApart : Filters → Type 0
AreApart no_more = ⊤
AreApart (more f fs) = IsApart f fs × AreApart fs

-- the content of each exclude is keeping, and no two branches of a list outside of an exclude clash
abbrev mutual
  pub IsSound : Filter → Type 0
  IsSound nop = ⊤
  IsSound (sub a) = ⊤
  IsSound (onto a) = ⊤
  IsSound (dir a) = ⊤
  IsSound (file a) = ⊤
  IsSound (exclude f) = is_keeping f ≡ true
  IsSound (join fs) = AreSound fs × AreApart fs
  IsSound (chain fs) = AreSound fs
  IsSound (workspace a) = ⊤

  pub AreSound : Filters → Type 0
  AreSound no_more = ⊤
  AreSound (more f fs) = IsSound f × AreSound fs
