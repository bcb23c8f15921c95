-- Places of tags in a list, behind which the next one is looked for.
use Rattle.std.specs.Prelude.{◌≡◌, ℕ, zero, suc, ◌<◌, List, [], ◌∷◌, length, Some, slice_get}
use Rattle.std.specs.declared.cmp.Ordering.TheVariants.{Greater}
use Rattle.git_objects.specs.Paths.{Bytes}
use Rattle.git_objects.specs.Refs.{bytes_cmp}
use Rattle.tag_objects.specs.declared.tag.Tag.{Tag}

-- so many tags at the front have lower names
abbrev pub AreLower : Bytes → ℕ → List Tag → Type 0
AreLower n zero us = Unit {0}
AreLower n (suc i) [] = ⊥
AreLower n (suc i) (u ∷ us) = (bytes_cmp n u.name ≡ Greater) × AreLower n i us

-- at that place stands a tag whose name is higher than those of all before it
pub record IsHighest (at : ℕ) (us : List Tag) : Type 0 where
  pub within : at < length us
  pub higher : (t : Tag) → slice_get us at ≡ Some t → AreLower t.name at us
