-- What holds of two trees together.
use Rattle.std.specs.Prelude.{◌≡◌, false, Some, None}
use Rattle.std.specs.Option.{option_or}
use Rattle.git_objects.specs.Paths.{Path, comparable}
use Rattle.git_objects.specs.Trees.{Leaf, Flat, IsTree, at}
use Rattle.path_trees.specs.Clashes.{clash, together}

-- no path of one is comparable with one of the other, and together they are a tree with what each of them has
pub record AreTogether (a b : Flat) : Type 0 where
  pub apart : (p q : Path) (x y : Leaf) → at a p ≡ Some x → at b q ≡ Some y → comparable p q ≡ false
  pub tree : IsTree (together a b)
  pub leaves : (p : Path) → at (together a b) p ≡ option_or (at a p) (at b p)

abbrev pub TogetherLaw : Type 0
TogetherLaw = (a b : Flat) → IsTree a → IsTree b → clash a b ≡ None → AreTogether a b
