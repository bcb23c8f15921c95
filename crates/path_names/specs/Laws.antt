-- Laws of paths, and of texts between quotes.
use Rattle.std.specs.Prelude.{◌≡◌, ◌++◌, true, T, Ok, Some, length}
use Rattle.std.specs.Ordering.{nat_cmp}
use Rattle.std.specs.Cmp.{IsTotalOrder}
use Rattle.std.specs.Cmp.Lexicographic.{slice_cmp}
use Rattle.std.specs.FinMap.{IsAntisymmetric}
use Rattle.git_objects.specs.Paths.{Bytes, Path, is_bytes, text, comparable, is_path, path_cmp}
use Rattle.path_names.specs.PathTexts.{parts, path_of}
use Rattle.path_names.specs.Quoting.{quoted, unquote}

-- The order component by component is total and ties only equal paths, and on paths it is the order of the texts'
-- bytes.
pub record PathOrderLaw : Type 0 where
  pub total : IsTotalOrder path_cmp
  pub antisymmetric : IsAntisymmetric path_cmp
  pub texts : (p q : Path) → T (is_path p) → T (is_path q) → slice_cmp nat_cmp (text p) (text q) ≡ path_cmp p q

-- Which of two paths is given first doesn't matter to whether they are comparable.
abbrev pub ComparableLaw : Type 0
ComparableLaw = (p q : Path) → comparable p q ≡ comparable q p

-- What is read as a path is a path with that text, and a path's text has the path's components as its parts.
pub record PathTextLaw : Type 0 where
  pub path : (t : Bytes) (p : Path) → path_of t ≡ Ok p → T (is_path p)
  pub same_text : (t : Bytes) (p : Path) → path_of t ≡ Ok p → text p ≡ t
  pub same_parts : (p : Path) → T (is_path p) → parts (text p) ≡ p

-- What was quoted is unquoted again, whatever follows it.
pub record QuotingLaw : Type 0 where
  pub round_trip : (t rest : Bytes) → is_bytes t ≡ true → unquote (quoted t ++ rest) ≡ Some (t, length (quoted t))
