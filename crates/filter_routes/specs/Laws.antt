-- What soundness is for, and what keeps faults and tables apart.
use Rattle.std.specs.Prelude.{◌≡◌, ◌↔◌, ℕ, true, Some}
use Rattle.git_objects.specs.Paths.{Bytes, Path, is_path, comparable}
use Rattle.filter_text.specs.Filters.{Filter, has_paths}
use Rattle.filter_text.specs.Printing.{printed}
use Rattle.filter_text.specs.Spelling.{SpellsFilter}
use Rattle.filter_routes.specs.Images.{image}
use Rattle.filter_routes.specs.Soundness.{IsSound}
use Rattle.filter_routes.specs.Faults.{IsNotKeeping, IsOverlap}

-- Under a sound filter comparable images come only from comparable paths, and equal images only from equal paths.
pub record RouteLaw : Type 0 where
  pub comparable : (f : Filter) (p q x y : Path) → has_paths f ≡ true → IsSound f → is_path p ≡ true → is_path q ≡ true →
      image f p ≡ Some x → image f q ≡ Some y → comparable x y ≡ true → comparable p q ≡ true
  pub equal : (f : Filter) (p q x : Path) → has_paths f ≡ true → IsSound f → is_path p ≡ true → is_path q ≡ true →
      image f p ≡ Some x → image f q ≡ Some x → p ≡ q
  pub image_path : (f : Filter) (p x : Path) → has_paths f ≡ true → is_path p ≡ true → image f p ≡ Some x → is_path x ≡ true

-- A filter with a fault isn't sound, and no filter has two faults.
pub record FaultLaw : Type 0 where
  pub not_keeping : (f : Filter) (n : ℕ) → IsNotKeeping f n → IsSound f → ⊥
  pub overlap : (f : Filter) (n a b : ℕ) → IsOverlap f n a b → IsSound f → ⊥
  pub one_piece : (f : Filter) (m n : ℕ) → IsNotKeeping f m → IsNotKeeping f n → m ≡ n
  pub one_pair : (f : Filter) (m n a b c d : ℕ) → IsOverlap f m a b → IsOverlap f n c d → (m ≡ n) × (a ≡ c) × (b ≡ d)
  pub not_both : (f : Filter) (m n a b : ℕ) → IsNotKeeping f m → IsOverlap f n a b → ⊥

-- Two filters that texts spell, however long, have one canonical text exactly where they are one filter.
abbrev pub TablesLaw : Type 0
TablesLaw = (s t : Bytes) (f g : Filter) → SpellsFilter s f → SpellsFilter t g → (printed f ≡ printed g) ↔ (f ≡ g)
