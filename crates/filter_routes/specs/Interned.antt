-- Tables that were made, each once.
use Rattle.std.specs.Prelude.{◌≡◌, ℕ, ◌<◌, List, [], ◌∷◌, ◌++◌, length, slice_get, Option, Some, None, nat_eq}
use Rattle.std.specs.Cmp.Lexicographic.{pointwise}
use Rattle.std.specs.Map.{lookup}
use Rattle.git_objects.specs.Paths.{Bytes}
use Rattle.filter_text.specs.Filters.{Filter}
use Rattle.filter_text.specs.Shapes.{shape}
use Rattle.filter_text.specs.Printing.{printed}
use Rattle.filter_routes.specs.TableValues.{Table}

-- the table with this number is one of the filter
abbrev pub HasAt : List Table → Filter → ℕ → Type 0
HasAt ts f n = (t : Table) × (slice_get ts n ≡ Some t) × (shape t.filter ≡ f)

-- no table is one of the filter
abbrev pub HasNone : List Table → Filter → Type 0
HasNone ts f = (n : ℕ) → HasAt ts f n → ⊥

-- no two tables are of one filter
abbrev pub AreDistinct : List Table → Type 0
AreDistinct ts = (f : Filter) (m n : ℕ) → HasAt ts f m → HasAt ts f n → m ≡ n

-- The filter has this number: one that it had, where nothing changed, or that of a table which came behind the others.
pub record Interns (old new : List Table) (f : Filter) (n : ℕ) : Type 0 where
  pub there : HasAt new f n
  pub known : (m : ℕ) → HasAt old f m → new ≡ old
  pub fresh : HasNone old f → (n ≡ length old) × ((t : Table) × (new ≡ old ++ t ∷ []))

-- the number at a canonical text
abbrev pub number_at : List (Bytes × ℕ) → Bytes → Option ℕ
number_at es text = lookup (pointwise nat_eq text) es

-- each table's canonical text has a number, and each number is that of a table
pub record AreNumbered (ts : List Table) (es : List (Bytes × ℕ)) : Type 0 where
  pub keyed : (f : Filter) (n : ℕ) → HasAt ts f n → number_at es (printed f) ≡ None → ⊥
  pub within : (text : Bytes) (n : ℕ) → number_at es text ≡ Some n → n < length ts

-- what all tables together keep to
pub record IsStored (ts : List Table) (es : List (Bytes × ℕ)) : Type 0 where
  pub distinct : AreDistinct ts
  pub numbered : AreNumbered ts es

-- the number of the filter's table, or none where there is no such table
abbrev pub NumberOf : List Table → Filter → Option ℕ → Type 0
NumberOf ts f None = HasNone ts f
NumberOf ts f (Some n) = HasAt ts f n
