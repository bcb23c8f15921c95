-- Words and marks of a line.
use Rattle.std.specs.Prelude.{ℕ, zero, suc, codes, Option, Some, None}
use Rattle.std.specs.Option.{option_and_then}
use Rattle.git_objects.specs.Paths.{Bytes}
use Rattle.git_objects.specs.Idents.{cut_at}
use Rattle.git_objects.specs.CommitBodies.{strip}
use Rattle.path_names.specs.Words.{number}

abbrev pub word_by : Bytes → Option (Bytes × Bytes) → Bytes × Option Bytes
word_by t None = (t, None)
word_by t (Some r) = (r.0, Some r.1)

-- the first word, and what stands behind the space after it, or none where the text ends
unfoldable pub first_word : Bytes → Bytes × Option Bytes
first_word t = word_by t (cut_at 32 t)

abbrev pub not_zero : ℕ → Option ℕ
not_zero zero = None
not_zero (suc n) = Some (suc n)

-- `:` and 1 to 18 digits with a value of at least 1
unfoldable pub mark : Bytes → Option ℕ
mark text = option_and_then (λ t. option_and_then not_zero (number t)) (strip (codes ":") text)
