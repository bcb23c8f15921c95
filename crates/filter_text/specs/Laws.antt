-- What reading, writing and comparing filters keep to.
use Rattle.std.specs.Prelude.{◌≡◌, ◌≤◌, ◌+◌, ◌==◌, ℕ, true, false, List, length, take, count_by, Some, Ok}
use Rattle.git_objects.specs.Paths.{Bytes}
use Rattle.git_objects.specs.declared.limits.TheConstants.{FILTER_BYTES, FILTER_NESTING}
use Rattle.filter_text.specs.Filters.{Filter, same_filter}
use Rattle.filter_text.specs.Reading.{filter_of}
use Rattle.filter_text.specs.Limits.{too_deep, read}
use Rattle.filter_text.specs.Items.{Member, members}
use Rattle.filter_text.specs.Spelling.{SpellsFilter, SpellsFile}
use Rattle.filter_text.specs.Printing.{printed}

-- a text is read as a filter exactly where it spells it, so it spells one at most; the same for the members of a file
pub record GrammarLaw : Type 0 where
  pub spelled : (t : Bytes) (f : Filter) → filter_of t ≡ Some f → SpellsFilter t f
  pub read : (t : Bytes) (f : Filter) → SpellsFilter t f → filter_of t ≡ Some f
  pub spelled_file : (t : Bytes) (ms : List Member) → members t ≡ Some ms → SpellsFile t ms
  pub read_file : (t : Bytes) (ms : List Member) → SpellsFile t ms → members t ≡ Some ms

-- a text is too deep exactly where some front of it has more than FILTER_NESTING more bytes `[` than bytes `]`
pub record DepthLaw : Type 0 where
  pub front : (t : Bytes) → too_deep t ≡ true →
      (n : ℕ) × (FILTER_NESTING + 1 + count_by (λ x. x == 93) (take n t) ≤ count_by (λ x. x == 91) (take n t))
  pub deep : (t : Bytes) (n : ℕ) → FILTER_NESTING + 1 + count_by (λ x. x == 93) (take n t) ≤ count_by (λ x. x == 91) (take n t) →
      too_deep t ≡ true

-- a filter that was read is written so that it is read again, where the text passes neither limit of texts
abbrev pub PrintLaw : Type 0
PrintLaw = (t : Bytes) (f : Filter) → read t ≡ Ok f → length (printed f) ≤ FILTER_BYTES → too_deep (printed f) ≡ false →
    read (printed f) ≡ Ok f

-- the test of sameness says yes exactly where two filters are equal
pub record SameLaw : Type 0 where
  pub equal : (f g : Filter) → same_filter f g ≡ true → f ≡ g
  pub same : (f : Filter) → same_filter f f ≡ true
