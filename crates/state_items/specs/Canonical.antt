-- Canonical texts of filters.
use Rattle.std.specs.Prelude.{◌≡◌, ◌≤◌, ◌<◌, ◌^◌, true, false, length, Ok}
use Rattle.git_objects.specs.Paths.{Bytes}
use Rattle.git_objects.specs.declared.limits.TheConstants.{FILTER_BYTES}
use Rattle.filter_text.specs.Filters.{Filter}
use Rattle.filter_text.specs.Limits.{read, too_deep}
use Rattle.filter_text.specs.Printing.{printed}
use Rattle.filter_routes.specs.SoundTests.{is_sound}
use Rattle.state_items.specs.Items.{is_canonical}

-- a filter that a text is the canonical one of
pub record IsCanonicalOf (t : Bytes) (f : Filter) : Type 0 where
  pub was_read : read t ≡ Ok f
  pub was_printed : printed f ≡ t
  pub sound : is_sound f ≡ true
  pub short : length t < 2 ^ 16

-- A canonical text is that of a filter; and the text that a sound filter is printed as is canonical, where it is within
-- the limits of texts.
pub record CanonicalLaw : Type 0 where
  pub of_text : (t : Bytes) → is_canonical t ≡ true → (f : Filter) × IsCanonicalOf t f
  pub of_filter : (t : Bytes) (f : Filter) → read t ≡ Ok f → is_sound f ≡ true → length (printed f) ≤ FILTER_BYTES
      → too_deep (printed f) ≡ false → is_canonical (printed f) ≡ true
