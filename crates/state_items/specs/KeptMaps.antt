-- Kept projections by a filter's text and a rule, as maps have them and as what is held has them.
use Rattle.std.specs.Prelude.{◌≡◌, ℕ, Bool, true, ◌&&◌, ◌==◌, List, [], ◌∷◌, map, filter, if◌then◌else◌, Option, Some, None}
use Rattle.std.specs.Option.{unwrap_or}
use Rattle.git_objects.specs.Paths.{Bytes, same_bytes}
use Rattle.commit_map.specs.Shown.{Entries}
use Rattle.state_items.specs.Items.{Kept, is_rule}

-- a map for each text, in order of arrival
abbrev pub TextMaps : Type 0
TextMaps = List (Bytes × Entries)

-- those of rule 1 and those of rule 2
pub record RuleMaps : Type 0 where
  pub first : TextMaps
  pub second : TextMaps

abbrev pub no_maps : RuleMaps
no_maps = record { first = []; second = [] }

-- the map of that text
abbrev pub map_of : Bytes → TextMaps → Option Entries
map_of text [] = None
map_of text (m ∷ ms) = if same_bytes text m.0 then Some m.1 else map_of text ms

abbrev pub maps_by : ℕ → RuleMaps → TextMaps
maps_by rule maps = if rule == 1 then maps.first else maps.second

-- what is kept for a text and a rule, in order of arrival
abbrev pub entries_at : ℕ → Bytes → RuleMaps → Entries
entries_at rule text maps = unwrap_or (map_of text (maps_by rule maps)) []

-- with that map in the place of the text's old one, or behind all
abbrev pub with_map : TextMaps → Bytes → Entries → TextMaps
with_map [] text es = (text, es) ∷ []
with_map (m ∷ ms) text es = if same_bytes text m.0 then (m.0, es) ∷ ms else m ∷ with_map ms text es

abbrev pub with_map_by : ℕ → RuleMaps → Bytes → Entries → RuleMaps
with_map_by rule maps text es =
    if rule == 1 then record { first = with_map maps.first text es; second = maps.second }
    else record { first = maps.first; second = with_map maps.second text es }

-- the code's maps as pairs
abbrev pub text_maps : {K : Type 0} → (K → Bytes) → List (K × Entries) → TextMaps
text_maps text ms = map (λ m. (text m.0, m.1)) ms

-- ---- what is held

abbrev pub is_for : Bytes → ℕ → Kept → Bool
is_for text rule e = same_bytes e.filter text && e.rule == rule

-- the originals of what is held for a text and a rule, with their projections
abbrev pub entries_for : Bytes → ℕ → List Kept → Entries
entries_for text rule kept = map (λ e. (e.original, e.result)) (filter (is_for text rule) kept)

-- the maps have for each text and rule what is held
abbrev pub AreKept : RuleMaps → List Kept → Type 0
AreKept maps kept = (text : Bytes) (rule : ℕ) → is_rule rule ≡ true → entries_at rule text maps ≡ entries_for text rule kept
