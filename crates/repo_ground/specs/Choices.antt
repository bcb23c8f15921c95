-- The maps of filters, of which one may be elsewhere: that of the filter that is selected.
use Rattle.std.specs.Prelude.{◌≡◌, ⊤, ℕ, [], take, if◌then◌else◌, IsSome, Option, None, Some}
use Rattle.std.specs.Option.{is_some, unwrap_or}
use Rattle.git_objects.specs.Paths.{Bytes}
use Rattle.commit_map.specs.Rules.{rule_number}
use Rattle.commit_map.specs.Shown.{Entries, kept_at}
use Rattle.state_items.specs.KeptMaps.{RuleMaps, entries_at, map_of, maps_by, with_map_by}
use Rattle.repo_ground.specs.Contents.{is_selected}
use Rattle.repo_ground.specs.declared.filter_maps.Choice.{Choice}
use Rattle.repo_ground.specs.declared.filter_maps.Choice.TheVariants.{Free, Chosen, Resting}

-- kept maps, and the text and the rule of the filter that is selected, whose map is elsewhere
pub record Selection : Type 0 where
  pub maps : RuleMaps
  pub selected : Option (Bytes × ℕ)

-- the entries of a text and a rule, where the map of the filter that is selected has these
abbrev pub entries_beside : Selection → Entries → Bytes → ℕ → Entries
entries_beside s es text rule = if is_selected s.selected text rule then es else entries_at rule text s.maps

-- ---- the code's choice

abbrev pub selected_in : Choice → Option (Bytes × ℕ)
selected_in Free = None
selected_in (Chosen f) = Some (f.text.items, rule_number f.rule)
selected_in (Resting r) = None

-- the kept maps, among which a map that rests counts
abbrev pub maps_in : RuleMaps → Choice → RuleMaps
maps_in maps Free = maps
maps_in maps (Chosen f) = maps
maps_in maps (Resting r) = with_map_by (rule_number r.filter.rule) maps r.filter.text.items (take r.kept r.map)

-- there is a map for that text and rule
abbrev pub HasMap : ℕ → Bytes → RuleMaps → Type 0
HasMap rule text maps = IsSome (map_of text (maps_by rule maps))

-- the filter whose map is elsewhere has a place among the kept maps
abbrev pub HasPlace : RuleMaps → Choice → Type 0
HasPlace maps Free = ⊤
HasPlace maps (Chosen f) = HasMap (rule_number f.rule) f.text.items maps
HasPlace maps (Resting r) = HasMap (rule_number r.filter.rule) r.filter.text.items maps

-- the maps with a place for that text and rule
abbrev pub with_place : ℕ → Bytes → RuleMaps → RuleMaps
with_place rule text maps = if is_some (map_of text (maps_by rule maps)) then maps else with_map_by rule maps text []

-- the choice where its filter isn't selected any more: its map is this one, whose first entries, so many as are kept, items hold
abbrev pub rested : Choice → Entries → ℕ → Choice
rested Free map kept = Free
rested (Chosen f) map kept = Resting (record { filter = f; map = map; kept = kept })
rested (Resting r) map kept = Resting r

-- a map that rests, or a spare one in its stead, has of each commit what its kept entries have, and nothing else
abbrev pub IsSpare : Choice → Option Entries → Type 0
IsSpare Free spare = ⊤
IsSpare (Chosen f) spare = ⊤
IsSpare (Resting r) spare = (n : Bytes) → kept_at n (unwrap_or spare r.map) ≡ kept_at n (take r.kept r.map)
