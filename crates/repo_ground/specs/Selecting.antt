-- The map of one filter in the ground's place.
use Rattle.std.specs.Prelude.{◌≡◌, ◌⊎◌, [], length, None, Some}
use Rattle.git_objects.specs.Paths.{Bytes}
use Rattle.commit_map.specs.Rules.{rule_number}
use Rattle.commit_map.specs.Shown.{kept_at}
use Rattle.state_items.specs.Items.{Held}
use Rattle.state_items.specs.KeptMaps.{entries_for}
use Rattle.repo_ground.specs.Contents.{Contents, Spells}

-- nothing but the maps has changed
abbrev pub with_maps : Contents → Contents → Contents
with_maps before after = record before {
  basis = record before.basis { map = after.basis.map };
  maps = after.maps;
  selected = after.selected;
  kept = after.kept;
}

-- The filter of that text is selected under the ground's rule. Its map has of each commit what items hold, and nothing else, unless it
-- was selected already: then nothing has changed.
pub record IsSelected (text : Bytes) (before after : Contents) : Type 0 where
  pub selected : after.selected ≡ Some (text, rule_number before.basis.rule)
  pub same : after ≡ with_maps before after
  pub spells : (h : Held) → Spells h before → Spells h after
  pub map : (after ≡ before) ⊎ ((h : Held) (n : Bytes) → Spells h before → kept_at n after.basis.map ≡ kept_at n (entries_for text h.rule h.kept))
  pub held : (after ≡ before) ⊎ (after.kept ≡ length after.basis.map)

-- No filter is selected, and the ground's map has nothing. What items hold is as it was, and nothing but the maps has changed.
pub record IsPutAway (before after : Contents) : Type 0 where
  pub none : after.selected ≡ None
  pub empty : after.basis.map ≡ []
  pub same : after ≡ with_maps before after
  pub spells : (h : Held) → Spells h before → Spells h after
