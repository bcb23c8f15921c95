-- A map of kept projections that is filled by a walk.
use Rattle.std.specs.Prelude.{◌≡◌, ℕ, ◌+◌, true, if◌then◌else◌, [], ◌∷◌, ◌++◌, None, is_some}
use Rattle.git_objects.specs.Paths.{Bytes}
use Rattle.git_objects.specs.Lists.{Each}
use Rattle.git_objects.specs.Trees.{Flat}
use Rattle.git_objects.specs.Snapshots.{Graph, snapshot_name, has, ancestors}
use Rattle.commit_map.specs.Shown.{Entries, kept_at}
use Rattle.commit_map.specs.declared.rule.Rule.{Rule}
use Rattle.projection_laws.specs.Projections.{projection_by}

-- so much for each of the commits that the map lacks
abbrev pub weighing : ℕ → Entries → Graph → ℕ
weighing w es [] = 0
weighing w es (c ∷ cs) = (if is_some (kept_at (snapshot_name c) es) then 0 else w) + weighing w es cs

-- how many of the commits the map lacks
abbrev pub lacking : Entries → Graph → ℕ
lacking es cs = weighing 1 es cs

-- The old entries, and behind them one for each of some of the commits that the old ones lack, of that commit and its
-- ancestors: what it is projected to with the old entries kept.
pub record IsFilled (k : Rule) (shown : Flat → Flat) (g : Graph) (head : Bytes) (old new : Entries) : Type 0 where
  pub added : Entries
  pub behind : old ++ added ≡ new
  pub among : Each (λ e. has (ancestors g head) e.0 ≡ true) added
  pub lacked : Each (λ e. kept_at e.0 old ≡ None) added
  pub values : Each (λ e. e.1 ≡ projection_by k shown old g e.0) added
