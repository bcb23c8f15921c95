-- What calls do to a keeper, of which the ghost members are given.
use Rattle.std.specs.Prelude.{◌≡◌, ◌↔◌, ℕ, List}
use Rattle.std.specs.declared.option.Option.{Option}
use Rattle.proj_io.specs.Counts.{Counts}
use Rattle.proj_io.specs.Items.{Stays}
use Rattle.proj_io.specs.Stops.{OnlyAdds, Nothing}

-- It was only read: it has the items that it had, a further call may be made, and a stop leaves nothing that it wouldn't have left
-- before.
pub record IsOnlyRead {K : Type 0} (items_of : K → Option (List (List ℕ))) (number_of : K → ℕ) (opens tells : K → Type 0) (moment : K → ℕ) (left_since : K → ℕ → List (List ℕ) → Type 0) (before after : K) : Type 0 where
  pub number : number_of after ≡ number_of before
  pub items : Stays (items_of before) (items_of after)
  pub is_open : opens after
  pub told : tells after ↔ tells before
  pub stops : OnlyAdds (moment before) (moment after) (left_since before) (left_since after) Nothing

-- Unless it has failed, a further call may be made. It tells its items where it told them, and it counts its faults.
pub record IsUsed {K : Type 0} (faults : K → ℕ) (opens tells : K → Type 0) (before after : K) (HasFailed : Type 0) : Type 0 where
  pub is_open : (HasFailed → ⊥) → opens after
  pub told : tells after ↔ tells before
  pub cause : Counts (faults before) (faults after) HasFailed
