-- What a stop may leave of a keeper that isn't called, or only read.
use Rattle.std.proofs.Common.{◌∙◌, refl, inl, ℕ, List, arith}
use Rattle.std.specs.declared.option.Option.{Option}
use Rattle.proj_io.specs.Stops.{Nothing, OnlyAdds, adds_on}
use Rattle.proj_io.specs.Uses.{IsOnlyRead}
use Rattle.repo_ground.proofs.ItemRuns.{stays-self, stays-on}

-- no call was made
pub adds_none : {X : Type 0} (now : ℕ) (since : ℕ → X → Type 0) (Kind : X → Type 0) → OnlyAdds now now since since Kind
adds_none now since Kind = record { later = omega arith; each = λ t left le was. inl was }

pub read-none : {K : Type 0} (items_of : K → Option (List (List ℕ))) (number_of : K → ℕ) (opens tells : K → Type 0) (moment : K → ℕ) (left_since : K → ℕ → List (List ℕ) → Type 0) (k : K) → opens k
    → IsOnlyRead items_of number_of opens tells moment left_since k k
read-none items_of number_of opens tells moment left_since k may = record {
  number = refl;
  items = stays-self (items_of k);
  is_open = may;
  told = (λ t. t, λ t. t);
  stops = adds_none (moment k) (left_since k) Nothing;
}

-- one reading after another
pub read-on : {K : Type 0} (items_of : K → Option (List (List ℕ))) (number_of : K → ℕ) (opens tells : K → Type 0) (moment : K → ℕ) (left_since : K → ℕ → List (List ℕ) → Type 0) (a b d : K)
    → IsOnlyRead items_of number_of opens tells moment left_since a b → IsOnlyRead items_of number_of opens tells moment left_since b d → IsOnlyRead items_of number_of opens tells moment left_since a d
read-on items_of number_of opens tells moment left_since a b d first second = record {
  number = second.number ∙ first.number;
  items = stays-on (items_of a) (items_of b) (items_of d) first.items second.items;
  is_open = second.is_open;
  told = (λ t. first.told.0 (second.told.0 t), λ t. second.told.1 (first.told.1 t));
  stops = adds_on _ _ _ _ _ _ Nothing first.stops second.stops;
}
