-- A fact of each member of a list.
use Rattle.std.specs.Prelude.{List, [], ◌∷◌}

-- by recursion on the list, so that it computes on a list that is written out
abbrev pub Each : {A : Type 0} → (A → Type 0) → List A → Type 0
Each P [] = Unit
Each P (x ∷ xs) = P x × Each P xs
