-- What a stop may leave, as time goes on.
use Rattle.std.specs.Prelude.{◌≡◌, ◌≤◌, ◌⊎◌, ◌++◌, [], ◌∷◌, ℕ, List, None, Some, ⊤}
use Rattle.std.specs.declared.option.Option.{Option}
use Rattle.std.proofs.Common.{inl, inr, ⊎_elim, arith}

-- Time goes on: what a stop since t may leave is what it might have left before, or it is of this kind. X is what is left: the
-- bytes of a disk, or the list of items of a keeper.
pub record OnlyAdds {X : Type 0} (before now : ℕ) (past since : ℕ → X → Type 0) (Kind : X → Type 0) : Type 0 where
  pub later : before ≤ now
  pub each : (t : ℕ) (left : X) → t ≤ before → since t left → past t left ⊎ Kind left

-- of no kind: nothing is added
abbrev pub Nothing : {X : Type 0} → X → Type 0
Nothing left = ⊥

-- what a stop may leave, of a keeper that doesn't tell it
abbrev pub Untold : ℕ → List (List ℕ) → Type 0
Untold t list = ⊥

-- the known items as they are
abbrev pub IsPresent : Option (List (List ℕ)) → List (List ℕ) → Type 0
IsPresent None list = ⊤
IsPresent (Some all) list = list ≡ all

-- the known items without an item behind them or with it
abbrev pub IsBeforeOrAfter : Option (List (List ℕ)) → List ℕ → List (List ℕ) → Type 0
IsBeforeOrAfter None item list = ⊤
IsBeforeOrAfter (Some all) item list = (list ≡ all) ⊎ (list ≡ all ++ item ∷ [])

-- one call after another
pub adds_on : {X : Type 0} (a b c : ℕ) (x y z : ℕ → X → Type 0) (Kind : X → Type 0)
    → OnlyAdds a b x y Kind → OnlyAdds b c y z Kind → OnlyAdds a c x z Kind
adds_on a b c x y z Kind first second = record {
  later = omega (arith, first.later, second.later);
  each = λ t left le since. ⊎_elim (λ was. first.each t left le was) (λ new. inr new)
      (second.each t left (omega (arith, le, first.later)) since);
}

-- what is of one kind is of another
pub adds_as : {X : Type 0} (a b : ℕ) (x y : ℕ → X → Type 0) (Kind Other : X → Type 0)
    → ((left : X) → Kind left → Other left) → OnlyAdds a b x y Kind → OnlyAdds a b x y Other
adds_as a b x y Kind Other is first = record {
  later = first.later;
  each = λ t left le since. ⊎_elim (λ was. inl was) (λ new. inr (is left new)) (first.each t left le since);
}
