-- Options that have something.
use Rattle.std.proofs.Common.{◌≡◌, ◌⊎◌, inl, inr, true, Option, Some, None, refl, sym, true≢false}
use Rattle.std.specs.Prelude.{is_some}
use Rattle.std.specs.Option.{option_or}
use Rattle.git_objects.specs.Trees.{Leaf}

pub some-of : {A : Type 0} (o : Option A) → is_some o ≡ true → (x : A) × (o ≡ Some x)
some-of None e = absurd (true≢false (sym e))
some-of (Some x) e = (x, refl)

pub some-or : (x y : Option Leaf) → is_some (option_or x y) ≡ true → (is_some x ≡ true) ⊎ (is_some y ≡ true)
some-or None y e = inr e
some-or (Some x) y e = inl refl

pub or-left : (x y : Option Leaf) → is_some x ≡ true → is_some (option_or x y) ≡ true
or-left None y e = absurd (true≢false (sym e))
or-left (Some x) y e = refl

pub or-right : (x y : Option Leaf) → is_some y ≡ true → is_some (option_or x y) ≡ true
or-right None y e = e
or-right (Some x) y e = refl
