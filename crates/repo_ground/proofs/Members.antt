-- Names in order of arrival, looked up from the newest on.
use Rattle.std.proofs.Common.{◌≡◌, ◌||◌, Bool, true, false, List, [], ◌∷◌, map, reverse, refl, ◌∙◌}
use Rattle.std.specs.List.{list_any}
use mathlib.Core.List.{reverse_aux}
use Rattle.git_objects.specs.Paths.{Bytes}
use Rattle.state_items.proofs.Naming.{any-map}

swapped : (a b c : Bool) → (b || (a || c)) ≡ ((a || b) || c)
swapped true true c = refl
swapped true false c = refl
swapped false true c = refl
swapped false false c = refl

any-onto : {A : Type 0} (p : A → Bool) (xs ys : List A) → list_any p (reverse_aux xs ys) ≡ (list_any p xs || list_any p ys)
any-onto p [] ys = refl
any-onto p (x ∷ xs) ys = any-onto p xs (x ∷ ys) ∙ swapped (p x) (list_any p xs) (list_any p ys)

or-none : (a : Bool) → (a || false) ≡ a
or-none true = refl
or-none false = refl

pub any-back : {A : Type 0} (p : A → Bool) (xs : List A) → list_any p (reverse xs) ≡ list_any p xs
any-back p xs = any-onto p xs [] ∙ or-none (list_any p xs)

pub known-back : {A : Type 0} (p : Bytes → Bool) (f : A → Bytes) (xs : List A) → list_any p (reverse (map f xs)) ≡ list_any (λ x. p (f x)) xs
known-back p f xs = any-back p (map f xs) ∙ any-map p f xs
