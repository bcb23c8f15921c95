-- Words that are names, word by word.
use Rattle.std.proofs.Common.{◌≡◌, ◌+◌, ℕ, List, [], ◌∷◌, ◌++◌, map, drop, append_assoc, append-nil, Option, None, Some, refl, sym, ap, ◌∙◌}
use Rattle.std.specs.Option.{is_some, option_and_then, option_map}
use Rattle.git_objects.specs.CommitBodies.{digits_name}
use Rattle.git_objects.specs.Paths.{Bytes}
use Rattle.read_cli.specs.Readings.{names_of}

map-options : {A B C : Type 0} (f : A → B) (g : B → C) (o : Option A) → option_map g (option_map f o) ≡ option_map (λ x. g (f x)) o
map-options f g None = refl
map-options f g (Some x) = refl

none-and : {A B : Type 0} (f : A → Option B) (o : Option A) → o ≡ None → option_and_then f o ≡ None
none-and f o e = ap (option_and_then f) e

same-some : {A B : Type 0} (f : A → B) (o : Option A) → is_some (option_map f o) ≡ is_some o
same-some f None = refl
same-some f (Some x) = refl

-- of words from a place on, of which the first is x
module _ {A : Type 0} (f : A → Bytes) (xs : List A) (i : ℕ) (x : A) (split : drop i xs ≡ x ∷ drop (i + 1) xs) where
  abbrev later : Option (List Bytes)
  later = names_of (map f (drop (i + 1) xs))

  here : names_of (map f (drop i xs)) ≡ option_and_then (λ n. option_map (λ ns. n ∷ ns) later) (digits_name (f x))
  here = ap (λ ys. names_of (map f ys)) split

  one : (n : Bytes) → digits_name (f x) ≡ Some n → names_of (map f (drop i xs)) ≡ option_map (λ ns. n ∷ ns) later
  one n e = here ∙ ap (option_and_then (λ n. option_map (λ ns. n ∷ ns) later)) e

  pub none-here : digits_name (f x) ≡ None → names_of (map f (drop i xs)) ≡ None
  none-here e = here ∙ none-and (λ n. option_map (λ ns. n ∷ ns) later) (digits_name (f x)) e

  pub some-later : (n : Bytes) → digits_name (f x) ≡ Some n → is_some (names_of (map f (drop i xs))) ≡ is_some later
  some-later n e = ap is_some (one n e) ∙ same-some (λ ns. n ∷ ns) later

  -- with those that were found before
  pub found-later : (ms : List Bytes) (n : Bytes) → digits_name (f x) ≡ Some n → option_map (λ ns. ms ++ ns) (names_of (map f (drop i xs))) ≡ option_map (λ ns. (ms ++ n ∷ []) ++ ns) later
  found-later ms n e =
      ap (option_map (λ ns. ms ++ ns)) (one n e)
      ∙ map-options (λ ns. n ∷ ns) (λ ns. ms ++ ns) later
      ∙ ap (λ (g : List Bytes → List Bytes). option_map g later) (λ i ns. sym (append_assoc ms (n ∷ []) ns) i)

pub found-first : (o : Option (List Bytes)) → o ≡ option_map (λ ns. [] ++ ns) o
found-first None = refl
found-first (Some ns) = refl

pub found-last : (ms : List Bytes) → option_map (λ ns. ms ++ ns) (Some []) ≡ Some ms
found-last ms = ap Some (append-nil ms)
