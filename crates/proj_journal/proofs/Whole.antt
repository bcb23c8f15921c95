-- An image that stands for few lists isn't broken.
use Rattle.std.proofs.Common.{◌≡◌, ◌++◌, [], ◌∷◌, ℕ, List, length, take, Result, Ok, Err, refl, ap, arith, length-append}
use Rattle.std.specs.Prelude.{MatchResult, ⊤}
use Rattle.std.proofs.lemmas.List.{length-take}
use Rattle.proj_journal.specs.Spelling.{list_in}

pub whole_reading : (r : Result (List (List ℕ)) ℕ) (all added : List (List ℕ))
    → ((list : List (List ℕ)) → MatchResult r (λ items. items ≡ list) (λ _. ⊤) → (n : ℕ) × (list ≡ all ++ take n added))
    → (r ≡ Ok (list_in r)) × ((n : ℕ) × (list_in r ≡ all ++ take n added))
whole_reading (Ok items) all added stands = (refl, stands items refl)
whole_reading (Err place) all added stands =
    let list : List (List ℕ) = (all ++ added) ++ [] ∷ [] in
    let found = stands list tt in
    absurd (omega (arith, ap length found.1, length-append (all ++ added) ([] ∷ []), length-append all added, length-append all (take found.0 added), length-take found.0 added))
