-- One mark more.
use Rattle.std.proofs.Common.{◌≡◌, ℕ, List, [], ◌∷◌, ◌++◌, None, ap, ◌∙◌}
use Rattle.std.specs.Map.{lookup}
use Rattle.git_objects.specs.declared.name.Name.{Name}
use Rattle.indexmap.specs.IndexMap.{IndexMap, insert_entry}
use Rattle.indexmap.proofs.CallerLemmas.{insert_entry-new}
use Rattle.fast_export.specs.Given.{is_named}

-- a new name goes last
pub entry_added : {S : Type 0} (m : IndexMap Name ℕ S) (old es : List (Name × ℕ)) (n : Name) (k l : ℕ) → m.entries ≡ old → lookup (is_named n) old ≡ None → k ≡ l
    → es ≡ insert_entry is_named m.entries n k → es ≡ old ++ (n, l) ∷ []
entry_added m old es n k l same none number e =
    e ∙ insert_entry-new is_named m n k (ap (lookup (is_named n)) same ∙ none) ∙ (λ i. same i ++ (n, number i) ∷ [])
