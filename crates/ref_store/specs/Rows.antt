-- Worked examples.
use Rattle.std.specs.Prelude.{◌≡◌, List, [], ◌∷◌, Some, None, refl, codes}
use Rattle.git_objects.specs.Paths.{Bytes}
use Rattle.ref_store.specs.Refs.{head_of, with_head}

abbrev main : Bytes
main = codes "refs/heads/main"

abbrev next : Bytes
next = codes "refs/heads/next"

abbrev refs : List (Bytes × Bytes)
refs = (main, 1 ∷ []) ∷ (next, 2 ∷ []) ∷ []

pub the_head_of_main : head_of refs main ≡ Some (1 ∷ [])
the_head_of_main = refl

pub the_head_of_next : head_of refs next ≡ Some (2 ∷ [])
the_head_of_next = refl

pub no_such_ref : head_of refs (codes "refs/heads/mai") ≡ None
no_such_ref = refl

pub set_in_its_place : with_head refs main (3 ∷ []) ≡ (main, 3 ∷ []) ∷ (next, 2 ∷ []) ∷ []
set_in_its_place = refl

pub a_new_ref_behind_all : with_head refs (codes "refs/tags/v1") (3 ∷ []) ≡ (main, 1 ∷ []) ∷ (next, 2 ∷ []) ∷ (codes "refs/tags/v1", 3 ∷ []) ∷ []
a_new_ref_behind_all = refl

pub the_first_ref : with_head [] main (3 ∷ []) ≡ (main, 3 ∷ []) ∷ []
the_first_ref = refl
