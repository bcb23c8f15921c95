-- Worked examples.
use Rattle.std.specs.Prelude.{◌≡◌, List, [], ◌∷◌, Some, None, refl}
use Rattle.git_objects.specs.Paths.{Bytes}
use Rattle.filter_cache.specs.Memos.{Key, JoinKey, same_key, same_join, found, used, entered}

abbrev tree : Bytes
tree = 1 ∷ []

abbrev other : Bytes
other = 2 ∷ []

-- ---- of parts of tables

-- of the whole of two tables, and of the first entry of one
abbrev entries : List (Key × Bytes)
entries = (((0, 0), tree), 10 ∷ []) ∷ (((1, 0), tree), 11 ∷ []) ∷ (((0, 1), other), 12 ∷ []) ∷ []

pub of_one_table : found same_key ((1, 0), tree) entries ≡ Some (11 ∷ [])
of_one_table = refl

pub of_no_table : found same_key ((2, 0), tree) entries ≡ None
of_no_table = refl

pub of_one_part : found same_key ((0, 1), other) entries ≡ Some (12 ∷ [])
of_one_part = refl

pub of_no_part : found same_key ((0, 1), tree) entries ≡ None
of_no_part = refl

pub what_was_found_comes_first : used same_key ((1, 0), tree) entries ≡ (((1, 0), tree), 11 ∷ []) ∷ (((0, 0), tree), 10 ∷ []) ∷ (((0, 1), other), 12 ∷ []) ∷ []
what_was_found_comes_first = refl

pub nothing_is_used : used same_key ((1, 0), other) entries ≡ entries
nothing_is_used = refl

pub where_there_is_room : entered same_key 4 ((1, 0), other) (13 ∷ []) entries ≡ (((1, 0), other), 13 ∷ []) ∷ entries
where_there_is_room = refl

pub the_least_used_is_dropped : entered same_key 3 ((1, 0), other) (13 ∷ []) entries ≡ (((1, 0), other), 13 ∷ []) ∷ (((0, 0), tree), 10 ∷ []) ∷ (((1, 0), tree), 11 ∷ []) ∷ []
the_least_used_is_dropped = refl

pub in_the_place_of_its_key : entered same_key 3 ((1, 0), tree) (13 ∷ []) entries ≡ (((1, 0), tree), 13 ∷ []) ∷ (((0, 0), tree), 10 ∷ []) ∷ (((0, 1), other), 12 ∷ []) ∷ []
in_the_place_of_its_key = refl

pub for_one_entry : entered same_key 1 ((1, 0), other) (13 ∷ []) entries ≡ (((1, 0), other), 13 ∷ []) ∷ []
for_one_entry = refl

-- ---- of joins

abbrev joins : List (JoinKey × Bytes)
joins = ((tree, other), 20 ∷ []) ∷ ((other, tree), 21 ∷ []) ∷ []

-- the order of the two trees counts
pub of_two_trees : found same_join (other, tree) joins ≡ Some (21 ∷ [])
of_two_trees = refl

pub of_no_join : found same_join (tree, tree) joins ≡ None
of_no_join = refl

pub in_the_place_of_its_trees : entered same_join 2 (other, tree) (22 ∷ []) joins ≡ ((other, tree), 22 ∷ []) ∷ ((tree, other), 20 ∷ []) ∷ []
in_the_place_of_its_trees = refl
