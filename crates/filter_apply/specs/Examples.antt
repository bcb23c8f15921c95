-- Worked examples.
use Rattle.std.specs.Prelude.{◌≡◌, refl, true, false, List, [], ◌∷◌, codes, Some, None}
use Rattle.git_objects.specs.Paths.{Bytes}
use Rattle.git_objects.specs.Trees.{Leaf, FileLeaf, Flat, standing}
use Rattle.decision_lists.specs.Entries.{Entry, at, below}
use Rattle.filter_text.specs.Filters.{exclude, join, chain, sub, onto, dir, no_more, more}
use Rattle.filter_apply.specs.Parts.{decides, rests_of, part_of, routed}
use Rattle.filter_apply.specs.Hands.{parts_in}

abbrev a : Bytes
a = codes "a"

abbrev b : Bytes
b = codes "b"

abbrev c : Bytes
c = codes "c"

abbrev d : Bytes
d = codes "d"

abbrev e : Bytes
e = codes "e"

abbrev x : Bytes
x = codes "x"

abbrev leaf : Leaf
leaf = FileLeaf (codes "1")

abbrev other : Leaf
other = FileLeaf (codes "2")

-- a/c, b/c, b/d/e and e
abbrev tree : Flat
tree = (a ∷ c ∷ [], leaf) ∷ (b ∷ c ∷ [], other) ∷ (b ∷ d ∷ e ∷ [], leaf) ∷ (e ∷ [], other) ∷ []

-- ---- what stands at a path

pub below_a_directory : rests_of (standing tree (b ∷ [])) ≡ (c ∷ [], other) ∷ (d ∷ e ∷ [], leaf) ∷ []
below_a_directory = refl

pub at_a_leaf : rests_of (standing tree (b ∷ c ∷ [])) ≡ ([], other) ∷ []
at_a_leaf = refl

pub at_the_root : rests_of (standing tree []) ≡ tree
at_the_root = refl

-- ---- one entry

pub of_a_directory : part_of ((below (a ∷ []), Some []) ∷ []) 0 (a ∷ []) tree ≡ (c ∷ [], leaf) ∷ []
of_a_directory = refl

pub no_leaf_for_a_directory : part_of ((below (e ∷ []), Some []) ∷ []) 0 (e ∷ []) tree ≡ []
no_leaf_for_a_directory = refl

pub of_a_file : part_of ((at (e ∷ []), Some (e ∷ [])) ∷ []) 0 (e ∷ []) tree ≡ ([], other) ∷ []
of_a_file = refl

pub no_directory_for_a_file : part_of ((at (a ∷ []), Some (a ∷ [])) ∷ []) 0 (a ∷ []) tree ≡ []
no_directory_for_a_file = refl

-- ---- what earlier entries take

-- all but what lies below a, and e
abbrev rest : List Entry
rest = (below (a ∷ []), None) ∷ (at (e ∷ []), None) ∷ (below [], Some []) ∷ []

pub an_earlier_entry_decides : decides rest 0 (a ∷ c ∷ []) ≡ true
an_earlier_entry_decides = refl

pub and_no_later_one : decides rest 2 (a ∷ c ∷ []) ≡ false
and_no_later_one = refl

pub the_last_entry_decides : decides rest 2 (b ∷ c ∷ []) ≡ true
the_last_entry_decides = refl

-- the file a itself doesn't lie below a
pub a_file_of_that_name : decides rest 2 (a ∷ []) ≡ true
a_file_of_that_name = refl

pub what_is_left : part_of rest 2 [] tree ≡ (b ∷ c ∷ [], other) ∷ (b ∷ d ∷ e ∷ [], leaf) ∷ []
what_is_left = refl

-- what lies below b and not below b/d, put below x
abbrev moved : List Entry
moved = (below (b ∷ d ∷ []), None) ∷ (below (b ∷ []), Some (x ∷ [])) ∷ []

pub without_what_lies_deeper : part_of moved 1 (b ∷ []) tree ≡ (c ∷ [], other) ∷ []
without_what_lies_deeper = refl

-- the same of a tree that is shown, where the rests stand behind the target
pub of_what_is_shown : part_of moved 1 (x ∷ []) ((x ∷ c ∷ [], leaf) ∷ (x ∷ d ∷ e ∷ [], other) ∷ []) ≡ (c ∷ [], leaf) ∷ []
of_what_is_shown = refl

-- ---- what one entry shows where something stands at its base

-- what stands at b, without what lies below b/d, is shown below x
pub shown_at_its_target : routed moved 1 ((c ∷ [], other) ∷ (d ∷ e ∷ [], leaf) ∷ []) ≡ (x ∷ c ∷ [], other) ∷ []
shown_at_its_target = refl

pub all_of_it_is_taken : routed moved 1 ((d ∷ e ∷ [], leaf) ∷ []) ≡ []
all_of_it_is_taken = refl

pub without_a_target : routed moved 0 ((e ∷ [], leaf) ∷ []) ≡ []
without_a_target = refl

pub no_such_entry : routed moved 2 tree ≡ []
no_such_entry = refl

-- ---- components of filters

pub of_pieces : parts_in (chain (more (sub (a ∷ b ∷ [])) (more (join (more (onto (x ∷ [])) (more (exclude (dir (c ∷ []))) no_more))) no_more))) ≡ a ∷ b ∷ x ∷ c ∷ []
of_pieces = refl
