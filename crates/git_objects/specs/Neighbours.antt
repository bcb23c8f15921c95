-- The order of a tree's entries, told from neighbours.
use Rattle.std.specs.Prelude.{Bool, true, not, ◌&&◌, ◌||◌, List, [], ◌∷◌, ◌++◌, length, Option}
use Rattle.std.specs.Ordering.{nat_cmp, is_lt}
use Rattle.std.specs.Cmp.Lexicographic.{slice_cmp}
use Rattle.git_objects.specs.Paths.{Bytes, same_bytes, is_component}
use Rattle.git_objects.specs.Entries.{dir_key, git_cmp, entry_component, entry_dir}
use Rattle.git_objects.specs.Bodies.{entries_within}
use Rattle.git_objects.specs.declared.entry.Entry.{Entry}

-- the entries that bytes spell, in whatever order
abbrev pub spelled_entries : Bytes → Option (List Entry)
spelled_entries b = entries_within (length b) b

-- whether an entry stands before a directory of component c
abbrev pub before_dir : Bytes → Entry → Bool
before_dir c e = is_lt (slice_cmp nat_cmp (dir_key e.component (entry_dir e)) (c ++ 47 ∷ []))

-- whether no entry, up to the place of a directory of component c, has that component
abbrev pub is_alone : Bytes → List Entry → Bool
is_alone c [] = true
is_alone c (b ∷ bs) = not (same_bytes c b.component) && (not (before_dir c b) || is_alone c bs)

-- whether an entry stands before the next, and as a file before no directory of its component
abbrev pub fits_before : Entry → List Entry → Bool
fits_before a [] = true
fits_before a (b ∷ bs) = is_lt (git_cmp entry_component entry_dir a b) && (entry_dir a || is_alone a.component (b ∷ bs))

abbrev pub stands : Entry → List Entry → Bool
stands a es = is_component a.component && fits_before a es

abbrev pub in_order : List Entry → Bool
in_order [] = true
in_order (a ∷ es) = stands a es && in_order es
