-- The entries of one tree's body, and Git's order of them.
use Rattle.std.specs.Prelude.{◌≡◌, Bool, true, false, List, [], ◌∷◌, ◌++◌}
use Rattle.std.specs.List.{flat_map}
use Rattle.std.specs.declared.cmp.Ordering.{Ordering}
use Rattle.std.specs.declared.cmp.Ordering.TheVariants.{Less}
use Rattle.std.specs.Ordering.{nat_cmp}
use Rattle.std.specs.Cmp.Lexicographic.{slice_cmp}
use Rattle.git_objects.specs.Paths.{Bytes, same_bytes, is_component}
use Rattle.git_objects.specs.Names.{line}
use Rattle.git_objects.specs.declared.mode.Mode.{Mode}
use Rattle.git_objects.specs.declared.mode.Mode.TheVariants.{File, Exec, Link, Module, Dir}
use Rattle.git_objects.specs.declared.entry.Entry.{Entry}

abbrev pub is_dir : Mode → Bool
is_dir Dir = true
is_dir File = false
is_dir Exec = false
is_dir Link = false
is_dir Module = false

-- a directory is compared as if its component ended in `/`
abbrev pub dir_key : Bytes → Bool → Bytes
dir_key c true = c ++ 47 ∷ []
dir_key c false = c

-- over entries with their components, and whether each is a directory
module _ {A : Type 0} (comp : A → Bytes) (dir : A → Bool) where
  abbrev pub git_cmp : A → A → Ordering
  git_cmp a b = slice_cmp nat_cmp (dir_key (comp a) (dir a)) (dir_key (comp b) (dir b))

  -- a stands before each of the others, and none has its component
  abbrev pub Before : A → List A → Type 0
  Before a [] = Unit
  Before a (b ∷ bs) = (git_cmp a b ≡ Less) × (same_bytes (comp a) (comp b) ≡ false) × Before a bs

  -- valid components, in Git's order, distinct
  abbrev pub IsListing : List A → Type 0
  IsListing [] = Unit
  IsListing (a ∷ es) = (is_component (comp a) ≡ true) × Before a es × IsListing es

abbrev pub entry_component : Entry → Bytes
entry_component e = e.component

abbrev pub entry_dir : Entry → Bool
entry_dir e = is_dir e.mode

-- the entries of a tree's body
abbrev pub AreEntries : List Entry → Type 0
AreEntries es = IsListing entry_component entry_dir es

abbrev pub entry_line : Entry → Bytes
entry_line e = line e.mode e.component e.name.0

-- their body
abbrev pub body_text : List Entry → Bytes
body_text es = flat_map entry_line es
