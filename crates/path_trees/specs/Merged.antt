-- Two listings side by side, in Git's order.
use Rattle.std.specs.Prelude.{List, [], ◌∷◌, map}
use Rattle.std.specs.declared.cmp.Ordering.{Ordering}
use Rattle.std.specs.declared.cmp.Ordering.TheVariants.{Less, Equal, Greater}
use Rattle.git_objects.specs.Entries.{git_cmp, entry_component, entry_dir}
use Rattle.git_objects.specs.Views.{entry_value}
use Rattle.git_objects.specs.declared.entry.Entry.{Entry}
use Rattle.git_objects.specs.declared.name.Name.{Name}
use Rattle.path_trees.specs.declared.join.Shared.{Shared}
use Rattle.path_trees.specs.declared.pairs.Pair.{Pair}
use Rattle.path_trees.specs.declared.pairs.Pair.TheVariants.{Left, Right, Both}

-- an entry of one listing, or two of the same place
pub data Side : Type 0 where
  OnLeft : Entry → Side
  OnRight : Entry → Side
  OnBoth : Entry → Entry → Side

abbrev pub pair_value : Pair → Side
pair_value (Left e) = OnLeft (entry_value e)
pair_value (Right f) = OnRight (entry_value f)
pair_value (Both e f) = OnBoth (entry_value e) (entry_value f)

abbrev pub by_order : {A : Type 0} → Ordering → A → A → A → A
by_order Less x y z = x
by_order Equal x y z = y
by_order Greater x y z = z

-- an entry among those on the right, and what follows it
abbrev pub among : Entry → (List Entry → List Side) → List Entry → List Side
among e rest [] = OnLeft e ∷ rest []
among e rest (f ∷ fs) = by_order (git_cmp entry_component entry_dir e f) (OnLeft e ∷ rest (f ∷ fs)) (OnBoth e f ∷ rest fs) (OnRight f ∷ among e rest fs)

abbrev pub merged : List Entry → List Entry → List Side
merged [] fs = map OnRight fs
merged (e ∷ es) fs = among e (merged es) fs

-- the names of those that both have
abbrev pub shared : List Side → List Shared
shared [] = []
shared (OnLeft e ∷ ps) = shared ps
shared (OnRight f ∷ ps) = shared ps
shared (OnBoth e f ∷ ps) = record { left = e.name; right = f.name } ∷ shared ps

-- one listing, in which these have the names in turn
abbrev pub with_names : List Side → List Name → List Entry
with_names [] ns = []
with_names (OnLeft e ∷ ps) ns = e ∷ with_names ps ns
with_names (OnRight f ∷ ps) ns = f ∷ with_names ps ns
with_names (OnBoth e f ∷ ps) [] = e ∷ with_names ps []
with_names (OnBoth e f ∷ ps) (n ∷ ns) = record { mode = e.mode; component = e.component; name = n } ∷ with_names ps ns
