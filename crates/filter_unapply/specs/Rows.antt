-- Worked examples.
use Rattle.std.specs.Prelude.{◌≡◌, refl, cond, is_some, [], ◌∷◌, codes, Option, Some, None}
use Rattle.git_objects.specs.Paths.{Bytes, Path, same_path}
use Rattle.git_objects.specs.Trees.{Leaf, FileLeaf, rest_below}
use Rattle.filter_routes.specs.Lenses.{Lens, seen_through}
use Rattle.filter_unapply.specs.Laying.{below}
use Rattle.filter_unapply.specs.Laying.{pre, laid_through, NotHeld, Blocked, LaidTree}

abbrev a : Bytes
a = codes "a"

abbrev b : Bytes
b = codes "b"

abbrev c : Bytes
c = codes "c"

abbrev f : Bytes
f = codes "f"

abbrev g : Bytes
g = codes "g"

abbrev x : Bytes
x = codes "x"

abbrev y : Bytes
y = codes "y"

abbrev text : Bytes
text = codes "a.txt"

abbrev leaf : Leaf
leaf = FileLeaf (codes "1")

abbrev other : Leaf
other = FileLeaf (codes "2")

-- ---- a directory

-- what lies below it, without the file itself or a neighbour with the same beginning
pub below_shown : seen_through (below (a ∷ [])) ((text ∷ [], other) ∷ (a ∷ f ∷ [], leaf) ∷ (b ∷ [], other) ∷ []) ≡ (f ∷ [], leaf) ∷ []
below_shown = refl

pub itself_not_shown : seen_through (below (a ∷ [])) ((a ∷ [], leaf) ∷ []) ≡ []
itself_not_shown = refl

-- what was there and isn't pushed goes, and all else stays
pub others_stay : laid_through (below (a ∷ [])) ((text ∷ [], leaf) ∷ (a ∷ f ∷ [], leaf) ∷ (b ∷ c ∷ [], leaf) ∷ []) ((g ∷ [], other) ∷ []) ≡ LaidTree ((text ∷ [], leaf) ∷ (a ∷ g ∷ [], other) ∷ (b ∷ c ∷ [], leaf) ∷ [])
others_stay = refl

pub new_directory : laid_through (below (b ∷ [])) ((a ∷ f ∷ [], leaf) ∷ []) ((x ∷ [], other) ∷ []) ≡ LaidTree ((a ∷ f ∷ [], leaf) ∷ (b ∷ x ∷ [], other) ∷ [])
new_directory = refl

pub emptied : laid_through (below (a ∷ [])) ((a ∷ f ∷ [], leaf) ∷ (b ∷ c ∷ [], leaf) ∷ []) [] ≡ LaidTree ((b ∷ c ∷ [], leaf) ∷ [])
emptied = refl

-- nothing can lie below a leaf
pub leaf_at_place : laid_through (below (a ∷ f ∷ [])) ((a ∷ f ∷ [], leaf) ∷ []) ((x ∷ [], other) ∷ (y ∷ [], other) ∷ []) ≡ Blocked (a ∷ f ∷ x ∷ []) (a ∷ f ∷ [])
leaf_at_place = refl

pub leaf_on_way : laid_through (below (a ∷ f ∷ [])) ((a ∷ [], leaf) ∷ []) ((x ∷ [], other) ∷ []) ≡ Blocked (a ∷ f ∷ x ∷ []) (a ∷ [])
leaf_on_way = refl

-- but the empty tree asks for no place, and a leaf at the place is no path below it
pub leaf_stays : laid_through (below (a ∷ f ∷ [])) ((a ∷ f ∷ [], leaf) ∷ []) [] ≡ LaidTree ((a ∷ f ∷ [], leaf) ∷ [])
leaf_stays = refl

-- ---- other lenses

-- each path below a as itself
abbrev inside : Path → Lens
inside p = record { image = λ q. cond (is_some (rest_below p q)) (Some q) None; origin = λ q. cond (is_some (rest_below p q)) (Some q) None }

-- the first path that isn't shown at all
pub not_held : laid_through (inside (b ∷ [])) [] ((a ∷ [], leaf) ∷ (b ∷ x ∷ [], leaf) ∷ (c ∷ [], leaf) ∷ []) ≡ NotHeld (a ∷ [])
not_held = refl

-- before any that has no place
pub held_first : laid_through (inside (b ∷ [])) ((b ∷ [], leaf) ∷ []) ((b ∷ x ∷ [], leaf) ∷ (c ∷ [], leaf) ∷ []) ≡ NotHeld (c ∷ [])
held_first = refl

pub then_blocked : laid_through (inside (b ∷ [])) ((b ∷ [], leaf) ∷ []) ((b ∷ x ∷ [], leaf) ∷ []) ≡ Blocked (b ∷ x ∷ []) (b ∷ [])
then_blocked = refl

-- a as x, and a/b as y
abbrev renamed : Path → Option Path
renamed p = cond (same_path p (a ∷ [])) (Some (x ∷ [])) (cond (same_path p (a ∷ b ∷ [])) (Some (y ∷ [])) None)

abbrev two : Lens
two = record { image = renamed; origin = λ q. cond (same_path q (x ∷ [])) (Some (a ∷ [])) (cond (same_path q (y ∷ [])) (Some (a ∷ b ∷ [])) None) }

-- two files that are shown side by side, and are the file and the directory of one name
pub by_each_other : laid_through two [] ((x ∷ [], leaf) ∷ (y ∷ [], leaf) ∷ []) ≡ Blocked (a ∷ []) (a ∷ b ∷ [])
by_each_other = refl

-- the first path of the tree that is laid, and the first that stands in its way
pub first_way : laid_through two ((a ∷ c ∷ [], leaf) ∷ (a ∷ g ∷ [], leaf) ∷ []) ((x ∷ [], leaf) ∷ []) ≡ Blocked (a ∷ []) (a ∷ c ∷ [])
first_way = refl

pub kept_pre : pre two ((a ∷ c ∷ [], leaf) ∷ []) ((x ∷ [], other) ∷ []) ≡ (a ∷ [], other) ∷ (a ∷ c ∷ [], leaf) ∷ []
kept_pre = refl
