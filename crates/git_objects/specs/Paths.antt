-- Paths: non-empty lists of components, and their order.
use Rattle.std.specs.Prelude.{ℕ, Bool, true, false, not, ◌&&◌, ◌||◌, ◌==◌, nat_eq, nat_lt, List, [], ◌∷◌, ◌++◌}
use Rattle.std.specs.List.{list_all, join_with_byte}
use Rattle.std.specs.declared.cmp.Ordering.{Ordering}
use Rattle.std.specs.Ordering.{nat_cmp, is_lt}
use Rattle.std.specs.Cmp.Lexicographic.{slice_cmp, pointwise}

abbrev pub Bytes : Type 0
Bytes = List ℕ

abbrev pub Path : Type 0
Path = List Bytes

-- numbers from 0 to 255
abbrev pub is_bytes : Bytes → Bool
is_bytes b = list_all (λ x. nat_lt x 256) b

abbrev pub same_bytes : Bytes → Bytes → Bool
same_bytes x y = pointwise nat_eq x y

abbrev pub same_path : Path → Path → Bool
same_path p q = pointwise (pointwise nat_eq) p q

abbrev pub is_nil : {A : Type 0} → List A → Bool
is_nil [] = true
is_nil (x ∷ xs) = false

-- neither a zero byte nor `/` (47)
abbrev pub is_plain : Bytes → Bool
is_plain c = list_all (λ x. not (x == 0) && not (x == 47)) c

-- a component: non-empty bytes without `/` and without a zero byte, other than `.`, `..` and `.git`
abbrev pub is_component : Bytes → Bool
is_component c =
    is_plain c
    && not (is_nil c)
    && not (same_bytes c (46 ∷ []))
    && not (same_bytes c (46 ∷ 46 ∷ []))
    && not (same_bytes c (46 ∷ 103 ∷ 105 ∷ 116 ∷ []))
    && is_bytes c

-- a path: a non-empty list of components
abbrev pub is_path : Path → Bool
is_path p = not (is_nil p) && list_all is_component p

-- the components joined with `/`
abbrev pub text : Path → Bytes
text p = join_with_byte 47 p

abbrev pub is_prefix : Path → Path → Bool
is_prefix [] q = true
is_prefix (c ∷ p) [] = false
is_prefix (c ∷ p) (d ∷ q) = same_bytes c d && is_prefix p q

-- one is a prefix of the other, or they are equal
abbrev pub comparable : Path → Path → Bool
comparable p q = is_prefix p q || is_prefix q p

-- path order: the order of the texts' bytes
abbrev pub before : Path → Path → Bool
before p q = is_lt (slice_cmp nat_cmp (text p) (text q))

-- a component as the text has it: with the `/` that follows, unless it is the last
abbrev pub key : Bytes → Path → Bytes
key c [] = c
key c (d ∷ p) = c ++ 47 ∷ []

abbrev pub keys : Path → List Bytes
keys [] = []
keys (c ∷ p) = key c p ∷ keys p

-- The same order, component by component. It is total on all lists, ties only equal ones, orders paths as their texts
-- do, and at each level it is Git's order of a tree's entries.
abbrev pub path_cmp : Path → Path → Ordering
path_cmp p q = slice_cmp (slice_cmp nat_cmp) (keys p) (keys q)
