-- The trees of a graph's commits, found by the commits' names.
use Rattle.std.proofs.Common.{◌≡◌, ℕ, zero, suc, Bool, true, false, cond, List, [], ◌∷◌, map, reverse, get_or, slice_get, Option, Some, None, refl, sym, ap, ◌∙◌, arith}
use Rattle.std.specs.Option.{option_or}
use Rattle.std.specs.Cmp.Lexicographic.{bytes_decides}
use Rattle.std.proofs.lemmas.List.{map-append, reverse-append}
use Rattle.std.proofs.lemmas.List.Quantifiers.{position-Some}
use Rattle.std.proofs.lemmas.Option.{none-some, same_Some, slice_get-get_or}
use Rattle.git_objects.specs.Paths.{Bytes, same_bytes}
use Rattle.git_objects.proofs.Basics.{same_bytes-self}
use Rattle.commit_graph.proofs.Places.{absent}
use Rattle.commit_graph.specs.Graphs.{IsGraph, Row, place_of}
use Rattle.fast_import.specs.Replays.{value_at}
use Rattle.fast_import.proofs.Resolving.{value-append}
use Rattle.repo_ground.specs.Laws.{trees_of}

abbrev named : Row → Bytes × Bytes
named r = (r.name, r.tree)

-- what a row gives by itself
abbrev own : Bytes → Row → Option Bytes
own n r = cond (same_bytes r.name n) (Some r.tree) None

one-more : (n : Bytes) (x : Row) (xs : List Row) → value_at n (trees_of (x ∷ xs)) ≡ option_or (value_at n (trees_of xs)) (own n x)
one-more n x xs =
    ap (λ (rs : List Row). value_at n (map named rs)) (reverse-append (x ∷ []) xs)
    ∙ ap (value_at n) (map-append named (reverse xs) (x ∷ []))
    ∙ value-append n (map named (reverse xs)) (named x ∷ [])

-- no row has the name
none-there : (n : Bytes) (rows : List Row) → ((i : ℕ) (r : Row) → slice_get rows i ≡ Some r → same_bytes r.name n ≡ false) → value_at n (trees_of rows) ≡ None
none-there n [] f = refl
none-there n (x ∷ xs) f =
    one-more n x xs
    ∙ ap (λ (o : Option Bytes). option_or o (own n x)) (none-there n xs (λ i r p. f (suc i) r p))
    ∙ ap (λ b. cond b (Some x.tree) None) (f zero x refl)

abbrev AreApart : List Row → Type 0
AreApart rows = (i j : ℕ) (r s : Row) → slice_get rows i ≡ Some r → slice_get rows j ≡ Some s → r.name ≡ s.name → i ≡ j

tree-there : (n : Bytes) (rows : List Row) (i : ℕ) (r : Row) → AreApart rows → slice_get rows i ≡ Some r → r.name ≡ n → value_at n (trees_of rows) ≡ Some r.tree
tree-there n [] i r a p e = absurd (none-some r p)
tree-there n (x ∷ xs) zero r a p e =
    let is : x ≡ r = same_Some x r p in
    let mine : x.name ≡ n = ap (λ (y : Row). y.name) is ∙ e in
    one-more n x xs
    ∙ ap (λ (o : Option Bytes). option_or o (own n x)) (none-there n xs (λ j s q. other j s q (same_bytes s.name n) refl mine))
    ∙ ap (λ (m : Bytes). cond (same_bytes m n) (Some x.tree) None) mine
    ∙ ap (λ b. cond b (Some x.tree) None) (same_bytes-self n)
    ∙ ap (λ (y : Row). Some y.tree) is
  where
    other : (j : ℕ) (s : Row) → slice_get xs j ≡ Some s → (b : Bool) → same_bytes s.name n ≡ b → x.name ≡ n → same_bytes s.name n ≡ false
    other j s q true t mine = absurd (zero-suc (a zero (suc j) x s refl q (mine ∙ sym ((bytes_decides s.name n).0 t))))
      where
        zero-suc : zero ≡ suc j → ⊥
        zero-suc h = omega (arith, h)
    other j s q false t mine = t
tree-there n (x ∷ xs) (suc i) r a p e =
    one-more n x xs
    ∙ ap (λ (o : Option Bytes). option_or o (own n x)) (tree-there n xs i r (λ j k s t q u m. below j k (a (suc j) (suc k) s t q u m)) p e)
  where
    below : (j k : ℕ) → suc j ≡ suc k → j ≡ k
    below j k h = omega (arith, h)

-- the commit of that name is in no row
pub no-tree : (n : Bytes) (rows : List Row) → None ≡ place_of n rows → value_at n (trees_of rows) ≡ None
no-tree n rows e = none-there n rows (absent (λ (r : Row). same_bytes r.name n) rows (sym e))

-- it is in the row at a place
pub tree-at : (n : Bytes) (rows : List Row) (i : ℕ) (d : Row) → IsGraph rows → Some i ≡ place_of n rows → value_at n (trees_of rows) ≡ Some (get_or rows i d).tree
tree-at n rows i d g e =
    let found = position-Some (λ (r : Row). same_bytes r.name n) rows i d (sym e) in
    tree-there n rows i (get_or rows i d) g.distinct (slice_get-get_or rows i d found.0) ((bytes_decides (get_or rows i d).name n).0 found.1)
