-- How many leaves an edit leaves.
use Rattle.std.proofs.Common.{◌≡◌, ℕ, suc, ◌+◌, ◌≤◌, Bool, true, false, cond, not, ◌&&◌, List, [], ◌∷◌, ◌++◌, length, min, filter, Option, Some, None, refl, sym, ap, ◌∙◌, arith}
use Rattle.std.specs.Option.{option_map, option_or}
use Rattle.std.specs.declared.cmp.Ordering.{Ordering}
use Rattle.std.specs.declared.cmp.Ordering.TheVariants.{Less, Equal, Greater}
use Rattle.std.specs.FinMap.{put as put_entry}
use Rattle.git_objects.specs.Paths.{Bytes, Path, same_bytes, same_path, path_cmp, comparable, is_prefix}
use Rattle.git_objects.specs.Trees.{Leaf, Flat, Node, LeafNode, TreeNode, at, rests, rest_below, moved, under, without, put_all, put, remove, standing, if_full}
use Rattle.git_objects.specs.Entries.{is_dir}
use Rattle.git_objects.specs.declared.mode.Mode.{Mode}
use Rattle.git_objects.specs.declared.mode.Mode.TheVariants.{File, Exec, Link, Module, Dir}
use Rattle.git_objects.proofs.Order.{path_decides}
use Rattle.git_objects.specs.declared.kind.Kind.TheVariants.{Tree}
use Rattle.object_store.specs.Objects.{Object, has}
use Rattle.object_store.specs.Sizes.{held_number, sizes, stats_of}
use Rattle.object_store.specs.Unfolding.{flat}
use Rattle.object_store.specs.declared.store.TreeStats.{TreeStats}
use Rattle.path_trees.specs.Standing.{node}
use Rattle.path_trees.specs.declared.found.Found.{Found}

filter_few : {A : Type 0} (f : A → Bool) (xs : List A) → length (filter f xs) ≤ length xs
filter_few f [] = omega arith
filter_few f (x ∷ xs) = elim (f x) as (λ b. length (cond b (x ∷ filter f xs) (filter f xs)) ≤ suc (length xs)) [ true ↦ omega (arith, filter_few f xs) | false ↦ omega (arith, filter_few f xs) ]

entry_few : (k : Path) (x : Leaf) (t : Flat) → length (put_entry path_cmp k x t) ≤ length t + 1
entry_few k x [] = omega arith
entry_few k x (e ∷ t) = by (path_cmp k e.0) (entry_few k x t)
  where
    by : (o : Ordering) → length (put_entry path_cmp k x t) ≤ length t + 1 → length (Rattle.std.specs.FinMap.Entries.by_order o ((k, x) ∷ e ∷ t) ((e.0, x) ∷ t) (e ∷ put_entry path_cmp k x t)) ≤ suc (length t) + 1
    by Less h = omega arith
    by Equal h = omega arith
    by Greater h = omega (arith, h)

all_few : (p : Path) (es t : Flat) → length (put_all p es t) ≤ length t + length es
all_few p [] t = omega arith
all_few p (e ∷ es) t = omega (arith, all_few p es t, entry_few (p ++ e.0) e.1 (put_all p es t))

-- of the paths that aren't comparable with p, and of what is put
pub put_few : (t : Flat) (p : Path) (x : Node) → length (put t p x) ≤ length (without t p) + length (rests x)
unfolding put
put_few t p x = all_few p (rests x) (without t p)

pub without_few : (t : Flat) (p : Path) → length (without t p) ≤ length t
without_few t p = filter_few (λ e. not (comparable p e.0)) t

pub remove_few : (t : Flat) (p : Path) → length (remove t p) ≤ length t
unfolding remove
remove_few t p = filter_few (λ e. not (is_prefix p e.0)) t

-- ---- moved

cons_few : {A : Type 0} (o : Option A) (xs : List A) → length (Rattle.std.specs.List.cons_option o xs) ≤ length xs + 1
cons_few None xs = omega arith
cons_few (Some x) xs = omega arith

none_below : (p q : Path) → is_prefix p q ≡ false → rest_below p q ≡ None
none_below [] [] h = refl
none_below [] (d ∷ q) h = absurd cc
none_below (c ∷ p) [] h = refl
none_below (c ∷ p) (d ∷ q) h = elim (same_bytes c d) as (λ b. (b && is_prefix p q) ≡ false → cond b (rest_below p q) None ≡ None) [ true ↦ λ g. none_below p q g | false ↦ λ g. refl ] h

-- what lies below a path is removed with it
pub under_few : (t : Flat) (s : Path) → length (under t s) + length (remove t s) ≤ length t
unfolding remove
under_few [] s = omega arith
under_few (e ∷ t) s = elim (is_prefix s e.0) as (λ b. is_prefix s e.0 ≡ b → length (under (e ∷ t) s) + length (cond (not b) (e ∷ remove t s) (remove t s)) ≤ suc (length t)) [
  | true ↦ λ h. omega (arith, under_few t s, cons_few (moved (rest_below s e.0) e.1) (under t s))
  | false ↦ λ h. omega (arith, under_few t s, ap (λ o. length (Rattle.std.specs.List.cons_option (moved o e.1) (under t s))) (none_below s e.0 h))
] refl

self_prefix : (p : Path) → is_prefix p p ≡ true
self_prefix [] = refl
self_prefix (c ∷ p) = ap (λ b. b && is_prefix p p) (Rattle.git_objects.proofs.Basics.same_bytes-self c) ∙ self_prefix p

pub leaf_few : (t : Flat) (s : Path) (x : Leaf) → at t s ≡ Some x → 1 + length (remove t s) ≤ length t
unfolding remove
leaf_few [] s x h = absurd cc
leaf_few (e ∷ t) s x h = elim (same_path s e.0) as (λ b. same_path s e.0 ≡ b → cond b (Some e.1) (at t s) ≡ Some x → 1 + length (remove (e ∷ t) s) ≤ suc (length t)) [
  | true ↦ λ g u. omega (arith, remove_few t s, ap (λ b. length (cond (not b) (e ∷ remove t s) (remove t s))) (ap (is_prefix s) (sym ((path_decides s e.0).0 g)) ∙ self_prefix s))
  | false ↦ λ g u. omega (arith, leaf_few t s x u, dropped (not (is_prefix s e.0)))
] refl h
  where
    dropped : (b : Bool) → length (cond b (e ∷ remove t s) (remove t s)) ≤ 1 + length (remove t s)
    dropped true = omega arith
    dropped false = omega arith

standing_few : (t : Flat) (s : Path) (o : Option Leaf) (u : Flat) (x : Node) → at t s ≡ o → under t s ≡ u → option_or (option_map LeafNode o) (if_full u) ≡ Some x → length (rests x) + length (remove t s) ≤ length t
standing_few t s (Some y) u x e f h = omega (arith, leaf_few t s y e, ap (λ (v : Node). length (rests v)) (sym (let g : LeafNode y ≡ x = cc in g)))
standing_few t s None [] x e f h = absurd cc
standing_few t s None (d ∷ u) x e f h = omega (arith, under_few t s, ap length f, ap (λ (v : Node). length (rests v)) (sym (let g : TreeNode (d ∷ u) ≡ x = cc in g)))

-- a rename leaves no more than there were
pub rename_few : (t : Flat) (s p : Path) (x : Node) → standing t s ≡ Some x → length (put (remove t s) p x) ≤ length t
rename_few t s p x h = omega (arith, standing_few t s (at t s) (under t s) x refl refl h, put_few (remove t s) p x, without_few (remove t s) p)

-- ---- a leaf put

pub one_leaf : (S : List Object) (f : Found) → is_dir f.mode ≡ false → length (rests (node S f)) ≡ 1
one_leaf S f h = by f.mode h
  where
    by : (m : Mode) → is_dir m ≡ false → length (rests (node S (record { mode = m; name = f.name }))) ≡ 1
    by File h = refl
    by Exec h = refl
    by Link h = refl
    by Module h = refl
    by Dir h = absurd cc

pub leaf_most : (S : List Object) (t : Flat) (p : Path) (f : Found) (m : ℕ) → is_dir f.mode ≡ false → held_number (length t) ≤ m → held_number (length (put t p (node S f))) ≤ min (m + 1) 4294967295
leaf_most S t p f m d h = omega (arith, h, put_few t p (node S f), without_few t p, one_leaf S f d)

-- what a store answers of a tree
pub stats_files : (S : List Object) (n : Bytes) (s : TreeStats) → has Tree S n ≡ true → Some s ≡ stats_of S n → held_number (length (flat S n)) ≡ s.files
stats_files S n s h e = ap (λ (x : TreeStats). x.files) (sym (let g : s ≡ sizes (flat S n) = some_is (e ∙ ap (λ b. cond b (Some (sizes (flat S n))) None) h) in g))
  where
    some_is : {A : Type 0} {a b : A} → Some a ≡ Some b → a ≡ b
    some_is h = cc
