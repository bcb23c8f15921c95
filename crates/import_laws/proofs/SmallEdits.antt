-- Edited trees within the limits of objects.
use Rattle.std.proofs.Common.{◌≡◌, ℕ, suc, ◌+◌, ◌≤◌, Bool, true, false, cond, not, ◌&&◌, max, [], ◌∷◌, ◌++◌, filter, length, map, Some, None, Ok, Err, refl, sym, ap, subst, ◌∙◌, true≢false, arith}
use borrow.Author.Tests.{leb-true}
use Rattle.std.specs.Prelude.{nat_le}
use Rattle.std.specs.Cmp.{first_so, second_so}
use Rattle.std.specs.List.{cons_option, list_all}
use Rattle.std.specs.Option.{option_map, option_or}
use Rattle.std.specs.FinMap.{put as put_entry}
use Rattle.std.specs.FinMap.Entries.{by_order}
use Rattle.std.specs.declared.cmp.Ordering.TheVariants.{Less, Equal, Greater}
use Rattle.std.proofs.lemmas.Bool.{le-leb}
use Rattle.git_objects.specs.Names.{depth}
use Rattle.git_objects.specs.Paths.{Path, comparable, is_prefix, path_cmp, same_bytes, same_path, text}
use Rattle.git_objects.specs.Results.{must}
use Rattle.git_objects.specs.Trees.{Leaf, Flat, Node, LeafNode, TreeNode, at, if_full, moved, put, put_all, remove, rest_below, rests, standing, under, without}
use Rattle.git_objects.specs.declared.limits.TheConstants.{PATH_BYTES, PATH_COMPONENTS, TREE_FILES}
use Rattle.git_objects.specs.declared.quantity.Quantity.TheVariants.{Files, PathBytes, PathDepth}
use Rattle.git_objects.proofs.Basics.{and_both}
use Rattle.object_store.specs.Fits.{tree_fits}
use Rattle.object_store.specs.Sizes.{longest}
use Rattle.fast_import.specs.Replays.{few_files, within_paths}
use Rattle.stream_reader.specs.declared.fault.StreamFault.{StreamFault}
use Rattle.stream_reader.specs.declared.fault.StreamFault.TheVariants.{Limit}
use Rattle.state_items.proofs.ReadObjects.{must-hold, ok-same}
use Rattle.import_laws.specs.SmallCommands.{IsShortPath}

-- ---- paths of edited trees

module _ (g : Path → Bool) where
  abbrev pub all_paths : Flat → Bool
  all_paths t = list_all (λ e. g e.0) t

  paths-entry : (p : Path) (x : Leaf) (t : Flat) → all_paths t ≡ true → g p ≡ true → all_paths (put_entry path_cmp p x t) ≡ true
  paths-entry p x [] h k = and_both k refl
  paths-entry p x (e ∷ t) h k =
      elim (path_cmp p e.0) as (λ o. all_paths (by_order o ((p, x) ∷ e ∷ t) ((e.0, x) ∷ t) (e ∷ put_entry path_cmp p x t)) ≡ true) [
        | Less ↦ and_both k h
        | Equal ↦ h
        | Greater ↦ and_both (first_so (g e.0) _ h) (paths-entry p x t (second_so (g e.0) _ h) k)
      ]

  paths-all : (p : Path) (es t : Flat) → list_all (λ e. g (p ++ e.0)) es ≡ true → all_paths t ≡ true → all_paths (put_all p es t) ≡ true
  paths-all p [] t h k = k
  paths-all p (e ∷ es) t h k = paths-entry (p ++ e.0) e.1 (put_all p es t) (paths-all p es t (second_so (g (p ++ e.0)) _ h) k) (first_so _ _ h)

  paths-filter : (q : Path × Leaf → Bool) (t : Flat) → all_paths t ≡ true → all_paths (filter q t) ≡ true
  paths-filter q [] h = refl
  paths-filter q (e ∷ t) h =
      let rest = paths-filter q t (second_so (g e.0) _ h) in
      elim (q e) as (λ b. all_paths (cond b (e ∷ filter q t) (filter q t)) ≡ true) [ true ↦ and_both (first_so (g e.0) _ h) rest | false ↦ rest ]

  paths-put : (t : Flat) (p : Path) (x : Node) → all_paths t ≡ true → list_all (λ e. g (p ++ e.0)) (rests x) ≡ true → all_paths (put t p x) ≡ true
  unfolding put
  paths-put t p x h k = paths-all p (rests x) (without t p) k (paths-filter (λ e. not (comparable p e.0)) t h)

  paths-remove : (t : Flat) (p : Path) → all_paths t ≡ true → all_paths (remove t p) ≡ true
  unfolding remove
  paths-remove t p h = paths-filter (λ e. not (is_prefix p e.0)) t h

-- ---- how many leaves they have

length-entry : (p : Path) (x : Leaf) (t : Flat) → length (put_entry path_cmp p x t) ≤ suc (length t)
length-entry p x [] = omega arith
length-entry p x (e ∷ t) =
    let more = length-entry p x t in
    elim (path_cmp p e.0) as (λ o. length (by_order o ((p, x) ∷ e ∷ t) ((e.0, x) ∷ t) (e ∷ put_entry path_cmp p x t)) ≤ suc (suc (length t))) [
      | Less ↦ omega arith
      | Equal ↦ omega arith
      | Greater ↦ omega (arith, more)
    ]

length-all : (p : Path) (es t : Flat) → length (put_all p es t) ≤ length es + length t
length-all p [] t = omega arith
length-all p (e ∷ es) t = omega (arith, length-all p es t, length-entry (p ++ e.0) e.1 (put_all p es t))

length-filter : (q : Path × Leaf → Bool) (t : Flat) → length (filter q t) ≤ length t
length-filter q [] = omega arith
length-filter q (e ∷ t) =
    let rest = length-filter q t in
    elim (q e) as (λ b. length (cond b (e ∷ filter q t) (filter q t)) ≤ suc (length t)) [ true ↦ omega (arith, rest) | false ↦ omega (arith, rest) ]

length-put : (t : Flat) (p : Path) (x : Node) → length (put t p x) ≤ length (rests x) + length t
unfolding put
length-put t p x = omega (arith, length-all p (rests x) (without t p), length-filter (λ e. not (comparable p e.0)) t)

length-remove : (t : Flat) (p : Path) → length (remove t p) ≤ length t
unfolding remove
length-remove t p = length-filter (λ e. not (is_prefix p e.0)) t

-- what stands at a path is taken out with it
prefix-same : (p q : Path) → same_path p q ≡ true → is_prefix p q ≡ true
prefix-same [] q h = refl
prefix-same (c ∷ p) [] h = absurd (true≢false (sym h))
prefix-same (c ∷ p) (d ∷ q) h = and_both (first_so _ _ h) (prefix-same p q (second_so (same_bytes c d) _ h))

rest-none : (p q : Path) → is_prefix p q ≡ false → rest_below p q ≡ None
rest-none [] q h = absurd (true≢false h)
rest-none (c ∷ p) [] h = refl
rest-none (c ∷ p) (d ∷ q) h = elim (same_bytes c d) as (λ b. (b && is_prefix p q) ≡ false → cond b (rest_below p q) None ≡ None) [ true ↦ λ k. rest-none p q k | false ↦ λ k. refl ] h

leaf-out : (t : Flat) (s : Path) (y : Leaf) → at t s ≡ Some y → suc (length (remove t s)) ≤ length t
unfolding remove
leaf-out [] s y e = let no : None ≡ Some y = e in cc
leaf-out (d ∷ t) s y e =
    elim (same_path s d.0) as (λ b. same_path s d.0 ≡ b → cond b (Some d.1) (at t s) ≡ Some y → suc (length (cond (not (is_prefix s d.0)) (d ∷ remove t s) (remove t s))) ≤ suc (length t)) [
      | true ↦ λ g k.
          let rest = length-remove t s in
          let out : length (cond (not (is_prefix s d.0)) (d ∷ remove t s) (remove t s)) ≡ length (remove t s) =
          ap (λ b. length (cond (not b) (d ∷ remove t s) (remove t s))) (prefix-same s d.0 g) in
          omega (arith, rest, out)
      | false ↦ λ g k.
          let rest = leaf-out t s y k in
          let one : length (cond (not (is_prefix s d.0)) (d ∷ remove t s) (remove t s)) ≤ suc (length (remove t s)) =
          elim (is_prefix s d.0) as (λ b. length (cond (not b) (d ∷ remove t s) (remove t s)) ≤ suc (length (remove t s))) [ true ↦ omega arith | false ↦ omega arith ] in
          omega (arith, rest, one)
    ] refl e

below-out : (t : Flat) (s : Path) → length (under t s) + length (remove t s) ≤ length t
unfolding remove
below-out [] s = omega arith
below-out (d ∷ t) s =
    let rest = below-out t s in
    elim (is_prefix s d.0) as (λ b. is_prefix s d.0 ≡ b → length (cons_option (moved (rest_below s d.0) d.1) (under t s)) + length (cond (not b) (d ∷ remove t s) (remove t s)) ≤ suc (length t)) [
      | true ↦ λ e.
          let one : length (cons_option (moved (rest_below s d.0) d.1) (under t s)) ≤ suc (length (under t s)) =
          elim (rest_below s d.0) as (λ o. length (cons_option (moved o d.1) (under t s)) ≤ suc (length (under t s))) [ None ↦ omega arith | Some q ↦ omega arith ] in
          omega (arith, rest, one)
      | false ↦ λ e.
          let none : length (cons_option (moved (rest_below s d.0) d.1) (under t s)) ≡ length (under t s) = ap (λ o. length (cons_option (moved o d.1) (under t s))) (rest-none s d.0 e) in
          omega (arith, rest, none)
    ] refl

some-same : {A : Type 0} (x y : A) → Some x ≡ Some y → x ≡ y
some-same x y e = cc

standing-out : (t : Flat) (s : Path) (x : Node) → standing t s ≡ Some x → length (rests x) + length (remove t s) ≤ length t
standing-out t s x e =
    elim (at t s) as (λ o. at t s ≡ o → option_or (option_map LeafNode o) (if_full (under t s)) ≡ Some x → length (rests x) + length (remove t s) ≤ length t) [
      | Some y ↦ λ g k. subst (λ (z : Node). length (rests z) + length (remove t s) ≤ length t) (some-same (LeafNode y) x k) (let out = leaf-out t s y g in omega (arith, out))
      | None ↦ λ g k. full (under t s) (below-out t s) k
    ] refl e
  where
    full : (u : Flat) → length u + length (remove t s) ≤ length t → if_full u ≡ Some x → length (rests x) + length (remove t s) ≤ length t
    full [] b k = let no : None ≡ Some x = k in cc
    full (d ∷ u) b k = subst (λ (z : Node). length (rests z) + length (remove t s) ≤ length t) (some-same (TreeNode (d ∷ u)) x k) b

-- ---- trees within their limits

abbrev good_path : Path → Bool
good_path p = nat_le (length p) 1024 && nat_le (length (text p)) 16384

left-le : (a b n : ℕ) → max a b ≤ n → a ≤ n
left-le a b n h = omega arith

right-le : (a b n : ℕ) → max a b ≤ n → b ≤ n
right-le a b n h = omega arith

both-le : (a b n : ℕ) → a ≤ n → b ≤ n → max a b ≤ n
both-le a b n h g = omega arith

paths-of : (t : Flat) → depth t ≤ 1024 → longest t ≤ 16384 → all_paths good_path t ≡ true
paths-of [] d l = refl
paths-of (e ∷ t) d l =
    and_both (and_both (le-leb (length e.0) 1024 (left-le (length e.0) (depth t) 1024 d)) (le-leb (length (text e.0)) 16384 (left-le (length (text e.0)) (longest t) 16384 l)))
    (paths-of t (right-le (length e.0) (depth t) 1024 d) (right-le (length (text e.0)) (longest t) 16384 l))

of-paths : (t : Flat) → all_paths good_path t ≡ true → (depth t ≤ 1024) × (longest t ≤ 16384)
of-paths [] h = (omega arith, omega arith)
of-paths (e ∷ t) h =
    let now = first_so (good_path e.0) _ h in
    let rest = of-paths t (second_so (good_path e.0) _ h) in (
      both-le (length e.0) (depth t) 1024 (leb-true (length e.0) 1024 (first_so _ _ now)) rest.0,
      both-le (length (text e.0)) (longest t) 16384 (leb-true (length (text e.0)) 16384 (second_so (nat_le (length e.0) 1024) _ now)) rest.1,
    )

-- few leaves, and good paths
pub record IsSmallTree (t : Flat) : Type 0 where
  pub few : length t ≤ 1048576
  pub paths : all_paths good_path t ≡ true

pub small-fits : (t : Flat) → IsSmallTree t → tree_fits t ≡ true
small-fits t h =
    let p = of-paths t h.paths in
    and_both (and_both (le-leb (length t) 1048576 h.few) (le-leb (depth t) 1024 p.0)) (le-leb (longest t) 16384 p.1)

pub fits-small : (t : Flat) → tree_fits t ≡ true → IsSmallTree t
fits-small t h = record {
  few = leb-true (length t) 1048576 (first_so _ _ (first_so _ _ h));
  paths = paths-of t (leb-true (depth t) 1024 (second_so (nat_le (length t) TREE_FILES) _ (first_so _ _ h))) (leb-true (longest t) 16384 (second_so (nat_le (length t) TREE_FILES && nat_le (depth t) 1024) _ h));
}

-- ---- edits

pub few-value : (place : ℕ) (t u : Flat) → few_files place t ≡ Ok u → (length t ≤ 1048576) × (t ≡ u)
few-value place t u e =
    elim (nat_le (length t) TREE_FILES) as (λ b. nat_le (length t) TREE_FILES ≡ b → (cond b (Ok t) (Err (Limit place Files))) ≡ Ok u → (length t ≤ 1048576) × (t ≡ u)) [
      | true ↦ λ g k. (leb-true (length t) 1048576 g, ok-same t u k)
      | false ↦ λ g k. absurd (no-tree (Limit place Files) u k)
    ] refl e
  where
    no-tree : (d : StreamFault) (u : Flat) → Err d ≡ Ok u → ⊥
    no-tree d u k = cc

-- a path within the limits of a stream is within those of a tree
short-good : (p : Path) → nat_le (length p) PATH_COMPONENTS ≡ true → nat_le (length (text p)) PATH_BYTES ≡ true → good_path p ≡ true
short-good p c b =
    let x = leb-true (length p) 128 c in
    let y = leb-true (length (text p)) 4096 b in
    and_both (le-leb (length p) 1024 (omega (arith, x))) (le-leb (length (text p)) 16384 (omega (arith, y)))

shorts-good : (p : Path) (es : Flat) → list_all (λ q. nat_le (length q) PATH_COMPONENTS) (map (λ (e : Path × Leaf). p ++ e.0) es) ≡ true → list_all (λ q. nat_le (length (text q)) PATH_BYTES) (map (λ (e : Path × Leaf). p ++ e.0) es) ≡ true →
    list_all (λ (e : Path × Leaf). good_path (p ++ e.0)) es ≡ true
shorts-good p [] c b = refl
shorts-good p (e ∷ es) c b =
    and_both (short-good (p ++ e.0) (first_so _ _ c) (first_so _ _ b)) (shorts-good p es (second_so (nat_le (length (p ++ e.0)) PATH_COMPONENTS) _ c) (second_so (nat_le (length (text (p ++ e.0))) PATH_BYTES) _ b))

pub within-good : (place : ℕ) (p : Path) (x : Node) (u : Unit {0}) → within_paths place p x ≡ Ok u → list_all (λ (e : Path × Leaf). good_path (p ++ e.0)) (rests x) ≡ true
within-good place p x u e =
    let paths = map (λ (d : Path × Leaf). p ++ d.0) (rests x) in
    let c = must-hold (Limit place PathDepth) (list_all (λ q. nat_le (length q) PATH_COMPONENTS) paths) (λ _. must (Limit place PathBytes) (list_all (λ q. nat_le (length (text q)) PATH_BYTES) paths)) u e in
    shorts-good p (rests x) c.0 (must-true (Limit place PathBytes) (list_all (λ q. nat_le (length (text q)) PATH_BYTES) paths) u c.1)
  where
    must-true : (d : StreamFault) (b : Bool) (u : Unit {0}) → must d b ≡ Ok u → b ≡ true
    must-true d true u k = refl
    must-true d false u k = absurd (no-unit d u k)
      where
        no-unit : (d : StreamFault) (u : Unit {0}) → Err d ≡ Ok u → ⊥
        no-unit d u k = cc

path-nothing : (p : Path) → p ++ [] ≡ p
path-nothing [] = refl
path-nothing (c ∷ p) = ap (λ (q : Path). c ∷ q) (path-nothing p)

pub leaf-good : (p : Path) (x : Leaf) → IsShortPath p → list_all (λ (e : Path × Leaf). good_path (p ++ e.0)) (rests (LeafNode x)) ≡ true
leaf-good p x h = and_both (ap good_path (path-nothing p) ∙ short-good p h.components h.bytes) refl

pub put-small : (t : Flat) (p : Path) (x : Node) → IsSmallTree t → list_all (λ (e : Path × Leaf). good_path (p ++ e.0)) (rests x) ≡ true → length (put t p x) ≤ 1048576 → IsSmallTree (put t p x)
put-small t p x h g f = record { few = f; paths = paths-put good_path t p x h.paths g }

pub remove-small : (t : Flat) (p : Path) → IsSmallTree t → IsSmallTree (remove t p)
remove-small t p h = record { few = (let l = length-remove t p in let f = h.few in omega (arith, l, f)); paths = paths-remove good_path t p h.paths }

-- what is taken out and put elsewhere
pub moved-small : (t : Flat) (s p : Path) (x : Node) → IsSmallTree t → standing t s ≡ Some x → list_all (λ (e : Path × Leaf). good_path (p ++ e.0)) (rests x) ≡ true → IsSmallTree (put (remove t s) p x)
moved-small t s p x h e g =
    let out = standing-out t s x e in
    let more = length-put (remove t s) p x in
    let f = h.few in
    put-small (remove t s) p x (remove-small t s h) g (omega (arith, out, more, f))

pub nothing-small : IsSmallTree []
nothing-small = record { few = omega arith; paths = refl }
