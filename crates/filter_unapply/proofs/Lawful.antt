-- The laws of laying, point by point.
use Rattle.git_objects.proofs.Levels.{ArePaths}
use Rattle.std.proofs.Common.{◌≡◌, Bool, true, false, cond, not, ◌&&◌, ◌||◌, T, [], ◌∷◌, refl, sym, ap, subst, ◌∙◌, Option, Some, None, true≢false}
use Rattle.std.specs.Prelude.{is_some}
use Rattle.std.specs.Option.{is_none}
use Rattle.std.specs.List.{list_all}
use Rattle.std.specs.FinMap.{is_sorted}
use Rattle.git_objects.specs.Paths.{Path, same_path, is_path, is_prefix, comparable, path_cmp}
use Rattle.git_objects.specs.Trees.{Leaf, is_leaf, Flat, at, IsTree}
use Rattle.git_objects.specs.Lists.{Each}
use Rattle.git_objects.proofs.Order.{path_decides}
use Rattle.git_objects.proofs.Maps.{first_some, at_rest}
use Rattle.git_objects.proofs.Pointwise.{from-T, all_at, leaf_at, at_apart, tree_from}
use Rattle.filter_routes.specs.Lenses.{Lens, IsLens, carried, seen_through}
use Rattle.filter_unapply.proofs.Firsts.{first-none, none-first, blocked-none, is_free}
use Rattle.filter_routes.proofs.TreeEntries.{each_entry}
use Rattle.filter_routes.proofs.SeenTrees.{at-seen, seen-paths, seen-sorted, seen_from}
use Rattle.filter_unapply.specs.Laying.{hidden, pre, first_path, first_lost, is_other, is_blocked, first_blocked, LaidTree, laid_from, laid_through}
use Rattle.filter_routes.proofs.Carried.{nowhere, same_on_paths, all-carried, all-filter, sorted-carried, first_none, IsBack, at-carried}
use Rattle.filter_unapply.proofs.HiddenLeaves.{sorted-hidden, at-hidden}

valid : (b : Bool) → b ≡ true → T b
valid b h = subst T (sym h) tt

-- ---- options

no_image : {A : Type 0} (o : Option A) → is_some o ≡ false → o ≡ None
no_image None e = refl
no_image (Some x) e = absurd (true≢false e)

-- ---- paths that are comparable with another

comparable-back : (p q : Path) → comparable p q ≡ true → comparable q p ≡ true
comparable-back p q h = swap (is_prefix p q) (is_prefix q p) ∙ h
  where
    swap : (a b : Bool) → (b || a) ≡ (a || b)
    swap true true = refl
    swap true false = refl
    swap false true = refl
    swap false false = refl

-- none other is, so one that is is the same
pub no_other : (p : Path) (t : Flat) → first_path (is_other p) t ≡ None → (q : Path) (y : Leaf) → at t q ≡ Some y → comparable p q ≡ true → p ≡ q
no_other p t h q y e c = (path_decides p q).0 (by (same_path p q) (ap (λ b. b && not (same_path p q)) (sym c) ∙ first-none (is_other p) t h q y e))
  where
    by : (b : Bool) → not b ≡ false → b ≡ true
    by true g = refl
    by false g = absurd (true≢false g)

-- none of a tree is comparable with another
pub none_other : (t : Flat) → IsTree t → (p : Path) (x : Leaf) → at t p ≡ Some x → first_path (is_other p) t ≡ None
none_other t h p x e = none-first (is_other p) t (each_entry (λ d. is_other p d.0 ≡ false) t h.sorted by)
  where
    by : (d : Path × Leaf) → at t d.0 ≡ Some d.1 → is_other p d.0 ≡ false
    by d g = elim (comparable p d.0) as (λ b. comparable p d.0 ≡ b → (b && not (same_path p d.0)) ≡ false) [
      | true ↦ λ c. ap not ((path_decides p d.0).1 (at_apart t h.apart p d.0 x d.1 e g c))
      | false ↦ λ c. refl
    ] refl

module _ (f : Lens) where
  -- no path that came from what is laid is comparable with another
  pub not_blocked : (t : Flat) → first_blocked f t ≡ None → (p : Path) (x : Leaf) → at t p ≡ Some x → is_some (f.image p) ≡ true → first_path (is_other p) t ≡ None
  not_blocked t h p x e i =
      no_image (first_path (is_other p) t)
      (ap (λ b. b && is_some (first_path (is_other p) t)) (sym i) ∙ first-none (is_blocked f t) t (is_free f t h) p x e)

  pub free : (t : Flat) → IsTree t → first_blocked f t ≡ None
  free t h = blocked-none f t (none-first (is_blocked f t) t (each_entry (λ d. is_blocked f t d.0 ≡ false) t h.sorted by))
    where
      either : (b : Bool) → (b && false) ≡ false
      either true = refl
      either false = refl

      by : (d : Path × Leaf) → at t d.0 ≡ Some d.1 → is_blocked f t d.0 ≡ false
      by d g = ap (λ o. is_some (f.image d.0) && is_some o) (none_other t h d.0 d.1 g) ∙ either (is_some (f.image d.0))

  turned : {A : Type 0} (o : Option A) → is_none o ≡ false → is_some o ≡ true
  turned None g = absurd (true≢false g)
  turned (Some x) g = refl

  -- each path has an origin
  pub held : (n : Flat) → first_lost f n ≡ None → (q : Path) (y : Leaf) → at n q ≡ Some y → is_some (f.origin q) ≡ true
  held n h q y e = turned (f.origin q) (first-none (λ r. is_none (f.origin r)) n h q y e)

  pub none_lost : (n : Flat) → Each (λ d. is_some (f.origin d.0) ≡ true) n → first_lost f n ≡ None
  none_lost n h = none-first (λ r. is_none (f.origin r)) n (by n h)
    where
      by : (s : Flat) → Each (λ d. is_some (f.origin d.0) ≡ true) s → Each (λ d. is_none (f.origin d.0) ≡ false) s
      by [] g = tt
      by (d ∷ s) g = (ap not g.0, by s g.1)

-- ---- what is laid

laid_parts : (o : Option Path) (b : Option (Path × Path)) (u v : Flat) → laid_from o b u ≡ LaidTree v → (o ≡ None) × (b ≡ None) × (u ≡ v)
laid_parts (Some q) b u v e = cc
laid_parts None (Some b) u v e = cc
laid_parts None None u v e = (refl, refl, cc)

module _ (f : Lens) (is : IsLens f) where
  pre_back : IsBack f.origin f.image
  pre_back = record { there = λ q p. is.origin_image p q; back = is.image_origin }

  pub at-pre : (t n : Flat) → ArePaths n → (p : Path) → is_path p ≡ true → at (pre f t n) p ≡ first_some (at_rest n (f.image p)) (cond (is_none (f.image p)) (at t p) None)
  at-pre t n h p v = at-carried f.origin f.image pre_back n (hidden f t) h p v ∙ ap (first_some (at_rest n (f.image p))) (at-hidden f t p)

  pub at-image : (t n : Flat) → ArePaths n → (p q : Path) → is_path p ≡ true → f.image p ≡ Some q → at (pre f t n) p ≡ at n q
  at-image t n h p q v e = at-pre t n h p v ∙ ap (λ o. first_some (at_rest n o) (cond (is_none o) (at t p) None)) e ∙ first_none (at n q)

  pub at-kept : (t n : Flat) → ArePaths n → (p : Path) → is_path p ≡ true → f.image p ≡ None → at (pre f t n) p ≡ at t p
  at-kept t n h p v e = at-pre t n h p v ∙ ap (λ o. first_some (at_rest n o) (cond (is_none o) (at t p) None)) e

  -- ---- what is shown is a tree

  -- ---- what is laid is a tree

  pub pre-sorted : (t n : Flat) → T (is_sorted path_cmp t) → T (is_sorted path_cmp (pre f t n))
  pre-sorted t n h = sorted-carried f.origin n (hidden f t) (sorted-hidden f t h)

  pub pre-paths : (t n : Flat) → ArePaths t → ArePaths n → ArePaths (pre f t n)
  pre-paths t n h g =
      all-carried (λ e. is_path e.0) (λ e. is_path e.0) f.origin (λ e p v k. valid (is_path p) (is.origin_path p e.0 (from-T (is_path e.0) v) k)) n (hidden f t) g
      (all-filter (λ e. is_path e.0) (λ e. is_none (f.image e.0)) t h)

  pre-leaves : (t n : Flat) → T (list_all (λ e. is_leaf e.1) t) → T (list_all (λ e. is_leaf e.1) n) → T (list_all (λ e. is_leaf e.1) (pre f t n))
  pre-leaves t n h g = all-carried (λ e. is_leaf e.1) (λ e. is_leaf e.1) f.origin (λ e p v k. v) n (hidden f t) g (all-filter (λ e. is_leaf e.1) (λ e. is_none (f.image e.0)) t h)

  pre-apart : (t n : Flat) → IsTree t → IsTree n → first_blocked f (pre f t n) ≡ None → (p q : Path) (x y : Leaf) → at (pre f t n) p ≡ Some x → at (pre f t n) q ≡ Some y → comparable p q ≡ true → p ≡ q
  pre-apart t n h g b p q x y e k c =
      elim (is_some (f.image p)) as (λ v. is_some (f.image p) ≡ v → p ≡ q) [
        | true ↦ λ i. no_other p (pre f t n) (not_blocked f (pre f t n) b p x e i) q y k c
        | false ↦ λ i. elim (is_some (f.image q)) as (λ v. is_some (f.image q) ≡ v → p ≡ q) [
          | true ↦ λ j. sym (no_other q (pre f t n) (not_blocked f (pre f t n) b q y k j) p x e (comparable-back p q c))
          | false ↦ λ j. at_apart t h.apart p q x y (old p x (no_image (f.image p) i) e) (old q y (no_image (f.image q) j) k) c
        ] refl
      ] refl
    where
      old : (r : Path) (z : Leaf) → f.image r ≡ None → at (pre f t n) r ≡ Some z → at t r ≡ Some z
      old r z i w = sym (at-kept t n g.paths r (from-T (is_path r) (all_at is_path (pre f t n) r z (pre-paths t n h.paths g.paths) w)) i) ∙ w

  pre-tree : (t n : Flat) → IsTree t → IsTree n → first_blocked f (pre f t n) ≡ None → IsTree (pre f t n)
  pre-tree t n h g b =
      tree_from (pre f t n) (pre-sorted t n h.sorted)
      (λ q x e. all_at is_path (pre f t n) q x (pre-paths t n h.paths g.paths) e)
      (λ q x e. leaf_at is_leaf (pre f t n) q x (pre-leaves t n h.leaves g.leaves) e)
      (pre-apart t n h g b)

  -- ---- the laws

  pub parts : (t n u : Flat) → laid_through f t n ≡ LaidTree u → (first_lost f n ≡ None) × (first_blocked f (pre f t n) ≡ None) × (pre f t n ≡ u)
  parts t n u e = laid_parts (first_lost f n) (first_blocked f (pre f t n)) (pre f t n) u e

  pub laid-tree : (t n u : Flat) → IsTree t → IsTree n → laid_through f t n ≡ LaidTree u → IsTree u
  laid-tree t n u h g e = let r = parts t n u e in subst IsTree r.2 (pre-tree t n h g r.1)

  shown_at : (t n : Flat) → IsTree n → first_lost f n ≡ None → (q : Path) → is_path q ≡ true → at_rest (pre f t n) (f.origin q) ≡ at n q
  shown_at t n g l q v = by (f.origin q) refl
    where
      missing : (o : Option Leaf) → at n q ≡ o → f.origin q ≡ None → o ≡ None
      missing None k i = refl
      missing (Some x) k i = absurd (true≢false (sym (held f n l q x k) ∙ ap is_some i))

      by : (o : Option Path) → f.origin q ≡ o → at_rest (pre f t n) o ≡ at n q
      by None i = sym (missing (at n q) refl i)
      by (Some p) i = at-image t n g.paths p q (is.origin_path p q v i) (is.origin_image p q v i)

  shown-pre : (t n : Flat) → IsTree t → IsTree n → first_lost f n ≡ None → seen_through f (pre f t n) ≡ n
  shown-pre t n h g l =
      same_on_paths (seen_through f (pre f t n)) n (seen-sorted f is (pre f t n)) g.sorted (seen-paths f is (pre f t n) (pre-paths t n h.paths g.paths)) g.paths
      (λ q v. at-seen f is (pre f t n) (pre-paths t n h.paths g.paths) q v ∙ shown_at t n g l q v)

  pub shown-laid : (t n u : Flat) → IsTree t → IsTree n → laid_through f t n ≡ LaidTree u → seen_through f u ≡ n
  shown-laid t n u h g e = let r = parts t n u e in ap (seen_through f) (sym r.2) ∙ shown-pre t n h g r.0

  pub kept-laid : (t n u : Flat) → IsTree t → IsTree n → laid_through f t n ≡ LaidTree u → (p : Path) → f.image p ≡ None → at u p ≡ at t p
  kept-laid t n u h g e p i =
      let r = parts t n u e in
      ap (λ (w : Flat). at w p) (sym r.2)
      ∙ elim (is_path p) as (λ b. is_path p ≡ b → at (pre f t n) p ≡ at t p) [
        | true ↦ λ v. at-kept t n g.paths p v i
        | false ↦ λ v. nowhere (pre f t n) p (pre-paths t n h.paths g.paths) v ∙ sym (nowhere t p h.paths v)
      ] refl

  -- ---- laying what is shown

  back_at : (t : Flat) → IsTree t → (p : Path) → is_path p ≡ true → at (pre f t (seen_through f t)) p ≡ at t p
  back_at t h p v = by (f.image p) refl
    where
      by : (o : Option Path) → f.image p ≡ o → at (pre f t (seen_through f t)) p ≡ at t p
      by None i = at-kept t (seen_through f t) (seen-paths f is t h.paths) p v i
      by (Some q) i =
          at-image t (seen_through f t) (seen-paths f is t h.paths) p q v i
          ∙ at-seen f is t h.paths q (is.image_path p q v i)
          ∙ ap (at_rest t) (is.image_origin p q v i)

  pre-shown : (t : Flat) → IsTree t → pre f t (seen_through f t) ≡ t
  pre-shown t h = same_on_paths (pre f t (seen_through f t)) t (pre-sorted t (seen_through f t) h.sorted) h.sorted (pre-paths t (seen_through f t) h.paths (seen-paths f is t h.paths)) h.paths (back_at t h)

  shown-held : (t : Flat) → IsTree t → Each (λ d. is_some (f.origin d.0) ≡ true) (seen_through f t)
  shown-held t h = each_entry (λ d. is_some (f.origin d.0) ≡ true) (seen_through f t) (seen-sorted f is t) (λ d e. let r = seen_from f is t h d.0 d.1 e in ap is_some (is.image_origin r.0 d.0 r.1 r.2))

  pub laid-shown : (t : Flat) → IsTree t → laid_through f t (seen_through f t) ≡ LaidTree t
  laid-shown t h =
      let same = pre-shown t h in
      (λ i. laid_from (none_lost f (seen_through f t) (shown-held t h) i) (first_blocked f (same i)) (same i))
      ∙ ap (λ b. laid_from None b t) (free f t h)

  -- ---- laying again

  hidden-laid : (t n u : Flat) → IsTree t → IsTree n → laid_through f t n ≡ LaidTree u → hidden f u ≡ hidden f t
  hidden-laid t n u h g e =
      let w = laid-tree t n u h g e in
      same_on_paths (hidden f u) (hidden f t) (sorted-hidden f u w.sorted) (sorted-hidden f t h.sorted)
      (all-filter (λ d. is_path d.0) (λ d. is_none (f.image d.0)) u w.paths) (all-filter (λ d. is_path d.0) (λ d. is_none (f.image d.0)) t h.paths)
      (λ p v. at-hidden f u p ∙ by p (f.image p) refl ∙ sym (at-hidden f t p))
    where
      by : (p : Path) (o : Option Path) → f.image p ≡ o → cond (is_none o) (at u p) None ≡ cond (is_none o) (at t p) None
      by p None i = kept-laid t n u h g e p i
      by p (Some q) i = refl

  pub laid-again : (t n u m : Flat) → IsTree t → IsTree n → laid_through f t n ≡ LaidTree u → laid_through f u m ≡ laid_through f t m
  laid-again t n u m h g e =
      ap (λ k. laid_from (first_lost f m) (first_blocked f (carried f.origin m k)) (carried f.origin m k)) (hidden-laid t n u h g e)
