-- What is laid below a path: what an edit makes of the tree, or the first path that has no place.
use Rattle.std.proofs.Common.{◌≡◌, Bool, true, false, cond, not, ◌&&◌, ◌||◌, T, [], ◌∷◌, ◌++◌, length, refl, sym, ap, subst, ◌∙◌, Option, Some, None, true≢false, le_refl, length-append, append-nil, append_assoc, arith}
use Rattle.std.specs.Prelude.{filter, is_some}
use Rattle.std.specs.Option.{is_none, option_map, option_or}
use Rattle.std.specs.List.{list_all, cons_option}
use Rattle.std.specs.Ordering.{is_lt}
use Rattle.std.specs.Cmp.{first_so, second_so}
use Rattle.std.specs.Cmp.Lexicographic.{bytes_decides}
use Rattle.std.specs.FinMap.{put as put_entry}
use Rattle.git_objects.specs.Paths.{Path, same_bytes, same_path, is_path, is_prefix, comparable, path_cmp}
use Rattle.git_objects.specs.Trees.{Leaf, Flat, at, IsTree, rest_below, moved, under, LeafNode, TreeNode, without, put_all, put, remove, if_full, standing}
use Rattle.git_objects.proofs.Basics.{both, first, second, same_bytes-self, same_bytes-back}
use Rattle.git_objects.specs.Lists.{Each}
use Rattle.git_objects.proofs.Order.{path_decides}
use Rattle.git_objects.proofs.Pointwise.{from-T, all_at, at_apart, put-tree}
use Rattle.git_objects.proofs.Under.{cmp_rests, rest_short}
use Rattle.path_trees.proofs.Editing.{front_comparable}
use Rattle.filter_routes.specs.Lenses.{Lens, IsLens, carried}
use Rattle.filter_unapply.specs.Laying.{below}
use Rattle.filter_unapply.specs.Laying.{hidden, pre, first_path, first_lost, is_other, is_blocked, first_blocked, Blocked, LaidTree, laid_from, laid_through}
use Rattle.filter_unapply.specs.Stored.{IsInWay}
use Rattle.filter_routes.proofs.TreeEntries.{each_entry, not_before, not_before_itself}
use Rattle.filter_unapply.proofs.Firsts.{none-first, first-at, blocked-none, blocked-some}
use Rattle.filter_unapply.proofs.Rests.{rest_is, rest_of_path, path_behind, below-lens}
use Rattle.filter_unapply.proofs.Lawful.{free, at-image, at-kept, pre-sorted, pre-paths}

valid : (b : Bool) → b ≡ true → T b
valid b h = subst T (sym h) tt

-- ---- lists

all_kept : (g : Path × Leaf → Bool) (t : Flat) → T (list_all g (filter g t))
all_kept g [] = tt
all_kept g (e ∷ t) = elim (g e) as (λ b. g e ≡ b → T (list_all g (cond b (e ∷ filter g t) (filter g t)))) [ true ↦ λ k. both (g e) _ (valid (g e) k) (all_kept g t) | false ↦ λ k. all_kept g t ] refl

filter_same : (g h : Path × Leaf → Bool) (t : Flat) → Each (λ e. g e ≡ h e) t → filter g t ≡ filter h t
filter_same g h [] is = refl
filter_same g h (e ∷ t) is = λ i. cond (is.0 i) (e ∷ filter_same g h t is.1 i) (filter_same g h t is.1 i)

each_all : (g : Path × Leaf → Bool) (t : Flat) → T (list_all g t) → Each (λ d. g d ≡ true) t
each_all g [] h = tt
each_all g (d ∷ t) h = (from-T (g d) (first (g d) _ h), each_all g t (second (g d) _ h))

each_map : (P Q : Path × Leaf → Type 0) → ((d : Path × Leaf) → P d → Q d) → (t : Flat) → Each P t → Each Q t
each_map P Q is [] h = tt
each_map P Q is (d ∷ t) h = (is d h.0, each_map P Q is t h.1)

-- ---- paths

pub comparable_behind : (a r : Path) → comparable a (a ++ r) ≡ true
comparable_behind [] r = refl
comparable_behind (c ∷ a) r = ap (λ b. (b && is_prefix a (a ++ r)) || (b && is_prefix (a ++ r) a)) (same_bytes-self c) ∙ comparable_behind a r

prefix_behind : (a r : Path) → is_prefix a (a ++ r) ≡ true
prefix_behind [] r = refl
prefix_behind (c ∷ a) r = ap (λ b. b && is_prefix a (a ++ r)) (same_bytes-self c) ∙ prefix_behind a r

comparable_ahead : (p r q : Path) → comparable (p ++ r) q ≡ true → comparable p q ≡ true
comparable_ahead [] r q h = refl
comparable_ahead (c ∷ p) r [] h = refl
comparable_ahead (c ∷ p) r (d ∷ q) h =
    ap (λ b. (same_bytes c d && is_prefix p q) || (b && is_prefix q p)) (same_bytes-back d c)
    ∙ elim (same_bytes c d) as (λ b. (b && is_prefix (p ++ r) q) || (b && is_prefix q (p ++ r)) ≡ true → (b && is_prefix p q) || (b && is_prefix q p) ≡ true) [
      | true ↦ λ g. comparable_ahead p r q g
      | false ↦ λ g. g
    ] (ap (λ b. (same_bytes c d && is_prefix (p ++ r) q) || (b && is_prefix q (p ++ r))) (same_bytes-back c d) ∙ h)

-- what goes on from p, but p itself
rest_prefix : (a p : Path) → same_path a p ≡ false → is_some (rest_below a p) ≡ is_prefix a p
rest_prefix [] [] h = absurd (true≢false h)
rest_prefix [] (d ∷ p) h = refl
rest_prefix (c ∷ a) [] h = refl
rest_prefix (c ∷ a) (d ∷ p) h = elim (same_bytes c d) as (λ b. (b && same_path a p) ≡ false → is_some (cond b (rest_below a p) None) ≡ (b && is_prefix a p)) [ true ↦ λ g. rest_prefix a p g | false ↦ λ g. refl ] h

none_prefix : (a p : Path) → rest_below a p ≡ None → comparable a p ≡ true → is_prefix p a ≡ true
none_prefix [] [] e h = refl
none_prefix [] (d ∷ p) e h = cc
none_prefix (c ∷ a) [] e h = refl
none_prefix (c ∷ a) (d ∷ p) e h =
    ap (λ b. b && is_prefix p a) (same_bytes-back d c)
    ∙ elim (same_bytes c d) as (λ b. cond b (rest_below a p) None ≡ None → ((b && is_prefix a p) || (b && is_prefix p a)) ≡ true → (b && is_prefix p a) ≡ true) [
      | true ↦ λ g k. none_prefix a p g k
      | false ↦ λ g k. k
    ] e (ap (λ b. (same_bytes c d && is_prefix a p) || (b && is_prefix p a)) (same_bytes-back c d) ∙ h)

-- two fronts of one path
both_fronts : (q p a : Path) → is_prefix q a ≡ true → is_prefix p a ≡ true → comparable q p ≡ true
both_fronts [] p a h g = refl
both_fronts (c ∷ q) [] a h g = refl
both_fronts (c ∷ q) (d ∷ p) [] h g = absurd (true≢false (sym h))
both_fronts (c ∷ q) (d ∷ p) (f ∷ a) h g =
    let i : c ≡ f = (bytes_decides c f).0 (first_so (same_bytes c f) (is_prefix q a) h) in
    let j : d ≡ f = (bytes_decides d f).0 (first_so (same_bytes d f) (is_prefix p a) g) in
    let k : same_bytes c d ≡ true = (bytes_decides c d).1 (i ∙ sym j) in
    let l : same_bytes d c ≡ true = (bytes_decides d c).1 (j ∙ sym i) in
    (λ x. (k x && is_prefix q p) || (l x && is_prefix p q))
    ∙ both_fronts q p a (second_so (same_bytes c f) (is_prefix q a) h) (second_so (same_bytes d f) (is_prefix p a) g)

front_rest : (p a : Path) → is_prefix p a ≡ true → (r : Path) × (p ++ r ≡ a)
front_rest [] a h = (a, refl)
front_rest (c ∷ p) [] h = absurd (true≢false (sym h))
front_rest (c ∷ p) (d ∷ a) h =
    let r = front_rest p a (second_so (same_bytes c d) (is_prefix p a) h) in
    (r.0, λ i. (bytes_decides c d).0 (first_so (same_bytes c d) (is_prefix p a) h) i ∷ r.1 i)

front_short : (q r a : Path) → q ++ r ≡ a → rest_below a q ≡ None
front_short q r a e = let n = ap length e in let m = length-append q r in rest_short a q (omega arith)

-- ---- nothing is laid

none_seen : (f : Lens) (u : Flat) → T (list_all (λ d. is_none (f.image d.0)) u) → first_blocked f u ≡ None
none_seen f u h =
    blocked-none f u (none-first (is_blocked f u) u (each_map (λ d. is_none (f.image d.0) ≡ true) (λ d. is_blocked f u d.0 ≡ false) by u (each_all (λ d. is_none (f.image d.0)) u h)))
  where
    by : (d : Path × Leaf) → is_none (f.image d.0) ≡ true → is_blocked f u d.0 ≡ false
    by d g = elim (is_some (f.image d.0)) as (λ b. not b ≡ true → (b && is_some (first_path (is_other d.0) u)) ≡ false) [
      | true ↦ λ k. absurd (true≢false (sym k))
      | false ↦ λ k. refl
    ] g

empty_laid : (f : Lens) (t : Flat) → laid_through f t [] ≡ LaidTree (hidden f t)
empty_laid f t = ap (λ b. laid_from None b (hidden f t)) (none_seen f (hidden f t) (all_kept (λ d. is_none (f.image d.0)) t))

all_unseen : (a : Path) (t : Flat) → under t a ≡ [] → hidden (below a) t ≡ t
all_unseen a [] e = refl
all_unseen a (d ∷ t) e = by (rest_below a d.0) (all_unseen a t) e
  where
    by : (o : Option Path) → (under t a ≡ [] → hidden (below a) t ≡ t) → cons_option (moved o d.1) (under t a) ≡ [] → cond (is_none o) (d ∷ hidden (below a) t) (hidden (below a) t) ≡ d ∷ t
    by None r g = ap (λ (l : Flat). d ∷ l) (r g)
    by (Some q) r g = cc

-- no leaf stands at the path, so all that goes on from it lies below it
unseen_remove : (a : Path) (t : Flat) → IsTree t → at t a ≡ None → hidden (below a) t ≡ remove t a
unfolding remove
unseen_remove a t h e =
    filter_same (λ d. is_none (rest_below a d.0)) (λ d. not (is_prefix a d.0)) t
    (each_entry (λ d. is_none (rest_below a d.0) ≡ not (is_prefix a d.0)) t h.sorted (λ d g. ap not (rest_prefix a d.0 (other d g))))
  where
    other : (d : Path × Leaf) → at t d.0 ≡ Some d.1 → same_path a d.0 ≡ false
    other d g = elim (same_path a d.0) as (λ b. same_path a d.0 ≡ b → b ≡ false) [
      | true ↦ λ k. let same : at t a ≡ Some d.1 = ap (at t) ((path_decides a d.0).0 k) ∙ g in cc
      | false ↦ λ k. refl
    ] refl

-- ---- what stands at the path

rest_leaf : (t : Flat) (a p : Path) (x y : Leaf) → IsTree t → at t a ≡ Some x → at t p ≡ Some y → rest_below a p ≡ None
rest_leaf t a p x y h e g = by (rest_below a p) refl
  where
    by : (o : Option Path) → rest_below a p ≡ o → o ≡ None
    by None k = refl
    by (Some q) k =
        let goes : comparable a p ≡ true = ap (comparable a) (rest_is a p q k) ∙ comparable_behind a q in
        let same : a ≡ p = at_apart t h.apart a p x y e g goes in
        sym k ∙ ap (rest_below a) (sym same) ∙ rest_short a a (le_refl _)

nothing_under : (a : Path) (s : Flat) → Each (λ d. rest_below a d.0 ≡ None) s → under s a ≡ []
nothing_under a [] h = refl
nothing_under a (d ∷ s) h = ap (λ o. cons_option (moved o d.1) (under s a)) h.0 ∙ nothing_under a s h.1

leaf_under : (t : Flat) (a : Path) (x : Leaf) → IsTree t → at t a ≡ Some x → under t a ≡ []
leaf_under t a x h e = nothing_under a t (each_entry (λ d. rest_below a d.0 ≡ None) t h.sorted (λ d g. rest_leaf t a d.0 x d.1 h e g))

pub nothing_stands : (t : Flat) (a : Path) → standing t a ≡ None → (at t a ≡ None) × (under t a ≡ [])
nothing_stands t a e = by (at t a) (under t a) e
  where
    by : (o : Option Leaf) (u : Flat) → option_or (option_map LeafNode o) (if_full u) ≡ None → (o ≡ None) × (u ≡ [])
    by None [] g = (refl, refl)
    by None (d ∷ u) g = cc
    by (Some x) u g = cc

pub leaf_stands : (t : Flat) (a : Path) (x : Leaf) → standing t a ≡ Some (LeafNode x) → at t a ≡ Some x
leaf_stands t a x e = by (at t a) (under t a) e
  where
    by : (o : Option Leaf) (u : Flat) → option_or (option_map LeafNode o) (if_full u) ≡ Some (LeafNode x) → o ≡ Some x
    by None [] g = cc
    by None (d ∷ u) g = cc
    by (Some y) u g = cc

pub tree_stands : (t : Flat) (a : Path) (u : Flat) → standing t a ≡ Some (TreeNode u) → at t a ≡ None
tree_stands t a u e = by (at t a) (under t a) e
  where
    by : (o : Option Leaf) (s : Flat) → option_or (option_map LeafNode o) (if_full s) ≡ Some (TreeNode u) → o ≡ None
    by None s g = refl
    by (Some y) s g = cc

-- ---- the empty tree is laid

pub emptied_directory : (t : Flat) (a : Path) (u : Flat) → IsTree t → standing t a ≡ Some (TreeNode u) → laid_through (below a) t [] ≡ LaidTree (remove t a)
emptied_directory t a u h e = empty_laid (below a) t ∙ ap LaidTree (unseen_remove a t h (tree_stands t a u e))

pub emptied_leaf : (t : Flat) (a : Path) (x : Leaf) → IsTree t → standing t a ≡ Some (LeafNode x) → laid_through (below a) t [] ≡ LaidTree t
emptied_leaf t a x h e = empty_laid (below a) t ∙ ap LaidTree (all_unseen a t (leaf_under t a x h (leaf_stands t a x e)))

pub emptied_nothing : (t : Flat) (a : Path) → standing t a ≡ None → laid_through (below a) t [] ≡ LaidTree t
emptied_nothing t a e = empty_laid (below a) t ∙ ap LaidTree (all_unseen a t (nothing_stands t a e).1)

-- ---- a tree is laid

pub none_lost_below : (a : Path) (n : Flat) → first_lost (below a) n ≡ None
none_lost_below a [] = refl
none_lost_below a (e ∷ n) = none_lost_below a n

carried_behind : (a : Path) (n t : Flat) → carried (λ q. Some (a ++ q)) n t ≡ put_all a n t
carried_behind a [] t = refl
carried_behind a (e ∷ n) t = ap (put_entry path_cmp (a ++ e.0) e.1) (carried_behind a n t)

-- no leaf stands in the way, so what is comparable lies below
unseen_without : (a : Path) (t : Flat) → IsTree t → ((q r : Path) → q ++ r ≡ a → at t q ≡ None) → hidden (below a) t ≡ without t a
unseen_without a t h clear =
    filter_same (λ d. is_none (rest_below a d.0)) (λ d. not (comparable a d.0)) t
    (each_entry (λ d. is_none (rest_below a d.0) ≡ not (comparable a d.0)) t h.sorted (λ d g. ap not (rest_prefix a d.0 (other d g) ∙ sym (or_false (is_prefix a d.0) (is_prefix d.0 a) (ahead d g)))))
  where
    or_false : (v w : Bool) → w ≡ false → (v || w) ≡ v
    or_false true w k = refl
    or_false false w k = k

    ahead : (d : Path × Leaf) → at t d.0 ≡ Some d.1 → is_prefix d.0 a ≡ false
    ahead d g = elim (is_prefix d.0 a) as (λ b. is_prefix d.0 a ≡ b → b ≡ false) [
      | true ↦ λ k. let r = front_rest d.0 a k in let gone = clear d.0 r.0 r.1 in cc
      | false ↦ λ k. refl
    ] refl

    other : (d : Path × Leaf) → at t d.0 ≡ Some d.1 → same_path a d.0 ≡ false
    other d g = elim (same_path a d.0) as (λ b. same_path a d.0 ≡ b → b ≡ false) [
      | true ↦ λ k. let gone = clear d.0 [] (append-nil d.0 ∙ sym ((path_decides a d.0).0 k)) in cc
      | false ↦ λ k. refl
    ] refl

pre_put : (a : Path) (t n : Flat) → IsTree t → ((q r : Path) → q ++ r ≡ a → at t q ≡ None) → pre (below a) t n ≡ put t a (TreeNode n)
unfolding put
pre_put a t n h clear = carried_behind a n (hidden (below a) t) ∙ ap (put_all a n) (unseen_without a t h clear)

pub laid_put : (a : Path) (t n : Flat) → is_path a ≡ true → IsTree t → IsTree n → ((q r : Path) → q ++ r ≡ a → at t q ≡ None) → laid_through (below a) t n ≡ LaidTree (put t a (TreeNode n))
laid_put a t n v h g clear =
    let same = pre_put a t n h clear in
    (λ i. laid_from (none_lost_below a n i) (first_blocked (below a) (same i)) (same i))
    ∙ ap (λ b. laid_from None b (put t a (TreeNode n))) (free (below a) (put t a (TreeNode n)) (put-tree t a (TreeNode n) h (valid (is_path a) v) g))

-- ---- a leaf in the way

module _ (a : Path) (v : is_path a ≡ true) (t : Flat) (h : IsTree t) (e : Path × Leaf) (n : Flat) (g : IsTree (e ∷ n)) (q : Path) (w : IsInWay t a q) where
  abbrev f : Lens
  f = below a

  abbrev u : Flat
  u = pre f t (e ∷ n)

  lens : IsLens f
  lens = below-lens a v

  abbrev top : Path
  top = a ++ e.0

  own_path : is_path e.0 ≡ true
  own_path = from-T (is_path e.0) (first (is_path e.0) _ g.paths)

  top_path : is_path top ≡ true
  top_path = from-T (is_path top) (path_behind a e.0 (valid (is_path a) v) (valid (is_path e.0) own_path))

  top_image : f.image top ≡ Some e.0
  top_image = rest_of_path a e.0 own_path

  at_top : at u top ≡ Some e.1
  at_top = at-image f lens t (e ∷ n) g.paths top e.0 top_path top_image ∙ ap (λ b. cond b (Some e.1) (at n e.0)) ((path_decides e.0 e.0).1 refl)

  front_none : f.image q ≡ None
  front_none = front_short q w.rest a w.path

  at_front : at u q ≡ Some w.leaf
  at_front = at-kept f lens t (e ∷ n) g.paths q (from-T (is_path q) (all_at is_path t q w.leaf h.paths w.stands)) front_none ∙ w.stands

  front_prefix : is_prefix q a ≡ true
  front_prefix = ap (is_prefix q) (sym w.path) ∙ prefix_behind q w.rest

  swap : (b c : Bool) → (b || c) ≡ (c || b)
  swap true true = refl
  swap true false = refl
  swap false true = refl
  swap false false = refl

  top_front : comparable top q ≡ true
  top_front =
      swap (is_prefix top q) (is_prefix q top)
      ∙ ap (λ (r : Path). comparable q (r ++ e.0)) (sym w.path)
      ∙ comparable_ahead-rest
    where
      comparable_ahead-rest : comparable q ((q ++ w.rest) ++ e.0) ≡ true
      comparable_ahead-rest = simp append_assoc (comparable_behind q (w.rest ++ e.0))

  top_other : same_path top q ≡ false
  top_other = elim (same_path top q) as (λ b. same_path top q ≡ b → b ≡ false) [
    | true ↦ λ k. let same : f.image q ≡ Some e.0 = ap f.image (sym ((path_decides top q).0 k)) ∙ top_image in let none = front_none in cc
    | false ↦ λ k. refl
  ] refl

  path_of : (p : Path) (x : Leaf) → at u p ≡ Some x → is_path p ≡ true
  path_of p x k = from-T (is_path p) (all_at is_path u p x (pre-paths f lens t (e ∷ n) h.paths g.paths) k)

  only : (d : Path × Leaf) → at u d.0 ≡ Some d.1 → comparable top d.0 ≡ true → same_path top d.0 ≡ false → d.0 ≡ q
  only d k c o = by (f.image d.0) refl
    where
      by : (s : Option Path) → f.image d.0 ≡ s → d.0 ≡ q
      by None i =
          let kept : at t d.0 ≡ Some d.1 = sym (at-kept f lens t (e ∷ n) g.paths d.0 (path_of d.0 d.1 k) i) ∙ k in
          sym (at_apart t h.apart q d.0 w.leaf d.1 w.stands kept (both_fronts q d.0 a front_prefix (none_prefix a d.0 i (comparable_ahead a e.0 d.0 c))))
      by (Some s) i =
          let laid_leaf : at (e ∷ n) s ≡ Some d.1 = sym (at-image f lens t (e ∷ n) g.paths d.0 s (path_of d.0 d.1 k) i) ∙ k in
          let own : at (e ∷ n) e.0 ≡ Some e.1 = ap (λ b. cond b (Some e.1) (at n e.0)) ((path_decides e.0 e.0).1 refl) in
          let near : comparable e.0 s ≡ true = sym (front_comparable a e.0 s) ∙ ap (comparable top) (sym (rest_is a d.0 s i)) ∙ c in
          let same : e.0 ≡ s = at_apart (e ∷ n) g.apart e.0 s e.1 d.1 own laid_leaf near in
          absurd (true≢false (sym ((path_decides top d.0).1 (ap (λ (r : Path). a ++ r) same ∙ sym (rest_is a d.0 s i))) ∙ o))

  other_way : first_path (is_other top) u ≡ Some q
  other_way = first-at (is_other top) u q w.leaf (pre-sorted f lens t (e ∷ n) h.sorted) (each_entry (λ d. is_other top d.0 ≡ true → is_lt (path_cmp d.0 q) ≡ false) u (pre-sorted f lens t (e ∷ n) h.sorted) by) at_front way
    where
      way : is_other top q ≡ true
      way = (λ i. top_front i && not (top_other i))

      by : (d : Path × Leaf) → at u d.0 ≡ Some d.1 → is_other top d.0 ≡ true → is_lt (path_cmp d.0 q) ≡ false
      by d k o = not_before_itself d.0 q (only d k (first_so (comparable top d.0) (not (same_path top d.0)) o) (differs (same_path top d.0) (second_so (comparable top d.0) (not (same_path top d.0)) o)))
        where
          differs : (b : Bool) → not b ≡ true → b ≡ false
          differs true g = absurd (true≢false (sym g))
          differs false g = refl

  -- the first path of what is laid is the first
  in_order : (d : Path × Leaf) → at u d.0 ≡ Some d.1 → is_blocked f u d.0 ≡ true → is_lt (path_cmp d.0 top) ≡ false
  in_order d k o = by (f.image d.0) refl (first_so (is_some (f.image d.0)) (is_some (first_path (is_other d.0) u)) o)
    where
      by : (s : Option Path) → f.image d.0 ≡ s → is_some s ≡ true → is_lt (path_cmp d.0 top) ≡ false
      by None j l = absurd (true≢false (sym l))
      by (Some s) j l =
          ap is_lt (cmp_rests a d.0 top s e.0 j top_image)
          ∙ not_before e n (first _ _ g.sorted) s d.1 (sym (at-image f lens t (e ∷ n) g.paths d.0 s (path_of d.0 d.1 k) j) ∙ k)

  first_way : first_path (is_blocked f u) u ≡ Some top
  first_way =
      first-at (is_blocked f u) u top e.1 (pre-sorted f lens t (e ∷ n) h.sorted) (each_entry (λ d. is_blocked f u d.0 ≡ true → is_lt (path_cmp d.0 top) ≡ false) u (pre-sorted f lens t (e ∷ n) h.sorted) in_order) at_top
      (λ i. is_some (top_image i) && is_some (other_way i))

  pub laid_blocked : laid_through (below a) t (e ∷ n) ≡ Blocked top q
  laid_blocked = λ i. laid_from (none_lost_below a (e ∷ n) i) (blocked-some f u top q first_way other_way i) u
