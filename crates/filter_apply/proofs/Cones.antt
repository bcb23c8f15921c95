-- A map without the paths of a cone.
use Rattle.std.proofs.Common.{◌≡◌, ℕ, zero, suc, ◌+◌, ◌<◌, Bool, true, false, cond, not, ◌&&◌, T, List, [], ◌∷◌, ◌++◌, length, take, filter, slice_get, Option, Some, None, refl, sym, ap, subst, ◌∙◌, arith, true≢false, append-nil, length-append, ◌||◌, inl, inr}
use Rattle.std.specs.Option.{option_map, option_or, is_some}
use Rattle.std.proofs.lemmas.Option.{none-some, same_Some}
use Rattle.git_objects.specs.Lists.{Each}
use Rattle.git_objects.specs.Paths.{Path, same_bytes, is_path, is_prefix, comparable}
use Rattle.git_objects.specs.Trees.{Leaf, Flat, IsTree, LeafNode, TreeNode, at, under, remove, standing, if_full}
use Rattle.git_objects.proofs.Pointwise.{all_at, at_apart}
use Rattle.git_objects.proofs.Under.{at-under}
use Rattle.decision_lists.specs.Fronts.{strip, proper, whole}
use Rattle.decision_lists.specs.Entries.{Cone, at as point, below, cone_of, tail, Entry}
use Rattle.decision_lists.specs.Operations.{covers, alive}
use Rattle.decision_lists.specs.Cells.{free_in}
use Rattle.decision_lists.specs.Lists.{Thin}
use Rattle.decision_lists.proofs.Strip.{strip-self, strip-is, strip-in}
use Rattle.decision_lists.proofs.Clash.{nested, below-has, alive-parts}
use Rattle.filter_routes.proofs.TreeEntries.{each_entry}
use Rattle.path_trees.proofs.Lookups.{leaf_under, nothing_at}

-- ---- tests of the entries of a map

pub filter-each : (f g : Path → Bool) (t : Flat) → Each (λ e. f e.0 ≡ g e.0) t → filter (λ e. f e.0) t ≡ filter (λ e. g e.0) t
filter-each f g [] h = refl
filter-each f g (e ∷ t) h = λ i. cond (h.0 i) (e ∷ filter-each f g t h.1 i) (filter-each f g t h.1 i)

pub filter-all : (f : Path → Bool) (t : Flat) → Each (λ e. f e.0 ≡ true) t → filter (λ e. f e.0) t ≡ t
filter-all f [] h = refl
filter-all f (e ∷ t) h = λ i. cond (h.0 i) (e ∷ filter-all f t h.1 i) (filter-all f t h.1 i)

pub filter-none : (f : Path → Bool) (t : Flat) → Each (λ e. f e.0 ≡ false) t → filter (λ e. f e.0) t ≡ []
filter-none f [] h = refl
filter-none f (e ∷ t) h = ap (λ b. cond b (e ∷ filter (λ e. f e.0) t) (filter (λ e. f e.0) t)) h.0 ∙ filter-none f t h.1

pub filter-twice : (f g : Path → Bool) (t : Flat) → filter (λ e. g e.0) (filter (λ e. f e.0) t) ≡ filter (λ e. f e.0 && g e.0) t
filter-twice f g [] = refl
filter-twice f g (e ∷ t) =
    elim (f e.0) as (λ b. filter (λ e. g e.0) (cond b (e ∷ filter (λ e. f e.0) t) (filter (λ e. f e.0) t)) ≡ cond (b && g e.0) (e ∷ filter (λ e. f e.0 && g e.0) t) (filter (λ e. f e.0 && g e.0) t)) [
      | true ↦ ap (λ us. cond (g e.0) (e ∷ us) us) (filter-twice f g t)
      | false ↦ filter-twice f g t
    ]

-- ---- one cone

-- whether the cone has the path
abbrev pub in_cone : Cone → Path → Bool
in_cone h p = is_some (tail h p)

abbrev pub minus : Cone → Flat → Flat
minus h t = filter (λ e. not (in_cone h e.0)) t

longer_not : (q : Path) (d : _) (s : Path) → q ≡ q ++ d ∷ s → ⊥
longer_not q d s e = let n = ap length e in let m = length-append q (d ∷ s) in omega arith

pub front_strip : (p q : Path) → is_prefix p q ≡ is_some (strip p q)
front_strip [] q = refl
front_strip (c ∷ p) [] = refl
front_strip (c ∷ p) (d ∷ q) = elim (same_bytes c d) as (λ b. (b && is_prefix p q) ≡ is_some (cond b (strip p q) None)) [ true ↦ front_strip p q | false ↦ refl ]

front_comparable : (p r : Path) → comparable p (p ++ r) ≡ true
front_comparable p r = ap (λ b. b || is_prefix (p ++ r) p) (front_strip p (p ++ r) ∙ ap is_some (strip-self p r))

module _ (t : Flat) (h : IsTree t) (v : Path) where
  -- where a leaf stands, it alone is removed
  pub minus_leaf : (x : Leaf) → at t v ≡ Some x → remove t v ≡ minus (point v) t
  unfolding remove
  minus_leaf x e = filter-each (λ p. not (is_prefix v p)) (λ p. not (in_cone (point v) p)) t (each_entry (λ d. not (is_prefix v d.0) ≡ not (in_cone (point v) d.0)) t h.sorted (λ d k. ap not (by d k (strip v d.0) refl)))
    where
      by : (d : Path × Leaf) → at t d.0 ≡ Some d.1 → (o : Option Path) → strip v d.0 ≡ o → is_prefix v d.0 ≡ in_cone (point v) d.0
      by d k None g = front_strip v d.0 ∙ (λ i. is_some (g i)) ∙ (λ i. is_some (whole (sym g i)))
      by d k (Some []) g = front_strip v d.0 ∙ (λ i. is_some (g i)) ∙ (λ i. is_some (whole (sym g i)))
      by d k (Some (c ∷ r)) g =
          let path = strip-is v d.0 (c ∷ r) g in
          absurd (longer_not v c r (at_apart t h.apart v d.0 x d.1 e k (ap (comparable v) path ∙ front_comparable v (c ∷ r)) ∙ path))

  -- where none stands, what lies below is removed
  pub minus_below : at t v ≡ None → remove t v ≡ minus (below v) t
  unfolding remove
  minus_below e = filter-each (λ p. not (is_prefix v p)) (λ p. not (in_cone (below v) p)) t (each_entry (λ d. not (is_prefix v d.0) ≡ not (in_cone (below v) d.0)) t h.sorted (λ d k. ap not (by d k (strip v d.0) refl)))
    where
      by : (d : Path × Leaf) → at t d.0 ≡ Some d.1 → (o : Option Path) → strip v d.0 ≡ o → is_prefix v d.0 ≡ in_cone (below v) d.0
      by d k None g = front_strip v d.0 ∙ (λ i. is_some (g i)) ∙ (λ i. is_some (proper (sym g i)))
      by d k (Some []) g = absurd (none-some d.1 (sym e ∙ ap (at t) (sym (strip-is v d.0 [] g ∙ append-nil v)) ∙ k))
      by d k (Some (c ∷ r)) g = front_strip v d.0 ∙ (λ i. is_some (g i)) ∙ (λ i. is_some (proper (sym g i)))

  pub no_leaf : at t v ≡ None → t ≡ minus (point v) t
  no_leaf e = sym (filter-all (λ p. not (in_cone (point v) p)) t (each_entry (λ d. not (in_cone (point v) d.0) ≡ true) t h.sorted (λ d k. by d k (strip v d.0) refl)))
    where
      by : (d : Path × Leaf) → at t d.0 ≡ Some d.1 → (o : Option Path) → strip v d.0 ≡ o → not (in_cone (point v) d.0) ≡ true
      by d k None g = λ i. not (is_some (whole (g i)))
      by d k (Some []) g = absurd (none-some d.1 (sym e ∙ ap (at t) (sym (strip-is v d.0 [] g ∙ append-nil v)) ∙ k))
      by d k (Some (c ∷ r)) g = λ i. not (is_some (whole (g i)))

  pub none_below : under t v ≡ [] → t ≡ minus (below v) t
  none_below e = sym (filter-all (λ p. not (in_cone (below v) p)) t (each_entry (λ d. not (in_cone (below v) d.0) ≡ true) t h.sorted (λ d k. by d k (strip v d.0) refl)))
    where
      by : (d : Path × Leaf) → at t d.0 ≡ Some d.1 → (o : Option Path) → strip v d.0 ≡ o → not (in_cone (below v) d.0) ≡ true
      by d k None g = λ i. not (is_some (proper (g i)))
      by d k (Some []) g = λ i. not (is_some (proper (g i)))
      by d k (Some (c ∷ r)) g = absurd (none-some d.1 (ap (λ u. at u (c ∷ r)) (sym e) ∙ at-under t v c r ∙ ap (at t) (sym (strip-is v d.0 (c ∷ r) g)) ∙ k))

  leaf_there : (o : Option Leaf) (u : Flat) (x : Leaf) → option_or (option_map LeafNode o) (if_full u) ≡ Some (LeafNode x) → o ≡ Some x
  leaf_there (Some y) u x e = let same : LeafNode y ≡ LeafNode x = same_Some (LeafNode y) (LeafNode x) e in cc
  leaf_there None [] x e = cc
  leaf_there None (d ∷ u) x e = let same : TreeNode (d ∷ u) ≡ LeafNode x = same_Some (TreeNode (d ∷ u)) (LeafNode x) e in cc

  tree_there : (o : Option Leaf) (u w : Flat) → option_or (option_map LeafNode o) (if_full u) ≡ Some (TreeNode w) → o ≡ None
  tree_there (Some y) u w e = let same : LeafNode y ≡ TreeNode w = same_Some (LeafNode y) (TreeNode w) e in cc
  tree_there None u w e = refl

  -- what stands there is of the cone's kind, and is removed
  pub taken_leaf : (x : Leaf) → standing t v ≡ Some (LeafNode x) → remove t v ≡ minus (cone_of true v) t
  taken_leaf x e = minus_leaf x (leaf_there (at t v) (under t v) x e)

  pub taken_tree : (u : Flat) → standing t v ≡ Some (TreeNode u) → remove t v ≡ minus (cone_of false v) t
  taken_tree u e = minus_below (tree_there (at t v) (under t v) u e)

  -- it is not
  pub other_leaf : (x : Leaf) → standing t v ≡ Some (LeafNode x) → t ≡ minus (cone_of false v) t
  other_leaf x e = none_below (leaf_under t v x h (leaf_there (at t v) (under t v) x e))

  pub other_tree : (u : Flat) → standing t v ≡ Some (TreeNode u) → t ≡ minus (cone_of true v) t
  other_tree u e = no_leaf (tree_there (at t v) (under t v) u e)

  pub nothing_there : (b : Bool) → standing t v ≡ None → t ≡ minus (cone_of b v) t
  nothing_there true e = no_leaf (nothing_at (at t v) (under t v) e).0
  nothing_there false e = none_below (nothing_at (at t v) (under t v) e).1

-- ---- a cone of paths behind a front

-- a cone of which no path lies below s
pub minus_away : (t : Flat) (s : Path) (d : Cone) → IsTree t → covers (below s) d ≡ false → covers d (below s) ≡ false → t ≡ filter (λ e. not (in_cone d (s ++ e.0))) t
minus_away t s d h a b = sym (filter-all (λ p. not (in_cone d (s ++ p))) t (each_entry (λ e. not (in_cone d (s ++ e.0)) ≡ true) t h.sorted (λ e k. by e.0 (all_at is_path t e.0 e.1 h.paths k) (tail d (s ++ e.0)) refl)))
  where
    full : (p : Path) → T (is_path p) → proper (Some p) ≡ Some p
    full [] v = absurd v
    full (c ∷ p) v = refl

    by : (p : Path) → T (is_path p) → (o : Option Path) → tail d (s ++ p) ≡ o → not (in_cone d (s ++ p)) ≡ true
    by p v None g = λ i. not (is_some (g i))
    by p v (Some r) g = elim (nested (below s) d (s ++ p) p r (below-has s p (full p v)) g) [
      | inl c ↦ absurd (true≢false (sym c ∙ a))
      | inr c ↦ absurd (true≢false (sym c ∙ b))
    ]

tail-in : (b : Bool) (s v r : Path) → tail (cone_of b (s ++ v)) (s ++ r) ≡ tail (cone_of b v) r
tail-in true s v r = ap whole (strip-in s v r)
tail-in false s v r = ap proper (strip-in s v r)

-- a cone behind s
pub cone_behind : (b : Bool) (s v p : Path) → in_cone (cone_of b v) p ≡ in_cone (cone_of b (s ++ v)) (s ++ p)
cone_behind b s v p = ap is_some (sym (tail-in b s v p))

-- ---- the entries before one

pub thin_alive : (hs : List Cone) (es : List Entry) (j : ℕ) (e : Entry) → Thin hs es → slice_get es j ≡ Some e → alive hs e.0 ≡ true
thin_alive hs [] j e h g = cc
thin_alive hs (d ∷ es) zero e h g = let same : d ≡ e = cc in subst (λ (x : Entry). alive hs x.0 ≡ true) same h.0
thin_alive hs (d ∷ es) (suc j) e h g = (alive-parts (covers d.0 e.0) (alive hs e.0) (thin_alive (d.0 ∷ hs) es j e h.1 g)).1

pub thin_apart : (hs : List Cone) (es : List Entry) (i j : ℕ) (d e : Entry) → Thin hs es → slice_get es i ≡ Some d → slice_get es j ≡ Some e → i < j → covers d.0 e.0 ≡ false
thin_apart hs [] i j d e h f g l = cc
thin_apart hs (c ∷ es) zero zero d e h f g l = absurd (omega arith)
thin_apart hs (c ∷ es) (suc i) zero d e h f g l = absurd (omega arith)
thin_apart hs (c ∷ es) zero (suc j) d e h f g l =
    let same : c ≡ d = cc in
    subst (λ (x : Entry). covers x.0 e.0 ≡ false) same (alive-parts (covers c.0 e.0) (alive hs e.0) (thin_alive (c.0 ∷ hs) es j e h.1 g)).0
thin_apart hs (c ∷ es) (suc i) (suc j) d e h f g l = thin_apart (c.0 ∷ hs) es i j d e h.1 f g (omega arith)

free-app : (xs ys : List Entry) (p : Path) → free_in (xs ++ ys) p ≡ (free_in xs p && free_in ys p)
free-app [] ys p = refl
free-app (e ∷ xs) ys p = elim (not (is_some (tail e.0 p))) as (λ b. (b && free_in (xs ++ ys) p) ≡ ((b && free_in xs p) && free_in ys p)) [ true ↦ free-app xs ys p | false ↦ refl ]

pub free_more : (es : List Entry) (i : ℕ) (e : Entry) (p : Path) → take (i + 1) es ≡ take i es ++ e ∷ [] → free_in (take (i + 1) es) p ≡ (free_in (take i es) p && not (in_cone e.0 p))
free_more es i e p k = ap (λ ds. free_in ds p) k ∙ free-app (take i es) (e ∷ []) p ∙ ap (λ b. free_in (take i es) p && b) (and-true (not (in_cone e.0 p)))
  where
    and-true : (b : Bool) → (b && true) ≡ b
    and-true true = refl
    and-true false = refl
