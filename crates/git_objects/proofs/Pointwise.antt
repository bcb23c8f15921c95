-- A tree by what it answers at paths, and that an edit leaves a tree.
use Rattle.std.proofs.Common.{◌≡◌, Bool, true, false, cond, not, ◌&&◌, ◌||◌, T, [], ◌∷◌, ◌++◌, refl, sym, ap, subst, ◌∙◌, Option, Some, None, true≢false}
use Rattle.std.specs.Ordering.{is_lt}
use Rattle.std.specs.List.{list_all}
use Rattle.std.specs.Cmp.{tied_itself}
use Rattle.std.specs.Cmp.Lexicographic.{bytes_decides}
use Rattle.std.specs.FinMap.{is_sorted}
use Rattle.std.specs.FinMap.Entries.{below_all}
use Rattle.git_objects.specs.Paths.{Path, same_bytes, same_path, is_component, is_path, is_prefix, comparable, path_cmp}
use Rattle.git_objects.specs.Trees.{Leaf, FileLeaf, ExecLeaf, LinkLeaf, ModuleLeaf, is_leaf, same_leaf, Flat, at, IsTree, no_comparable, Node, LeafNode, TreeNode, rests, put, remove}
use Rattle.git_objects.proofs.Order.{path_cmp-total, path_decides}
use Rattle.git_objects.proofs.Basics.{both, first, second, same_bytes-self, same_bytes-back}
use Rattle.git_objects.specs.Lists.{Each}
use Rattle.git_objects.proofs.Maps.{first_some, after, at_rest, at-put, sorted-put, at-remove, sorted-remove}

T-from : (b : Bool) → b ≡ true → T b
T-from true h = tt
T-from false h = absurd (true≢false (sym h))

pub from-T : (b : Bool) → T b → b ≡ true
from-T true h = refl
from-T false h = absurd h

not-both : (b : Bool) → T (not b) → b ≡ true → ⊥
not-both true h e = h
not-both false h e = true≢false (sym e)

or-swap : (a b : Bool) → (a || b) ≡ (b || a)
or-swap true true = refl
or-swap true false = refl
or-swap false true = refl
or-swap false false = refl

-- a test of every path holds where there is a leaf
pub all_at : (f : Path → Bool) (t : Flat) (q : Path) (x : Leaf) → T (list_all (λ e. f e.0) t) → at t q ≡ Some x → T (f q)
all_at f [] q x h e = cc
all_at f (d ∷ t) q x h e =
    elim (same_path q d.0) as (λ b. same_path q d.0 ≡ b → cond b (Some d.1) (at t q) ≡ Some x → T (f q)) [
      | true ↦ λ p g. subst (λ r. T (f r)) (sym ((path_decides q d.0).0 p)) (first _ _ h)
      | false ↦ λ p g. all_at f t q x (second _ _ h) g
    ] refl e

-- as one of every leaf does
pub leaf_at : (f : Leaf → Bool) (t : Flat) (q : Path) (x : Leaf) → T (list_all (λ e. f e.1) t) → at t q ≡ Some x → T (f x)
leaf_at f [] q x h e = cc
leaf_at f (d ∷ t) q x h e =
    elim (same_path q d.0) as (λ b. cond b (Some d.1) (at t q) ≡ Some x → T (f x)) [
      | true ↦ λ g. let same : d.1 ≡ x = cc in subst (λ y. T (f y)) same (first _ _ h)
      | false ↦ λ g. leaf_at f t q x (second _ _ h) g
    ] e

pub at_apart : (t : Flat) → T (no_comparable t) → (p q : Path) (x y : Leaf) → at t p ≡ Some x → at t q ≡ Some y → comparable p q ≡ true → p ≡ q
at_apart [] h p q x y e g c = cc
at_apart (d ∷ t) h p q x y e g c =
    elim (same_path p d.0) as (λ b. same_path p d.0 ≡ b → cond b (Some d.1) (at t p) ≡ Some x → p ≡ q) [
      | true ↦ λ i _. elim (same_path q d.0) as (λ b. same_path q d.0 ≡ b → cond b (Some d.1) (at t q) ≡ Some y → p ≡ q) [
        | true ↦ λ j _. (path_decides p d.0).0 i ∙ sym ((path_decides q d.0).0 j)
        | false ↦ λ j w. absurd (not-both _ (all_at (λ r. not (comparable d.0 r)) t q y (first _ _ h) w) (ap (λ r. comparable r q) (sym ((path_decides p d.0).0 i)) ∙ c))
      ] refl g
      | false ↦ λ i v. elim (same_path q d.0) as (λ b. same_path q d.0 ≡ b → cond b (Some d.1) (at t q) ≡ Some y → p ≡ q) [
        | true ↦ λ j _. absurd (not-both _ (all_at (λ r. not (comparable d.0 r)) t p x (first _ _ h) v) (ap (λ r. comparable r p) (sym ((path_decides q d.0).0 j)) ∙ or-swap (is_prefix q p) (is_prefix p q) ∙ c))
        | false ↦ λ j w. at_apart t (second _ _ h) p q x y v w c
      ] refl g
    ] refl e

-- ---- the other way

later_other : (p q : Path) → T (is_lt (path_cmp p q)) → same_path q p ≡ false
later_other p q h = elim (same_path q p) as (λ b. same_path q p ≡ b → b ≡ false) [
  | true ↦ λ e. absurd (subst (λ o. T (is_lt o)) (ap (path_cmp p) ((path_decides q p).0 e) ∙ tied_itself path_cmp-total p) h)
  | false ↦ λ e. refl
] refl

at_later : (e : Path × Leaf) (t s : Flat) → T (below_all path_cmp e.0 s) → Each (λ d. at t d.0 ≡ Some d.1) s → Each (λ d. at (e ∷ t) d.0 ≡ Some d.1) s
at_later e t [] h g = tt
at_later e t (d ∷ s) h g = (ap (λ b. cond b (Some e.1) (at t d.0)) (later_other e.0 d.0 (first _ _ h)) ∙ g.0, at_later e t s (second _ _ h) g.1)

pub each_at : (t : Flat) → T (is_sorted path_cmp t) → Each (λ d. at t d.0 ≡ Some d.1) t
each_at [] h = tt
each_at (e ∷ t) h = (ap (λ b. cond b (Some e.1) (at t e.0)) ((path_decides e.0 e.0).1 refl), at_later e t t (first _ _ h) (each_at t (second _ _ h)))

all_from : (f : Path → Bool) (t s : Flat) → Each (λ d. at t d.0 ≡ Some d.1) s → ((p : Path) (x : Leaf) → at t p ≡ Some x → T (f p)) → T (list_all (λ e. f e.0) s)
all_from f t [] g is = tt
all_from f t (d ∷ s) g is = both _ _ (is d.0 d.1 g.0) (all_from f t s g.1 is)

leaves_from : (f : Leaf → Bool) (t s : Flat) → Each (λ d. at t d.0 ≡ Some d.1) s → ((p : Path) (x : Leaf) → at t p ≡ Some x → T (f x)) → T (list_all (λ e. f e.1) s)
leaves_from f t [] g is = tt
leaves_from f t (d ∷ s) g is = both _ _ (is d.0 d.1 g.0) (leaves_from f t s g.1 is)

below-list : (p : Path) (t : Flat) → T (below_all path_cmp p t) → T (list_all (λ d. is_lt (path_cmp p d.0)) t)
below-list p [] h = tt
below-list p (d ∷ t) h = both _ _ (first _ _ h) (below-list p t (second _ _ h))

apart_from_at : (t : Flat) → T (is_sorted path_cmp t) → ((p q : Path) (x y : Leaf) → at t p ≡ Some x → at t q ≡ Some y → comparable p q ≡ true → p ≡ q) → T (no_comparable t)
apart_from_at [] h is = tt
apart_from_at (e ∷ t) h is =
    let each = each_at t (second _ _ h) in
    both _ _ (heads t (first _ _ h) (at_later e t t (first _ _ h) each)) (apart_from_at t (second _ _ h) tails)
  where
    heads : (s : Flat) → T (below_all path_cmp e.0 s) → Each (λ d. at (e ∷ t) d.0 ≡ Some d.1) s → T (list_all (λ d. not (comparable e.0 d.0)) s)
    heads [] b g = tt
    heads (d ∷ s) b g =
        both _ _ (elim (comparable e.0 d.0) as (λ c. comparable e.0 d.0 ≡ c → T (not c)) [
          | true ↦ λ c. true≢false (sym ((path_decides d.0 e.0).1 (sym (is e.0 d.0 e.1 d.1 (ap (λ b. cond b (Some e.1) (at t e.0)) ((path_decides e.0 e.0).1 refl)) g.0 c))) ∙ later_other e.0 d.0 (first _ _ b))
          | false ↦ λ c. tt
        ] refl) (heads s (second _ _ b) g.1)

    after_first : (p : Path) (x : Leaf) → at t p ≡ Some x → at (e ∷ t) p ≡ Some x
    after_first p x g = ap (λ b. cond b (Some e.1) (at t p)) (later_other e.0 p (all_at (λ r. is_lt (path_cmp e.0 r)) t p x (below-list e.0 t (first _ _ h)) g)) ∙ g

    tails : (p q : Path) (x y : Leaf) → at t p ≡ Some x → at t q ≡ Some y → comparable p q ≡ true → p ≡ q
    tails p q x y g k c = is p q x y (after_first p x g) (after_first q y k) c

pub tree_from : (t : Flat) → T (is_sorted path_cmp t) → ((p : Path) (x : Leaf) → at t p ≡ Some x → T (is_path p)) →
    ((p : Path) (x : Leaf) → at t p ≡ Some x → T (is_leaf x)) →
    ((p q : Path) (x y : Leaf) → at t p ≡ Some x → at t q ≡ Some y → comparable p q ≡ true → p ≡ q) → IsTree t
tree_from t h v l is = record { sorted = h; paths = all_from is_path t t (each_at t h) v; leaves = leaves_from is_leaf t t (each_at t h) l; apart = apart_from_at t h is }

-- a valid leaf, or a tree
abbrev pub IsNode : Node → Type 0
IsNode (LeafNode x) = T (is_leaf x)
IsNode (TreeNode t) = IsTree t

-- ---- an edit leaves a tree

after_is : (p q r : Path) → after p q ≡ Some r → q ≡ p ++ r
after_is [] q r e = cc
after_is (c ∷ p) [] r e = cc
after_is (c ∷ p) (d ∷ q) r e =
    elim (same_bytes c d) as (λ b. same_bytes c d ≡ b → cond b (after p q) None ≡ Some r → d ∷ q ≡ c ∷ p ++ r) [
      | true ↦ λ k g. λ i. sym ((bytes_decides c d).0 k) i ∷ after_is p q r g i
      | false ↦ λ k g. cc
    ] refl e

-- what stands behind p is comparable as the rests are, and with another path only where p is
comparable_rests : (p r s : Path) → comparable (p ++ r) (p ++ s) ≡ comparable r s
comparable_rests [] r s = refl
comparable_rests (c ∷ p) r s = ap (λ b. (b && is_prefix (p ++ r) (p ++ s)) || (b && is_prefix (p ++ s) (p ++ r))) (same_bytes-self c) ∙ comparable_rests p r s

comparable_front : (p r q : Path) → comparable (p ++ r) q ≡ true → comparable p q ≡ true
comparable_front [] r q h = refl
comparable_front (c ∷ p) r [] h = refl
comparable_front (c ∷ p) r (d ∷ q) h =
    ap (λ b. (same_bytes c d && is_prefix p q) || (b && is_prefix q p)) (same_bytes-back d c)
    ∙ elim (same_bytes c d) as (λ b. (b && is_prefix (p ++ r) q) || (b && is_prefix q (p ++ r)) ≡ true → (b && is_prefix p q) || (b && is_prefix q p) ≡ true) [
      | true ↦ λ g. comparable_front p r q g
      | false ↦ λ g. g
    ] (ap (λ b. (same_bytes c d && is_prefix (p ++ r) q) || (b && is_prefix q (p ++ r))) (same_bytes-back c d) ∙ h)

valid_behind : (p r : Path) → T (is_path p) → T (list_all is_component r) → T (is_path (p ++ r))
valid_behind [] r h g = absurd h
valid_behind (c ∷ []) r h g = both (is_component c) _ (first (is_component c) _ h) g
valid_behind (c ∷ d ∷ p) r h g = both (is_component c) _ (first (is_component c) _ h) (valid_behind (d ∷ p) r (second (is_component c) _ h) g)

rest_valid : (p : Path) → T (is_path p) → T (list_all is_component p)
rest_valid [] h = tt
rest_valid (c ∷ p) h = h

node_valid : (n : Node) → IsNode n → (r : Path) (x : Leaf) → at (rests n) r ≡ Some x → T (list_all is_component r)
node_valid (LeafNode y) h r x e = all_at (list_all is_component) (([], y) ∷ []) r x tt e
node_valid (TreeNode t) h r x e = rest_valid r (all_at is_path t r x h.paths e)

node_leaf : (n : Node) → IsNode n → (r : Path) (x : Leaf) → at (rests n) r ≡ Some x → T (is_leaf x)
node_leaf (LeafNode y) h r x e = leaf_at is_leaf (([], y) ∷ []) r x (both (is_leaf y) _ h tt) e
node_leaf (TreeNode t) h r x e = leaf_at is_leaf t r x h.leaves e

node_apart : (n : Node) → IsNode n → T (no_comparable (rests n))
node_apart (LeafNode x) h = tt
node_apart (TreeNode t) h = h.apart

-- where a leaf of the result comes from
data Source (t : Flat) (p : Path) (n : Node) (q : Path) (x : Leaf) : Type 0 where
  New : (r : Path) → q ≡ p ++ r → at (rests n) r ≡ Some x → Source t p n q x
  Old : comparable p q ≡ false → at t q ≡ Some x → Source t p n q x

old_source : (t : Flat) (p : Path) (n : Node) (q : Path) (x : Leaf) → cond (comparable p q) None (at t q) ≡ Some x → Source t p n q x
old_source t p n q x e = elim (comparable p q) as (λ b. comparable p q ≡ b → cond b None (at t q) ≡ Some x → Source t p n q x) [ true ↦ λ k g. absurd (none_some x g) | false ↦ λ k g. Old k g ] refl e
  where
    none_some : (x : Leaf) → None ≡ Some x → ⊥
    none_some x h = cc

put_source : (t : Flat) (p : Path) (n : Node) (q : Path) (x : Leaf) → at (put t p n) q ≡ Some x → Source t p n q x
put_source t p n q x e = by (after p q) refl (sym (at-put t p n q) ∙ e)
  where
    by : (o : Option Path) → after p q ≡ o → first_some (at_rest (rests n) o) (cond (comparable p q) None (at t q)) ≡ Some x → Source t p n q x
    by None k g = old_source t p n q x g
    by (Some r) k g = elim (at (rests n) r) as (λ o. at (rests n) r ≡ o → first_some o (cond (comparable p q) None (at t q)) ≡ Some x → Source t p n q x) [
      | None ↦ λ i w. old_source t p n q x w
      | Some y ↦ λ i w. New r (after_is p q r k) (i ∙ w)
    ] refl g

put_apart : (t : Flat) (p : Path) (n : Node) → IsTree t → IsNode n → (q s : Path) (x y : Leaf) → Source t p n q x → Source t p n s y → comparable q s ≡ true → q ≡ s
put_apart t p n h u q s x y (New r e i) (New k f j) c = e ∙ ap (λ l. p ++ l) (at_apart (rests n) (node_apart n u) r k x y i j (sym (comparable_rests p r k) ∙ (λ l. comparable (sym e l) (sym f l)) ∙ c)) ∙ sym f
put_apart t p n h u q s x y (New r e i) (Old k j) c = absurd (true≢false (sym (comparable_front p r s (ap (λ l. comparable l s) (sym e) ∙ c)) ∙ k))
put_apart t p n h u q s x y (Old k j) (New r e i) c = absurd (true≢false (sym (comparable_front p r q (ap (λ l. comparable l q) (sym e) ∙ or-swap (is_prefix s q) (is_prefix q s) ∙ c)) ∙ k))
put_apart t p n h u q s x y (Old k j) (Old l i) c = at_apart t h.apart q s x y j i c

put_valid : (t : Flat) (p : Path) (n : Node) → IsTree t → T (is_path p) → IsNode n → (q : Path) (x : Leaf) → Source t p n q x → T (is_path q)
put_valid t p n h v u q x (New r e i) = subst (λ l. T (is_path l)) (sym e) (valid_behind p r v (node_valid n u r x i))
put_valid t p n h v u q x (Old k j) = all_at is_path t q x h.paths j

put_leaf : (t : Flat) (p : Path) (n : Node) → IsTree t → IsNode n → (q : Path) (x : Leaf) → Source t p n q x → T (is_leaf x)
put_leaf t p n h u q x (New r e i) = node_leaf n u r x i
put_leaf t p n h u q x (Old k j) = leaf_at is_leaf t q x h.leaves j

-- a leaf or a tree that is put into a tree leaves a tree
pub put-tree : (t : Flat) (p : Path) (n : Node) → IsTree t → T (is_path p) → IsNode n → IsTree (put t p n)
put-tree t p n h v u =
    tree_from (put t p n) (sorted-put t p n h.sorted)
    (λ q x e. put_valid t p n h v u q x (put_source t p n q x e))
    (λ q x e. put_leaf t p n h u q x (put_source t p n q x e))
    (λ q s x y e f c. put_apart t p n h u q s x y (put_source t p n q x e) (put_source t p n s y f) c)

-- ---- a removal leaves a tree

kept : (t : Flat) (p q : Path) (x : Leaf) → at (remove t p) q ≡ Some x → at t q ≡ Some x
kept t p q x e = by (is_prefix p q) (sym (at-remove t p q) ∙ e)
  where
    by : (b : Bool) → cond b None (at t q) ≡ Some x → at t q ≡ Some x
    by true g = cc
    by false g = g

pub remove-tree : (t : Flat) (p : Path) → IsTree t → IsTree (remove t p)
remove-tree t p h =
    tree_from (remove t p) (sorted-remove t p h.sorted)
    (λ q x e. all_at is_path t q x h.paths (kept t p q x e))
    (λ q x e. leaf_at is_leaf t q x h.leaves (kept t p q x e))
    (λ q s x y e f c. at_apart t h.apart q s x y (kept t p q x e) (kept t p s y f) c)

-- leaves that pass the test are one
pub leaf-is : (x y : Leaf) → same_leaf x y ≡ true → x ≡ y
leaf-is (FileLeaf a) (FileLeaf b) e = ap FileLeaf ((bytes_decides a b).0 e)
leaf-is (ExecLeaf a) (ExecLeaf b) e = ap ExecLeaf ((bytes_decides a b).0 e)
leaf-is (LinkLeaf a) (LinkLeaf b) e = ap LinkLeaf ((bytes_decides a b).0 e)
leaf-is (ModuleLeaf a) (ModuleLeaf b) e = ap ModuleLeaf ((bytes_decides a b).0 e)
leaf-is (FileLeaf a) (ExecLeaf b) e = absurd (true≢false (sym e))
leaf-is (FileLeaf a) (LinkLeaf b) e = absurd (true≢false (sym e))
leaf-is (FileLeaf a) (ModuleLeaf b) e = absurd (true≢false (sym e))
leaf-is (ExecLeaf a) (FileLeaf b) e = absurd (true≢false (sym e))
leaf-is (ExecLeaf a) (LinkLeaf b) e = absurd (true≢false (sym e))
leaf-is (ExecLeaf a) (ModuleLeaf b) e = absurd (true≢false (sym e))
leaf-is (LinkLeaf a) (FileLeaf b) e = absurd (true≢false (sym e))
leaf-is (LinkLeaf a) (ExecLeaf b) e = absurd (true≢false (sym e))
leaf-is (LinkLeaf a) (ModuleLeaf b) e = absurd (true≢false (sym e))
leaf-is (ModuleLeaf a) (FileLeaf b) e = absurd (true≢false (sym e))
leaf-is (ModuleLeaf a) (ExecLeaf b) e = absurd (true≢false (sym e))
leaf-is (ModuleLeaf a) (LinkLeaf b) e = absurd (true≢false (sym e))
