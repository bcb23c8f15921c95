-- The flat map of what a directory lists is a tree.
use Rattle.std.proofs.Common.{◌≡◌, Bool, true, false, not, ◌&&◌, ◌||◌, T, List, [], ◌∷◌, ◌++◌, refl, sym, ap, subst, ◌∙◌}
use Rattle.std.specs.declared.cmp.Ordering.{Ordering}
use Rattle.std.specs.declared.cmp.Ordering.TheVariants.{Less}
use Rattle.std.specs.Ordering.{nat_cmp, ordering_then, is_lt}
use Rattle.std.specs.Cmp.{tied_itself}
use Rattle.std.specs.List.{list_all}
use Rattle.std.specs.Cmp.Lexicographic.{slice_cmp, nat_list_cmp_total}
use Rattle.std.specs.FinMap.{is_sorted}
use Rattle.std.specs.FinMap.Entries.{below_all}
use Rattle.git_objects.specs.Paths.{Bytes, Path, same_bytes, key, path_cmp, is_path, is_component, comparable, is_prefix}
use Rattle.git_objects.specs.Trees.{is_leaf, Flat, IsTree, Node, LeafNode, TreeNode, rests, no_comparable}
use Rattle.git_objects.specs.Entries.{dir_key, Before}
use Rattle.git_objects.proofs.Basics.{both, first, second, same_bytes-self, same_bytes-back, list_all-append}
use Rattle.git_objects.specs.Lists.{Each}
use Rattle.object_store.specs.Unfolding.{below}

-- a component, and what stands there
abbrev pub Item : Type 0
Item = Bytes × Node

abbrev pub item_component : Item → Bytes
item_component i = i.0

abbrev pub is_tree : Node → Bool
is_tree (LeafNode x) = false
is_tree (TreeNode t) = true

abbrev pub item_dir : Item → Bool
item_dir i = is_tree i.1

abbrev pub join : List Item → Flat
join [] = []
join (i ∷ is) = below i.0 (rests i.1) ++ join is

-- a valid leaf, or a tree with a path
abbrev pub IsFullNode : Node → Type 0
IsFullNode (LeafNode x) = T (is_leaf x)
IsFullNode (TreeNode []) = ⊥
IsFullNode (TreeNode (e ∷ es)) = IsTree (e ∷ es)

abbrev pub AreItems : List Item → Type 0
AreItems [] = Unit
AreItems (i ∷ is) = (is_component i.0 ≡ true) × IsFullNode i.1 × Before item_component item_dir i is × AreItems is

-- ---- sorted

below_all-append : (x : Path) (a b : Flat) → T (below_all path_cmp x a) → T (below_all path_cmp x b) → T (below_all path_cmp x (a ++ b))
below_all-append x [] b h k = k
below_all-append x (e ∷ a) b h k = both _ _ (first _ _ h) (below_all-append x a b (second _ _ h) k)

-- the paths of t, behind c, have k as first key
abbrev Keyed : Bytes → Bytes → Flat → Type 0
Keyed c k t = Each (λ e. key c e.0 ≡ k) t

Keyed-paths : (c : Bytes) (t : Flat) → T (list_all (λ e. is_path e.0) t) → Keyed c (c ++ 47 ∷ []) t
Keyed-paths c [] h = tt
Keyed-paths c (([], x) ∷ t) h = absurd h
Keyed-paths c ((d ∷ p, x) ∷ t) h = (refl, Keyed-paths c t (second (is_path (d ∷ p)) _ h))

Keyed-node : (c : Bytes) (n : Node) → IsFullNode n → Keyed c (dir_key c (is_tree n)) (rests n)
Keyed-node c (LeafNode x) h = (refl, tt)
Keyed-node c (TreeNode []) h = absurd h
Keyed-node c (TreeNode (e ∷ es)) h = Keyed-paths c (e ∷ es) h.paths

less_first : (x y : Bytes) (o : Ordering) → slice_cmp nat_cmp x y ≡ Less → T (is_lt (ordering_then (slice_cmp nat_cmp x y) o))
less_first x y o e = subst (λ r. T (is_lt (ordering_then r o))) (sym e) tt

below_later : (c d k l : Bytes) (r : Path) (t : Flat) → key c r ≡ k → slice_cmp nat_cmp k l ≡ Less → Keyed d l t → T (below_all path_cmp (c ∷ r) (below d t))
below_later c d k l r [] e h g = tt
below_later c d k l r (f ∷ t) e h g =
    both _ _ (less_first (key c r) (key d f.0) _ (ap (λ x. slice_cmp nat_cmp x (key d f.0)) e ∙ ap (slice_cmp nat_cmp k) g.0 ∙ h)) (below_later c d k l r t e h g.1)

below_join : (i : Item) (r : Path) (js : List Item) → key i.0 r ≡ dir_key i.0 (is_tree i.1) → Before item_component item_dir i js → AreItems js → T (below_all path_cmp (i.0 ∷ r) (join js))
below_join i r [] e h g = tt
below_join i r (j ∷ js) e h g =
    below_all-append (i.0 ∷ r) (below j.0 (rests j.1)) (join js)
    (below_later i.0 j.0 _ _ r (rests j.1) e h.0 (Keyed-node j.0 j.1 g.1))
    (below_join i r js e h.2 g.3)

below_below : (c k : Bytes) (r : Path) (t : Flat) → key c r ≡ k → Keyed c k t → T (below_all path_cmp r t) → T (below_all path_cmp (c ∷ r) (below c t))
below_below c k r [] e g h = tt
below_below c k r (f ∷ t) e g h =
    both _ _
    (subst (λ o. T (is_lt (ordering_then o (path_cmp r f.0)))) (sym (ap (λ x. slice_cmp nat_cmp x (key c f.0)) e ∙ ap (slice_cmp nat_cmp k) g.0 ∙ tied_itself nat_list_cmp_total k)) (first _ _ h))
    (below_below c k r t e g.1 (second _ _ h))

sorted_block : (c k : Bytes) (t s : Flat) → Keyed c k t → T (is_sorted path_cmp t) → ((r : Path) → key c r ≡ k → T (below_all path_cmp (c ∷ r) s)) → T (is_sorted path_cmp s) → T (is_sorted path_cmp (below c t ++ s))
sorted_block c k [] s g h l z = z
sorted_block c k (e ∷ t) s g h l z =
    both _ _
    (below_all-append (c ∷ e.0) (below c t) s (below_below c k e.0 t g.0 g.1 (first _ _ h)) (l e.0 g.0))
    (sorted_block c k t s g.1 (second _ _ h) l z)

node_sorted : (n : Node) → IsFullNode n → T (is_sorted path_cmp (rests n))
node_sorted (LeafNode x) h = tt
node_sorted (TreeNode []) h = absurd h
node_sorted (TreeNode (e ∷ es)) h = h.sorted

join-sorted : (is : List Item) → AreItems is → T (is_sorted path_cmp (join is))
join-sorted [] h = tt
join-sorted (i ∷ is) h =
    sorted_block i.0 (dir_key i.0 (is_tree i.1)) (rests i.1) (join is) (Keyed-node i.0 i.1 h.1) (node_sorted i.1 h.1)
    (λ r e. below_join i r is e h.2 h.3) (join-sorted is h.3)

-- ---- valid paths

valid_rest : (c : Bytes) (p : Path) → is_component c ≡ true → T (is_path p) → T (is_path (c ∷ p))
valid_rest c [] h g = absurd g
valid_rest c (d ∷ p) h g = both (is_component c) _ (subst T (sym h) tt) g

valid_below : (c : Bytes) (t : Flat) → is_component c ≡ true → T (list_all (λ e. is_path e.0) t) → T (list_all (λ e. is_path e.0) (below c t))
valid_below c [] h g = tt
valid_below c (e ∷ t) h g = both _ _ (valid_rest c e.0 h (first _ _ g)) (valid_below c t h (second _ _ g))

valid_node : (c : Bytes) (n : Node) → is_component c ≡ true → IsFullNode n → T (list_all (λ e. is_path e.0) (below c (rests n)))
valid_node c (LeafNode x) h g = both (is_component c && true) _ (both _ _ (subst T (sym h) tt) tt) tt
valid_node c (TreeNode []) h g = absurd g
valid_node c (TreeNode (e ∷ es)) h g = valid_below c (e ∷ es) h g.paths

join-paths : (is : List Item) → AreItems is → T (list_all (λ e. is_path e.0) (join is))
join-paths [] h = tt
join-paths (i ∷ is) h = list_all-append (λ e. is_path e.0) (below i.0 (rests i.1)) (join is) (valid_node i.0 i.1 h.0 h.1) (join-paths is h.3)

-- ---- valid leaves

leaves_below : (c : Bytes) (t : Flat) → T (list_all (λ e. is_leaf e.1) t) → T (list_all (λ e. is_leaf e.1) (below c t))
leaves_below c [] g = tt
leaves_below c (e ∷ t) g = both _ _ (first _ _ g) (leaves_below c t (second _ _ g))

leaves_node : (c : Bytes) (n : Node) → IsFullNode n → T (list_all (λ e. is_leaf e.1) (below c (rests n)))
leaves_node c (LeafNode x) g = both (is_leaf x) _ g tt
leaves_node c (TreeNode []) g = absurd g
leaves_node c (TreeNode (e ∷ es)) g = leaves_below c (e ∷ es) g.leaves

join-leaves : (is : List Item) → AreItems is → T (list_all (λ e. is_leaf e.1) (join is))
join-leaves [] h = tt
join-leaves (i ∷ is) h = list_all-append (λ e. is_leaf e.1) (below i.0 (rests i.1)) (join is) (leaves_node i.0 i.1 h.1) (join-leaves is h.3)

-- ---- no two comparable

apart_components : (c d : Bytes) (p q : Path) → same_bytes c d ≡ false → T (not (comparable (c ∷ p) (d ∷ q)))
apart_components c d p q e =
    subst (λ b. T (not ((same_bytes c d && is_prefix p q) || (b && is_prefix q p)))) (same_bytes-back c d)
    (subst (λ b. T (not ((b && is_prefix p q) || (b && is_prefix q p)))) (sym e) tt)

apart_from : (c d : Bytes) (p : Path) (t : Flat) → same_bytes c d ≡ false → T (list_all (λ e. not (comparable (c ∷ p) e.0)) (below d t))
apart_from c d p [] e = tt
apart_from c d p (f ∷ t) e = both _ _ (apart_components c d p f.0 e) (apart_from c d p t e)

apart_join : (i : Item) (p : Path) (js : List Item) → Before item_component item_dir i js → T (list_all (λ e. not (comparable (i.0 ∷ p) e.0)) (join js))
apart_join i p [] h = tt
apart_join i p (j ∷ js) h = list_all-append (λ e. not (comparable (i.0 ∷ p) e.0)) (below j.0 (rests j.1)) (join js) (apart_from i.0 j.0 p (rests j.1) h.1) (apart_join i p js h.2)

apart_below : (c : Bytes) (p : Path) (t : Flat) → T (list_all (λ e. not (comparable p e.0)) t) → T (list_all (λ e. not (comparable (c ∷ p) e.0)) (below c t))
apart_below c p [] h = tt
apart_below c p (f ∷ t) h =
    both _ _ (subst (λ b. T (not ((b && is_prefix p f.0) || (b && is_prefix f.0 p)))) (sym (same_bytes-self c)) (first _ _ h)) (apart_below c p t (second _ _ h))

apart_block : (c : Bytes) (t s : Flat) → T (no_comparable t) → ((p : Path) → T (list_all (λ e. not (comparable (c ∷ p) e.0)) s)) → T (no_comparable s) → T (no_comparable (below c t ++ s))
apart_block c [] s h l z = z
apart_block c (e ∷ t) s h l z =
    both _ _ (list_all-append (λ d. not (comparable (c ∷ e.0) d.0)) (below c t) s (apart_below c e.0 t (first _ _ h)) (l e.0)) (apart_block c t s (second _ _ h) l z)

node_apart : (n : Node) → IsFullNode n → T (no_comparable (rests n))
node_apart (LeafNode x) h = tt
node_apart (TreeNode []) h = absurd h
node_apart (TreeNode (e ∷ es)) h = h.apart

join-apart : (is : List Item) → AreItems is → T (no_comparable (join is))
join-apart [] h = tt
join-apart (i ∷ is) h = apart_block i.0 (rests i.1) (join is) (node_apart i.1 h.1) (λ p. apart_join i p is h.2) (join-apart is h.3)

pub join-tree : (is : List Item) → AreItems is → IsTree (join is)
join-tree is h = record { sorted = join-sorted is h; paths = join-paths is h; leaves = join-leaves is h; apart = join-apart is h }
