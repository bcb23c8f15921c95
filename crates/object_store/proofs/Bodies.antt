-- What a listing's flat map has at a component, and its body.
use Rattle.std.proofs.Common.{◌≡◌, ℕ, suc, Bool, true, false, cond, ◌&&◌, T, List, [], ◌∷◌, ◌++◌, map, refl, sym, ap, subst, ◌∙◌, append-nil, Option, Some, None}
use Rattle.std.specs.List.{flat_map, cons_option, list_all}
use Rattle.std.specs.Cmp.Lexicographic.{bytes_decides}
use Rattle.git_objects.specs.Paths.{Bytes, Path, same_bytes, same_path, is_path}
use Rattle.git_objects.specs.Trees.{Leaf, Flat, at, Node, LeafNode, TreeNode, rests, rest_below, moved, under}
use Rattle.git_objects.specs.Entries.{Before}
use Rattle.git_objects.specs.Names.{tops, add_top, name, line, line_of, leaf_mode, leaf_name, body_within}
use Rattle.git_objects.specs.declared.kind.Kind.TheVariants.{Tree}
use Rattle.git_objects.specs.declared.mode.Mode.TheVariants.{Dir}
use Rattle.git_objects.proofs.Basics.{second, same_bytes-self, same_bytes-back}
use Rattle.git_objects.specs.Lists.{Each}
use Rattle.object_store.specs.Unfolding.{below}
use Rattle.object_store.proofs.Listings.{Item, item_component, item_dir, join, IsFullNode, AreItems}

-- what a component has
abbrev pub item_at : Bytes → List Item → Option Node
item_at c [] = None
item_at c (i ∷ is) = cond (same_bytes c i.0) (Some i.1) (item_at c is)

abbrev pub leaf_of : Option Node → Option Leaf
leaf_of None = None
leaf_of (Some (LeafNode x)) = Some x
leaf_of (Some (TreeNode t)) = None

abbrev pub tree_of : Option Node → Flat
tree_of None = []
tree_of (Some (LeafNode x)) = []
tree_of (Some (TreeNode t)) = t

abbrev ArePaths : Flat → Type 0
ArePaths t = T (list_all (λ e. is_path e.0) t)

-- ---- under

under_other : (c d : Bytes) (t s : Flat) → same_bytes c d ≡ false → under (below d t ++ s) (c ∷ []) ≡ under s (c ∷ [])
under_other c d [] s e = refl
under_other c d (f ∷ t) s e = (λ i. cons_option (moved (cond (e i) (rest_below [] f.0) None) f.1) (under (below d t ++ s) (c ∷ []))) ∙ under_other c d t s e

under_tree : (c d : Bytes) (t s : Flat) → same_bytes c d ≡ true → ArePaths t → under (below d t ++ s) (c ∷ []) ≡ t ++ under s (c ∷ [])
under_tree c d [] s e h = refl
under_tree c d (([], x) ∷ t) s e h = absurd h
under_tree c d ((f ∷ q, x) ∷ t) s e h =
    λ i. cons_option (moved (cond (e i) (Some (f ∷ q)) None) x) (under_tree c d t s e (second (is_path (f ∷ q)) _ h) i)

under_node : (c d : Bytes) (n : Node) (s : Flat) → same_bytes c d ≡ true → IsFullNode n → under s (c ∷ []) ≡ [] → under (below d (rests n) ++ s) (c ∷ []) ≡ tree_of (Some n)
under_node c d (LeafNode x) s e h g = (λ i. cons_option (moved (cond (e i) None None) x) (under s (c ∷ []))) ∙ g
under_node c d (TreeNode []) s e h g = absurd h
under_node c d (TreeNode (f ∷ t)) s e h g = under_tree c d (f ∷ t) s e h.paths ∙ ap (λ (r : Flat). (f ∷ t) ++ r) g ∙ append-nil (f ∷ t)

under_absent : (i : Item) (js : List Item) → Before item_component item_dir i js → under (join js) (i.0 ∷ []) ≡ []
under_absent i [] h = refl
under_absent i (j ∷ js) h = under_other i.0 j.0 (rests j.1) (join js) h.1 ∙ under_absent i js h.2

under_join : (c : Bytes) (is : List Item) → AreItems is → under (join is) (c ∷ []) ≡ tree_of (item_at c is)
under_join c [] h = refl
under_join c (i ∷ is) h =
    elim (same_bytes c i.0) as (λ b. same_bytes c i.0 ≡ b → under (join (i ∷ is)) (c ∷ []) ≡ tree_of (cond b (Some i.1) (item_at c is))) [
      | true ↦ λ e. under_node c i.0 i.1 (join is) e h.1 (subst (λ d. under (join is) (d ∷ []) ≡ []) (sym ((bytes_decides c i.0).0 e)) (under_absent i is h.2))
      | false ↦ λ e. under_other c i.0 (rests i.1) (join is) e ∙ under_join c is h.3
    ] refl

-- ---- at

at_other : (c d : Bytes) (t s : Flat) → same_bytes c d ≡ false → at (below d t ++ s) (c ∷ []) ≡ at s (c ∷ [])
at_other c d [] s e = refl
at_other c d (f ∷ t) s e = (λ i. cond (e i && same_path [] f.0) (Some f.1) (at (below d t ++ s) (c ∷ []))) ∙ at_other c d t s e

no_leaf : (b : Bool) (x : Leaf) (o : Option Leaf) → cond (b && false) (Some x) o ≡ o
no_leaf true x o = refl
no_leaf false x o = refl

at_tree : (c d : Bytes) (t s : Flat) → ArePaths t → at (below d t ++ s) (c ∷ []) ≡ at s (c ∷ [])
at_tree c d [] s h = refl
at_tree c d (([], x) ∷ t) s h = absurd h
at_tree c d ((f ∷ q, x) ∷ t) s h = no_leaf (same_bytes c d) x (at (below d t ++ s) (c ∷ [])) ∙ at_tree c d t s (second (is_path (f ∷ q)) _ h)

at_node : (c d : Bytes) (n : Node) (s : Flat) → same_bytes c d ≡ true → IsFullNode n → at s (c ∷ []) ≡ None → at (below d (rests n) ++ s) (c ∷ []) ≡ leaf_of (Some n)
at_node c d (LeafNode x) s e h g = λ i. cond (e i && true) (Some x) (at s (c ∷ []))
at_node c d (TreeNode []) s e h g = absurd h
at_node c d (TreeNode (f ∷ t)) s e h g = at_tree c d (f ∷ t) s h.paths ∙ g

at_absent : (i : Item) (js : List Item) → Before item_component item_dir i js → at (join js) (i.0 ∷ []) ≡ None
at_absent i [] h = refl
at_absent i (j ∷ js) h = at_other i.0 j.0 (rests j.1) (join js) h.1 ∙ at_absent i js h.2

at_join : (c : Bytes) (is : List Item) → AreItems is → at (join is) (c ∷ []) ≡ leaf_of (item_at c is)
at_join c [] h = refl
at_join c (i ∷ is) h =
    elim (same_bytes c i.0) as (λ b. same_bytes c i.0 ≡ b → at (join (i ∷ is)) (c ∷ []) ≡ leaf_of (cond b (Some i.1) (item_at c is))) [
      | true ↦ λ e. at_node c i.0 i.1 (join is) e h.1 (subst (λ d. at (join is) (d ∷ []) ≡ None) (sym ((bytes_decides c i.0).0 e)) (at_absent i is h.2))
      | false ↦ λ e. at_other c i.0 (rests i.1) (join is) e ∙ at_join c is h.3
    ] refl

-- ---- first components

add_top-fresh : (i : Item) (js : List Item) → Before item_component item_dir i js → add_top i.0 (map item_component js) ≡ i.0 ∷ map item_component js
add_top-fresh i [] h = refl
add_top-fresh i (j ∷ js) h = ap (λ b. cond b (j.0 ∷ map item_component js) (i.0 ∷ j.0 ∷ map item_component js)) h.1

tops_block : (c : Bytes) (x : Path × Leaf) (t s : Flat) (ds : List Bytes) → tops s ≡ ds → add_top c ds ≡ c ∷ ds → tops (below c (x ∷ t) ++ s) ≡ c ∷ ds
tops_block c x [] s ds e h = ap (add_top c) e ∙ h
tops_block c x (y ∷ t) s ds e h = ap (add_top c) (tops_block c y t s ds e h) ∙ ap (λ b. cond b (c ∷ ds) (c ∷ c ∷ ds)) (same_bytes-self c)

tops_node : (c : Bytes) (n : Node) (s : Flat) (ds : List Bytes) → IsFullNode n → tops s ≡ ds → add_top c ds ≡ c ∷ ds → tops (below c (rests n) ++ s) ≡ c ∷ ds
tops_node c (LeafNode x) s ds g e h = tops_block c ([], x) [] s ds e h
tops_node c (TreeNode []) s ds g e h = absurd g
tops_node c (TreeNode (x ∷ t)) s ds g e h = tops_block c x t s ds e h

tops_join : (is : List Item) → AreItems is → tops (join is) ≡ map item_component is
tops_join [] h = refl
tops_join (i ∷ is) h = tops_node i.0 i.1 (join is) (map item_component is) h.1 (tops_join is h.3) (add_top-fresh i is h.2)

-- ---- the body

found_later : (i : Item) (is js : List Item) → Before item_component item_dir i js → Each (λ j. item_at j.0 is ≡ Some j.1) js → Each (λ j. item_at j.0 (i ∷ is) ≡ Some j.1) js
found_later i is [] h g = tt
found_later i is (j ∷ js) h g = (ap (λ b. cond b (Some i.1) (item_at j.0 is)) (same_bytes-back j.0 i.0 ∙ h.1) ∙ g.0, found_later i is js h.2 g.1)

each_found : (is : List Item) → AreItems is → Each (λ i. item_at i.0 is ≡ Some i.1) is
each_found [] h = tt
each_found (i ∷ is) h = (ap (λ b. cond b (Some i.1) (item_at i.0 is)) (same_bytes-self i.0), found_later i is is h.2 (each_found is h.3))

each_join : {A : Type 0} (g : Option Leaf → Flat → List A) (is js : List Item) → AreItems is → Each (λ j. item_at j.0 is ≡ Some j.1) js →
    flat_map (λ c. g (at (join is) (c ∷ [])) (under (join is) (c ∷ []))) (map item_component js) ≡ flat_map (λ i. g (leaf_of (Some i.1)) (tree_of (Some i.1))) js
each_join g is [] h e = refl
each_join g is (j ∷ js) h e = λ k. ((λ k. g (at_join j.0 is h k) (under_join j.0 is h k)) ∙ ap (λ o. g (leaf_of o) (tree_of o)) e.0) k ++ each_join g is js h e.1 k

-- what is made of what stands at each first component
pub tops_each : {A : Type 0} (g : Option Leaf → Flat → List A) (is : List Item) → AreItems is →
    flat_map (λ c. g (at (join is) (c ∷ [])) (under (join is) (c ∷ []))) (tops (join is)) ≡ flat_map (λ i. g (leaf_of (Some i.1)) (tree_of (Some i.1))) is
tops_each g is h =
    ap (flat_map (λ c. g (at (join is) (c ∷ [])) (under (join is) (c ∷ [])))) (tops_join is h) ∙ each_join g is is h (each_found is h)

-- an item's line, where f names the trees
abbrev pub item_line : (Flat → Bytes) → Item → Bytes
item_line f (c, LeafNode x) = line (leaf_mode x) c (leaf_name x)
item_line f (c, TreeNode t) = line Dir c (f t)

line_node : (f : Flat → Bytes) (c : Bytes) (n : Node) → line_of c (leaf_of (Some n)) (f (tree_of (Some n))) ≡ item_line f (c, n)
line_node f c (LeafNode x) = refl
line_node f c (TreeNode t) = refl

line_item : (f : Flat → Bytes) (is : List Item) → AreItems is → (i : Item) → item_at i.0 is ≡ Some i.1 →
    line_of i.0 (at (join is) (i.0 ∷ [])) (f (under (join is) (i.0 ∷ []))) ≡ item_line f i
line_item f is h i e =
    (λ k. line_of i.0 (at_join i.0 is h k) (f (under_join i.0 is h k))) ∙ ap (λ o. line_of i.0 (leaf_of o) (f (tree_of o))) e ∙ line_node f i.0 i.1

lines : (f : Flat → Bytes) (is js : List Item) → AreItems is → Each (λ j. item_at j.0 is ≡ Some j.1) js →
    flat_map (λ c. line_of c (at (join is) (c ∷ [])) (f (under (join is) (c ∷ [])))) (map item_component js) ≡ flat_map (item_line f) js
lines f is [] h e = refl
lines f is (j ∷ js) h e = λ k. line_item f is h j e.0 k ++ lines f is js h e.1 k

pub body_join : (n : ℕ) (is : List Item) → AreItems is → body_within (suc n) (join is) ≡ flat_map (item_line (λ t. name Tree (body_within n t))) is
body_join n is h =
    let f = λ (t : Flat). name Tree (body_within n t) in
    ap (flat_map (λ c. line_of c (at (join is) (c ∷ [])) (f (under (join is) (c ∷ []))))) (tops_join is h) ∙ lines f is is h (each_found is h)
