-- The paths that are put are measured where the nodes are.
use Rattle.std.proofs.Common.{◌≡◌, ℕ, ◌+◌, ◌-◌, ◌<◌, ◌≤◌, Bool, true, false, cond, ◌&&◌, List, [], ◌∷◌, ◌++◌, length, Option, Some, None, Ok, Err, refl, sym, ap, subst, ◌∙◌, arith, true≢false}
use Rattle.std.specs.Prelude.{nat_le}
use Rattle.std.specs.List.{list_all}
use Rattle.std.specs.Cmp.{first_so, second_so}
use Rattle.std.specs.Cmp.Lexicographic.{bytes_decides}
use Rattle.std.proofs.lemmas.Bool.Decides.{nat_tests}
use Rattle.std.proofs.lemmas.List.Folds.{list_all-map}
use Rattle.git_objects.specs.Lists.{Each}
use Rattle.git_objects.specs.Paths.{Bytes, Path, is_path, same_bytes, same_path, text}
use Rattle.git_objects.specs.Trees.{Flat, Leaf, LeafNode, TreeNode, Node as FlatNode, at, rests}
use Rattle.git_objects.specs.Bodies.{is_name}
use Rattle.git_objects.specs.declared.limits.TheConstants.{PATH_BYTES, PATH_COMPONENTS}
use Rattle.git_objects.proofs.Basics.{and_both, same_bytes-self}
use Rattle.git_objects.proofs.Order.{path_decides}
use Rattle.git_objects.proofs.Pointwise.{IsNode, each_at}
use Rattle.git_objects.proofs.Standing.{standing_node}
use Rattle.object_store.specs.Objects.{Object, IsStore, has_child}
use Rattle.path_trees.specs.Standing.{node}
use Rattle.stage_nodes.specs.declared.nodes.Nodes.{Nodes}
use Rattle.stage_nodes.specs.declared.nodes.Content.{Content}
use Rattle.stage_nodes.specs.declared.nodes.Content.TheVariants.{Held, Open}
use Rattle.stage_tree.specs.declared.limits.Measure.{Measure}
use Rattle.stage_tree.specs.declared.limits.Measure.TheVariants.{Components, Bytes as ByBytes}
use Rattle.stage_nodes.specs.declared.nodes.Link.TheVariants.{First}
use Rattle.path_trees.specs.declared.found.Found.{Found}
use Rattle.stage_nodes.specs.Forests.{Forest, Nil, Bin, Sound, count, forest}
use Rattle.stage_nodes.specs.Frames.{Frame}
use Rattle.stage_nodes.specs.Leaves.{leaf_below, leaf_in, is_held}
use Rattle.git_objects.specs.Results.{◌>>=◌, must}
use Rattle.stage_tree.specs.declared.fault.StageFault.{StageFault}
use Rattle.stage_tree.specs.declared.fault.StageFault.TheVariants.{TooDeep, TooLong}
use Rattle.stage_tree.specs.Edits.{paths_put, within_paths}
use Rattle.stage_tree.specs.Limits.{content_fits, cost, fits_in, put_fits, room_left, weight, limit_of}
use Rattle.stage_tree.specs.Standings.{Holds}
use Rattle.stage_tree.specs.Counts.{IsCountable}
use Rattle.stage_nodes.specs.Pools.{Walks, hanging, inside}
use Rattle.stage_nodes.specs.Ways.{HasPlace, IsOpen}
use Rattle.stage_nodes.proofs.Framing.{count_plug}
use Rattle.stage_nodes.proofs.Freeing.{first_of}
use Rattle.stage_nodes.proofs.Pools.{forest_is, walk_is}
use Rattle.stage_nodes.proofs.Seeking.{inside_link}
use Rattle.stage_nodes.proofs.PutLeaves.{beyond_none}
use Rattle.stage_nodes.proofs.OnWay.{IsNamed}
use Rattle.stage_tree.proofs.Staging.{node_is}
use Rattle.stage_tree.proofs.Fits.{le_false, le_holds, le_more, le_true}
use Rattle.stage_tree.proofs.FoundFits.{cost_length, cost_text}
use Rattle.stage_tree.proofs.MoveFlats.{standing_rests}
use Rattle.stage_nodes.proofs.SomeLeaf.{some_leaf}
use Rattle.stage_nodes.proofs.NodePlaces.{node_inside, place_leaf, v}

-- ---- a flat tree

same_tests : (a b : Bool) → (a ≡ true → b ≡ true) → (b ≡ true → a ≡ true) → a ≡ b
same_tests true b f g = sym (f refl)
same_tests false true f g = g refl
same_tests false false f g = refl

all_leaves : (m : Measure) (room : ℕ) (t : Flat) → list_all (λ e. nat_le (cost m e.0) room) t ≡ true → (q : Path) (y : Leaf) → at t q ≡ Some y → cost m q ≤ room
all_leaves m room [] h q y e = absurd cc
all_leaves m room (d ∷ t) h q y e =
    elim (same_path q d.0) as (λ b. same_path q d.0 ≡ b → cond b (Some d.1) (at t q) ≡ Some y → cost m q ≤ room) [
      | true ↦ λ w g. le_holds (cost m q) room (ap (λ (p : Path). nat_le (cost m p) room) ((path_decides q d.0).0 w) ∙ first_so (nat_le (cost m d.0) room) _ h)
      | false ↦ λ w g. all_leaves m room t (second_so (nat_le (cost m d.0) room) _ h) q y g
    ] refl e

each_leaf : (m : Measure) (room : ℕ) (s t : Flat) → Each (λ d. at s d.0 ≡ Some d.1) t → ((q : Path) (y : Leaf) → at s q ≡ Some y → cost m q ≤ room) → list_all (λ e. nat_le (cost m e.0) room) t ≡ true
each_leaf m room s [] h g = refl
each_leaf m room s (d ∷ t) h g = and_both (le_true (cost m d.0) room (g d.0 d.1 h.0)) (each_leaf m room s t h.1 g)

node_leaves : (m : Measure) (room : ℕ) (n : FlatNode) → IsNode n → ((q : Path) (y : Leaf) → at (rests n) q ≡ Some y → cost m q ≤ room) → list_all (λ e. nat_le (cost m e.0) room) (rests n) ≡ true
node_leaves m room (LeafNode x) h g = each_leaf m room (([], x) ∷ []) (([], x) ∷ []) (refl, tt) g
node_leaves m room (TreeNode t) h g = each_leaf m room t t (each_at t h.sorted) g

-- ---- nodes

module _ (m : Measure) (S : List Object) where
  content_leaf : (room : ℕ) (x : Content) (l : Forest) → (fits_in m S room l ≡ true → (q : Path) (y : Leaf) → leaf_in S l q ≡ Some y → cost m q ≤ room) → content_fits m S room x (fits_in m S room l) ≡ true → (q : Path) (y : Leaf) → leaf_below S x (leaf_in S l) q ≡ Some y → cost m q ≤ room
  content_leaf room (Held f) l below h q y e = all_leaves m room (rests (node S f)) h q y e
  content_leaf room Open l below h q y e = below h q y e

  fits_leaf : (room : ℕ) (F : Forest) → fits_in m S room F ≡ true → (q : Path) (y : Leaf) → leaf_in S F q ≡ Some y → cost m q ≤ room
  fits_leaf room Nil h q y e = absurd cc
  fits_leaf room (Bin k d x l r) h [] y e = absurd cc
  fits_leaf room (Bin k d x l r) h (c ∷ q) y e =
      let both = first_so (nat_le (weight m (length d)) room && content_fits m S (room - weight m (length d)) x (fits_in m S (room - weight m (length d)) l)) (fits_in m S room r) h in
      let heavy : weight m (length d) ≤ room = le_holds (weight m (length d)) room (first_so (nat_le (weight m (length d)) room) _ both) in
      let rest = second_so (nat_le (weight m (length d)) room && content_fits m S (room - weight m (length d)) x (fits_in m S (room - weight m (length d)) l)) (fits_in m S room r) h in
      let inner = content_leaf (room - weight m (length d)) x l (fits_leaf (room - weight m (length d)) l) (second_so (nat_le (weight m (length d)) room) _ both) q y in
      elim (same_bytes c d) as (λ b. same_bytes c d ≡ b → cond b (leaf_below S x (leaf_in S l) q) (leaf_in S r (c ∷ q)) ≡ Some y → cost m (c ∷ q) ≤ room) [
        | true ↦ λ w g. let same : weight m (length c) ≡ weight m (length d) = ap (λ (v : Bytes). weight m (length v)) ((bytes_decides c d).0 w) in let low = inner g in omega arith
        | false ↦ λ w g. fits_leaf room r rest (c ∷ q) y g
      ] refl e

  module _ (store : IsStore S) where
    held_fits : (room : ℕ) (f : Rattle.path_trees.specs.declared.found.Found.Found) → is_held S (Held f) ≡ true → ((q : Path) (y : Leaf) → at (rests (node S f)) q ≡ Some y → cost m q ≤ room) → list_all (λ e. nat_le (cost m e.0) room) (rests (node S f)) ≡ true
    held_fits room f h g = node_leaves m room (node S f) (node_is S f store (first_so (has_child S f.mode f.name.0) (is_name f.name.0) h) (second_so (has_child S f.mode f.name.0) (is_name f.name.0) h)) g

    fits_content : (room : ℕ) (x : Content) (l : Forest) → is_held S x ≡ true → (((q : Path) (y : Leaf) → leaf_in S l q ≡ Some y → cost m q ≤ room) → fits_in m S room l ≡ true) → ((q : Path) (y : Leaf) → leaf_below S x (leaf_in S l) q ≡ Some y → cost m q ≤ room) → content_fits m S room x (fits_in m S room l) ≡ true
    fits_content room (Held f) l h below g = held_fits room f h g
    fits_content room Open l h below g = below g

    leaf_fits : (room : ℕ) (F : Forest) → Sound (is_held S) F → ((q : Path) (y : Leaf) → leaf_in S F q ≡ Some y → cost m q ≤ room) → fits_in m S room F ≡ true
    leaf_fits room Nil s g = refl
    leaf_fits room (Bin k d x l r) s g =
        let one = some_leaf S store x l s.0.filled s.0.content s.2 in
        let own : (q : Path) (y : Leaf) → leaf_below S x (leaf_in S l) q ≡ Some y → cost m (d ∷ q) ≤ room =
        λ q y e. g (d ∷ q) y (ap (λ b. cond b (leaf_below S x (leaf_in S l) q) (leaf_in S r (d ∷ q))) (same_bytes-self d) ∙ e) in
        let first = own one.0 one.1 one.2 in
        let inner : (q : Path) (y : Leaf) → leaf_below S x (leaf_in S l) q ≡ Some y → cost m q ≤ room - weight m (length d) = λ q y e. let low = own q y e in omega arith in
        and_both (and_both (le_true (weight m (length d)) room (omega arith))
        (fits_content (room - weight m (length d)) x l s.0.content (leaf_fits (room - weight m (length d)) l s.2) inner))
        (leaf_fits room r s.3 (λ q y e. g q y (behind q y e)))
      where
        other : (c : Bytes) (q : Path) (y : Leaf) → leaf_in S r (c ∷ q) ≡ Some y → (b : Bool) → same_bytes c d ≡ b → b ≡ false
        other c q y e false w = refl
        other c q y e true w = absurd (let v : None ≡ Some y = sym (beyond_none S d r q s.1) ∙ ap (λ (z : Bytes). leaf_in S r (z ∷ q)) (sym ((bytes_decides c d).0 w)) ∙ e in cc)

        behind : (q : Path) (y : Leaf) → leaf_in S r q ≡ Some y → leaf_in S (Bin k d x l r) q ≡ Some y
        behind [] y e = absurd (nothing r e)
          where
            nothing : (F : Forest) → leaf_in S F [] ≡ Some y → ⊥
            nothing Nil e = cc
            nothing (Bin i c z u v) e = cc
        behind (c ∷ q) y e = ap (λ b. cond b (leaf_below S x (leaf_in S l) q) (leaf_in S r (c ∷ q))) (other c q y e (same_bytes c d) refl) ∙ e

    -- what stands at a node is as its nodes say
    node_fits : (room : ℕ) (x : Content) (l : Forest) (n : FlatNode) → is_held S x ≡ true → Sound (is_held S) l → IsNode n → ((r : Path) → leaf_below S x (leaf_in S l) r ≡ at (rests n) r) → content_fits m S room x (fits_in m S room l) ≡ list_all (λ e. nat_le (cost m e.0) room) (rests n)
    node_fits room x l n h s is same =
        same_tests (content_fits m S room x (fits_in m S room l)) (list_all (λ e. nat_le (cost m e.0) room) (rests n))
        (λ f. node_leaves m room n is (λ q y e. content_leaf room x l (fits_leaf room l) f q y (same q ∙ e)))
        (λ f. fits_content room x l h (leaf_fits room l s) (λ q y e. all_leaves m room (rests n) f q y (sym (same q) ∙ e)))

-- ---- the paths that are put

cost_append : (m : Measure) (p r : Path) → cost m (p ++ r) ≡ cost m p + cost m r
cost_append m [] r = omega arith
cost_append m (c ∷ p) r = omega (arith, cost_append m p r)

all_same : (p q : Path → Bool) (t : Flat) → ((r : Path) → p r ≡ q r) → list_all (λ e. p e.0) t ≡ list_all (λ e. q e.0) t
all_same p q [] h = refl
all_same p q (e ∷ t) h = λ i. h e.0 i && all_same p q t h i

put_all : (m : Measure) (limit : ℕ) (to : Path) (n : FlatNode) → put_fits m limit to n ≡ list_all (λ e. nat_le (cost m (to ++ e.0)) limit) (rests n)
put_all m limit to n = list_all-map (λ q. nat_le (cost m q) limit) (λ e. to ++ e.0) (rests n)

-- the target leaves so much room
put_room : (m : Measure) (limit room : ℕ) (to : Path) (n : FlatNode) → Some room ≡ room_left limit (cost m to) → put_fits m limit to n ≡ list_all (λ e. nat_le (cost m e.0) room) (rests n)
put_room m limit room to n e =
    put_all m limit to n
    ∙ all_same (λ r. nat_le (cost m (to ++ r)) limit) (λ r. nat_le (cost m r) room) (rests n) (λ r. ap (λ v. nat_le v limit) (cost_append m to r) ∙ by r (nat_le (cost m to) limit) refl e)
  where
    by : (r : Path) (b : Bool) → nat_le (cost m to) limit ≡ b → Some room ≡ cond b (Some (limit - cost m to)) None → nat_le (cost m to + cost m r) limit ≡ nat_le (cost m r) room
    by r true w g = let is : room ≡ limit - cost m to = cc in sym (ap (nat_le (cost m r)) is ∙ le_more limit (cost m to) (cost m r) (le_holds (cost m to) limit w))
    by r false w g = absurd cc

some_entry : (m : Measure) (limit : ℕ) (to : Path) (t : Flat) (q : Path) (y : Leaf) → at t q ≡ Some y → limit < cost m to → list_all (λ e. nat_le (cost m (to ++ e.0)) limit) t ≡ false
some_entry m limit to [] q y e h = absurd cc
some_entry m limit to (d ∷ t) q y e h = ap (λ b. b && list_all (λ e. nat_le (cost m (to ++ e.0)) limit) t) (le_false (cost m (to ++ d.0)) limit (omega (arith, cost_append m to d.0)))

no_room : (limit n : ℕ) → None ≡ room_left limit n → limit < n
no_room limit n = by (nat_le n limit) refl
  where
    by : (b : Bool) → nat_le n limit ≡ b → None ≡ cond b (Some (limit - n)) None → limit < n
    by true w g = absurd cc
    by false w g = grind (arith, nat_tests)

module _ (S : List Object) (s : Nodes) (k : ℕ) (h : HasPlace S s (Some k)) where
  abbrev u : IsNamed S s h.path h.component h.place.frames k
  u = v S s k h

  module _ (o : IsOpen S s) where
    few : (m : ℕ) → count m u.children ≤ inside s m
    few m = omega (arith, o.covers m, ap (count m) u.whole, count_plug m h.place.frames (Bin k h.component u.content u.children u.siblings))

    pub children_hang : hanging s (First k) ≡ u.children
    children_hang = ap (forest s.names.items s.cells.items) (first_of s.cells.items k u.node u.there) ∙ forest_is s.names.items s.cells.items u.node.first u.children u.reads_children few

    pub children_countable : IsCountable S s (First k)
    children_countable = record {
      link_in = inside_link s.names.items s.cells.items k (node_inside S s k h);
      walk = subst (λ (j : Option ℕ). Walks s j) (sym (first_of s.cells.items k u.node u.there)) (walk_is s.names.items s.cells.items u.node.first u.children u.reads_children few);
      sound = subst (Sound (is_held S)) (sym children_hang) u.sound.2;
    }

module _ (S : List Object) (store : IsStore S) (s : Nodes) (k : ℕ) (h : HasPlace S s (Some k)) (t : Flat) (n : FlatNode) (g : Holds S s h t n) where
  abbrev up : List Frame
  up = h.place.frames

  abbrev w : IsNamed S s h.path h.component up k
  w = v S s k h

  pub holds_leaf : (r : Path) → leaf_below S w.content (leaf_in S w.children) r ≡ at (rests n) r
  holds_leaf r =
      place_leaf S s k h t g.stands r ∙ ap (at t) (sym (Rattle.std.proofs.Common.append_assoc h.path (h.component ∷ []) r))
      ∙ sym (standing_rests t (h.path ++ h.component ∷ []) g.tree n g.there r)

  is_node : IsNode n
  is_node = subst (λ (o : Option FlatNode). Rattle.std.proofs.Common.IfSome o IsNode) g.there (standing_node t (h.path ++ h.component ∷ []) g.tree)

  pub no_room_left : (m : Measure) (limit : ℕ) (to : Path) → None ≡ room_left limit (cost m to) → false ≡ put_fits m limit to n
  no_room_left m limit to e =
      let one = some_leaf S store w.content w.children w.sound.0.filled w.sound.0.content w.sound.2 in
      sym (put_all m limit to n ∙ some_entry m limit to (rests n) one.0 one.1 (sym (holds_leaf one.0) ∙ one.2) (no_room limit (cost m to) e))

  pub node_put_fits : (m : Measure) (limit room : ℕ) (to : Path) → Some room ≡ room_left limit (cost m to) → content_fits m S room w.content (fits_in m S room w.children) ≡ put_fits m limit to n
  node_put_fits m limit room to e = node_fits m S store room w.content w.children n w.sound.0.content w.sound.2 is_node holds_leaf ∙ sym (put_room m limit room to n e)

-- ---- the limits of paths

le_byte : (n : ℕ) → nat_le (n + 1) 4097 ≡ nat_le n 4096
le_byte n = grind (arith, nat_tests)

some_paths : (f g : Path → Bool) (qs : List Path) → ((q : Path) → f q ≡ g q) → list_all f qs ≡ list_all g qs
some_paths f g [] h = refl
some_paths f g (q ∷ qs) h = λ i. h q i && some_paths f g qs h i

pub deep_test : (to : Path) (n : FlatNode) → put_fits Components PATH_COMPONENTS to n ≡ list_all (λ q. nat_le (length q) PATH_COMPONENTS) (paths_put to n)
deep_test to n = some_paths (λ q. nat_le (cost Components q) PATH_COMPONENTS) (λ q. nat_le (length q) PATH_COMPONENTS) (paths_put to n) (λ q. ap (λ v. nat_le v PATH_COMPONENTS) (cost_length q))

pub long_test : (to : Path) (n : FlatNode) → is_path to ≡ true → put_fits ByBytes 4097 to n ≡ list_all (λ q. nat_le (length (text q)) PATH_BYTES) (paths_put to n)
long_test [] n h = absurd (true≢false (sym h))
long_test (c ∷ p) n h =
    put_all ByBytes 4097 (c ∷ p) n
    ∙ all_same (λ r. nat_le (cost ByBytes (c ∷ p ++ r)) 4097) (λ r. nat_le (length (text (c ∷ p ++ r))) PATH_BYTES) (rests n) (λ r. ap (λ v. nat_le v 4097) (cost_text c (p ++ r)) ∙ le_byte (length (text (c ∷ p ++ r))))
    ∙ sym (list_all-map (λ q. nat_le (length (text q)) PATH_BYTES) (λ e. c ∷ p ++ e.0) (rests n))

module _ (to : Path) (n : FlatNode) where
  pub too_deep : list_all (λ q. nat_le (length q) PATH_COMPONENTS) (paths_put to n) ≡ false → within_paths to n ≡ Err TooDeep
  too_deep h = ap (λ b. must {E = StageFault} TooDeep b >>= λ _. must TooLong (list_all (λ q. nat_le (length (text q)) PATH_BYTES) (paths_put to n))) h

  pub too_long : list_all (λ q. nat_le (length q) PATH_COMPONENTS) (paths_put to n) ≡ true → list_all (λ q. nat_le (length (text q)) PATH_BYTES) (paths_put to n) ≡ false → within_paths to n ≡ Err TooLong
  too_long h g = λ i. must {E = StageFault} TooDeep (h i) >>= λ _. must TooLong (g i)

  pub in_limits : list_all (λ q. nat_le (length q) PATH_COMPONENTS) (paths_put to n) ≡ true → list_all (λ q. nat_le (length (text q)) PATH_BYTES) (paths_put to n) ≡ true → within_paths to n ≡ Ok tt
  in_limits h g = λ i. must {E = StageFault} TooDeep (h i) >>= λ _. must TooLong (g i)

pub limit_low : (m : Measure) → limit_of m ≤ 4097
limit_low Components = omega arith
limit_low ByBytes = omega arith
