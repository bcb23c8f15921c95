-- Steps for the entries that become nodes.
use Rattle.std.proofs.Common.{◌≡◌, ℕ, zero, suc, ◌+◌, ◌<◌, ◌≤◌, ◌≢◌, ◌⊎◌, inl, inr, ◌==◌, Bool, true, false, cond, not, ◌&&◌, ◌||◌, List, [], ◌∷◌, ◌++◌, length, take, get_or, Option, Some, refl, sym, ap, subst, ◌∙◌, arith, true≢false, append_assoc}
use Rattle.std.specs.Prelude.{nat_lt}
use Rattle.std.specs.List.{list_any, IsDistinct, AllByRecursion}
use Rattle.std.specs.Cmp.Lexicographic.{bytes_decides, nat_list_eq_equiv}
use Rattle.std.proofs.lemmas.Bool.Decides.{eqb_tells, nat_tests}
use Rattle.std.proofs.lemmas.Map.Made.{length-le_from_is_member}
use Rattle.git_objects.specs.Entries.{is_dir}
use Rattle.git_objects.specs.Names.{add_top, tops, with_top}
use Rattle.git_objects.specs.Paths.{Bytes, Path, is_prefix, same_bytes, same_path}
use Rattle.git_objects.specs.Trees.{Flat, Leaf, at, rests, under}
use Rattle.git_objects.proofs.Basics.{same_bytes-self}
use Rattle.git_objects.proofs.Order.{path_decides}
use Rattle.git_objects.proofs.Under.{at-under}
use Rattle.object_store.specs.Objects.{Object, IsStore}
use Rattle.path_trees.specs.Standing.{node}
use Rattle.path_trees.specs.declared.found.Found.{Found}
use Rattle.stage_nodes.specs.declared.nodes.Node.{Node}
use Rattle.stage_nodes.specs.declared.nodes.Nodes.{Nodes}
use Rattle.stage_nodes.specs.declared.nodes.Content.{Content}
use Rattle.stage_nodes.specs.declared.nodes.Content.TheVariants.{Held}
use Rattle.stage_nodes.specs.declared.nodes.Link.{Link}
use Rattle.stage_nodes.specs.declared.nodes.Link.TheVariants.{First}
use Rattle.stage_nodes.specs.Forests.{Forest, Nil, Bin, Beyond, Sound, sought}
use Rattle.stage_nodes.specs.Pools.{hanging}
use Rattle.stage_nodes.specs.Leaves.{leaf_below, leaf_in, is_held}
use Rattle.stage_nodes.specs.Branches.{Stands}
use Rattle.stage_nodes.specs.Expanding.{IsExpanded}
use Rattle.stage_nodes.specs.Ways.{HasPlace, IsDirOf, IsOpen, IsPlaceOf, IsStill, kids_of, named_first}
use Rattle.stage_nodes.proofs.OnWay.{here_now, one_longer, IsNamed}
use Rattle.stage_nodes.specs.Walks.{IsCleared, IsPaid, IsWayPaid, StaysClear, above, above_both, beginnings, beside, breadth, clear_below, cost_at, entries_of, is_above, is_clear}
use Rattle.stage_nodes.proofs.Order.{less_apart}
use Rattle.stage_nodes.proofs.Expanding.{children_hang}
use Rattle.stage_nodes.proofs.NodePlaces.{place_leaf, read_content, v}
use Rattle.stage_nodes.proofs.SomeLeaf.{some_leaf}
use Rattle.stage_nodes.proofs.Walking.{clear_at}

-- ---- siblings and the first components of a tree

comps : Forest → List Bytes
comps Nil = []
comps (Bin k c x l r) = c ∷ comps r

apart_all : (c : Bytes) (F : Forest) → Beyond c F → AllByRecursion (λ d. same_bytes c d ≡ false) (comps F)
unfolding comps
apart_all c Nil h = tt
apart_all c (Bin k d x l r) h = (less_apart c d h.0, apart_all c r h.1)

distinct : (P : Content → Bool) (F : Forest) → Sound P F → IsDistinct same_bytes (comps F)
unfolding comps IsDistinct
distinct P Nil s = tt
distinct P (Bin k c x l r) s = (apart_all c r s.1, distinct P r s.3)

breadth_comps : (F : Forest) → length (comps F) ≡ breadth F
unfolding comps
breadth_comps Nil = refl
breadth_comps (Bin k c x l r) = omega (arith, breadth_comps r)

any_add : (q c : Bytes) (ds : List Bytes) → list_any (same_bytes q) ds ≡ true → list_any (same_bytes q) (add_top c ds) ≡ true
any_add q c [] h = absurd (true≢false (sym h))
any_add q c (d ∷ ds) h = elim (same_bytes c d) as (λ b. list_any (same_bytes q) (cond b (d ∷ ds) (c ∷ d ∷ ds)) ≡ true) [ true ↦ h | false ↦ later (same_bytes q c) h ]
  where
    later : (b : Bool) → list_any (same_bytes q) (d ∷ ds) ≡ true → (b || list_any (same_bytes q) (d ∷ ds)) ≡ true
    later true h = refl
    later false h = h

own_add : (q : Bytes) (ds : List Bytes) → list_any (same_bytes q) (add_top q ds) ≡ true
own_add q [] = ap (λ b. b || false) (same_bytes-self q)
own_add q (d ∷ ds) = elim (same_bytes q d) as (λ b. same_bytes q d ≡ b → list_any (same_bytes q) (cond b (d ∷ ds) (q ∷ d ∷ ds)) ≡ true) [
  | true ↦ λ e. ap (λ b. b || list_any (same_bytes q) ds) e
  | false ↦ λ e. ap (λ b. b || (same_bytes q d || list_any (same_bytes q) ds)) (same_bytes-self q)
] refl

any_with : (q : Bytes) (p : Path) (ds : List Bytes) → list_any (same_bytes q) ds ≡ true → list_any (same_bytes q) (with_top p ds) ≡ true
any_with q [] ds h = h
any_with q (c ∷ p) ds h = any_add q c ds h

leaf_top : (u : Flat) (q : Bytes) (p : Path) (y : Leaf) → at u (q ∷ p) ≡ Some y → list_any (same_bytes q) (tops u) ≡ true
leaf_top [] q p y h = absurd cc
leaf_top (e ∷ u) q p y h =
    let later = leaf_top u q p y in
    elim (same_path (q ∷ p) e.0) as (λ b. same_path (q ∷ p) e.0 ≡ b → cond b (Some e.1) (at u (q ∷ p)) ≡ Some y → list_any (same_bytes q) (with_top e.0 (tops u)) ≡ true) [
      | true ↦ λ w g. ap (λ (z : Path). list_any (same_bytes q) (with_top z (tops u))) (sym ((path_decides (q ∷ p) e.0).0 w)) ∙ own_add q (tops u)
      | false ↦ λ w g. any_with q e.0 (tops u) (later g)
    ] refl h

module _ (S : List Object) (store : IsStore S) where
  comp_leaf : (F : Forest) → Sound (is_held S) F → (q : Bytes) → list_any (same_bytes q) (comps F) ≡ true → (p : Path) × (y : Leaf) × (leaf_in S F (q ∷ p) ≡ Some y)
  unfolding comps
  comp_leaf Nil s q h = absurd (true≢false (sym h))
  comp_leaf (Bin k c x l r) s q h =
      let later = comp_leaf r s.3 q in
      elim (same_bytes q c) as (λ b. (b || list_any (same_bytes q) (comps r)) ≡ true → (p : Path) × (y : Leaf) × (cond b (leaf_below S x (leaf_in S l) p) (leaf_in S r (q ∷ p)) ≡ Some y)) [
        | true ↦ λ g. some_leaf S store x l s.0.filled s.0.content s.2
        | false ↦ λ g. later g
      ] h

  -- siblings are no more than the entries of the tree that they stand for
  pub breadth_tops : (F : Forest) → Sound (is_held S) F → (u : Flat) → ((q : Bytes) (p : Path) → leaf_in S F (q ∷ p) ≡ at u (q ∷ p)) → breadth F ≤ length (tops u)
  breadth_tops F s u h =
      let low = length-le_from_is_member nat_list_eq_equiv (comps F) (tops u) (distinct (is_held S) F s) (λ q e. let g = comp_leaf F s q e in leaf_top u q g.0 g.1 (sym (h q g.0) ∙ g.2)) in
      omega (arith, low, breadth_comps F)

-- ---- a node entered

prefix_split : (d z : Path) → is_above d z ≡ true → (c : Bytes) × (r : Path) × (z ≡ d ++ c ∷ r)
prefix_split [] [] h = absurd (true≢false (sym h))
prefix_split [] (c ∷ z) h = (c, z, refl)
prefix_split (b ∷ d) [] h = absurd (true≢false (sym h))
prefix_split (b ∷ d) (c ∷ z) h =
    elim (same_bytes b c) as (λ t. same_bytes b c ≡ t → ((t && is_prefix d z) && nat_lt (suc (length d)) (suc (length z))) ≡ true → (e : Bytes) × (r : Path) × (c ∷ z ≡ b ∷ d ++ e ∷ r)) [
      | true ↦ λ w g.
          let k = prefix_split d z (ap (λ t. is_prefix d z && t) (less (length d) (length z)) ∙ g) in
          (k.0, k.1, λ i. sym ((bytes_decides b c).0 w) i ∷ k.2 i)
      | false ↦ λ w g. absurd (true≢false (sym g))
    ] refl h
  where
    less : (a b : ℕ) → nat_lt a b ≡ nat_lt (suc a) (suc b)
    less a b = grind (arith, nat_tests)

module _ (S : List Object) (store : IsStore S) (s s' : Nodes) (k : ℕ) (f : Found) (dir : is_dir f.mode ≡ true) (x : IsExpanded S s s' k f.name) (node_ : Node) (read : node_ ≡ get_or s.cells.items k node_) (held : node_.content ≡ Held f) where
  expanded_few : (h : HasPlace S s (Some k)) → (t : Flat) → Stands S s t → breadth x.kids ≤ length (tops (under t (h.path ++ h.component ∷ [])))
  expanded_few h t st =
      breadth_tops S store x.kids x.sound (under t (h.path ++ h.component ∷ [])) (λ q p.
      x.leaves (q ∷ p)
      ∙ ap (λ (g : Found). at (rests (node S g)) (q ∷ p)) (sym (Rattle.stage_nodes.proofs.OnWay.dir_mode f dir))
      ∙ sym (ap (λ (y : Content). leaf_below S y (leaf_in S (v S s k h).children) (q ∷ p)) (read_content S s k h node_ read (Held f) held))
      ∙ place_leaf S s k h t st (q ∷ p)
      ∙ ap (at t) (sym (append_assoc h.path (h.component ∷ []) (q ∷ p)))
      ∙ sym (at-under t (h.path ++ h.component ∷ []) q p))

  -- a stored directory isn't above a clear path
  not_above : (h : HasPlace S s (Some k)) → (z : Path) → is_clear (kids_of s) z ≡ true → is_above (h.path ++ h.component ∷ []) z ≡ true → ⊥
  not_above h z g a =
      let w = prefix_split (h.path ++ h.component ∷ []) z a in
      let n : IsNamed S s h.path h.component h.place.frames k = v S s k h in
      true≢false (sym g
      ∙ ap (is_clear (kids_of s)) (w.2 ∙ append_assoc h.path (h.component ∷ []) (w.0 ∷ w.1))
      ∙ (λ i. is_clear (sym n.whole i) (sym n.path i ++ h.component ∷ w.0 ∷ w.1))
      ∙ clear_at (is_held S) h.place.frames (Bin k h.component n.content n.children n.siblings) h.component w.0 w.1 n.sound_up n.fits
      ∙ ap (λ b. cond b (clear_below n.content (is_clear n.children (w.0 ∷ w.1))) (is_clear n.siblings (h.component ∷ w.0 ∷ w.1))) (same_bytes-self h.component)
      ∙ ap (λ (y : Content). clear_below y (is_clear n.children (w.0 ∷ w.1))) (read_content S s k h node_ read (Held f) held)
      ∙ ap not dir)

  pub paid_expanded : (child : Option ℕ) → child ≡ Some k → (before now : ℕ) → now ≡ before + breadth (hanging s' (First k)) → IsPaid S s child before now
  paid_expanded child e before now add q c link place t st z clear =
      let h : HasPlace S s (Some k) = record { path = q; component = c; link = link; place = subst (IsPlaceOf S s q c link) e place } in
      by h refl refl (is_above (q ++ c ∷ []) z) refl
    where
      by : (h : HasPlace S s (Some k)) → h.path ≡ q → h.component ≡ c → (b : Bool) → is_above (q ++ c ∷ []) z ≡ b → now ≤ before + cond b 0 (length (tops (under t (q ++ c ∷ []))))
      by h pe ce true w = absurd (not_above h z clear ((λ i. is_above (pe i ++ ce i ∷ []) z) ∙ w))
      by h pe ce false w =
          let same : length (tops (under t (h.path ++ h.component ∷ []))) ≡ length (tops (under t (q ++ c ∷ []))) = λ i. length (tops (under t (pe i ++ ce i ∷ []))) in
          omega (arith, add, ap breadth (children_hang s' k x.kids x.directory), expanded_few h t st, same)

pub paid_none : (S : List Object) (s : Nodes) (child : Option ℕ) (before now : ℕ) → now ≡ before → IsPaid S s child before now
paid_none S s child before now e q c link place t st z clear = omega (arith, e)

-- ---- the directories of a way

entries_step : (t : Flat) (z d : Path) (ds : List Path) → entries_of t (beside z (d ∷ ds)) ≡ cost_at t z d + entries_of t (beside z ds)
entries_step t z d ds = elim (is_above d z) as (λ b. entries_of t (cond (not b) (d ∷ beside z ds) (beside z ds)) ≡ cond b 0 (length (tops (under t d))) + entries_of t (beside z ds)) [ true ↦ omega arith | false ↦ refl ]

pub entries_next : (t : Flat) (z p : Path) (n : ℕ) → entries_of t (beside z (beginnings p (n + 1))) ≡ cost_at t z (take n p) + entries_of t (beside z (beginnings p n))
entries_next t z p n = ap (λ k. entries_of t (beside z (beginnings p k))) (more n) ∙ entries_step t z (take n p) (beginnings p n)
  where
    more : (n : ℕ) → n + 1 ≡ suc n
    more n = omega arith

pub entries_more : (t : Flat) (z p : Path) (n m : ℕ) → n ≤ m → entries_of t (beside z (beginnings p n)) ≤ entries_of t (beside z (beginnings p m))
entries_more t z p n zero h = by n h
  where
    by : (n : ℕ) → n ≤ zero → entries_of t (beside z (beginnings p n)) ≤ 0
    by zero h = omega arith
    by (suc n) h = absurd (omega arith)
entries_more t z p n (suc m) h =
    let less = entries_more t z p n m in
    by (eqb_tells n (suc m)) less
  where
    by : (((n == suc m) ≡ true) × (n ≡ suc m)) ⊎ (((n == suc m) ≡ false) × (n ≢ suc m)) → (n ≤ m → entries_of t (beside z (beginnings p n)) ≤ entries_of t (beside z (beginnings p m))) → entries_of t (beside z (beginnings p n)) ≤ entries_of t (beside z (beginnings p (suc m)))
    by (inl u) f = omega (arith, ap (λ k. entries_of t (beside z (beginnings p k))) u.1)
    by (inr u) f =
        let low : n ≤ m = omega (arith, h, u.1) in
        omega (arith, f low, entries_step t z (take m p) (beginnings p m))

-- ---- one directory more

module _ (S : List Object) (s0 s : Nodes) (p : Path) (k d : ℕ) (dir : IsDirOf S s (take k p) d) (still : IsStill S s0 s) (kept : StaysClear s0 s) (c : Bytes) (within : k < length p) (own : c ≡ get_or p k c) (link : Link) (child : Option ℕ) (e : link ≡ sought c (First d) (hanging s (First d))) (f : child ≡ named_first c (hanging s link)) (before now then : ℕ)
    (paid : (t : Flat) → Stands S s0 t → (z : Path) → is_clear (kids_of s0) z ≡ true → now + entries_of t (beside z (beginnings p 1)) ≤ before + entries_of t (beside z (beginnings p (k + 1)))) (more : IsPaid S s child now then) where
  pub paid_further : (t : Flat) → Stands S s0 t → (z : Path) → is_clear (kids_of s0) z ≡ true → then + entries_of t (beside z (beginnings p 1)) ≤ before + entries_of t (beside z (beginnings p (k + 1 + 1)))
  paid_further t st z clear =
      omega (
        arith,
        paid t st z clear,
        more (take k p) c link (here_now S s0 s p k d dir still c within own link child e f) t (λ y. still.leaves y ∙ st y) z (kept z clear),
        ap (cost_at t z) (one_longer p k c within own),
        entries_next t z p (k + 1),
      )

  pub paid_way : k + 1 + 1 ≤ length p → IsWayPaid S s0 p before then
  paid_way h t st z clear = omega (arith, paid_further t st z clear, entries_more t z p (k + 1 + 1) (length p) h)

-- ---- both ways

entries_append : (t : Flat) (a b : List Path) → entries_of t (a ++ b) ≡ entries_of t a + entries_of t b
entries_append t [] b = omega arith
entries_append t (d ∷ a) b = omega (arith, entries_append t a b)

beside_nil : (t : Flat) (ds : List Path) → entries_of t (beside [] ds) ≡ entries_of t ds
beside_nil t [] = refl
beside_nil t (d ∷ ds) = omega (arith, entries_step t [] d ds, beside_nil t ds, ap (λ b. cond b 0 (length (tops (under t d)))) (nothing (is_prefix d []) (length d)))
  where
    nothing : (b : Bool) (n : ℕ) → (b && nat_lt n 0) ≡ false
    nothing false n = refl
    nothing true n = grind (arith, nat_tests)

module _ (S : List Object) (s0 s1 : Nodes) (p q : Path) (n0 n1 : ℕ) (first_paid : IsWayPaid S s0 p n0 n1) (t : Flat) (st : Stands S s0 t) where
  any_clear : (F : Forest) → is_clear F [] ≡ true
  any_clear Nil = refl
  any_clear (Bin k c x l r) = refl

  pub paid_first : n1 + length (tops (under t [])) ≤ n0 + entries_of t (above_both p q)
  paid_first =
      omega (
        arith,
        first_paid t st [] (any_clear (kids_of s0)),
        beside_nil t (beginnings p 1),
        beside_nil t (above p),
        entries_append t (above p) (beside p (above q)),
      )

  pub paid_second : (n2 : ℕ) → IsCleared S s0 s1 p → IsWayPaid S s1 q n1 n2 → n2 + length (tops (under t [])) ≤ n0 + entries_of t (above_both p q)
  paid_second n2 a second_paid =
      omega (
        arith,
        first_paid t st [] (any_clear (kids_of s0)),
        beside_nil t (beginnings p 1),
        beside_nil t (above p),
        second_paid t (λ y. a.still.leaves y ∙ st y) p a.clear,
        entries_append t (above p) (beside p (above q)),
      )

-- ---- the root

pub paid_root : (S : List Object) → IsStore S → (s : Nodes) → IsOpen S s → (t : Flat) → Stands S s t → breadth (kids_of s) ≤ length (tops (under t []))
paid_root S store s o t st = breadth_tops S store (kids_of s) o.sound (under t []) (λ q p. st (q ∷ p) ∙ sym (at-under t [] q p))

-- the steps of a move between paths that are the same
pub paid_there : (t : Flat) (p q p' q' : Path) → p ≡ p' → q ≡ q' → (n0 n1 n2 : ℕ) → n1 + length (tops (under t [])) ≤ n0 + entries_of t (above_both p q) → n2 ≤ n1 + length q → n2 + length (tops (under t [])) ≤ n0 + entries_of t (above_both p' q') + length q'
paid_there t p q p' q' a b n0 n1 n2 g h =
    let same : entries_of t (above_both p q) ≡ entries_of t (above_both p' q') = λ i. entries_of t (above_both (a i) (b i)) in
    let long : length q ≡ length q' = ap length b in
    omega (arith, g, h, same, long)
