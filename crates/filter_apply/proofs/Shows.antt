-- What routes show over the trees of a store.
use Rattle.std.proofs.Common.{◌≡◌, ℕ, zero, suc, ◌+◌, ◌≤◌, Bool, true, false, cond, not, ◌&&◌, ◌||◌, ◌⊎◌, inl, inr, T, List, [], ◌∷◌, ◌++◌, length, take, slice_get, Contains, Result, Ok, Err, IfOk, IfErr, IfSome, Option, Some, None, refl, sym, ap, subst, ◌∙◌, arith, true≢false}
use Rattle.std.specs.Option.{is_some, option_or}
use Rattle.std.specs.FinMap.{is_sorted}
use Rattle.std.proofs.lemmas.Option.{none-some}
use Rattle.git_objects.specs.Lists.{Each}
use Rattle.git_objects.specs.Paths.{Bytes, Path, is_path, is_nil, path_cmp}
use Rattle.git_objects.specs.Trees.{Leaf, Flat, IsTree, Node, at, under, rests, standing}
use Rattle.git_objects.specs.Names.{name, body}
use Rattle.git_objects.specs.Entries.{is_dir}
use Rattle.git_objects.specs.declared.name.Name.{Name}
use Rattle.git_objects.specs.declared.kind.Kind.TheVariants.{Tree}
use Rattle.git_objects.proofs.Maps.{at_rest, same_flat}
use Rattle.git_objects.proofs.Order.{path_decides}
use Rattle.git_objects.proofs.Under.{under-tree}
use Rattle.object_store.specs.Objects.{Object, IsStore, has, has_child}
use Rattle.object_store.specs.Unfolding.{flat, StandsFor}
use Rattle.object_store.specs.Hands.{IsLeafOf, IsComponentOf}
use Rattle.object_store.specs.Growth.{IsGrownBy}
use Rattle.object_store.proofs.Growth.{grown_as, grown_then, stands-grown, has-grown, flat-grown}
use Rattle.object_store.proofs.Unfolding.{IsFull, flat_good}
use Rattle.decision_lists.specs.Entries.{Entry, base, tail, decide, run}
use Rattle.decision_lists.specs.Cells.{free_in}
use Rattle.decision_lists.specs.Hits.{target_of}
use Rattle.filter_text.specs.Filters.{Filter, has_paths, nop, sub, onto, dir, file, exclude, join, chain, workspace}
use Rattle.filter_routes.specs.Soundness.{IsSound}
use Rattle.filter_routes.specs.Lists.{IsListOf, IsOneEntry}
use Rattle.filter_routes.specs.Lenses.{seen_through}
use Rattle.filter_routes.specs.Origins.{lens_of, origin}
use Rattle.filter_routes.proofs.Carried.{same_on_paths}
use Rattle.filter_routes.proofs.SeenTrees.{at-seen, seen-tree}
use Rattle.decision_lists.proofs.Valid.{full-path}
use Rattle.path_trees.specs.Standing.{node}
use Rattle.path_trees.specs.Clashes.{IsShared, clash, together}
use Rattle.path_trees.specs.Levels.{IsDirectory, IsTaken, IsRefused}
use Rattle.path_trees.specs.Made.{IsGrown, IsTreeFault}
use Rattle.path_trees.specs.Walked.{behind}
use Rattle.path_trees.specs.declared.found.Found.{Found}
use Rattle.path_trees.specs.declared.found.TreeFault.{TreeFault}
use Rattle.path_trees.specs.declared.found.TreeFault.TheVariants.{Collision, OutOfMemory}
use Rattle.path_trees.proofs.Apart.{rests_full}
use Rattle.path_trees.proofs.Taken.{taken}
use Rattle.path_trees.proofs.Together.{together_law}
use Rattle.path_trees.proofs.Trees.{AreGood, good_fits}
use Rattle.filter_apply.specs.Faults.{IsApplyFault, fault_of}
use Rattle.filter_apply.specs.Hands.{parts_in, IsNamedIn, IsPartObject, IsShownObject, IsPlacedObject, IsJoinedObject}
use Rattle.filter_apply.specs.Parts.{base_in, part_in, part_of, put_behind, rests_of, routed}
use Rattle.filter_apply.specs.Truth.{IsPaid}
use Rattle.object_store.specs.Puts.{of_body}
use Rattle.filter_apply.specs.Ranges.{between, passed, seen_between, map_of}
use Rattle.filter_apply.specs.declared.fault.ApplyError.{ApplyError}
use Rattle.filter_apply.proofs.Bases.{node_handed}
use Rattle.filter_apply.proofs.Cones.{in_cone}
use Rattle.filter_apply.proofs.Handing.{fault_as}
use Rattle.filter_apply.proofs.Members.{in-each, each-as, each-in}
use Rattle.filter_apply.proofs.Overs.{IsOver, AreOver, tree_over, over_own, over_as, over_under, over_both, made_as, leaf_over, part_over, grown_over, fault_over}
use Rattle.filter_apply.proofs.Places.{dir_node, leaf_node, dir_held}
use Rattle.filter_apply.proofs.Restricting.{seen-is-tree, from-passed, seen-at, no-clash, both-seen}
use Rattle.filter_apply.proofs.Routing.{image-named, lens, no-target, route-is, part-leaf, part-named}

-- ---- directories that may be missing

pub map-of : (S : List Object) (u : Flat) (o : Option Name) → IsDirectory S u o → map_of S o ≡ u
map-of S u None d = sym d
map-of S u (Some n) d = d.map

pub dir-has : (S : List Object) (u : Flat) (o : Option Name) → IsDirectory S u o → IfSome o (λ n. has Tree S n.0 ≡ true)
dir-has S u None d = tt
dir-has S u (Some n) d = d.held

pub dir-grown : {made : Object → Type 0} (S S' : List Object) (u : Flat) (o : Option Name) → IsGrownBy made S S' → IsDirectory S u o → IsDirectory S' u o
dir-grown S S' u None g d = d
dir-grown S S' u (Some n) g d = stands-grown S S' n.0 u g d

-- ---- two trees together

module _ (a b : Flat) (g : IsTree a) (h : IsTree b) (c : clash a b ≡ None) where
  pub shared_over : AreOver (λ x. IsLeafOf a x ⊎ IsLeafOf b x) (λ x. IsComponentOf a x ⊎ IsComponentOf b x) (IsShared a b)
  shared_over d m = (
    under (together a b) m.above,
    tree_over (λ x. IsLeafOf a x ⊎ IsLeafOf b x) (λ x. IsComponentOf a x ⊎ IsComponentOf b x) (under (together a b) m.above)
        (under-tree (together a b) m.above (together_law a b g h c).tree)
        (over_under (λ x. IsLeafOf a x ⊎ IsLeafOf b x) (λ x. IsComponentOf a x ⊎ IsComponentOf b x) (together a b) m.above
        (over_both (λ x. IsLeafOf a x ⊎ IsLeafOf b x) (λ x. IsComponentOf a x ⊎ IsComponentOf b x) a b
        (over_as (IsLeafOf a) (λ x. IsLeafOf a x ⊎ IsLeafOf b x) (IsComponentOf a) (λ x. IsComponentOf a x ⊎ IsComponentOf b x) a (λ x l. inl l) (λ x l. inl l) (over_own a))
        (over_as (IsLeafOf b) (λ x. IsLeafOf a x ⊎ IsLeafOf b x) (IsComponentOf b) (λ x. IsComponentOf a x ⊎ IsComponentOf b x) b (λ x l. inr l) (λ x l. inr l) (over_own b)))),
    m.body,
  )

clash-right : (a : Flat) → clash a [] ≡ None
clash-right [] = refl
clash-right (d ∷ a) = clash-right a

nil-tree : IsTree []
nil-tree = record { sorted = tt; paths = tt; leaves = tt; apart = tt }

together-right : (a : Flat) → IsTree a → together a [] ≡ a
together-right a h =
    let law = together_law a [] h nil-tree (clash-right a) in
    same_flat (together a []) a law.tree.sorted h.sorted (λ p. law.leaves p ∙ alone (at a p))
  where
    alone : (o : Option Leaf) → option_or o None ≡ o
    alone None = refl
    alone (Some x) = refl

together-left : (b : Flat) → together [] b ≡ b
unfolding together
together-left b = refl

pub left_none : (S : List Object) (first second : Option Name) → first ≡ None → IfSome second (λ n. has Tree S n.0 ≡ true) → IsDirectory S (together (map_of S first) (map_of S second)) second
left_none S first second e h = subst (λ (o : Option Name). IsDirectory S (together (map_of S o) (map_of S second)) second) (sym e) (by second h)
  where
    by : (o : Option Name) → IfSome o (λ n. has Tree S n.0 ≡ true) → IsDirectory S (together [] (map_of S o)) o
    by None h = together-left []
    by (Some n) h = record { held = h; map = sym (together-left (flat S n.0)) }

pub right_none : (S : List Object) (first second : Option Name) (a : Name) → IsStore S → first ≡ Some a → second ≡ None → IfSome first (λ n. has Tree S n.0 ≡ true) → StandsFor S a.0 (together (map_of S first) (map_of S second))
right_none S first second a s e g h =
    let there : has Tree S a.0 ≡ true = subst (λ (o : Option Name). IfSome o (λ n. has Tree S n.0 ≡ true)) e h in
    record { held = there; map = sym ((λ i. together (map_of S (e i)) (map_of S (g i))) ∙ together-right (flat S a.0) (flat_good S s a.0 there).tree) }

module _ (S S' : List Object) (first second : Option Name) (a b : Name) (s : IsStore S) (e : first ≡ Some a) (g : second ≡ Some b) (h : IfSome first (λ n. has Tree S n.0 ≡ true)) (k : IfSome second (λ n. has Tree S n.0 ≡ true)) (c : clash (map_of S first) (map_of S second) ≡ None) where
  pub held_a : has Tree S a.0 ≡ true
  held_a = subst (λ (o : Option Name). IfSome o (λ n. has Tree S n.0 ≡ true)) e h

  pub held_b : has Tree S b.0 ≡ true
  held_b = subst (λ (o : Option Name). IfSome o (λ n. has Tree S n.0 ≡ true)) g k

  pub none-clash : clash (flat S a.0) (flat S b.0) ≡ None
  none-clash = (λ i. clash (map_of S (sym e i)) (map_of S (sym g i))) ∙ c

  all-over : AreOver (λ x. IsLeafOf (flat S a.0) x ⊎ IsLeafOf (flat S b.0) x) (λ x. IsComponentOf (flat S a.0) x ⊎ IsComponentOf (flat S b.0) x) (IsShared (flat S a.0) (flat S b.0))
  all-over = shared_over (flat S a.0) (flat S b.0) (flat_good S s a.0 held_a).tree (flat_good S s b.0 held_b).tree none-clash

  pub joined_grown : IsGrown (IsShared (flat S a.0) (flat S b.0)) S S' → IsGrownBy (IsJoinedObject (map_of S first) (map_of S second)) S S'
  joined_grown j =
      subst (λ (o : Option Name). IsGrownBy (IsJoinedObject (map_of S o) (map_of S second)) S S') (sym e)
      (subst (λ (o : Option Name). IsGrownBy (IsJoinedObject (flat S a.0) (map_of S o)) S S') (sym g)
      (grown_over (λ x. IsLeafOf (flat S a.0) x ⊎ IsLeafOf (flat S b.0) x) (λ x. IsComponentOf (flat S a.0) x ⊎ IsComponentOf (flat S b.0) x) (IsShared (flat S a.0) (flat S b.0)) S S' all-over j))

  pub joined_fault : (x : TreeFault) → IsTreeFault (IsShared (flat S a.0) (flat S b.0)) S' x → IsApplyFault (IsJoinedObject (map_of S first) (map_of S second)) S' (fault_of x)
  joined_fault x j =
      subst (λ (o : Option Name). IsApplyFault (IsJoinedObject (map_of S o) (map_of S second)) S' (fault_of x)) (sym e)
      (subst (λ (o : Option Name). IsApplyFault (IsJoinedObject (flat S a.0) (map_of S o)) S' (fault_of x)) (sym g)
      (fault_over (λ x. IsLeafOf (flat S a.0) x ⊎ IsLeafOf (flat S b.0) x) (λ x. IsComponentOf (flat S a.0) x ⊎ IsComponentOf (flat S b.0) x) (IsShared (flat S a.0) (flat S b.0)) S' x all-over j))

  pub joined_stands : (n : Name) → StandsFor S' n.0 (together (flat S a.0) (flat S b.0)) → StandsFor S' n.0 (together (map_of S first) (map_of S second))
  joined_stands n j = record { held = j.held; map = j.map ∙ (λ i. together (map_of S (sym e i)) (map_of S (sym g i))) }

-- ---- one route

pub part_shown : (f : Filter) (t : Flat) (o : Object) → IsPartObject t o → IsShownObject f t o
part_shown f t = made_as (IsLeafOf t) (IsLeafOf t) (IsComponentOf t) (IsNamedIn f t) (λ x l. l) (λ c k. inl k)

pub found_shown : (f : Filter) (t : Flat) (p : Path) → IsTree t → (n : Node) → Some n ≡ standing t p → (o : Object) → IsPartObject (rests n) o → IsShownObject f t o
found_shown f t p h n e o m = part_shown f t o (node_handed t p h n e o m)

-- nothing is shown of nothing
put-nothing : (o : Option Path) → put_behind o [] ≡ []
put-nothing None = refl
put-nothing (Some a) = refl

-- an entry with that target
with_target : (o : Option Entry) (a : Path) → target_of o ≡ Some a → (e : Entry) × (o ≡ Some e) × (e.1 ≡ Some a)
with_target None a k = absurd (none-some a k)
with_target (Some e) a k = (e, refl, k)

module _ (f : Filter) (es : List Entry) (list : IsListOf f es) (sound : IsSound f) (named : has_paths f ≡ true) (t : Flat) (h : IsTree t) where
  -- what is seen by an entry is what it shows where this stands at its base
  module _ (i : ℕ) (e : Entry) (get : slice_get es i ≡ Some e) where
    pub dead : (S : List Object) → e.1 ≡ None → IsDirectory S (seen_between f es i (i + 1) t) None
    dead S k = no-target f es list sound named t h i e get k

    module _ (a : Path) (target : e.1 ≡ Some a) where
      pub routed_seen : (u : Flat) → u ≡ rests_of (standing t (base_in (slice_get es i))) → (S : List Object) → IsStore S → (o : Option Name) → IsDirectory S (routed es i u) o → IsDirectory S (seen_between f es i (i + 1) t) o
      routed_seen u stands S s o d = by o d
        where
          routed-is : routed es i u ≡ behind a (part_of es i (base e.0) t)
          routed-is =
              ap (routed es i) stands
              ∙ (λ j. put_behind (target_of (get j)) (part_of es i (base_in (get j)) t))
              ∙ ap (λ o. put_behind o (part_of es i (base e.0) t)) target

          by : (o : Option Name) → IsDirectory S (routed es i u) o → IsDirectory S (seen_between f es i (i + 1) t) o
          by None d =
              let none : behind a (part_of es i (base e.0) t) ≡ [] = sym routed-is ∙ d in
              route-is f es list sound named t h i e get a target (subst IsTree (sym none) nil-tree) ∙ none
          by (Some n) d =
              let whole : flat S n.0 ≡ behind a (part_of es i (base e.0) t) = d.map ∙ routed-is in
              record { held = d.held; map = whole ∙ sym (route-is f es list sound named t h i e get a target (subst IsTree whole (flat_good S s n.0 d.held).tree)) }

      pub all_seen_by : {E : Type 0} (u : Flat) → u ≡ rests_of (standing t (base_in (slice_get es i))) → (S : List Object) → IsStore S → (r : Result (Option Name) E) → IfOk r (IsDirectory S (routed es i u)) → IfOk r (IsDirectory S (seen_between f es i (i + 1) t))
      all_seen_by u stands S s (Ok o) d = routed_seen u stands S s o d
      all_seen_by u stands S s (Err x) d = tt

      pub nothing_seen : (S : List Object) → IsStore S → None ≡ standing t (base_in (slice_get es i)) → IsDirectory S (seen_between f es i (i + 1) t) None
      nothing_seen S s none = routed_seen [] (ap rests_of none) S s None (put-nothing (target_of (slice_get es i)))

  -- what is made at an entry's target
  module _ (i : ℕ) (a : Path) (target : target_of (slice_get es i) ≡ Some a) (n : Node) (stands : Some n ≡ standing t (base_in (slice_get es i))) where
    w : (e : Entry) × (slice_get es i ≡ Some e) × (e.1 ≡ Some a)
    w = with_target (slice_get es i) a target

    routed-behind : routed es i (rests n) ≡ behind a (part_in es i (rests n))
    routed-behind = ap (λ o. put_behind o (part_in es i (rests n))) target

    pub none_routed : [] ≡ part_in es i (rests n) → routed es i (rests n) ≡ []
    none_routed none = routed-behind ∙ ap (behind a) (sym none)

    module _ (S : List Object) (s : IsStore S) (d : Found) (held : has_child S d.mode d.name.0 ≡ true) (map : rests (node S d) ≡ part_in es i (rests n)) where
      part-is : rests (node S d) ≡ part_of es i (base w.0.0) t
      part-is = map ∙ ap (λ o. part_in es i (rests_of o)) stands ∙ ap (λ o. part_of es i (base_in o) t) w.1

      of-part : (r : Path) (x : Leaf) → at (rests (node S d)) r ≡ Some x → at (part_of es i (base w.0.0) t) r ≡ Some x
      of-part r x g = ap (λ (u : Flat). at u r) (sym part-is) ∙ g

      pub kind : (is_dir d.mode ≡ true) ⊎ (is_nil a ≡ false)
      kind = by (is_dir d.mode) refl
        where
          not_nil : (p : Path) → is_path (p ++ []) ≡ true → is_nil p ≡ false
          not_nil [] v = absurd (true≢false (sym v))
          not_nil (c ∷ p) v = refl

          by : (b : Bool) → is_dir d.mode ≡ b → (is_dir d.mode ≡ true) ⊎ (is_nil a ≡ false)
          by true k = inl k
          by false k =
              let x = leaf_node S d.mode d.name.0 k in
              inr (not_nil a (part-leaf f es list sound named t h i w.0 w.1 a w.2 [] x.0 (of-part [] x.0 (ap (λ n. at (rests n) []) x.1))).1)

      sorted-rests : T (is_sorted path_cmp (rests (node S d)))
      sorted-rests = by (is_dir d.mode) refl
        where
          by : (b : Bool) → is_dir d.mode ≡ b → T (is_sorted path_cmp (rests (node S d)))
          by true k = subst (λ n. T (is_sorted path_cmp (rests n))) (sym (dir_node S d.mode d.name.0 k)) (flat_good S s d.name.0 (dir_held S d.mode d.name.0 k held)).tree.sorted
          by false k = let x = leaf_node S d.mode d.name.0 k in subst (λ n. T (is_sorted path_cmp (rests n))) (sym x.1) tt

      part-over : IsOver (IsLeafOf t) (IsComponentOf t) (rests (node S d))
      part-over = record {
        leaves = λ p x g. (part-named f es list sound named t h i w.0 w.1 a w.2 p x (of-part p x g)).0;
        parts = λ p x g. (part-named f es list sound named t h i w.0 w.1 a w.2 p x (of-part p x g)).1;
      }

      target-named : Each (IsNamedIn f t) a
      target-named = by (rests (node S d)) (rests_full S s d.mode d.name.0 held) (λ r x g. (part-named f es list sound named t h i w.0 w.1 a w.2 r x (of-part r x g)).2)
        where
          by : (u : Flat) → IsFull u → ((r : Path) (x : Leaf) → at u r ≡ Some x → Each (IsNamedIn f t) a) → Each (IsNamedIn f t) a
          by [] k all = absurd k
          by (x ∷ u) k all = all x.0 x.1 (ap (λ b. cond b (Some x.1) (at u x.0)) ((path_decides x.0 x.0).1 refl))

      pub placed_shown : (o : Object) → IsPlacedObject a (rests (node S d)) o → IsShownObject f t o
      placed_shown = made_as (IsLeafOf (rests (node S d))) (IsLeafOf t) (λ c. IsComponentOf (rests (node S d)) c ⊎ Contains a c) (IsNamedIn f t)
          (leaf_over (IsLeafOf t) (IsComponentOf t) (rests (node S d)) sorted-rests part-over)
          (λ c k. elim k [
            | inl l ↦ inl (part_over (IsLeafOf t) (IsComponentOf t) (rests (node S d)) sorted-rests part-over c l)
            | inr r ↦ each-in (IsNamedIn f t) a c target-named r
          ])

      pub placed_routed : (S' : List Object) (name : Name) → StandsFor S' name.0 (behind a (rests (node S d))) → StandsFor S' name.0 (routed es i (rests n))
      placed_routed S' name j = record { held = j.held; map = j.map ∙ ap (behind a) map ∙ sym routed-behind }

  -- ---- two ranges

  abbrev seen : ℕ → ℕ → Flat
  seen k l = seen_between f es k l t

  free-less : (ds : List Entry) (n m : ℕ) (p : Path) → n ≤ m → free_in (take m ds) p ≡ true → free_in (take n ds) p ≡ true
  free-less [] zero m p l g = refl
  free-less [] (suc n) m p l g = refl
  free-less (d ∷ ds) zero m p l g = refl
  free-less (d ∷ ds) (suc n) zero p l g = absurd (omega arith)
  free-less (d ∷ ds) (suc n) (suc m) p l g = by (not (in_cone d.0 p)) (free-less ds n m p (omega arith)) g
    where
      by : (b : Bool) → (free_in (take m ds) p ≡ true → free_in (take n ds) p ≡ true) → (b && free_in (take m ds) p) ≡ true → (b && free_in (take n ds) p) ≡ true
      by true rec k = rec k
      by false rec k = k

  ranges : (j k l : ℕ) → j ≤ k → k ≤ l → (p : Path) → (between es j k p || between es k l p) ≡ between es j l p
  ranges j k l a b p = by (free_in (take j es) p) (free_in (take k es) p) (free_in (take l es) p) (free-less es j k p a) (free-less es k l p b)
    where
      by : (x y z : Bool) → (y ≡ true → x ≡ true) → (z ≡ true → y ≡ true) → ((x && not y) || (y && not z)) ≡ (x && not z)
      by true true z f g = refl
      by true false true f g = absurd (true≢false (sym (g refl)))
      by true false false f g = refl
      by false true z f g = absurd (true≢false (sym (f refl)))
      by false false z f g = refl

  ranges-apart : (j k l : ℕ) (p : Path) → between es j k p ≡ true → between es k l p ≡ true → ⊥
  ranges-apart j k l p = by (free_in (take j es) p) (free_in (take k es) p) (free_in (take l es) p)
    where
      by : (x y z : Bool) → (x && not y) ≡ true → (y && not z) ≡ true → ⊥
      by true true z f g = true≢false (sym f)
      by true false z f g = true≢false (sym g)
      by false y z f g = true≢false (sym f)

  pub ranges_clash : (j k l : ℕ) → clash (seen j k) (seen k l) ≡ None
  ranges_clash j k l = no-clash (lens_of f) (lens f es list sound named) t h (between es j k) (between es k l) (ranges-apart j k l)

  pub ranges_join : (j k l : ℕ) → j ≤ k → k ≤ l → together (seen j k) (seen k l) ≡ seen j l
  ranges_join j k l a b = both-seen (lens_of f) (lens f es list sound named) t h (between es j k) (between es k l) (between es j l) (ranges j k l a b) (ranges-apart j k l)

  seen_over : (j k : ℕ) → IsOver (IsLeafOf t) (IsNamedIn f t) (seen j k)
  seen_over j k = record {
    leaves = λ q x g. let w = from-passed (lens_of f) (lens f es list sound named) t h (between es j k) q x g in (over_own t).leaves w.0 x w.4;
    parts = λ q x g.
        let w = from-passed (lens_of f) (lens f es list sound named) t h (between es j k) q x g in
        image-named (IsNamedIn f t) f w.0 q (in-each (IsNamedIn f t) (parts_in f) (λ c i. inr i)) (each-as (IsComponentOf t) (IsNamedIn f t) w.0 (λ c i. inl i) ((over_own t).parts w.0 x w.4)) w.3;
  }

  pub joined_shown : (j k l : ℕ) (o : Object) → IsJoinedObject (seen j k) (seen k l) o → IsShownObject f t o
  joined_shown j k l =
      let left = (seen-is-tree (lens_of f) (lens f es list sound named) t h (between es j k)).sorted in
      let right = (seen-is-tree (lens_of f) (lens f es list sound named) t h (between es k l)).sorted in
      made_as (λ x. IsLeafOf (seen j k) x ⊎ IsLeafOf (seen k l) x) (IsLeafOf t) (λ c. IsComponentOf (seen j k) c ⊎ IsComponentOf (seen k l) c) (IsNamedIn f t)
      (λ x m. elim m [ inl a ↦ leaf_over (IsLeafOf t) (IsNamedIn f t) (seen j k) left (seen_over j k) x a | inr b ↦ leaf_over (IsLeafOf t) (IsNamedIn f t) (seen k l) right (seen_over k l) x b ])
      (λ c m. elim m [ inl a ↦ part_over (IsLeafOf t) (IsNamedIn f t) (seen j k) left (seen_over j k) c a | inr b ↦ part_over (IsLeafOf t) (IsNamedIn f t) (seen k l) right (seen_over k l) c b ])

  -- ---- the whole list

  take-whole : (ds : List Entry) → take (length ds) ds ≡ ds
  take-whole [] = refl
  take-whole (d ∷ ds) = ap (λ xs. d ∷ xs) (take-whole ds)

  free-run : (ds : List Entry) (p : Path) → free_in ds p ≡ true → run None ds p ≡ None
  free-run [] p g = refl
  free-run (d ∷ ds) p g = by (tail d.0 p) refl (free-run ds p) g
    where
      by : (o : Option Path) → tail d.0 p ≡ o → (free_in ds p ≡ true → run None ds p ≡ None) → (not (is_some (tail d.0 p)) && free_in ds p) ≡ true → decide (tail d.0 p) d.1 (run None ds p) ≡ None
      by None k rec g = ap (λ o. decide o d.1 (run None ds p)) k ∙ rec (ap (λ o. not (is_some o) && free_in ds p) (sym k) ∙ g)
      by (Some r) k rec g = absurd (true≢false (sym (ap (λ o. not (is_some o) && free_in ds p) (sym k) ∙ g)))

  pub all_seen : seen 0 (length es) ≡ seen_through (lens_of f) t
  all_seen =
      let is = lens f es list sound named in
      same_on_paths (seen 0 (length es)) (seen_through (lens_of f) t) (seen-is-tree (lens_of f) is t h (between es 0 (length es))).sorted (seen-tree (lens_of f) is t h).sorted
      (seen-is-tree (lens_of f) is t h (between es 0 (length es))).paths (seen-tree (lens_of f) is t h).paths
      (λ q v. seen-at (lens_of f) is t h (between es 0 (length es)) q v ∙ by q v (origin f q) refl ∙ sym (at-seen (lens_of f) is t h.paths q v))
    where
      covered : (q : Path) → is_path q ≡ true → (p : Path) → origin f q ≡ Some p → (b : Bool) → free_in es p ≡ b → between es 0 (length es) p ≡ true
      covered q v p o true g =
          let is = lens f es list sound named in
          absurd (none-some q (sym (free-run es p g) ∙ list.gives p (full-path p (is.origin_path p q v o)) ∙ is.origin_image p q v o))
      covered q v p o false g = ap (λ ds. not (free_in ds p)) (take-whole es) ∙ ap not g

      by : (q : Path) → is_path q ≡ true → (o : Option Path) → origin f q ≡ o → at_rest t (passed (between es 0 (length es)) (origin f q)) ≡ at_rest t (origin f q)
      by q v None k = ap (λ o. at_rest t (passed (between es 0 (length es)) o)) k ∙ ap (at_rest t) (sym k)
      by q v (Some p) k =
          ap (λ o. at_rest t (passed (between es 0 (length es)) o)) k
          ∙ ap (λ b. at_rest t (cond b (Some p) None)) (covered q v p k (free_in es p) refl)
          ∙ ap (at_rest t) (sym k)

  pub none_seen : length es ≤ 0 → seen_through (lens_of f) t ≡ []
  none_seen l =
      sym all_seen
      ∙ (let is = lens f es list sound named in
      same_flat (seen 0 (length es)) [] (seen-is-tree (lens_of f) is t h (between es 0 (length es))).sorted tt (λ q. by q (at (seen 0 (length es)) q) refl))
    where
      none-free : (n : ℕ) (p : Path) → n ≤ 0 → between es 0 n p ≡ false
      none-free zero p l = refl
      none-free (suc n) p l = absurd (omega arith)

      by : (q : Path) (o : Option Leaf) → at (seen 0 (length es)) q ≡ o → at (seen 0 (length es)) q ≡ None
      by q None e = e
      by q (Some x) e = let w = from-passed (lens_of f) (lens f es list sound named) t h (between es 0 (length es)) q x e in absurd (true≢false (sym w.2 ∙ none-free (length es) w.0 l))

-- ---- the empty tree

module _ (f : Filter) (t : Flat) (S0 S : List Object) (g : IsGrownBy (IsShownObject f t) S0 S) where
  empty_over : AreOver (IsLeafOf t) (IsNamedIn f t) (λ b. b ≡ [])
  unfolding body
  empty_over b e = ([], tree_over (IsLeafOf t) (IsNamedIn f t) [] nil-tree (record { leaves = λ p x k. absurd (none-some x k); parts = λ p x k. absurd (none-some x k) }), sym e)

  good : AreGood S []
  good = record { entries = tt; held = tt }

  pub empty_taken : (S' : List Object) → IsStore S' → IsTaken S [] S' → StandsFor S' (name Tree []) [] × IsGrownBy (IsShownObject f t) S0 S'
  empty_taken S' s k =
      let i = taken (λ b. b ≡ []) S S' [] [] g.store refl good refl k in (
        record { held = i.held; map = i.map },
        grown_then (IsShownObject f t) S0 S S' g (grown_over (IsLeafOf t) (IsNamedIn f t) (λ b. b ≡ []) S S' empty_over (record { store = s; newer = i.newer; above = i.above; trees = i.trees })),
      )

  pub empty_refused : (S' : List Object) (x : TreeFault) → S' ≡ S → IsRefused S [] x → IsApplyFault (IsShownObject f t) S' (fault_of x)
  empty_refused S' x same r = subst (λ (R : List Object). IsApplyFault (IsShownObject f t) R (fault_of x)) (sym same) (fault_over (IsLeafOf t) (IsNamedIn f t) (λ b. b ≡ []) S x empty_over (by x r))
    where
      by : (x : TreeFault) → IsRefused S [] x → IsTreeFault (λ b. b ≡ []) S x
      by (Collision n) r = record { body = []; is_made = refl; held = r }
      by OutOfMemory r = tt

-- ---- two halves

module _ (f : Filter) (es : List Entry) (list : IsListOf f es) (sound : IsSound f) (named : has_paths f ≡ true) (S0 S1 S2 : List Object) (root : Bytes) (s : IsStore S0) (held : has Tree S0 root ≡ true)
    (first : IsGrownBy (IsShownObject f (flat S0 root)) S0 S1) (second : IsGrownBy (IsShownObject f (flat S1 root)) S1 S2) where
  abbrev t : Flat
  t = flat S0 root

  h : IsTree t
  h = (flat_good S0 s root held).tree

  same : flat S1 root ≡ t
  same = flat-grown S0 S1 root first held

  pub half_held : has Tree S1 root ≡ true
  half_held = has-grown S0 S1 Tree root first held

  pub both_grown : IsGrownBy (IsShownObject f t) S0 S2
  both_grown = grown_then (IsShownObject f t) S0 S1 S2 first (subst (λ (u : Flat). IsGrownBy (IsShownObject f u) S1 S2) same second)

  pub half_fault : (e : ApplyError) → IsApplyFault (IsShownObject f (flat S1 root)) S2 e → IsApplyFault (IsShownObject f t) S2 e
  half_fault e = subst (λ (u : Flat). IsApplyFault (IsShownObject f u) S2 e) same

  module _ (j k l : ℕ) (a b : Option Name) (da : IsDirectory S1 (seen_between f es j k t) a) (db : IsDirectory S2 (seen_between f es k l (flat S1 root)) b) where
    left : IsDirectory S2 (seen_between f es j k t) a
    left = dir-grown S1 S2 (seen_between f es j k t) a second da

    right : IsDirectory S2 (seen_between f es k l t) b
    right = subst (λ (u : Flat). IsDirectory S2 (seen_between f es k l u) b) same db

    pub left_held : IfSome a (λ n. has Tree S2 n.0 ≡ true)
    left_held = dir-has S2 (seen_between f es j k t) a left

    pub right_held : IfSome b (λ n. has Tree S2 n.0 ≡ true)
    right_held = dir-has S2 (seen_between f es k l t) b right

    left-map : map_of S2 a ≡ seen_between f es j k t
    left-map = map-of S2 (seen_between f es j k t) a left

    right-map : map_of S2 b ≡ seen_between f es k l t
    right-map = map-of S2 (seen_between f es k l t) b right

    pub halves_apart : clash (map_of S2 a) (map_of S2 b) ≡ None
    halves_apart = (λ i. clash (left-map i) (right-map i)) ∙ ranges_clash f es list sound named t h j k l

    pub halves_ok : {E : Type 0} (S3 : List Object) (r : Result (Option Name) E) → j ≤ k → k ≤ l → IfOk r (IsDirectory S3 (together (map_of S2 a) (map_of S2 b))) → IfOk r (IsDirectory S3 (seen_between f es j l t))
    halves_ok S3 r x y = subst (λ (u : Flat). IfOk r (IsDirectory S3 u)) ((λ i. together (left-map i) (right-map i)) ∙ ranges_join f es list sound named t h j k l x y)

    handed : (o : Object) → IsJoinedObject (map_of S2 a) (map_of S2 b) o → IsShownObject f t o
    handed o m = joined_shown f es list sound named t h j k l o (subst (λ (w : Flat × Flat). IsJoinedObject w.0 w.1 o) (λ i. (left-map i, right-map i)) m)

    pub halves_err : {A : Type 0} (S3 : List Object) (r : Result A ApplyError) → IfErr r (IsApplyFault (IsJoinedObject (map_of S2 a) (map_of S2 b)) S3) → IfErr r (IsApplyFault (IsShownObject f t) S3)
    halves_err S3 (Ok x) m = m
    halves_err S3 (Err e) m = fault_as (IsJoinedObject (map_of S2 a) (map_of S2 b)) (IsShownObject f t) S3 e handed m

    pub halves_store : (S3 : List Object) → IsGrownBy (IsJoinedObject (map_of S2 a) (map_of S2 b)) S2 S3 → IsGrownBy (IsShownObject f t) S0 S3
    halves_store S3 g = grown_then (IsShownObject f t) S0 S2 S3 both_grown (grown_as (IsJoinedObject (map_of S2 a) (map_of S2 b)) (IsShownObject f t) S2 S3 handed g)

-- ---- steps

pub paid : (f : Filter) (es : List Entry) (old new : ℕ) → IsOneEntry f es → (length es ≡ 1 → new ≤ old + length (base_in (slice_get es 0))) → IsPaid f old new
paid nop es old new o h = tt
paid (sub a) es old new o h = subst (λ (ds : List Entry). new ≤ old + length (base_in (slice_get ds 0))) o (h (ap length o))
paid (onto a) es old new o h = let none = subst (λ (ds : List Entry). new ≤ old + length (base_in (slice_get ds 0))) o (h (ap length o)) in omega arith
paid (dir a) es old new o h = subst (λ (ds : List Entry). new ≤ old + length (base_in (slice_get ds 0))) o (h (ap length o))
paid (file a) es old new o h = tt
paid (exclude f) es old new o h = tt
paid (join fs) es old new o h = tt
paid (chain fs) es old new o h = tt
paid (workspace a) es old new o h = tt

pub empty_fits : (S : List Object) → of_body S Tree [] None ≡ None
empty_fits S = good_fits S [] (record { entries = tt; held = tt })
