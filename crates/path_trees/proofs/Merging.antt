-- Two listings without a clash, merged in Git's order.
use Rattle.std.proofs.Common.{◌≡◌, Bool, true, false, cond, List, [], ◌∷◌, map, refl, sym, ap, ◌∙◌, Option, Some, None, true≢false}
use Rattle.std.specs.declared.cmp.Ordering.{Ordering}
use Rattle.std.specs.declared.cmp.Ordering.TheVariants.{Less, Equal, Greater}
use Rattle.std.specs.Ordering.{ordering_reverse}
use Rattle.std.specs.Cmp.{tied_itself}
use Rattle.std.specs.Cmp.Lexicographic.{bytes_decides, nat_list_cmp_total}
use Rattle.std.specs.FinMap.{slice_cmp-IsAntisymmetric, nat_cmp-IsAntisymmetric}
use Rattle.git_objects.specs.Paths.{Bytes, Path, same_bytes, is_component}
use Rattle.git_objects.specs.Trees.{Leaf, Flat, at, rests}
use Rattle.git_objects.specs.Entries.{is_dir, dir_key, git_cmp, Before, entry_component, entry_dir, AreEntries}
use Rattle.git_objects.specs.Bodies.{is_name}
use Rattle.git_objects.specs.declared.entry.Entry.{Entry}
use Rattle.git_objects.specs.declared.name.Name.{Name}
use Rattle.git_objects.specs.declared.mode.Mode.{Mode}
use Rattle.git_objects.specs.declared.mode.Mode.TheVariants.{Dir}
use Rattle.git_objects.proofs.Basics.{same_bytes-back}
use Rattle.git_objects.specs.Lists.{Each}
use Rattle.git_objects.proofs.Maps.{first_some}
use Rattle.object_store.specs.Objects.{Object, has_child}
use Rattle.object_store.specs.Unfolding.{flat}
use Rattle.object_store.proofs.Unfolding.{node, AreHeld}
use Rattle.path_trees.specs.Clashes.{clash, together}
use Rattle.path_trees.specs.Listed.{found, found_at}
use Rattle.path_trees.specs.Merged.{Side, OnLeft, OnRight, OnBoth, by_order, among, merged, shared, with_names}
use Rattle.path_trees.specs.declared.join.Shared.{Shared}
use Rattle.path_trees.proofs.Grown.{joined_in}
use Rattle.path_trees.proofs.Listings.{Away, away_before}
use Rattle.git_objects.proofs.Tops.{same_key}
use Rattle.path_trees.proofs.Levels.{at-block, at-away}
use Rattle.path_trees.proofs.Walks.{dir_rests}
use Rattle.path_trees.proofs.Clashing.{at-together}
use Rattle.path_trees.proofs.Apart.{IsPair, ArePairs}

abbrev cmp : Entry → Entry → Ordering
cmp a b = git_cmp entry_component entry_dir a b

abbrev IsBefore : Entry → List Entry → Type 0
IsBefore a es = Before entry_component entry_dir a es

-- in front of the first of these
abbrev pub IsAhead : Entry → List Entry → Type 0
IsAhead e [] = Unit
IsAhead e (f ∷ fs) = git_cmp entry_component entry_dir e f ≡ Less

turned : (e f : Entry) → cmp e f ≡ Greater → cmp f e ≡ Less
turned e f k = nat_list_cmp_total.antisymm (dir_key f.component (entry_dir f)) (dir_key e.component (entry_dir e)) ∙ ap ordering_reverse k

-- ---- by the steps of a merge

module _ (P : List Entry → List Entry → List Side → Type 0) (done : P [] [] []) (left : (e : Entry) (es fs : List Entry) (ps : List Side) → IsAhead e fs → P es fs ps → P (e ∷ es) fs (OnLeft e ∷ ps))
    (right : (f : Entry) (es fs : List Entry) (ps : List Side) → IsAhead f es → P es fs ps → P es (f ∷ fs) (OnRight f ∷ ps))
    (both : (e f : Entry) (es fs : List Entry) (ps : List Side) → git_cmp entry_component entry_dir e f ≡ Equal → P es fs ps → P (e ∷ es) (f ∷ fs) (OnBoth e f ∷ ps)) where
  rights : (fs : List Entry) → P [] fs (map OnRight fs)
  rights [] = done
  rights (f ∷ fs) = right f [] fs (map OnRight fs) tt (rights fs)

  in_among : (e : Entry) (es : List Entry) → ((gs : List Entry) → P es gs (merged es gs)) → (fs : List Entry) → P (e ∷ es) fs (among e (merged es) fs)
  in_among e es more [] = left e es [] (merged es []) tt (more [])
  in_among e es more (f ∷ fs) =
      elim (cmp e f) as (λ o. cmp e f ≡ o → P (e ∷ es) (f ∷ fs) (by_order o (OnLeft e ∷ merged es (f ∷ fs)) (OnBoth e f ∷ merged es fs) (OnRight f ∷ among e (merged es) fs))) [
        | Less ↦ λ k. left e es (f ∷ fs) (merged es (f ∷ fs)) k (more (f ∷ fs))
        | Equal ↦ λ k. both e f es fs (merged es fs) k (more fs)
        | Greater ↦ λ k. right f (e ∷ es) fs (among e (merged es) fs) (turned e f k) (in_among e es more fs)
      ] refl

  pub by_merge : (es fs : List Entry) → P es fs (merged es fs)
  by_merge [] fs = rights fs
  by_merge (e ∷ es) fs = in_among e es (by_merge es) fs

-- ---- order

-- entries of one component are of one kind
abbrev IsAlike : Entry → Entry → Type 0
IsAlike a b = same_bytes a.component b.component ≡ true → entry_dir a ≡ entry_dir b

less_equal : {A : Type 0} → Less ≡ Equal → A
less_equal h = cc

differs : (a b : Entry) → cmp a b ≡ Less → IsAlike a b → same_bytes a.component b.component ≡ false
differs a b k h = elim (same_bytes a.component b.component) as (λ t. same_bytes a.component b.component ≡ t → t ≡ false) [
  | true ↦ λ e.
      let c = (bytes_decides a.component b.component).0 e in
      less_equal (sym k ∙ (λ i. git_cmp {A = Bytes × Bool} (λ x. x.0) (λ x. x.1) (c i, h e i) (b.component, entry_dir b)) ∙ tied_itself nat_list_cmp_total (dir_key b.component (entry_dir b)))
  | false ↦ λ e. refl
] refl

before_rest : (a b : Entry) (es : List Entry) → cmp a b ≡ Less → IsBefore b es → Each (λ e. IsAlike a e) es → IsBefore a es
before_rest a b [] k h g = tt
before_rest a b (d ∷ es) k h g =
    let less = nat_list_cmp_total.trans (dir_key a.component (entry_dir a)) (dir_key b.component (entry_dir b)) (dir_key d.component (entry_dir d)) k h.0 in
    (less, differs a d less g.0, before_rest a b es k h.2 g.1)

ahead_of : (a : Entry) (es : List Entry) → IsAhead a es → AreEntries es → Each (λ e. IsAlike a e) es → IsBefore a es
ahead_of a [] k h g = tt
ahead_of a (b ∷ es) k h g = (k, differs a b k g.0, before_rest a b es k h.1 g.1)

-- the same place
before_same : (a b : Entry) (es : List Entry) → a.component ≡ b.component → entry_dir a ≡ entry_dir b → IsBefore a es → IsBefore b es
before_same a b [] c d h = tt
before_same a b (e ∷ es) c d h =
    ((λ i. git_cmp {A = Bytes × Bool} (λ x. x.0) (λ x. x.1) (sym c i, sym d i) (e.component, entry_dir e)) ∙ h.0, ap (λ x. same_bytes x e.component) (sym c) ∙ h.1, before_same a b es c d h.2)

row_alike : (S : List Object) (e : Entry) (fs : List Entry) → Each (λ f. IsPair S e f) fs → Each (λ f. IsAlike e f) fs
row_alike S e [] h = tt
row_alike S e (f ∷ fs) h = ((λ k. let r = h.0 k in r.0 ∙ sym r.1), row_alike S e fs h.1)

column : (S : List Object) (f : Entry) (es fs : List Entry) → ArePairs S es (f ∷ fs) → Each (λ e. IsPair S e f) es
column S f [] fs h = tt
column S f (e ∷ es) fs h = (h.0.0, column S f es fs h.1)

pub others : (S : List Object) (f : Entry) (es fs : List Entry) → ArePairs S es (f ∷ fs) → ArePairs S es fs
others S f [] fs h = tt
others S f (e ∷ es) fs h = (h.0.1, others S f es fs h.1)

column_alike : (S : List Object) (f : Entry) (es : List Entry) → Each (λ e. IsPair S e f) es → Each (λ e. IsAlike f e) es
column_alike S f [] h = tt
column_alike S f (e ∷ es) h = ((λ k. let r = h.0 (same_bytes-back e.component f.component ∙ k) in r.1 ∙ sym r.0), column_alike S f es h.1)

-- two entries of one place have one component
pub same_place : (e f : Entry) → is_component e.component ≡ true → is_component f.component ≡ true → git_cmp entry_component entry_dir e f ≡ Equal → e.component ≡ f.component
same_place e f h g k = same_key e.component f.component (entry_dir e) (entry_dir f) h g (slice_cmp-IsAntisymmetric nat_cmp-IsAntisymmetric _ _ k)

module _ (S : List Object) where
  abbrev IsOrdered : List Entry → List Entry → List Side → Type 0
  IsOrdered es fs ps = AreEntries es → AreEntries fs → ArePairs S es fs → (ns : List Name) →
      ((x : Entry) → IsBefore x es → IsBefore x fs → IsBefore x (with_names ps ns)) × AreEntries (with_names ps ns)

  order_left : (e : Entry) (es fs : List Entry) (ps : List Side) → IsAhead e fs → IsOrdered es fs ps → IsOrdered (e ∷ es) fs (OnLeft e ∷ ps)
  order_left e es fs ps a more h g p ns =
      let r = more h.2 g p.1 ns in
      ((λ x k l. (k.0, k.1, r.0 x k.2 l)), (h.0, r.0 e h.1 (ahead_of e fs a g (row_alike S e fs p.0)), r.1))

  order_right : (f : Entry) (es fs : List Entry) (ps : List Side) → IsAhead f es → IsOrdered es fs ps → IsOrdered es (f ∷ fs) (OnRight f ∷ ps)
  order_right f es fs ps a more h g p ns =
      let r = more h g.2 (others S f es fs p) ns in
      ((λ x k l. (l.0, l.1, r.0 x k l.2)), (g.0, r.0 f (ahead_of f es a h (column_alike S f es (column S f es fs p))) g.1, r.1))

  order_both : (e f : Entry) (es fs : List Entry) (ps : List Side) → git_cmp entry_component entry_dir e f ≡ Equal → IsOrdered es fs ps → IsOrdered (e ∷ es) (f ∷ fs) (OnBoth e f ∷ ps)
  order_both e f es fs ps k more h g p ns = by ns
    where
      same : e.component ≡ f.component
      same = same_place e f h.0 g.0 k

      alike : entry_dir e ≡ entry_dir f
      alike = let r = p.0.0 ((bytes_decides e.component f.component).1 same) in r.0 ∙ sym r.1

      by : (ns : List Name) → ((x : Entry) → IsBefore x (e ∷ es) → IsBefore x (f ∷ fs) → IsBefore x (with_names (OnBoth e f ∷ ps) ns)) × AreEntries (with_names (OnBoth e f ∷ ps) ns)
      by [] =
          let r = more h.2 g.2 (others S f es fs p.1) [] in
          ((λ x k l. (k.0, k.1, r.0 x k.2 l.2)), (h.0, r.0 e h.1 (before_same f e fs (sym same) (sym alike) g.1), r.1))
      by (n ∷ ns) =
          let r = more h.2 g.2 (others S f es fs p.1) ns in
          let made : Entry = record { mode = e.mode; component = e.component; name = n } in
          ((λ x k l. (k.0, k.1, r.0 x k.2 l.2)), (h.0, r.0 made (before_same e made es refl refl h.1) (before_same f made fs (sym same) (sym alike) g.1), r.1))

  pub merged_entries : (es fs : List Entry) → AreEntries es → AreEntries fs → ArePairs S es fs → (ns : List Name) → AreEntries (with_names (merged es fs) ns)
  merged_entries es fs h g p ns = (by_merge IsOrdered (λ _ _ _ _. ((λ x k l. tt), tt)) order_left order_right order_both es fs h g p ns).1

-- ---- what is made of the shared directories

-- a tree of this name has the leaves of both
pub record IsJoined (S : List Object) (d : Shared) (n : Name) : Type 0 where
  pub child : has_child S Dir n.0 ≡ true
  pub name : is_name n.0 ≡ true
  pub map : flat S n.0 ≡ together (flat S d.left.0) (flat S d.right.0)

abbrev pub AreJoined : List Object → List Shared → List Name → Type 0
AreJoined S [] ns = Unit
AreJoined S (d ∷ ds) [] = ⊥
AreJoined S (d ∷ ds) (n ∷ ns) = IsJoined S d n × AreJoined S ds ns

dir_child : (S : List Object) (m : Mode) (n : Bytes) → is_dir m ≡ true → has_child S Dir n ≡ true → has_child S m n ≡ true
dir_child S Rattle.git_objects.specs.declared.mode.Mode.TheVariants.File n d h = absurd (true≢false (sym d))
dir_child S Rattle.git_objects.specs.declared.mode.Mode.TheVariants.Exec n d h = absurd (true≢false (sym d))
dir_child S Rattle.git_objects.specs.declared.mode.Mode.TheVariants.Link n d h = absurd (true≢false (sym d))
dir_child S Rattle.git_objects.specs.declared.mode.Mode.TheVariants.Module n d h = absurd (true≢false (sym d))
dir_child S Dir n d h = h

first_assoc : (x y z : Option Leaf) → first_some x (first_some y z) ≡ first_some (first_some x y) z
first_assoc None y z = refl
first_assoc (Some x) y z = refl

module _ (S : List Object) where
  -- a held child for each
  abbrev AreAllHeld : List Entry → List Entry → List Side → Type 0
  AreAllHeld es fs ps = AreEntries es → AreEntries fs → ArePairs S es fs → AreHeld S es → AreHeld S fs → (ns : List Name) → AreJoined S (shared ps) ns → AreHeld S (with_names ps ns)

  held_both : (e f : Entry) (es fs : List Entry) (ps : List Side) → git_cmp entry_component entry_dir e f ≡ Equal → AreAllHeld es fs ps → AreAllHeld (e ∷ es) (f ∷ fs) (OnBoth e f ∷ ps)
  held_both e f es fs ps k more h g p u v [] j = absurd j
  held_both e f es fs ps k more h g p u v (n ∷ ns) j =
      let dirs = p.0.0 ((bytes_decides e.component f.component).1 (same_place e f h.0 g.0 k)) in
      (record { child = dir_child S e.mode n.0 dirs.0 j.0.child; name = j.0.name }, more h.2 g.2 (others S f es fs p.1) u.1 v.1 ns j.1)

  pub merged_held : (es fs : List Entry) → AreEntries es → AreEntries fs → ArePairs S es fs → AreHeld S es → AreHeld S fs → (ns : List Name) → AreJoined S (shared (merged es fs)) ns → AreHeld S (with_names (merged es fs) ns)
  merged_held es fs = by_merge AreAllHeld (λ _ _ _ _ _ _ _. tt)
      (λ e es fs ps a more h g p u v ns j. (u.0, more h.2 g p.1 u.1 v ns j))
      (λ f es fs ps a more h g p u v ns j. (v.0, more h g.2 (others S f es fs p) u v.1 ns j))
      held_both es fs

  -- at each path what stands there in one of the two
  abbrev IsJoint : List Entry → List Entry → List Side → Type 0
  IsJoint es fs ps = AreEntries es → AreEntries fs → ArePairs S es fs → (ns : List Name) → AreJoined S (shared ps) ns → (c : Bytes) (r : Path) →
      at (joined_in S (with_names ps ns)) (c ∷ r) ≡ first_some (at (joined_in S es) (c ∷ r)) (at (joined_in S fs) (c ∷ r))

  left_in_front : (b : Bool) (x y z : Option Leaf) → cond b (first_some x (first_some y z)) (first_some y z) ≡ first_some (cond b (first_some x y) y) z
  left_in_front true x y z = first_assoc x y z
  left_in_front false x y z = refl

  joint_left : (e : Entry) (es fs : List Entry) (ps : List Side) → IsAhead e fs → IsJoint es fs ps → IsJoint (e ∷ es) fs (OnLeft e ∷ ps)
  joint_left e es fs ps a more h g p ns j c r =
      let t = rests (node S e.mode e.name.0) in
      at-block c e.component t (joined_in S (with_names ps ns)) r
      ∙ (λ i. cond (same_bytes c e.component) (first_some (at t r) (more h.2 g p.1 ns j c r i)) (more h.2 g p.1 ns j c r i))
      ∙ left_in_front (same_bytes c e.component) (at t r) (at (joined_in S es) (c ∷ r)) (at (joined_in S fs) (c ∷ r))
      ∙ ap (λ o. first_some o (at (joined_in S fs) (c ∷ r))) (sym (at-block c e.component t (joined_in S es) r))

  joint_right : (f : Entry) (es fs : List Entry) (ps : List Side) → IsAhead f es → IsJoint es fs ps → IsJoint es (f ∷ fs) (OnRight f ∷ ps)
  joint_right f es fs ps a more h g p ns j c r =
      let t = rests (node S f.mode f.name.0) in
      let away : Away f.component es = away_before f es (ahead_of f es a h (column_alike S f es (column S f es fs p))) in
      at-block c f.component t (joined_in S (with_names ps ns)) r
      ∙ (λ i. cond (same_bytes c f.component) (first_some (at t r) (more h g.2 (others S f es fs p) ns j c r i)) (more h g.2 (others S f es fs p) ns j c r i))
      ∙ elim (same_bytes c f.component) as (λ b. same_bytes c f.component ≡ b → cond b (first_some (at t r) (first_some (at (joined_in S es) (c ∷ r)) (at (joined_in S fs) (c ∷ r)))) (first_some (at (joined_in S es) (c ∷ r)) (at (joined_in S fs) (c ∷ r)))
      ≡ first_some (at (joined_in S es) (c ∷ r)) (cond b (first_some (at t r) (at (joined_in S fs) (c ∷ r))) (at (joined_in S fs) (c ∷ r)))) [
        | true ↦ λ k.
            let none : at (joined_in S es) (c ∷ r) ≡ None = ap (λ x. at (joined_in S es) (x ∷ r)) ((bytes_decides c f.component).0 k) ∙ at-away S f.component r es away in
            (λ i. first_some (at t r) (first_some (none i) (at (joined_in S fs) (c ∷ r)))) ∙ ap (λ o. first_some o (first_some (at t r) (at (joined_in S fs) (c ∷ r)))) (sym none)
        | false ↦ λ k. refl
      ] refl
      ∙ ap (first_some (at (joined_in S es) (c ∷ r))) (sym (at-block c f.component t (joined_in S fs) r))

  both_in_front : (b : Bool) (n x y u v : Option Leaf) → n ≡ first_some x y → (b ≡ true → u ≡ None) → cond b (first_some n (first_some u v)) (first_some u v) ≡ first_some (cond b (first_some x u) u) (cond b (first_some y v) v)
  both_in_front true n x y u v e h = (λ i. first_some (e i) (first_some (h refl i) v)) ∙ sym (first_assoc x y v) ∙ ap (λ o. first_some o (first_some y v)) (sym (nothing_more x)) ∙ ap (λ o. first_some (first_some x o) (first_some y v)) (sym (h refl))
    where
      nothing_more : (o : Option Leaf) → first_some o None ≡ o
      nothing_more None = refl
      nothing_more (Some z) = refl
  both_in_front false n x y u v e h = refl

  joint_both : (e f : Entry) (es fs : List Entry) (ps : List Side) → git_cmp entry_component entry_dir e f ≡ Equal → IsJoint es fs ps → IsJoint (e ∷ es) (f ∷ fs) (OnBoth e f ∷ ps)
  joint_both e f es fs ps k more h g p [] j c r = absurd j
  joint_both e f es fs ps k more h g p (n ∷ ns) j c r =
      let same = same_place e f h.0 g.0 k in
      let dirs = p.0.0 ((bytes_decides e.component f.component).1 same) in
      let a = rests (node S e.mode e.name.0) in
      let b = rests (node S f.mode f.name.0) in
      let t = rests (node S e.mode n.0) in
      let fact = more h.2 g.2 (others S f es fs p.1) ns j.1 c r in
      let map : at t r ≡ first_some (at a r) (at b r) =
      ap (λ (m : Flat). at m r) (dir_rests S e.mode n.0 dirs.0 ∙ j.0.map) ∙ at-together (flat S e.name.0) (flat S f.name.0) r
      ∙ (λ i. first_some (at (sym (dir_rests S e.mode e.name.0 dirs.0) i) r) (at (sym (dir_rests S f.mode f.name.0 dirs.1) i) r)) in
      at-block c e.component t (joined_in S (with_names ps ns)) r
      ∙ (λ i. cond (same_bytes c e.component) (first_some (at t r) (fact i)) (fact i))
      ∙ both_in_front (same_bytes c e.component) (at t r) (at a r) (at b r) (at (joined_in S es) (c ∷ r)) (at (joined_in S fs) (c ∷ r)) map
      (λ m. ap (λ x. at (joined_in S es) (x ∷ r)) ((bytes_decides c e.component).0 m) ∙ at-away S e.component r es (away_before e es h.1))
      ∙ (λ i. first_some (sym (at-block c e.component a (joined_in S es) r) i) (cond (same_bytes c (same i)) (first_some (at b r) (at (joined_in S fs) (c ∷ r))) (at (joined_in S fs) (c ∷ r))))
      ∙ ap (first_some (at (joined_in S (e ∷ es)) (c ∷ r))) (sym (at-block c f.component b (joined_in S fs) r))

  pub merged_map : (es fs : List Entry) → AreEntries es → AreEntries fs → ArePairs S es fs → (ns : List Name) → AreJoined S (shared (merged es fs)) ns → (c : Bytes) (r : Path) →
      at (joined_in S (with_names (merged es fs) ns)) (c ∷ r) ≡ first_some (at (joined_in S es) (c ∷ r)) (at (joined_in S fs) (c ∷ r))
  merged_map es fs = by_merge IsJoint (λ _ _ _ _ _ _ _. refl) joint_left joint_right joint_both es fs

  -- ---- what they share

  -- a directory of one component in both, without a clash
  pub record IsCommon (es fs : List Entry) (d : Shared) : Type 0 where
    pub component : Bytes
    pub left : found_at component es ≡ Some (record { mode = Dir; name = d.left })
    pub right : found_at component fs ≡ Some (record { mode = Dir; name = d.right })
    pub left_child : has_child S Dir d.left.0 ≡ true
    pub right_child : has_child S Dir d.right.0 ≡ true
    pub clear : clash (flat S d.left.0) (flat S d.right.0) ≡ None

  module _ (all_left all_right : List Entry) where
    abbrev AreCommon : List Entry → List Entry → List Side → Type 0
    AreCommon es fs ps = AreEntries es → AreEntries fs → ArePairs S es fs → AreHeld S es → AreHeld S fs →
        Each (λ e. found_at e.component all_left ≡ Some (found e)) es → Each (λ f. found_at f.component all_right ≡ Some (found f)) fs → Each (λ d. IsCommon all_left all_right d) (shared ps)

    dir_mode : (m : Mode) → is_dir m ≡ true → m ≡ Dir
    dir_mode Rattle.git_objects.specs.declared.mode.Mode.TheVariants.File d = absurd (true≢false (sym d))
    dir_mode Rattle.git_objects.specs.declared.mode.Mode.TheVariants.Exec d = absurd (true≢false (sym d))
    dir_mode Rattle.git_objects.specs.declared.mode.Mode.TheVariants.Link d = absurd (true≢false (sym d))
    dir_mode Rattle.git_objects.specs.declared.mode.Mode.TheVariants.Module d = absurd (true≢false (sym d))
    dir_mode Dir d = refl

    common_both : (e f : Entry) (es fs : List Entry) (ps : List Side) → git_cmp entry_component entry_dir e f ≡ Equal → AreCommon es fs ps → AreCommon (e ∷ es) (f ∷ fs) (OnBoth e f ∷ ps)
    common_both e f es fs ps k more h g p u v a b =
        let same = same_place e f h.0 g.0 k in
        let r = p.0.0 ((bytes_decides e.component f.component).1 same) in
        let m = dir_mode e.mode r.0 in
        let l = dir_mode f.mode r.1 in (
          record {
            component = e.component;
            left = a.0 ∙ (λ i. Some (record { mode = m i; name = e.name }));
            right = ap (λ x. found_at x all_right) same ∙ b.0 ∙ (λ i. Some (record { mode = l i; name = f.name }));
            left_child = ap (λ x. has_child S x e.name.0) (sym m) ∙ u.0.child;
            right_child = ap (λ x. has_child S x f.name.0) (sym l) ∙ v.0.child;
            clear = r.2;
          },
          more h.2 g.2 (others S f es fs p.1) u.1 v.1 a.1 b.1,
        )

    pub merged_common : (es fs : List Entry) → AreCommon es fs (merged es fs)
    merged_common es fs = by_merge AreCommon (λ _ _ _ _ _ _ _. tt)
        (λ e es fs ps a more h g p u v k l. more h.2 g p.1 u.1 v k.1 l)
        (λ f es fs ps a more h g p u v k l. more h g.2 (others S f es fs p) u v.1 k l.1)
        common_both es fs
