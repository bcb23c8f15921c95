-- What edits and parts hand on.
use Rattle.std.proofs.Common.{◌≡◌, ℕ, ◌+◌, ◌<◌, Bool, true, false, not, ◌&&◌, cond, List, [], ◌∷◌, ◌++◌, length, take, filter, slice_get, get_or, Result, Ok, Err, IfErr, OnOk, IsErrAnd, Option, Some, None, refl, sym, ap, subst, ◌∙◌, true≢false, append-nil}
use Rattle.std.specs.Bool.{beq}
use Rattle.std.specs.Option.{is_some}
use Rattle.std.proofs.lemmas.List.{take_more}
use Rattle.std.proofs.lemmas.Option.{none-some, same_Some}
use Rattle.git_objects.specs.Paths.{Bytes, Path, is_nil, is_prefix}
use Rattle.git_objects.specs.Trees.{Leaf, Flat, IsTree, at, under, remove, standing}
use Rattle.git_objects.specs.Entries.{is_dir}
use Rattle.git_objects.proofs.Maps.{at-where}
use Rattle.git_objects.proofs.Under.{under-tree}
use Rattle.object_store.specs.Objects.{Object}
use Rattle.object_store.specs.Unfolding.{flat}
use Rattle.object_store.specs.Hands.{IsLeafOf, IsComponentOf}
use Rattle.object_store.proofs.Growth.{clash_as}
use Rattle.path_trees.specs.Standing.{node}
use Rattle.path_trees.specs.declared.found.Found.{Found}
use Rattle.stage_nodes.specs.Closing.{HasDirectory}
use Rattle.stage_tree.specs.Stages.{Staged, Shows}
use Rattle.decision_lists.specs.Fronts.{strip, proper}
use Rattle.decision_lists.specs.Entries.{Cone, at as point, below, base, cone_of, tail, Entry}
use Rattle.decision_lists.specs.Operations.{covers}
use Rattle.decision_lists.specs.Cells.{free_in}
use Rattle.decision_lists.proofs.Strip.{strip-self, strip-is, proper-some}
use Rattle.filter_apply.specs.Faults.{IsApplyFault}
use Rattle.filter_apply.specs.Hands.{IsPartObject}
use Rattle.filter_apply.specs.Holes.{IsWithout}
use Rattle.filter_apply.specs.Parts.{base_in, is_below, is_wide}
use Rattle.filter_apply.specs.declared.fault.ApplyError.{ApplyError}
use Rattle.filter_apply.specs.declared.fault.ApplyError.TheVariants.{Collision, OutOfMemory}
use Rattle.filter_apply.proofs.Cones.{in_cone, minus, filter-twice, taken_leaf, taken_tree, other_leaf, other_tree, minus_away, cone_behind, free_more}
use Rattle.filter_apply.proofs.Overs.{IsOver, AreOver, tree_over, over_own, over_from, over_under, made_as, leaf_over, part_over}
use Rattle.filter_apply.proofs.Places.{dir_node, leaf_node}

-- ---- results

pub err_told : {A E : Type 0} (P : E → Type 0) (r : Result A E) (e : E) → IsErrAnd r (λ f. f ≡ e) → P e → IfErr r P
err_told P (Ok a) e h p = tt
err_told P (Err f) e h p = subst P (sym h) p

pub fault_as : (made more : Object → Type 0) (S : List Object) (e : ApplyError) → ((o : Object) → made o → more o) → IsApplyFault made S e → IsApplyFault more S e
fault_as made more S (Collision n) h c = clash_as made more S n.0 h c
fault_as made more S OutOfMemory h c = tt

pub err_as : {A : Type 0} (made more : Object → Type 0) (S : List Object) (r : Result A ApplyError) → ((o : Object) → made o → more o) → IfErr r (IsApplyFault made S) → IfErr r (IsApplyFault more S)
err_as made more S (Ok a) h e = tt
err_as made more S (Err f) h e = fault_as made more S f h e

pub on_ok : {A E P Q : Type 0} (r : Result A E) → (P → Q) → OnOk r P → OnOk r Q
on_ok (Ok a) f h = f h
on_ok (Err e) f h = h

-- ---- a part of a tree

-- two tests in either order
filter_swap : (f g : Path → Bool) (t : Flat) → filter (λ e. g e.0) (filter (λ e. f e.0) t) ≡ filter (λ e. f e.0) (filter (λ e. g e.0) t)
filter_swap f g t = filter-twice f g t ∙ ap (λ (h : Path → Bool). filter (λ e. h e.0) t) (λ i p. swap (f p) (g p) i) ∙ sym (filter-twice g f t)
  where
    swap : (a b : Bool) → (a && b) ≡ (b && a)
    swap true true = refl
    swap true false = refl
    swap false true = refl
    swap false false = refl

remove_part : (kept : Path → Bool) (t : Flat) (v : Path) → remove (filter (λ e. kept e.0) t) v ≡ filter (λ e. kept e.0) (remove t v)
unfolding remove
remove_part kept t v = filter_swap kept (λ p. not (is_prefix v p)) t

module _ (S : List Object) (t : Flat) (taken : Path → Bool) (before : Staged) where
  -- of a tree that is the whole one without some paths, the part is one without them
  without_part : (kept : Path → Bool) (u : Flat) → u ≡ filter (λ e. not (taken e.0)) t → filter (λ e. kept e.0) u ≡ filter (λ e. not (taken e.0)) (filter (λ e. kept e.0) t)
  without_part kept u e = ap (filter (λ e. kept e.0)) e ∙ filter_swap (λ p. not (taken p)) kept t

  -- the whole tree has none of the paths
  pub none_taken : t ≡ filter (λ e. not (taken e.0)) t → IsWithout S t taken before before
  none_taken e = λ kept shows. subst (Shows S before) (without_part kept t e) shows

  -- they are a path and all below it, which were removed
  pub all_taken : (after : Staged) (v w : Path) → w ≡ v → remove t v ≡ filter (λ e. not (taken e.0)) t → ((u : Flat) → Shows S before u → Shows S after (remove u w)) → IsWithout S t taken before after
  all_taken after v w same e h = λ kept shows.
      subst (Shows S after) (ap (remove (filter (λ e. kept e.0) t)) same ∙ remove_part kept t v ∙ without_part kept (remove t v) e) (h (filter (λ e. kept e.0) t) shows)

-- ---- what stands at a place, by its kind

module _ (S : List Object) (t : Flat) (v : Path) (f : Found) (h : IsTree t) (e : Some (node S f) ≡ standing t v) where
  pub taken_out : (b point : Bool) → b ≡ is_dir f.mode → not (beq b point) ≡ true → remove t v ≡ minus (cone_of point v) t
  taken_out true true d k = absurd (true≢false (sym k))
  taken_out true false d k = taken_tree t h v (flat S f.name.0) (sym e ∙ ap Some (dir_node S f.mode f.name.0 (sym d)))
  taken_out false true d k = let x = leaf_node S f.mode f.name.0 (sym d) in taken_leaf t h v x.0 (sym e ∙ ap Some x.1)
  taken_out false false d k = absurd (true≢false (sym k))

  pub left_in : (b point : Bool) → b ≡ is_dir f.mode → not (beq b point) ≡ false → t ≡ minus (cone_of point v) t
  left_in true true d k = other_tree t h v (flat S f.name.0) (sym e ∙ ap Some (dir_node S f.mode f.name.0 (sym d)))
  left_in true false d k = absurd (true≢false k)
  left_in false true d k = absurd (true≢false k)
  left_in false false d k = let x = leaf_node S f.mode f.name.0 (sym d) in other_leaf t h v x.0 (sym e ∙ ap Some x.1)

-- ---- a hole

base-of : (b : Bool) (s : Path) → base (cone_of b s) ≡ s
base-of true s = refl
base-of false s = refl

-- a hole whose base doesn't stand properly below the entry's, and that doesn't have all of its cone
apart_of : (s u : Path) (b : Bool) → covers (cone_of b u) (below s) ≡ false → None ≡ proper (strip s u) → covers (below s) (cone_of b u) ≡ false
apart_of s u true a n = ap is_some (sym n)
apart_of s u false a n = by (strip s u) refl n
  where
    by : (o : Option Path) → strip s u ≡ o → None ≡ proper o → is_some (strip s u) ≡ false
    by None e k = ap is_some e
    by (Some []) e k =
        let same : u ≡ s = strip-is s u [] e ∙ append-nil s in
        absurd (true≢false (sym (ap is_some (ap (λ w. strip u w) (sym same ∙ sym (append-nil u)) ∙ strip-self u [])) ∙ a))
    by (Some (c ∷ r)) e k = cc

module _ (t : Flat) (e d : Entry) (b : Bool) (u : Path) (h : IsTree t) (wide : e.0 ≡ below (base e.0)) (apart : covers d.0 e.0 ≡ false) (same : cone_of b u ≡ d.0) where
  pub hole_away : None ≡ tail e.0 u → t ≡ filter (λ x. not (in_cone d.0 (base e.0 ++ x.0))) t
  hole_away n =
      let apart2 : covers (cone_of b u) (below (base e.0)) ≡ false = (λ i. covers (same i) (sym wide i)) ∙ apart in
      minus_away t (base e.0) (cone_of b u) h (apart_of (base e.0) u b apart2 (n ∙ ap (λ (c : Cone). tail c u) wide)) apart2
      ∙ ap (λ (c : Cone). filter (λ x. not (in_cone c (base e.0 ++ x.0))) t) same

  -- what a hole takes, seen from the entry's base
  pub hole_within : (v : Path) → Some v ≡ tail e.0 u → (p : Path) → in_cone (cone_of b v) p ≡ in_cone d.0 (base e.0 ++ p)
  hole_within v n p =
      let path : u ≡ base e.0 ++ v = strip-is (base e.0) u v (proper-some (strip (base e.0) u) v (sym (n ∙ ap (λ (c : Cone). tail c u) wide))) in
      cone_behind b (base e.0) v p
      ∙ ap (λ (w : Path). in_cone (cone_of b w) (base e.0 ++ p)) (sym path)
      ∙ ap (λ (c : Cone). in_cone c (base e.0 ++ p)) same

-- what stands properly behind a front is not empty
pub rest_full : (c : Cone) (u v : Path) → Some v ≡ tail c u → c ≡ below (base c) → is_nil v ≡ false
rest_full c u v n wide = by (strip (base c) u) v (n ∙ ap (λ (d : Cone). tail d u) wide)
  where
    by : (o : Option Path) (w : Path) → Some w ≡ proper o → is_nil w ≡ false
    by None w k = absurd (none-some w (sym k))
    by (Some []) w k = absurd (none-some w (sym k))
    by (Some (x ∷ r)) w k = ap is_nil (same_Some w (x ∷ r) k)

-- ---- all holes before an entry

pub wide_is : (o : Option Entry) (e : Entry) → o ≡ Some e → is_below o ≡ true → e.0 ≡ below (base e.0)
wide_is o e k w = by e.0 (ap is_below (sym k) ∙ w)
  where
    by : (c : Cone) → is_wide c ≡ true → c ≡ below (base c)
    by (point s) w = absurd (true≢false (sym w))
    by (below s) w = refl

pub at-filter : (f : Path → Bool) (t : Flat) (p : Path) → at (filter (λ e. f e.0) t) p ≡ cond (f p) (at t p) None
at-filter f t p = at-where f t p

pub over_filter : (L : Leaf → Type 0) (C : Bytes → Type 0) (f : Path → Bool) (t : Flat) → IsOver L C t → IsOver L C (filter (λ e. f e.0) t)
over_filter L C f t = over_from L C t (filter (λ e. f e.0) t) (λ p x e. ([], by (f p) (at t p) x (sym (at-filter f t p) ∙ e)))
  where
    by : (b : Bool) (o : Option Leaf) (x : Leaf) → cond b o None ≡ Some x → o ≡ Some x
    by true o x e = e
    by false o x e = cc

-- what is made of a part of a tree is made of the tree
pub part_handed : (t u : Flat) → IsTree u → IsOver (IsLeafOf t) (IsComponentOf t) u → (o : Object) → IsPartObject u o → IsPartObject t o
part_handed t u h over = made_as (IsLeafOf u) (IsLeafOf t) (IsComponentOf u) (IsComponentOf t) (leaf_over (IsLeafOf t) (IsComponentOf t) u h.sorted over) (part_over (IsLeafOf t) (IsComponentOf t) u h.sorted over)

pub none_free : (t : Flat) (s : Path) → t ≡ filter (λ e. free_in [] (s ++ e.0)) t
none_free [] s = refl
none_free (e ∷ t) s = ap (λ (us : Flat). e ∷ us) (none_free t s)

pub one_more : (t : Flat) (es : List Entry) (i : ℕ) (d : Entry) (s : Path) → i < length es → d ≡ get_or es i d →
    filter (λ x. not (in_cone d.0 (s ++ x.0))) (filter (λ x. free_in (take i es) (s ++ x.0)) t) ≡ filter (λ x. free_in (take (i + 1) es) (s ++ x.0)) t
one_more t es i d s l e =
    filter-twice (λ p. free_in (take i es) (s ++ p)) (λ p. not (in_cone d.0 (s ++ p))) t
    ∙ ap (λ (f : Path → Bool). filter (λ x. f x.0) t) (λ j p. sym (free_more es i d (s ++ p) (take_more es i d l ∙ ap (λ (x : Entry). take i es ++ x ∷ []) (sym e))) j)

-- what is left by the first entries of what stands below an entry's base
abbrev pub left_by : List Entry → ℕ → ℕ → Flat → Flat
left_by es route i t = filter (λ e. free_in (take i es) (base_in (slice_get es route) ++ e.0)) t

pub next_hole : (S : List Object) (es : List Entry) (route : ℕ) (t : Flat) (i : ℕ) (d e : Entry) (before after : Staged) → i < length es → d ≡ get_or es i d → slice_get es route ≡ Some e →
    IsWithout S t (λ p. in_cone d.0 (base e.0 ++ p)) before after → Shows S before (left_by es route i t) → Shows S after (left_by es route (i + 1) t)
next_hole S es route t i d e before after l k r h shows =
    subst (Shows S after)
    (ap (λ (o : Option Entry). filter (λ x. not (in_cone d.0 (base e.0 ++ x.0))) (filter (λ x. free_in (take i es) (base_in o ++ x.0)) t)) r
    ∙ one_more t es i d (base e.0) l k
    ∙ ap (λ (o : Option Entry). filter (λ x. free_in (take (i + 1) es) (base_in o ++ x.0)) t) (sym r))
    (h (λ p. free_in (take i es) (base_in (slice_get es route) ++ p)) shows)

-- the directories of a part are made of the tree
pub directory_over : (t u : Flat) → IsTree u → IsOver (IsLeafOf t) (IsComponentOf t) u → AreOver (IsLeafOf t) (IsComponentOf t) (HasDirectory u)
directory_over t u h o b m = (
  under u m.path,
  tree_over (IsLeafOf t) (IsComponentOf t) (under u m.path) (under-tree u m.path h) (over_under (IsLeafOf t) (IsComponentOf t) u m.path o),
  m.body,
)

pub left_over : (es : List Entry) (route i : ℕ) (t : Flat) → IsOver (IsLeafOf t) (IsComponentOf t) (left_by es route i t)
left_over es route i t = over_filter (IsLeafOf t) (IsComponentOf t) (λ p. free_in (take i es) (base_in (slice_get es route) ++ p)) t (over_own t)
