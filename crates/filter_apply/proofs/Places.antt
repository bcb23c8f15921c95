-- What stands at a place, found on the way down to it.
use Rattle.std.proofs.Common.{◌≡◌, ℕ, zero, suc, cond, ◌<◌, ◌≤◌, ◌+◌, Bool, true, false, not, ◌&&◌, List, [], ◌∷◌, length, drop, get_or, Option, Some, None, refl, sym, ap, subst, ◌∙◌, arith, true≢false, add-one}
use Rattle.std.specs.Option.{option_map, option_or}
use Rattle.std.specs.Cmp.{first_so, second_so}
use Rattle.std.proofs.lemmas.Bool.{not-true}
use Rattle.std.proofs.lemmas.Option.{none-some, same_Some}
use Rattle.std.proofs.Math.Seq.{drop-cons}
use Rattle.git_objects.specs.Paths.{Bytes, Path, is_nil}
use Rattle.git_objects.specs.Trees.{Leaf, Flat, IsTree, Node, LeafNode, TreeNode, at, under, standing, if_full}
use Rattle.git_objects.specs.Entries.{is_dir}
use Rattle.git_objects.specs.Bodies.{tree_entries}
use Rattle.git_objects.specs.declared.kind.Kind.TheVariants.{Blob, Tree}
use Rattle.git_objects.specs.declared.mode.Mode.{Mode}
use Rattle.git_objects.specs.declared.mode.Mode.TheVariants.{File, Exec, Link, Module, Dir}
use Rattle.git_objects.specs.declared.name.Name.{Name}
use Rattle.git_objects.proofs.Under.{at-under_nil, under-tree}
use Rattle.object_store.specs.Objects.{Object, IsStore, has, has_child, body_of}
use Rattle.object_store.specs.Sizes.{sizes, stats_of}
use Rattle.object_store.specs.Unfolding.{flat, node_of}
use Rattle.object_store.specs.declared.store.TreeStats.{TreeStats}
use Rattle.object_store.proofs.Unfolding.{IsFull, flat_good}
use Rattle.path_trees.specs.Standing.{node}
use Rattle.path_trees.specs.declared.found.Found.{Found}
use Rattle.path_trees.proofs.Grown.{joined_in}
use Rattle.path_trees.proofs.Lookups.{under_nil, leaf_under, nothing_at, standing_down}
use Rattle.path_trees.proofs.Trees.{stored_tree}

abbrev pub mode_node : List Object → Mode → Bytes → Node
mode_node S m n = node_of (body_of Blob S) (flat S) m n

pub dir_node : (S : List Object) (m : Mode) (n : Bytes) → is_dir m ≡ true → mode_node S m n ≡ TreeNode (flat S n)
dir_node S File n e = absurd (true≢false (sym e))
dir_node S Exec n e = absurd (true≢false (sym e))
dir_node S Link n e = absurd (true≢false (sym e))
dir_node S Module n e = absurd (true≢false (sym e))
dir_node S Dir n e = refl

pub leaf_node : (S : List Object) (m : Mode) (n : Bytes) → is_dir m ≡ false → (x : Leaf) × (mode_node S m n ≡ LeafNode x)
leaf_node S File n e = (_, refl)
leaf_node S Exec n e = (_, refl)
leaf_node S Link n e = (_, refl)
leaf_node S Module n e = (_, refl)
leaf_node S Dir n e = absurd (true≢false e)

pub dir_held : (S : List Object) (m : Mode) (n : Bytes) → is_dir m ≡ true → has_child S m n ≡ true → has Tree S n ≡ true
dir_held S File n e h = absurd (true≢false (sym e))
dir_held S Exec n e h = absurd (true≢false (sym e))
dir_held S Link n e h = absurd (true≢false (sym e))
dir_held S Module n e h = absurd (true≢false (sym e))
dir_held S Dir n e h = first_so (has Tree S n) (not (is_nil (body_of Tree S n))) h

-- a directory that is held is not empty
pub dir_full : (S : List Object) (n : Bytes) → IsStore S → has_child S Dir n ≡ true → IsFull (flat S n)
dir_full S n s h =
    let held = first_so (has Tree S n) (not (is_nil (body_of Tree S n))) h in
    (flat_good S s n held).full (not-true (is_nil (body_of Tree S n)) (second_so (has Tree S n) (not (is_nil (body_of Tree S n))) h))

-- ---- a whole tree

pub standing-root : (t : Flat) → IsTree t → standing t [] ≡ if_full t
standing-root t h = (λ i. option_or (option_map LeafNode (nowhere i)) (if_full (under_nil t h i)))
  where
    nowhere : at t [] ≡ None
    nowhere = ap (λ u. at u []) (sym (under_nil t h)) ∙ at-under_nil t []

pub full_if : (t : Flat) → IsFull t → if_full t ≡ Some (TreeNode t)
full_if [] f = absurd f
full_if (e ∷ t) f = refl

if_full-node : (t : Flat) (n : Node) → if_full t ≡ Some n → n ≡ TreeNode t
if_full-node [] n e = absurd (none-some n e)
if_full-node (d ∷ t) n e = sym (same_Some (TreeNode (d ∷ t)) n e)

empty-body : (S : List Object) (n : Bytes) → IsStore S → has Tree S n ≡ true → is_nil (body_of Tree S n) ≡ true → flat S n ≡ []
unfolding tree_entries
empty-body S n s h e =
    let t = stored_tree S s n h in
    t.1.map ∙ ap (joined_in S) (none_listed (body_of Tree S n) e t.0 t.1.read)
  where
    none_listed : (b : Bytes) → is_nil b ≡ true → (es : List _) → tree_entries b ≡ Some es → es ≡ []
    none_listed [] e es r = sym (same_Some [] es r)
    none_listed (x ∷ b) e es r = absurd (true≢false (sym e))

pub full-child : (S : List Object) (n : Bytes) → IsStore S → has Tree S n ≡ true → IsFull (flat S n) → has_child S Dir n ≡ true
full-child S n s h f = by (is_nil (body_of Tree S n)) refl
  where
    by : (b : Bool) → is_nil (body_of Tree S n) ≡ b → (has Tree S n && not (is_nil (body_of Tree S n))) ≡ true
    by true e = absurd (subst IsFull (empty-body S n s h e) f)
    by false e = (λ i. h i && not (e i))

stats-are : (S : List Object) (n : Bytes) (v : TreeStats) → has Tree S n ≡ true → Some v ≡ stats_of S n → v ≡ sizes (flat S n)
stats-are S n v h e = same_Some v (sizes (flat S n)) (e ∙ ap (λ b. cond b (Some (sizes (flat S n))) None) h)

pub some-files : (S : List Object) (n : Bytes) (v : TreeStats) → IsStore S → has Tree S n ≡ true → Some v ≡ stats_of S n → 0 < v.files → (Some (TreeNode (flat S n)) ≡ standing (flat S n) []) × (has_child S Dir n ≡ true)
some-files S n v s h e l =
    let full = by (flat S n) (subst (λ (w : TreeStats). 0 < w.files) (stats-are S n v h e) l) in
    (sym (standing-root (flat S n) (flat_good S s n h).tree ∙ full_if (flat S n) full), full-child S n s h full)
  where
    by : (t : Flat) → 0 < (sizes t).files → IsFull t
    by [] l = absurd (omega arith)
    by (d ∷ t) l = tt

pub no-files : (S : List Object) (n : Bytes) (v : TreeStats) → IsStore S → has Tree S n ≡ true → Some v ≡ stats_of S n → v.files ≤ 0 → None ≡ standing (flat S n) []
no-files S n v s h e l = sym (standing-root (flat S n) (flat_good S s n h).tree ∙ by (flat S n) (subst (λ (w : TreeStats). w.files ≤ 0) (stats-are S n v h e) l))
  where
    by : (t : Flat) → (sizes t).files ≤ 0 → if_full t ≡ None
    by [] l = refl
    by (d ∷ t) l = absurd (omega arith)

-- ---- on the way down

-- what stands at a path, seen from what stands on the way to it
abbrev pub standing_in : Node → Path → Option Node
standing_in (TreeNode t) p = standing t p
standing_in (LeafNode x) [] = Some (LeafNode x)
standing_in (LeafNode x) (c ∷ p) = None

pub from_root : (t : Flat) (n : Node) (p : Path) → IsTree t → Some n ≡ standing t [] → standing_in n p ≡ standing t p
from_root t n p h e = ap (λ m. standing_in m p) (if_full-node t n (sym (standing-root t h) ∙ sym e))

pub from_nothing : (t : Flat) (p : Path) → IsTree t → None ≡ standing t [] → None ≡ standing t p
from_nothing t p h e = by t (sym (standing-root t h) ∙ sym e)
  where
    by : (u : Flat) → if_full u ≡ None → None ≡ standing u p
    by [] e = refl
    by (d ∷ u) e = cc

-- one level
pub step_some : (u : Flat) (c : Bytes) (m : Node) (rest : Path) → IsTree u → Some m ≡ standing u (c ∷ []) → standing_in m rest ≡ standing u (c ∷ rest)
step_some u c m rest h e = by (at u (c ∷ [])) refl rest
  where
    node_is : (o : Option Leaf) → at u (c ∷ []) ≡ o → option_or (option_map LeafNode o) (if_full (under u (c ∷ []))) ≡ Some m
    node_is o k = ap (λ o. option_or (option_map LeafNode o) (if_full (under u (c ∷ [])))) (sym k) ∙ sym e

    by : (o : Option Leaf) → at u (c ∷ []) ≡ o → (rest : Path) → standing_in m rest ≡ standing u (c ∷ rest)
    by (Some x) k [] = ap (λ n. standing_in n []) (sym (same_Some (LeafNode x) m (node_is (Some x) k))) ∙ node_is (Some x) k ∙ e
    by (Some x) k (d ∷ r) =
        ap (λ n. standing_in n (d ∷ r)) (sym (same_Some (LeafNode x) m (node_is (Some x) k)))
        ∙ ap (λ v. standing v (d ∷ r)) (sym (leaf_under u (c ∷ []) x h k))
        ∙ sym (standing_down u c (d ∷ r) refl)
    by None k [] =
        ap (λ n. standing_in n []) (if_full-node (under u (c ∷ [])) m (node_is None k))
        ∙ standing-root (under u (c ∷ [])) (under-tree u (c ∷ []) h)
        ∙ node_is None k ∙ e
    by None k (d ∷ r) = ap (λ n. standing_in n (d ∷ r)) (if_full-node (under u (c ∷ [])) m (node_is None k)) ∙ sym (standing_down u c (d ∷ r) refl)

pub step_none : (u : Flat) (c : Bytes) (rest : Path) → None ≡ standing u (c ∷ []) → None ≡ standing u (c ∷ rest)
step_none u c [] e = e
step_none u c (d ∷ r) e = ap (λ v. standing v (d ∷ r)) (sym (nothing_at (at u (c ∷ [])) (under u (c ∷ [])) (sym e)).1) ∙ sym (standing_down u c (d ∷ r) refl)

-- what a step of the loop keeps
pub record IsWayTo (S : List Object) (t : Flat) (p : Path) (i : ℕ) (f : Found) : Type 0 where
  pub held : has_child S f.mode f.name.0 ≡ true
  pub stands : standing_in (node S f) (drop i p) ≡ standing t p

dropped_at : (p : Path) (i : ℕ) (c : Bytes) → i < length p → c ≡ get_or p i c → drop i p ≡ c ∷ drop (i + 1) p
dropped_at p i c h e = drop-cons p i c h ∙ (λ j. sym e j ∷ drop (sym (add-one i) j) p)

module _ (S : List Object) (s : IsStore S) (t : Flat) (p : Path) (i : ℕ) (f : Found) (way : IsWayTo S t p i f) (c : Bytes) (l : i < length p) (e : c ≡ get_or p i c) where
  here : standing_in (node S f) (c ∷ drop (i + 1) p) ≡ standing t p
  here = ap (standing_in (node S f)) (sym (dropped_at p i c l e)) ∙ way.stands

  pub no_way : is_dir f.mode ≡ false → None ≡ standing t p
  no_way d = let x = leaf_node S f.mode f.name.0 d in ap (λ n. standing_in n (c ∷ drop (i + 1) p)) (sym x.1) ∙ here

  in_dir : is_dir f.mode ≡ true → standing (flat S f.name.0) (c ∷ drop (i + 1) p) ≡ standing t p
  in_dir d = ap (λ n. standing_in n (c ∷ drop (i + 1) p)) (sym (dir_node S f.mode f.name.0 d)) ∙ here

  pub way_on : (g : Found) → is_dir f.mode ≡ true → has_child S g.mode g.name.0 ≡ true → Some (node S g) ≡ standing (flat S f.name.0) (c ∷ []) → IsWayTo S t p (i + 1) g
  way_on g d h k = record {
    held = h;
    stands = step_some (flat S f.name.0) c (node S g) (drop (i + 1) p) (flat_good S s f.name.0 (dir_held S f.mode f.name.0 d way.held)).tree k ∙ in_dir d;
  }

  pub way_off : is_dir f.mode ≡ true → None ≡ standing (flat S f.name.0) (c ∷ []) → None ≡ standing t p
  way_off d k = step_none (flat S f.name.0) c (drop (i + 1) p) k ∙ in_dir d

-- the end of the way
pub arrived : (S : List Object) (t : Flat) (p : Path) (i : ℕ) (f : Found) → IsStore S → IsWayTo S t p i f → length p ≤ i → Some (node S f) ≡ standing t p
arrived S t p i f s way l =
    sym (by f.mode f.name way.held) ∙ ap (standing_in (node S f)) (sym (drop-all p i l)) ∙ way.stands
  where
    drop-all : (q : Path) (k : ℕ) → length q ≤ k → drop k q ≡ []
    drop-all [] zero h = refl
    drop-all [] (suc k) h = refl
    drop-all (c ∷ q) zero h = absurd (omega arith)
    drop-all (c ∷ q) (suc k) h = drop-all q k (omega arith)

    by : (m : Mode) (n : Name) → has_child S m n.0 ≡ true → standing_in (mode_node S m n.0) [] ≡ Some (mode_node S m n.0)
    by File n h = refl
    by Exec n h = refl
    by Link n h = refl
    by Module n h = refl
    by Dir n h = standing-root (flat S n.0) (flat_good S s n.0 (dir_held S Dir n.0 refl h)).tree ∙ full_if (flat S n.0) (dir_full S n.0 s h)
