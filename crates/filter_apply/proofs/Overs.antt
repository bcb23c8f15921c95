-- Trees over leaves and components, told point by point.
use Rattle.std.proofs.Common.{◌≡◌, Bool, true, false, cond, ◌⊎◌, inl, inr, T, List, [], ◌∷◌, ◌++◌, Contains, Option, Some, None, refl, sym, ap, subst, ◌∙◌}
use Rattle.std.specs.FinMap.{is_sorted}
use Rattle.std.proofs.lemmas.Option.{none-some}
use Rattle.git_objects.specs.Lists.{Each}
use Rattle.git_objects.specs.Paths.{Bytes, Path, path_cmp}
use Rattle.git_objects.specs.Trees.{Leaf, Flat, IsTree, at, under}
use Rattle.git_objects.specs.Names.{body, name}
use Rattle.git_objects.specs.declared.kind.Kind.TheVariants.{Tree}
use Rattle.git_objects.proofs.Maps.{first_some}
use Rattle.git_objects.proofs.Under.{at-under, at-under_nil}
use Rattle.object_store.specs.Objects.{Object, find_named}
use Rattle.object_store.specs.Hands.{IsTreeOver, IsTreeMade, IsLeafOf, IsComponentOf}
use Rattle.object_store.specs.Growth.{IsGrownBy, IsClash}
use Rattle.object_store.specs.Puts.{Collides, collision, same_object}
use Rattle.filter_routes.proofs.TreeEntries.{each_entry}
use Rattle.path_trees.specs.Made.{AreMade, IsGrown, IsCollision, IsTreeFault}
use Rattle.path_trees.specs.Clashes.{together}
use Rattle.path_trees.specs.declared.found.TreeFault.{TreeFault}
use Rattle.path_trees.specs.declared.found.TreeFault.TheVariants.{Collision as TreeCollision, OutOfMemory as TreeOutOfMemory}
use Rattle.path_trees.proofs.Clashing.{at-together}
use Rattle.filter_apply.specs.Faults.{IsApplyFault, fault_of}
use Rattle.filter_apply.proofs.Members.{none_in, here_or_later, each-in, in-each, each-as, each-right, in-map, of-map, in-flat_map, of-flat_map, in-flat, of-flat}

-- each leaf of the map is such a leaf, and each component of its path such a component
pub record IsOver (L : Leaf → Type 0) (C : Bytes → Type 0) (t : Flat) : Type 0 where
  pub leaves : (p : Path) (x : Leaf) → at t p ≡ Some x → L x
  pub parts : (p : Path) (x : Leaf) → at t p ≡ Some x → Each C p

pub tree_over : (L : Leaf → Type 0) (C : Bytes → Type 0) (t : Flat) → IsTree t → IsOver L C t → IsTreeOver L C t
tree_over L C t h o = record {
  tree = h;
  all_leaves = each_entry (λ e. L e.1) t h.sorted (λ d e. o.leaves d.0 d.1 e);
  all_components = each_entry (λ e. Each C e.0) t h.sorted (λ d e. o.parts d.0 d.1 e);
}

-- a tree is over its own leaves and components
pub over_own : (t : Flat) → IsOver (IsLeafOf t) (IsComponentOf t) t
over_own t = record {
  leaves = λ p x e. in-map (λ (d : Path × Leaf). d.1) t (p, x) (in-flat t p x e);
  parts = λ p x e. in-each (IsComponentOf t) p (λ c i. in-flat_map (λ (d : Path × Leaf). d.0) t (p, x) c (in-flat t p x e) i);
}

pub over_as : (L M : Leaf → Type 0) (C D : Bytes → Type 0) (t : Flat) → ((x : Leaf) → L x → M x) → ((c : Bytes) → C c → D c) → IsOver L C t → IsOver M D t
over_as L M C D t f g o = record {
  leaves = λ p x e. f x (o.leaves p x e);
  parts = λ p x e. each-as C D p g (o.parts p x e);
}

-- a map with what others have at paths of which these are ends
pub over_from : (L : Leaf → Type 0) (C : Bytes → Type 0) (t u : Flat) → ((p : Path) (x : Leaf) → at u p ≡ Some x → (a : Path) × (at t (a ++ p) ≡ Some x)) → IsOver L C t → IsOver L C u
over_from L C t u h o = record {
  leaves = λ p x e. let w = h p x e in o.leaves (w.0 ++ p) x w.1;
  parts = λ p x e. let w = h p x e in each-right C w.0 p (o.parts (w.0 ++ p) x w.1);
}

pub over_under : (L : Leaf → Type 0) (C : Bytes → Type 0) (t : Flat) (a : Path) → IsOver L C t → IsOver L C (under t a)
over_under L C t a = over_from L C t (under t a) by
  where
    by : (p : Path) (x : Leaf) → at (under t a) p ≡ Some x → (b : Path) × (at t (b ++ p) ≡ Some x)
    by [] x e = absurd (none-some x (sym (at-under_nil t a) ∙ e))
    by (d ∷ r) x e = (a, sym (at-under t a d r) ∙ e)

pub over_both : (L : Leaf → Type 0) (C : Bytes → Type 0) (a b : Flat) → IsOver L C a → IsOver L C b → IsOver L C (together a b)
over_both L C a b o q = record {
  leaves = λ p x e. elim (either (at a p) (at b p) x (sym (at-together a b p) ∙ e)) [ inl l ↦ o.leaves p x l | inr r ↦ q.leaves p x r ];
  parts = λ p x e. elim (either (at a p) (at b p) x (sym (at-together a b p) ∙ e)) [ inl l ↦ o.parts p x l | inr r ↦ q.parts p x r ];
}
  where
    either : (o q : Option Leaf) (x : Leaf) → first_some o q ≡ Some x → (o ≡ Some x) ⊎ (q ≡ Some x)
    either None q x e = inr e
    either (Some y) q x e = inl e

-- ---- what grew is made of these

-- each such body is that of a tree over these
abbrev pub AreOver : (L : Leaf → Type 0) (C : Bytes → Type 0) (made : Bytes → Type 0) → Type 0
AreOver L C made = (b : Bytes) → made b → (t : Flat) × IsTreeOver L C t × (body t ≡ b)

made_object : (L : Leaf → Type 0) (C : Bytes → Type 0) (made : Bytes → Type 0) → AreOver L C made → (o : Object) → (o.kind ≡ Tree) → made o.body → IsTreeMade L C o
made_object L C made h o k m = let w = h o.body m in (w.0, w.1, λ i. record { kind = k i; body = sym w.2 i })

pub grown_over : (L : Leaf → Type 0) (C : Bytes → Type 0) (made : Bytes → Type 0) (S S' : List Object) → AreOver L C made → IsGrown made S S' → IsGrownBy (IsTreeMade L C) S S'
grown_over L C made S S' h g = record { store = g.store; newer = g.newer; above = g.above; all = all_made g.newer g.trees }
  where
    all_made : (os : List Object) → AreMade made os → (o : Object) → Contains os o → IsTreeMade L C o
    all_made [] a o c = absurd (none_in o c)
    all_made (q ∷ os) a o c = elim (here_or_later q os o c) [
      | inl same ↦ subst (IsTreeMade L C) same (made_object L C made h q a.0 a.1)
      | inr later ↦ all_made os a.2 o later
    ]

clash_named : (b n : Bytes) (o : Option Object) → collision Tree b o ≡ Some (Collides n) → name Tree b ≡ n
clash_named b n None e = cc
clash_named b n (Some o) e = by (same_object Tree b o) e
  where
    by : (v : Bool) → cond v None (Some (Collides (name Tree b))) ≡ Some (Collides n) → name Tree b ≡ n
    by true k = cc
    by false k = cc

pub clash_over : (L : Leaf → Type 0) (C : Bytes → Type 0) (made : Bytes → Type 0) (S : List Object) (n : Bytes) → AreOver L C made → IsCollision made S n → IsClash (IsTreeMade L C) S n
clash_over L C made S n h c = record {
  object = record { kind = Tree; body = c.body };
  is_made = made_object L C made h (record { kind = Tree; body = c.body }) refl c.is_made;
  held = ap (λ m. collision Tree c.body (find_named S m)) (sym (clash_named c.body n (find_named S (name Tree c.body)) c.held)) ∙ c.held;
}

pub fault_over : (L : Leaf → Type 0) (C : Bytes → Type 0) (made : Bytes → Type 0) (S : List Object) (e : TreeFault) → AreOver L C made → IsTreeFault made S e → IsApplyFault (IsTreeMade L C) S (fault_of e)
fault_over L C made S (TreeCollision n) h c = clash_over L C made S n.0 h c
fault_over L C made S TreeOutOfMemory h c = tt

-- ---- a part of a tree makes trees of the tree

pub made_as : (L M : Leaf → Type 0) (C D : Bytes → Type 0) → ((x : Leaf) → L x → M x) → ((c : Bytes) → C c → D c) → (o : Object) → IsTreeMade L C o → IsTreeMade M D o
made_as L M C D f g o (t, over, e) = (
  t,
  record {
    tree = over.tree;
    all_leaves = each-as (λ d. L d.1) (λ d. M d.1) t (λ d. f d.1) over.all_leaves;
    all_components = each-as (λ d. Each C d.0) (λ d. Each D d.0) t (λ d. each-as C D d.0 g) over.all_components;
  },
  e,
)

-- leaves and components of a map over these
pub leaf_over : (L : Leaf → Type 0) (C : Bytes → Type 0) (u : Flat) → T (is_sorted path_cmp u) → IsOver L C u → (x : Leaf) → IsLeafOf u x → L x
leaf_over L C u s o x h = let w = of-map (λ (d : Path × Leaf). d.1) u x h in subst L w.2 (o.leaves w.0.0 w.0.1 (of-flat u s w.0 w.1))

pub part_over : (L : Leaf → Type 0) (C : Bytes → Type 0) (u : Flat) → T (is_sorted path_cmp u) → IsOver L C u → (c : Bytes) → IsComponentOf u c → C c
part_over L C u s o c h = let w = of-flat_map (λ (d : Path × Leaf). d.0) u c h in each-in C w.0.0 c (o.parts w.0.0 w.0.1 (of-flat u s w.0 w.1)) w.2
