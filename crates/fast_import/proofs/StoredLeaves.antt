-- The leaves of a stored tree: the store has each blob, under its name.
use Rattle.std.proofs.Common.{◌≡◌, true, false, cond, ◌||◌, List, [], ◌∷◌, ◌++◌, refl, sym, ap, ◌∙◌, true≢false}
use Rattle.std.specs.Cmp.{first_so}
use Rattle.git_objects.specs.Lists.{Each}
use Rattle.git_objects.specs.Paths.{Bytes}
use Rattle.git_objects.specs.Trees.{Leaf, FileLeaf, ExecLeaf, LinkLeaf, ModuleLeaf, Flat, rests}
use Rattle.git_objects.specs.Names.{name, leaf_mode, leaf_name}
use Rattle.git_objects.specs.declared.entry.Entry.{Entry}
use Rattle.git_objects.specs.declared.kind.Kind.TheVariants.{Blob, Tree}
use Rattle.git_objects.specs.declared.mode.Mode.{Mode}
use Rattle.git_objects.specs.declared.mode.Mode.TheVariants.{File, Exec, Link, Module, Dir}
use Rattle.git_objects.proofs.SharedFronts.{listed}
use Rattle.object_store.specs.Objects.{Object, IsStore, body_of, has, has_child, is_named, HasChildren}
use Rattle.object_store.specs.Unfolding.{flat, below, joined, node_of}
use Rattle.object_store.proofs.Held.{body_named}
use Rattle.object_store.proofs.Children.{older-has, object-children}
use Rattle.path_trees.specs.Walked.{leaf_of}

-- a blob's leaf is that of a blob of the store, under this blob's name
abbrev pub IsStoredLeaf : List Object → Leaf → Type 0
IsStoredLeaf S x = (has_child S (leaf_mode x) (leaf_name x) ≡ true) × (leaf_of (body_of Blob S) (leaf_mode x) (leaf_name x) ≡ x)

abbrev pub AreStoredLeaves : List Object → Flat → Type 0
AreStoredLeaves S t = Each (λ e. IsStoredLeaf S e.1) t

-- ---- lists of leaves

leaves_append : (S : List Object) (t u : Flat) → AreStoredLeaves S t → AreStoredLeaves S u → AreStoredLeaves S (t ++ u)
leaves_append S [] u h g = g
leaves_append S (e ∷ t) u h g = (h.0, leaves_append S t u h.1 g)

leaves_below : (S : List Object) (c : Bytes) (t : Flat) → AreStoredLeaves S t → AreStoredLeaves S (below c t)
leaves_below S c [] h = tt
leaves_below S c (e ∷ t) h = (h.0, leaves_below S c t h.1)

-- ---- one entry

named_leaf : (S : List Object) (make : Bytes → Leaf) (n k : Bytes) → k ≡ n → has Blob S n ≡ true → (has Blob S k ≡ true) × (make (body_of Blob S k) ≡ make (body_of Blob S n))
named_leaf S make n k e h = (ap (has Blob S) e ∙ h, ap (λ (x : Bytes). make (body_of Blob S x)) e)

module _ (S : List Object) (trees : (n : Bytes) → has Tree S n ≡ true → AreStoredLeaves S (flat S n)) where
  entry_leaves : (c : Bytes) (m : Mode) (n : Bytes) → has_child S m n ≡ true → AreStoredLeaves S (below c (rests (node_of (body_of Blob S) (flat S) m n)))
  entry_leaves c File n h = (named_leaf S FileLeaf n _ (body_named Blob S n h) h, tt)
  entry_leaves c Exec n h = (named_leaf S ExecLeaf n _ (body_named Blob S n h) h, tt)
  entry_leaves c Link n h = (named_leaf S LinkLeaf n _ (body_named Blob S n h) h, tt)
  entry_leaves c Module n h = ((refl, refl), tt)
  entry_leaves c Dir n h = leaves_below S c (flat S n) (trees n (first_so _ _ h))

  joined_leaves : (es : List Entry) → HasChildren S es → AreStoredLeaves S (joined (body_of Blob S) (flat S) es)
  joined_leaves [] h = tt
  joined_leaves (e ∷ es) h = leaves_append S _ _ (entry_leaves e.component e.mode e.name.0 h.0) (joined_leaves es h.1)

-- ---- an object more

module _ (o : Object) (S : List Object) (s : IsStore (o ∷ S)) where
  older_leaf : (x : Leaf) → IsStoredLeaf S x → IsStoredLeaf (o ∷ S) x
  older_leaf (FileLeaf b) h = let g = older-has o S s Blob (name Blob b) h.0 in (g.0, ap FileLeaf g.1 ∙ h.1)
  older_leaf (ExecLeaf b) h = let g = older-has o S s Blob (name Blob b) h.0 in (g.0, ap ExecLeaf g.1 ∙ h.1)
  older_leaf (LinkLeaf b) h = let g = older-has o S s Blob (name Blob b) h.0 in (g.0, ap LinkLeaf g.1 ∙ h.1)
  older_leaf (ModuleLeaf n) h = h

  older_leaves : (t : Flat) → AreStoredLeaves S t → AreStoredLeaves (o ∷ S) t
  older_leaves [] h = tt
  older_leaves (e ∷ t) h = (older_leaf e.1 h.0, older_leaves t h.1)

pub stored_leaves : (S : List Object) → IsStore S → (n : Bytes) → has Tree S n ≡ true → AreStoredLeaves S (flat S n)
unfolding flat has
stored_leaves [] s n h = absurd (true≢false (sym h))
stored_leaves (o ∷ S) s n h =
    elim (is_named Tree o n) as (λ t. is_named Tree o n ≡ t → (t || has Tree S n) ≡ true →
    AreStoredLeaves (o ∷ S) (cond t (joined (body_of Blob S) (flat S) (listed o.body)) (flat S n))) [
      | true ↦ λ e g. older_leaves o S s _ (joined_leaves S (stored_leaves S s.2) (listed o.body) (object-children S o n s.0 e))
      | false ↦ λ e g. older_leaves o S s _ (stored_leaves S s.2 n g)
    ] refl h
