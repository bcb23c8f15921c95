-- Leaves of a store at the workspace place.
use Rattle.std.proofs.Common.{◌≡◌, List, ◌++◌, Option, Some, None, true, false, refl, sym, ap, subst}
use mathlib.Core.Bool.{Bool-set}
use Rattle.git_objects.specs.Entries.{is_dir}
use Rattle.git_objects.specs.Paths.{Bytes}
use Rattle.git_objects.specs.Trees.{FileLeaf, ExecLeaf, LinkLeaf}
use Rattle.git_objects.specs.declared.kind.Kind.TheVariants.{Blob}
use Rattle.git_objects.specs.declared.mode.Mode.{Mode}
use Rattle.git_objects.specs.declared.mode.Mode.TheVariants.{File, Exec, Link, Module, Dir}
use Rattle.object_store.specs.Objects.{Object, IsStore, body_of, has_child}
use Rattle.object_store.specs.Growth.{IsGrownBy}
use Rattle.path_trees.specs.Walked.{leaf_of}
use Rattle.path_trees.specs.declared.found.Leaf.{Leaf}
use Rattle.path_trees.proofs.Grown.{body-above, child-above}
use Rattle.workspace.specs.Views.{IsHeldLeaf, found_value}

-- a mode and a name make one leaf
pub one-leaf : (a b : Leaf) → a.mode ≡ b.mode → a.name ≡ b.name → a ≡ b
one-leaf a b m n =
    subst (λ (k : Mode). (h : is_dir k ≡ false) → a ≡ record { mode = k; name = b.name; is_leaf = h }) m
    (λ h i. record { mode = a.mode; name = n i; is_leaf = Bool-set (is_dir a.mode) false a.is_leaf h i }) b.is_leaf

-- ---- in a store that grows

leaf-above : (newer S : List Object) (m : Mode) (n : Bytes) → IsStore (newer ++ S) → has_child S m n ≡ true → leaf_of (body_of Blob (newer ++ S)) m n ≡ leaf_of (body_of Blob S) m n
leaf-above newer S File n s h = ap FileLeaf (body-above newer S Blob n s h)
leaf-above newer S Exec n s h = ap ExecLeaf (body-above newer S Blob n s h)
leaf-above newer S Link n s h = ap LinkLeaf (body-above newer S Blob n s h)
leaf-above newer S Module n s h = refl
leaf-above newer S Dir n s h = refl

module _ {made : Object → Type 0} (S T : List Object) (g : IsGrownBy made S T) where
  pub leaf-held-grown : (o : Option Leaf) → IsHeldLeaf S o → IsHeldLeaf T o
  leaf-held-grown None h = tt
  leaf-held-grown (Some x) h =
      subst (λ (R : List Object). has_child R x.mode x.name.0 ≡ true) g.above (child-above g.newer S x.mode x.name.0 (subst IsStore (sym g.above) g.store) h)

  pub found-leaf-grown : (o : Option Leaf) → IsHeldLeaf S o → found_value T o ≡ found_value S o
  found-leaf-grown None h = refl
  found-leaf-grown (Some x) h =
      ap Some (subst (λ (R : List Object). leaf_of (body_of Blob R) x.mode x.name.0 ≡ leaf_of (body_of Blob S) x.mode x.name.0) g.above (leaf-above g.newer S x.mode x.name.0 (subst IsStore (sym g.above) g.store) h))
