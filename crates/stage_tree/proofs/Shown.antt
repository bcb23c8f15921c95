-- The tree that a stage shows: it is the only one, and it stays when the store grows.
use Rattle.std.proofs.Common.{◌≡◌, true, List, [], ◌∷◌, ◌++◌, refl, sym, ap, ◌∙◌}
use Rattle.std.specs.Cmp.{first_so}
use Rattle.git_objects.specs.Paths.{Path}
use Rattle.git_objects.specs.Trees.{Flat, TreeNode, at, put_all, rests}
use Rattle.git_objects.specs.Bodies.{is_name}
use Rattle.git_objects.specs.declared.kind.Kind.TheVariants.{Tree}
use Rattle.git_objects.specs.declared.mode.Mode.TheVariants.{Dir}
use Rattle.git_objects.proofs.Maps.{same_flat}
use Rattle.object_store.specs.Objects.{Object, IsStore, has, has_child}
use Rattle.object_store.proofs.Held.{has-above}
use Rattle.object_store.proofs.Unfolding.{growing_law}
use Rattle.path_trees.specs.Standing.{node}
use Rattle.path_trees.specs.declared.found.Found.{Found}
use Rattle.path_trees.proofs.Grown.{node-above}
use Rattle.stage_nodes.specs.declared.nodes.Content.TheVariants.{Held}
use Rattle.stage_nodes.specs.Items.{Items, tree_of, AreHeld}
use Rattle.stage_tree.specs.Stages.{Staged}
use Rattle.stage_nodes.specs.Roots.{IsRooted}
use Rattle.stage_tree.specs.Laws.{GrownStoreLaw, OneTreeLaw}
use Rattle.stage_nodes.proofs.Closing.{held-above}

pub one_tree : OneTreeLaw
one_tree S v t u h g = same_flat t u h.tree.sorted g.tree.sorted (λ p. sym (h.leaves p) ∙ g.leaves p)

module _ (newer S : List Object) (st : IsStore (newer ++ S)) where
  items-above : (es : Items) → AreHeld S es → AreHeld (newer ++ S) es
  items-above [] h = tt
  items-above (e ∷ es) h = (held-above newer S st (Held e.1) h.0, items-above es h.1)

  tree-above : (es : Items) → AreHeld S es → tree_of (newer ++ S) es ≡ tree_of S es
  tree-above [] h = refl
  tree-above (e ∷ es) h = λ i. put_all e.0 (rests (node-above newer S e.1.mode e.1.name.0 st (first_so (has_child S e.1.mode e.1.name.0) (is_name e.1.name.0) h.0) i)) (tree-above es h.1 i)

  rooted-above : (es : Items) → IsRooted S es → IsRooted (newer ++ S) es
  rooted-above [] h = tt
  rooted-above (([], f) ∷ es) h = (h.0, has-above newer S Tree f.name.0 h.1, h.2)
  rooted-above ((c ∷ p, f) ∷ es) h = items-above ((c ∷ p, f) ∷ es) h

  root_node : (f : Found) → f.mode ≡ Dir → has Tree S f.name.0 ≡ true → node (newer ++ S) f ≡ node S f
  root_node f d h =
      ap (λ m. node (newer ++ S) (record { mode = m; name = f.name })) d
      ∙ ap TreeNode (growing_law newer S f.name.0 st h)
      ∙ ap (λ m. node S (record { mode = m; name = f.name })) (sym d)

  -- an unread root has no other items beside it
  shown-above : (v : Staged) (t : Flat) → IsRooted S v.items → (p : Path) → at (tree_of (newer ++ S) v.items) p ≡ at (tree_of S v.items) p
  shown-above v t h p = ap (λ (u : Flat). at u p) (by v.items h)
    where
      by : (es : Items) → IsRooted S es → tree_of (newer ++ S) es ≡ tree_of S es
      by [] h = refl
      by (([], f) ∷ es) h =
          ap (λ (x : Items). tree_of (newer ++ S) (([], f) ∷ x)) h.2
          ∙ ap (λ n. put_all [] (rests n) []) (root_node f h.0 h.1)
          ∙ ap (λ (x : Items). tree_of S (([], f) ∷ x)) (sym h.2)
      by ((c ∷ q, f) ∷ es) h = tree-above ((c ∷ q, f) ∷ es) h

pub grown_store : GrownStoreLaw
grown_store newer S v t st h = record {
  store = st;
  tree = h.tree;
  held = rooted-above newer S st v.items h.held;
  leaves = λ p. shown-above newer S st v t h.held p ∙ h.leaves p;
  few = h.few;
}
