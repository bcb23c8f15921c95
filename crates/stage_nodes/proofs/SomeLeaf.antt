-- Each node stands for a leaf at least.
use Rattle.std.proofs.Common.{◌≡◌, true, cond, List, [], ◌∷◌, Some, refl, ap, ◌∙◌}
use Rattle.std.specs.Cmp.{first_so}
use Rattle.git_objects.specs.Paths.{Path}
use Rattle.git_objects.specs.Trees.{Flat, Leaf, at, rests}
use Rattle.git_objects.specs.Bodies.{is_name}
use Rattle.git_objects.proofs.Basics.{same_bytes-self}
use Rattle.git_objects.proofs.Order.{path_decides}
use Rattle.object_store.specs.Objects.{Object, IsStore, has_child}
use Rattle.object_store.proofs.Unfolding.{IsFull}
use Rattle.path_trees.specs.Standing.{node}
use Rattle.path_trees.proofs.Apart.{rests_full}
use Rattle.stage_nodes.specs.declared.nodes.Content.{Content}
use Rattle.stage_nodes.specs.declared.nodes.Content.TheVariants.{Held, Open}
use Rattle.stage_nodes.specs.Forests.{Forest, Nil, Bin, IsFilled, Sound}
use Rattle.stage_nodes.specs.Leaves.{leaf_below, leaf_in, is_held}

first_of_full : (t : Flat) → IsFull t → (q : Path) × (y : Leaf) × (at t q ≡ Some y)
first_of_full [] h = absurd h
first_of_full (e ∷ t) h = (e.0, e.1, ap (λ b. cond b (Some e.1) (at t e.0)) ((path_decides e.0 e.0).1 refl))

module _ (S : List Object) (store : IsStore S) where
  pub some_leaf : (x : Content) (l : Forest) → IsFilled x l → is_held S x ≡ true → Sound (is_held S) l → (q : Path) × (y : Leaf) × (leaf_below S x (leaf_in S l) q ≡ Some y)
  some_leaf (Held f) l n h s = first_of_full (rests (node S f)) (rests_full S store f.mode f.name.0 (first_so (has_child S f.mode f.name.0) (is_name f.name.0) h))
  some_leaf Open Nil n h s = absurd n
  some_leaf Open (Bin k c x l r) n h s =
      let g = some_leaf x l s.0.filled s.0.content s.2 in
      (c ∷ g.0, g.1, ap (λ b. cond b (leaf_below S x (leaf_in S l) g.0) (leaf_in S r (c ∷ g.0))) (same_bytes-self c) ∙ g.2)
