-- Cursors: what stands below a place, and what a directory at a place lists.
use Rattle.std.proofs.Common.{◌≡◌, true, false, List, [], ◌∷◌, ◌++◌, Option, Some, None, refl, sym, ap, subst, ◌∙◌}
use Rattle.std.specs.Option.{option_map, option_or, option_and_then}
use Rattle.std.proofs.lemmas.Option.{none-some, same_Some}
use Rattle.git_objects.specs.Entries.{AreEntries, is_dir}
use Rattle.git_objects.specs.Paths.{Bytes, Path}
use Rattle.git_objects.specs.Trees.{Leaf, Flat, IsTree, LeafNode, TreeNode, at, under, standing, if_full}
use Rattle.git_objects.specs.declared.entry.Entry.{Entry}
use Rattle.git_objects.specs.declared.kind.Kind.TheVariants.{Tree}
use Rattle.git_objects.proofs.Under.{at-under}
use Rattle.object_store.specs.Objects.{Object, IsStore, has, has_child}
use Rattle.object_store.specs.Unfolding.{flat}
use Rattle.object_store.proofs.Unfolding.{AreHeld}
use Rattle.path_trees.specs.Listed.{found_at, listed}
use Rattle.path_trees.specs.Standing.{node}
use Rattle.path_trees.specs.declared.found.Found.{Found}
use Rattle.path_trees.proofs.Lookups.{under_front, leaf_under, nothing_at, found_held, step_down}
use Rattle.path_trees.proofs.Trees.{tree_listed}
use Rattle.filter_apply.specs.Cursors.{IsListedAt}
use Rattle.filter_apply.proofs.Places.{dir_node, leaf_node, dir_held}

-- what stands below a place stands in what lies below it
standing_behind : (t : Flat) (p : Path) (c : Bytes) → IsTree t → standing t (p ++ c ∷ []) ≡ standing (under t p) (c ∷ [])
standing_behind t p c h = λ i. option_or (option_map LeafNode (sym (at-under t p c []) i)) (if_full (under_front t p (c ∷ []) h i))

module _ (t : Flat) (p : Path) (h : IsTree t) where
  -- nothing stands below a place where no directory is
  pub below_nothing : None ≡ standing t p → (c : Bytes) → None ≡ standing t (p ++ c ∷ [])
  below_nothing e c = sym (standing_behind t p c h ∙ ap (λ u. standing u (c ∷ [])) (nothing_at (at t p) (under t p) (sym e)).1)

  pub below_leaf : (x : Leaf) → Some (LeafNode x) ≡ standing t p → (c : Bytes) → None ≡ standing t (p ++ c ∷ [])
  below_leaf x e c = by (at t p) (under t p) refl refl (sym e)
    where
      by : (o : Option Leaf) (w : Flat) → at t p ≡ o → under t p ≡ w → option_or (option_map LeafNode o) (if_full w) ≡ Some (LeafNode x) → None ≡ standing t (p ++ c ∷ [])
      by (Some y) w k m n = sym (standing_behind t p c h ∙ ap (λ u. standing u (c ∷ [])) (leaf_under t p y h k))
      by None [] k m n = absurd (none-some (LeafNode x) n)
      by None (d ∷ w) k m n = let same : TreeNode (d ∷ w) ≡ LeafNode x = same_Some (TreeNode (d ∷ w)) (LeafNode x) n in cc

  pub below_tree : (u : Flat) → Some (TreeNode u) ≡ standing t p → (c : Bytes) → standing u (c ∷ []) ≡ standing t (p ++ c ∷ [])
  below_tree u e c = sym (standing_behind t p c h ∙ by (at t p) (under t p) (sym e))
    where
      by : (o : Option Leaf) (w : Flat) → option_or (option_map LeafNode o) (if_full w) ≡ Some (TreeNode u) → standing w (c ∷ []) ≡ standing u (c ∷ [])
      by (Some y) w n = let same : LeafNode y ≡ TreeNode u = same_Some (LeafNode y) (TreeNode u) n in cc
      by None [] n = absurd (none-some (TreeNode u) n)
      by None (d ∷ w) n = let same : TreeNode (d ∷ w) ≡ TreeNode u = same_Some (TreeNode (d ∷ w)) (TreeNode u) n in cc

module _ (S : List Object) (s : IsStore S) (t : Flat) (p : Path) (h : IsTree t) (f : Found) (stands : Some (node S f) ≡ standing t p) where
  pub below_no_directory : is_dir f.mode ≡ false → (c : Bytes) → None ≡ standing t (p ++ c ∷ [])
  below_no_directory d = let x = leaf_node S f.mode f.name.0 d in below_leaf t p h x.0 (sym (ap Some x.1) ∙ stands)

  pub opened_at : (es : List Entry) → is_dir f.mode ≡ true → has_child S f.mode f.name.0 ≡ true → listed S f.name.0 ≡ Some es → IsListedAt S t p es
  opened_at es d k l =
      let there : has Tree S f.name.0 ≡ true = dir_held S f.mode f.name.0 d k in
      let r = tree_listed S f.name.0 s there in
      let same : r.0 ≡ es = same_Some r.0 es (sym r.1 ∙ l) in
      record {
        order = subst AreEntries same r.2.entries;
        stands = λ c.
            ap (λ o. option_map (node S) (option_and_then (found_at c) o)) (sym l)
            ∙ sym (step_down S s f.name.0 (flat S f.name.0) c (record { held = there; map = refl })).0
            ∙ below_tree t p h (flat S f.name.0) (sym (ap Some (dir_node S f.mode f.name.0 d)) ∙ stands) c;
        held = λ c g e. (found_held S c es g (subst (AreHeld S) same r.2.held) e).0;
      }
