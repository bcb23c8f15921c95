use Rattle.std.proofs.Common.{◌≡◌, true, sym, subst, T}
use Rattle.git_objects.specs.Paths.{Path, is_path}
use Rattle.git_objects.specs.Trees.{LeafNode, TreeNode, put, remove, standing}
use Rattle.git_objects.proofs.Pointwise.{put-tree, remove-tree}
use Rattle.git_objects.proofs.Standing.{standing_node, made_tree}
use Rattle.git_objects.proofs.Under.{under-tree}
use Rattle.git_objects.proofs.tree_laws.edit_law.Goals as goal

path_test : (p : Path) → is_path p ≡ true → T (is_path p)
path_test p v = subst T (sym v) tt

pub returns : goal.returns
returns c = record {
  puts = λ t p x h v l. put-tree t p (LeafNode x) h (path_test p v) (subst T (sym l) tt);
  puts_below = λ t p u h v k. put-tree t p (TreeNode u) h (path_test p v) k;
  removes = remove-tree;
  renames = λ t s p h v. made_tree (standing t s) (put (remove t s) p) (standing_node t s h) (λ n k. put-tree (remove t s) p n (remove-tree t s h) (path_test p v) k);
  copies = λ t s p h v. made_tree (standing t s) (put t p) (standing_node t s h) (λ n k. put-tree t p n h (path_test p v) k);
  lies_below = under-tree;
}
