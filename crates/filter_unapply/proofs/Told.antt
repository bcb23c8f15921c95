-- What the calls answer, and what it tells of what is laid.
use Rattle.std.proofs.Common.{◌≡◌, true, false, not, ◌&&◌, List, [], ◌∷◌, ◌++◌, Some, None, Result, Ok, Err, refl, sym, ap, subst, ◌∙◌, true≢false}
use Rattle.std.specs.Prelude.{IfErr}
use Rattle.std.specs.Result.{IsErrAnd}
use Rattle.git_objects.specs.Paths.{Bytes, Path, is_path, is_nil}
use Rattle.git_objects.specs.Trees.{Leaf, Flat, IsTree, LeafNode, TreeNode, remove, standing}
use Rattle.git_objects.specs.Entries.{is_dir}
use Rattle.git_objects.specs.Bodies.{tree_entries}
use Rattle.git_objects.specs.declared.entry.Entry.{Entry}
use Rattle.git_objects.specs.declared.kind.Kind.TheVariants.{Tree}
use Rattle.git_objects.specs.declared.mode.Mode.{Mode}
use Rattle.git_objects.specs.declared.mode.Mode.TheVariants.{File, Exec, Link, Module, Dir}
use Rattle.git_objects.specs.declared.name.Name.{Name}
use Rattle.object_store.specs.Objects.{Object, IsStore, has, has_child, body_of}
use Rattle.object_store.specs.Unfolding.{flat, StandsFor}
use Rattle.object_store.proofs.Unfolding.{flat_good, node as mode_node}
use Rattle.path_trees.specs.Standing.{node}
use Rattle.path_trees.specs.Made.{IsOnWay, IsGrown, IsCollision, IsTreeFault}
use Rattle.path_trees.specs.declared.found.Found.{Found}
use Rattle.path_trees.specs.declared.found.TreeFault.{TreeFault}
use Rattle.path_trees.specs.declared.found.TreeFault.TheVariants.{Collision, OutOfMemory}
use Rattle.path_trees.proofs.Grown.{joined_in}
use Rattle.path_trees.proofs.Trees.{stored_tree}
use Rattle.filter_unapply.specs.Laying.{below}
use Rattle.filter_unapply.specs.Laying.{Laid, Blocked, LaidTree, laid_through}
use Rattle.filter_unapply.specs.Stored.{IsLaidTree, IsLaidBody, IsLayFault, IsInWay, fault_of, first_of}
use Rattle.filter_unapply.specs.declared.fault.LayFault.{LayFault}
use Rattle.filter_unapply.proofs.Places.{emptied_directory, emptied_leaf, emptied_nothing, laid_blocked}

-- ---- there is a tree

module _ (l : Laid) (a : Path) (u : Flat) (e : l ≡ LaidTree u) (S : List Object) where
  pub told_tree : (n : Name) → StandsFor S n.0 u → IsLaidTree S l n
  told_tree n h = subst (λ k. IsLaidTree S k n) (sym e) h

  told_fault : (f : TreeFault) → IsTreeFault (IsOnWay u a) S f → IsLayFault l a S (fault_of f)
  told_fault (Collision n) h = subst (λ k. IsCollision (IsLaidBody k a) S n.0) (sym e) h
  told_fault OutOfMemory h = tt

  pub told_grown : (T : List Object) → IsGrown (IsOnWay u a) T S → IsGrown (IsLaidBody l a) T S
  told_grown T h = subst (λ k. IsGrown (IsLaidBody k a) T S) (sym e) h

  pub told_err : (r : Result Name LayFault) (f : TreeFault) → IsErrAnd r (λ x. x ≡ fault_of f) → IsTreeFault (IsOnWay u a) S f → IfErr r (IsLayFault l a S)
  told_err (Ok n) f g h = tt
  told_err (Err x) f g h = subst (IsLayFault l a S) (sym g) (told_fault f h)

-- ---- what stands at a place

pub dir_node : (S : List Object) (m : Mode) (n : Bytes) → is_dir m ≡ true → mode_node S m n ≡ TreeNode (flat S n)
dir_node S File n h = absurd (true≢false (sym h))
dir_node S Exec n h = absurd (true≢false (sym h))
dir_node S Link n h = absurd (true≢false (sym h))
dir_node S Module n h = absurd (true≢false (sym h))
dir_node S Dir n h = refl

pub leaf_node : (S : List Object) (m : Mode) (n : Bytes) → is_dir m ≡ false → (x : Leaf) × (mode_node S m n ≡ LeafNode x)
leaf_node S File n h = (_, refl)
leaf_node S Exec n h = (_, refl)
leaf_node S Link n h = (_, refl)
leaf_node S Module n h = (_, refl)
leaf_node S Dir n h = absurd (true≢false h)

module _ (S : List Object) (s : IsStore S) (n : Bytes) (h : has Tree S n ≡ true) where
  pub is_tree : IsTree (flat S n)
  is_tree = (flat_good S s n h).tree

  -- ---- the empty tree

  module _ (a : Path) where
    pub nothing_there : None ≡ standing (flat S n) a → laid_through (below a) (flat S n) [] ≡ LaidTree (flat S n)
    nothing_there e = emptied_nothing (flat S n) a (sym e)

    pub leaf_there : (f : Found) → is_dir f.mode ≡ false → Some (node S f) ≡ standing (flat S n) a → laid_through (below a) (flat S n) [] ≡ LaidTree (flat S n)
    leaf_there f i e = let x = leaf_node S f.mode f.name.0 i in emptied_leaf (flat S n) a x.0 is_tree (sym e ∙ ap Some x.1)

    pub directory_there : (f : Found) → is_dir f.mode ≡ true → Some (node S f) ≡ standing (flat S n) a → laid_through (below a) (flat S n) [] ≡ LaidTree (remove (flat S n) a)
    directory_there f i e = emptied_directory (flat S n) a (flat S f.name.0) is_tree (sym e ∙ ap Some (dir_node S f.mode f.name.0 i))

  -- ---- a tree with a first path

  empty_entries : tree_entries [] ≡ Some []
  unfolding tree_entries
  empty_entries = refl

  some_entries : (x y : List Entry) → Some x ≡ Some y → x ≡ y
  some_entries x y e = cc

  nil : (b : Bytes) → is_nil b ≡ true → b ≡ []
  nil [] e = refl
  nil (x ∷ b) e = absurd (true≢false (sym e))

  empty_flat : is_nil (body_of Tree S n) ≡ true → flat S n ≡ []
  empty_flat e =
      let t = stored_tree S s n h in
      let none : t.0 ≡ [] = some_entries t.0 [] (sym t.1.read ∙ ap tree_entries (nil (body_of Tree S n) e) ∙ empty_entries) in
      t.1.map ∙ ap (joined_in S) none

  pub has_directory : (p : Path) → first_of (flat S n) ≡ Some p → has_child S Dir n ≡ true
  has_directory p e = λ i. h i && not (full i)
    where
      full : is_nil (body_of Tree S n) ≡ false
      full = elim (is_nil (body_of Tree S n)) as (λ b. is_nil (body_of Tree S n) ≡ b → b ≡ false) [
        | true ↦ λ k. let none : None ≡ Some p = sym (ap first_of (empty_flat k)) ∙ e in cc
        | false ↦ λ k. refl
      ] refl

pub empty_first : (n : Flat) → first_of n ≡ None → [] ≡ n
empty_first [] e = refl
empty_first (d ∷ n) e = cc

-- the first path has no place
pub first_in_way : (a : Path) (t n : Flat) (p q : Path) → is_path a ≡ true → IsTree t → IsTree n → first_of n ≡ Some p → IsInWay t a q → laid_through (below a) t n ≡ Blocked (a ++ p) q
first_in_way a t [] p q v h g e w = cc
first_in_way a t (d ∷ n) p q v h g e w = let same : d.0 ≡ p = cc in laid_blocked a v t h d n g q w ∙ ap (λ (r : Path). Blocked (a ++ r) q) same
