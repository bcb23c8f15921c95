-- A stage finished.
use Rattle.std.proofs.Common.{◌≡◌, ℕ, length, List, [], IfOk, IfErr, Result, Ok, Option, Some, None, refl, sym, ap, subst, ◌∙◌, le_refl}
use Rattle.git_objects.specs.Paths.{Path}
use Rattle.git_objects.specs.Trees.{Flat, IsTree, Leaf, at, rests}
use Rattle.git_objects.specs.declared.name.Name.{Name}
use Rattle.git_objects.proofs.Maps.{at-put_all, first_some, same_flat}
use Rattle.object_store.specs.Objects.{Object}
use Rattle.object_store.specs.Unfolding.{StandsFor, flat}
use Rattle.object_store.proofs.Unfolding.{flat_good}
use Rattle.path_trees.specs.Standing.{node}
use Rattle.path_trees.specs.declared.found.Found.{Found}
use Rattle.path_trees.specs.declared.found.TreeFault.{TreeFault}
use Rattle.stage_nodes.specs.declared.nodes.Nodes.{Nodes}
use Rattle.stage_nodes.specs.declared.nodes.Content.TheVariants.{Held, Open}
use Rattle.stage_nodes.specs.Ways.{IsOpen}
use Rattle.stage_nodes.specs.Branches.{Stands}
use Rattle.stage_nodes.specs.Items.{Items, tree_of}
use Rattle.stage_tree.specs.Stages.{Staged, Shows, staged}
use Rattle.stage_nodes.specs.Roots.{IsStage, IsRooted, items_of}
use Rattle.stage_tree.specs.Finished.{IsFinished}
use Rattle.stage_nodes.specs.Closing.{IsStoring, IsStoringFault}
use Rattle.stage_nodes.proofs.Rooting.{already_open, items_held, root_is, root_stored}
use Rattle.stage_tree.proofs.Staging.{shows_open, stands_opened, most_stays}
use Rattle.stage_nodes.proofs.Finishing.{on_ok, on_err}

module _ (S : List Object) (s : Nodes) (m : ℕ) (v : Staged) (e : staged s m ≡ v) (stage : IsStage s) (t : Flat) (h : Shows S v t) where
  held : IsRooted S (items_of s)
  held = subst (λ (x : Staged). IsRooted S x.items) (sym e) h.held

  -- ---- no path has gone through the root

  module _ (f : Found) (is : stage.root.content ≡ Held f) where
    some_none : (o : Option Leaf) → first_some o None ≡ o
    some_none None = refl
    some_none (Some y) = refl

    root_leaf : (p : Path) → at (flat S f.name.0) p ≡ at t p
    root_leaf p =
        ap (λ m. at (rests (node S (record { mode = m; name = f.name }))) p) (sym (root_is S s stage held f is).0)
        ∙ sym (ap (λ (x : Items). at (tree_of S x) p) (items_held S s stage held f is) ∙ at-put_all [] (rests (node S f)) [] p ∙ some_none (at (rests (node S f)) p))
        ∙ ap (λ (x : Staged). at (tree_of S x.items) p) e
        ∙ h.leaves p

    pub finished_unopened : IsFinished S S v t (Ok f.name)
    finished_unopened = record {
      named = record { held = root_stored S s stage held f is; map = same_flat (flat S f.name.0) t (flat_good S h.store f.name.0 (root_stored S s stage held f is)).tree.sorted h.tree.sorted root_leaf };
      refused = tt;
      grown = record { store = h.store; newer = []; above = refl; trees = tt };
      shows = h;
    }

  -- ---- its children are nodes

  module _ (is : stage.root.content ≡ Open) where
    pub open_root_is : IsOpen S s
    open_root_is = (already_open S s stage held is).opened

    stands : Stands S s t
    stands = stands_opened S s s m v t e (already_open S s stage held is) h

    pub finished : (S' : List Object) (s' : Nodes) (r : Result Name TreeFault) → IsStoring S S' s s' →
        IfOk r (λ n. (u : Flat) → IsTree u → Stands S s u → StandsFor S' n.0 u) → IfErr r (IsStoringFault S S' s) → IsFinished S S' (staged s' m) t r
    finished S' s' r g ok err = record {
      named = on_ok r (λ n f. f t h.tree stands) ok;
      refused = on_err r (λ x f. f t h.tree stands) err;
      grown = record { store = g.store; newer = g.newer; above = g.above; trees = g.trees t h.tree stands };
      shows = shows_open S' s' m t g.store g.opened h.tree (λ p. g.leaves p ∙ stands p) (most_stays S s m v t t e h (le_refl (length t)));
    }
