-- The node that has a place, and the leaves of the tree that stand at it.
use Rattle.std.proofs.Common.{◌≡◌, ℕ, ◌<◌, true, cond, List, ◌∷◌, ◌++◌, length, get_or, Some, sym, ap, ◌∙◌}
use Rattle.git_objects.specs.Paths.{Path}
use Rattle.git_objects.specs.Trees.{Flat, at}
use Rattle.git_objects.proofs.Basics.{same_bytes-self}
use Rattle.object_store.specs.Objects.{Object}
use Rattle.stage_nodes.specs.declared.nodes.Nodes.{Nodes}
use Rattle.stage_nodes.specs.declared.nodes.Content.{Content}
use Rattle.stage_nodes.specs.declared.nodes.Content.TheVariants.{Held}
use Rattle.stage_nodes.specs.declared.nodes.Node.{Node}
use Rattle.path_trees.specs.declared.found.Found.{Found}
use Rattle.std.proofs.lemmas.Option.{slice_get_within}
use Rattle.stage_nodes.specs.Forests.{Bin}
use Rattle.stage_nodes.specs.Leaves.{leaf_below, leaf_in, is_held}
use Rattle.stage_nodes.specs.Branches.{Stands}
use Rattle.stage_nodes.specs.Ways.{HasPlace}
use Rattle.stage_nodes.proofs.Opening.{read_node}
use Rattle.stage_nodes.proofs.Leaves.{leaf_plug}
use Rattle.stage_nodes.proofs.OnWay.{IsNamed, named_of}

module _ (S : List Object) (s : Nodes) (k : ℕ) (h : HasPlace S s (Some k)) where
  pub v : IsNamed S s h.path h.component h.place.frames k
  v = (named_of S s h.path h.component h.link k h.place).0

  pub node_inside : k < length s.cells.items
  node_inside = slice_get_within s.cells.items k v.node v.there

  -- the node that was read
  pub read_content : (x : Node) → x ≡ get_or s.cells.items k x → (y : Content) → x.content ≡ y → v.content ≡ y
  read_content x read y e = sym v.cell.content ∙ ap (λ (z : Node). z.content) (sym (read_node s.cells.items k x v.node read v.there)) ∙ e

  pub read_held : (x : Node) → x ≡ get_or s.cells.items k x → (f : Found) → x.content ≡ Held f → is_held S (Held f) ≡ true
  read_held x read f e = ap (is_held S) (sym (read_content x read (Held f) e)) ∙ v.sound.0.content

  -- what stands at the node
  pub place_leaf : (t : Flat) → Stands S s t → (r : Path) → leaf_below S v.content (leaf_in S v.children) r ≡ at t (h.path ++ h.component ∷ r)
  place_leaf t st r =
      sym (ap (λ b. cond b (leaf_below S v.content (leaf_in S v.children) r) (leaf_in S v.siblings (h.component ∷ r))) (same_bytes-self h.component))
      ∙ sym (leaf_plug S (is_held S) h.place.frames (Bin k h.component v.content v.children v.siblings) h.component r v.sound_up v.fits)
      ∙ (λ i. leaf_in S (v.whole i) (v.path i ++ h.component ∷ r))
      ∙ st (h.path ++ h.component ∷ r)
