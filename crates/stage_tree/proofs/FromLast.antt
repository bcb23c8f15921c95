-- The way to a path from a node that is known.
use Rattle.std.proofs.Common.{◌≡◌, ℕ, ◌+◌, ◌≤◌, List, [], ◌∷◌, length, Option, Some, refl, sym, ap, subst, ◌∙◌}
use Rattle.std.specs.Prelude.{slice_get}
use Rattle.git_objects.specs.Paths.{Bytes, Path}
use Rattle.git_objects.specs.Trees.{at}
use Rattle.object_store.specs.Objects.{Object}
use Rattle.stage_nodes.specs.declared.nodes.Node.{Node}
use Rattle.stage_nodes.specs.declared.nodes.Nodes.{Nodes}
use Rattle.stage_nodes.specs.declared.nodes.Content.{Content}
use Rattle.stage_nodes.specs.declared.nodes.Content.TheVariants.{Held, Open}
use Rattle.stage_nodes.specs.declared.nodes.Link.{Link}
use Rattle.stage_nodes.specs.Forests.{Forest, Nil, Bin, node_component}
use Rattle.stage_nodes.specs.Frames.{Frame, Below, Behind, plug}
use Rattle.stage_nodes.specs.Leaves.{leaf_in, is_held}
use Rattle.stage_nodes.specs.Ways.{IsHere, IsOpen, IsStill, IsWay, IsWayBy, kids_of}
use Rattle.stage_nodes.specs.Items.{Items, tree_of}
use Rattle.stage_nodes.specs.Roots.{IsStage, IsRooted, IsRootOf, IsOpened, IsUnopened, items_of}
use Rattle.stage_tree.specs.Sets.{IsArrived, IsChildOf, IsUnmoved}
use Rattle.stage_nodes.proofs.ItemTrees.{sound_held, tree_leaf}
use Rattle.stage_nodes.proofs.OnWay.{still_same}
use Rattle.stage_nodes.proofs.Rooting.{held_rooted}
use Rattle.stage_tree.proofs.Staging.{items_open, stage_of}
use Rattle.stage_nodes.proofs.Turning.{here_in}

-- ---- a node of a directory

module _ (S : List Object) (s : Nodes) (o : IsOpen S s) (q : Path) (ns : List ℕ) (k : ℕ) (h : IsChildOf s q ns k) where
  abbrev own : Forest
  own = Bin k h.component h.content h.children h.siblings

  abbrev at_child : (j : Option ℕ) × IsHere (is_held S) s.names.items s.cells.items 0 h.frames j own
  at_child = here_in S s o h.frames own h.whole

  abbrev pub child_node : Node
  child_node = at_child.1.reads.node

  pub child_there : slice_get s.cells.items k ≡ Some child_node
  child_there = at_child.1.reads.there

  pub child_within : child_node.at + child_node.len ≤ length s.names.items
  child_within = at_child.1.reads.cell.within

  pub child_component : node_component s.names.items child_node ≡ h.component
  child_component = at_child.1.reads.cell.component

  pub child_content : child_node.content ≡ h.content
  child_content = at_child.1.reads.cell.content

-- ---- a stage with such a node is open

has_node : (up : List Frame) (k : ℕ) (c : Bytes) (x : Content) (l r : Forest) → plug up (Bin k c x l r) ≡ Nil → ⊥
has_node [] k c x l r e = cc
has_node (Below i d m ∷ up) k c x l r e = has_node up i d Open (Bin k c x l r) m e
has_node (Behind i d y m ∷ up) k c x l r e = has_node up i d y m (Bin k c x l r) e

module _ (s : Nodes) (stage : IsStage s) (q : Path) (ns : List ℕ) (k : ℕ) (h : IsChildOf s q ns k) where
  pub root_is_open : stage.root.content ≡ Open
  root_is_open = by stage.root.content stage.leafless
    where
      by : (x : Content) → IsRootOf x (kids_of s) → x ≡ Open
      by Open g = refl
      by (Held f) g = absurd (has_node h.frames k h.component h.content h.children h.siblings (h.whole ∙ g))

-- ---- the way

pub arrived_down : (S : List Object) (s t u : Nodes) (p : Path) (ns : List ℕ) (level : ℕ) (link : Link) (child : Option ℕ) → IsOpened S s t → IsWayBy S t u p ns level link child → IsArrived S s u p ns level link child
arrived_down S s t u p ns level link child o h =
    let w : IsWay S t u p level link child = h.way in
    record {
      leaves = λ y. w.still.leaves y ∙ o.leaves y;
      way = record {
        still = still_same S u w.still.opened;
        component = w.component;
        before = w.before;
        behind = w.behind;
        path = w.path;
        level_is = w.level_is;
        place = w.place;
        ended = w.ended;
      };
      numbers = h.numbers;
    }

-- ---- nothing was done

pub unmoved_open : (S : List Object) (s t : Nodes) → IsOpen S t → ((y : Path) → leaf_in S (kids_of t) y ≡ at (tree_of S (items_of s)) y) → IsUnmoved S s t
unmoved_open S s t o h = record {
  stage = stage_of S t o;
  held = subst (IsRooted S) (sym (items_open S t o)) (held_rooted S (kids_of t) (sound_held S (kids_of t) o.sound));
  leaves = λ y. ap (λ (v : Items). at (tree_of S v) y) (items_open S t o) ∙ tree_leaf S (kids_of t) y o.directory.sound ∙ h y;
}

pub unmoved_still : (S : List Object) (s t u : Nodes) → IsOpened S s t → IsStill S t u → IsUnmoved S s u
unmoved_still S s t u o i = unmoved_open S s u i.opened (λ y. i.leaves y ∙ o.leaves y)

pub unmoved_unopened : (S : List Object) (s t : Nodes) → IsRooted S (items_of s) → IsUnopened s t → IsUnmoved S s t
unmoved_unopened S s t h o = record {
  stage = o.stage;
  held = subst (IsRooted S) (sym o.items) h;
  leaves = λ y. ap (λ (v : Items). at (tree_of S v) y) o.items;
}
