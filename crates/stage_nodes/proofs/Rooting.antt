-- The root opened.
use Rattle.stage_nodes.specs.declared.nodes.Node.{Node}
use Rattle.std.proofs.Common.{◌≡◌, ◌+◌, true, List, [], ◌∷◌, ◌++◌, length, Option, Some, None, refl, sym, ap, subst, ◌∙◌, arith}
use Rattle.std.specs.Prelude.{slice_get, nat_lt}
use Rattle.git_objects.specs.Paths.{Bytes}
use Rattle.git_objects.specs.Trees.{at, rests}
use Rattle.git_objects.specs.declared.kind.Kind.TheVariants.{Tree}
use Rattle.git_objects.specs.declared.mode.Mode.TheVariants.{Dir}
use Rattle.git_objects.proofs.Maps.{at-put_all, first_some}
use Rattle.object_store.specs.Objects.{Object, has}
use Rattle.path_trees.specs.Standing.{node}
use Rattle.path_trees.specs.declared.found.Found.{Found}
use Rattle.stage_nodes.specs.declared.nodes.Nodes.{Nodes}
use Rattle.stage_nodes.specs.declared.nodes.Content.{Content}
use Rattle.stage_nodes.specs.declared.nodes.Content.TheVariants.{Held, Open}
use Rattle.stage_nodes.specs.Forests.{Forest, Nil, Bin, count, Reads, forest, Sound}
use Rattle.stage_nodes.specs.Directories.{any, IsDirectory}
use Rattle.stage_nodes.specs.Leaves.{leaf_in, is_held}
use Rattle.stage_nodes.specs.Ways.{IsOpen, kids_of}
use Rattle.stage_nodes.specs.Items.{Items, items, items_at, items_behind, tree_of, AreHeld}
use Rattle.stage_nodes.specs.Expanding.{IsClosed, IsExpanded, IsWaste}
use Rattle.stage_nodes.specs.Roots.{IsStage, IsRooted, IsOpened, IsUnopened, items_of, root_items}
use Rattle.stage_nodes.proofs.Pools.{own_count, one_most, forest_is}
use Rattle.stage_nodes.proofs.Freeing.{first_of}
use Rattle.stage_nodes.proofs.Expanding.{children_hang}
use Rattle.stage_nodes.proofs.ItemTrees.{tree_leaf, held_sound}
use Rattle.stage_nodes.proofs.Opening.{same_node}

-- ---- items of children have a first component

abbrev AreBelow : Items → Type 0
AreBelow [] = Unit
AreBelow (([], f) ∷ es) = ⊥
AreBelow ((c ∷ p, f) ∷ es) = Unit

below_behind : (c : Bytes) (xs ys : Items) → AreBelow ys → AreBelow (items_behind c xs ++ ys)
below_behind c [] ys h = h
below_behind c (x ∷ xs) ys h = tt

below_items : (F : Forest) → AreBelow (items F)
below_items Nil = tt
below_items (Bin k c x l r) = below_behind c (items_at x (items l)) (items r) (below_items r)

rooted_held : (S : List Object) (xs : Items) → AreBelow xs → IsRooted S xs → AreHeld S xs
rooted_held S [] b h = tt
rooted_held S (([], f) ∷ es) b h = absurd b
rooted_held S ((c ∷ p, f) ∷ es) b h = h

pub held_rooted : (S : List Object) (F : Forest) → AreHeld S (items F) → IsRooted S (items F)
held_rooted S F h = by (items F) (below_items F) h
  where
    by : (xs : Items) → AreBelow xs → AreHeld S xs → IsRooted S xs
    by [] b h = tt
    by (([], f) ∷ es) b h = absurd b
    by ((c ∷ p, f) ∷ es) b h = h

module _ (S : List Object) (s : Nodes) (stage : IsStage s) (held : IsRooted S (items_of s)) where
  items_root : items_of s ≡ items_at stage.root.content (items (kids_of s))
  items_root = ap (root_items s) stage.there

  -- ---- open already

  module _ (e : stage.root.content ≡ Open) where
    items_open : items_of s ≡ items (kids_of s)
    items_open = items_root ∙ ap (λ (x : Content). items_at x (items (kids_of s))) e

    sound_open : Sound (is_held S) (kids_of s)
    sound_open = held_sound S (kids_of s) stage.sound (rooted_held S (items (kids_of s)) (below_items (kids_of s)) (subst (IsRooted S) items_open held))

    pub open_stage : IsOpen S s
    open_stage = record {
      alone = stage.alone;
      directory = record { pool = stage.pool; node = stage.root; there = stage.there; opened = e; children = stage.children; sound = stage.sound; apart = λ m. omega (arith, stage.covers m) };
      sound = sound_open;
      covers = stage.covers;
    }

    pub already_open : IsOpened S s s
    already_open = record { opened = open_stage; leaves = λ p. sym (ap (λ (x : Items). at (tree_of S x) p) items_open ∙ tree_leaf S (kids_of s) p stage.sound) }

  -- ---- unexpanded

  module _ (f : Found) (e : stage.root.content ≡ Held f) where
    pub items_held : items_of s ≡ ([], f) ∷ []
    items_held = items_root ∙ ap (λ (x : Content). items_at x (items (kids_of s))) e

    pub root_is : (f.mode ≡ Dir) × (has Tree S f.name.0 ≡ true)
    root_is = let r = subst (IsRooted S) items_held held in (r.0, r.1)

    pub root_stored : has Tree S f.name.0 ≡ true
    root_stored = root_is.1

    no_kids : kids_of s ≡ Nil
    no_kids = subst (λ (x : Content). Rattle.stage_nodes.specs.Roots.IsRootOf x (kids_of s)) e stage.leafless

    pub root_closed : IsClosed s 0 f.name
    root_closed = record {
      pool = stage.pool;
      node = stage.root;
      there = stage.there;
      held = e ∙ (λ i. Held (record { mode = root_is.0 i; name = f.name }));
      first = subst (Reads s.names.items s.cells.items stage.root.first) no_kids stage.children;
      apart = omega (arith, stage.covers 0, own_count 0, one_most (nat_lt 0 (length s.cells.items)));
    }

    pub root_opened : (t : Nodes) → IsExpanded S s t 0 f.name → IsOpened S s t
    root_opened t x = record {
      opened = record {
        alone = λ m g. root_next m g;
        directory = subst (IsDirectory t 0) (sym kids) x.directory;
        sound = subst (Sound (is_held S)) (sym kids) x.sound;
        covers = λ m. omega (arith, stage.covers m, x.counts m, ap (count m) no_kids, ap (count m) kids);
      };
      leaves = λ p. ap (λ (F : Forest). leaf_in S F p) kids ∙ x.leaves p ∙ sym (ap (λ (v : Items). at (tree_of S v) p) items_held ∙ at-put_all [] (rests (node S f)) [] p ∙ some_none (at (rests (node S f)) p) ∙ ap (λ m. at (rests (node S (record { mode = m; name = f.name }))) p) root_is.0);
    }
      where
        kids : kids_of t ≡ x.kids
        kids = children_hang t 0 x.kids x.directory

        root_next : (m : Node) → slice_get t.cells.items 0 ≡ Some m → m.next ≡ None
        root_next m g = ap (λ (v : Node). v.next) (same_node g x.directory.there) ∙ ap (λ (v : Node). v.next) (x.node stage.root stage.there) ∙ stage.alone stage.root stage.there

        some_none : (o : Option Rattle.git_objects.specs.Trees.Leaf) → first_some o None ≡ o
        some_none None = refl
        some_none (Some y) = refl

    pub root_unopened : (t : Nodes) → IsWaste s t → IsUnopened s t
    unfolding root_closed
    root_unopened t w = record {
      stage = record {
        alone = λ m g. ap (λ (v : Node). v.next) (same_node g there_t) ∙ stage.alone stage.root stage.there;
        root = stage.root;
        there = there_t;
        children = subst (Reads t.names.items t.cells.items stage.root.first) (sym kids) first_none;
        pool = w.pool;
        sound = subst (Sound any) (sym kids) tt;
        leafless = subst (λ (x : Content). Rattle.stage_nodes.specs.Roots.IsRootOf x (kids_of t)) (sym e) kids;
        covers = λ m. omega (arith, stage.covers m, w.counts m, ap (count m) no_kids, ap (count m) kids);
      };
      items = ap (root_items t) there_t ∙ ap (λ (x : Content). items_at x (items (kids_of t))) e ∙ sym items_held;
    }
      where
        there_t : slice_get t.cells.items 0 ≡ Some stage.root
        there_t = w.stay 0 stage.root root_closed.apart stage.there

        first_none : stage.root.first ≡ None
        first_none = root_closed.first

        kids : kids_of t ≡ Nil
        kids = ap (forest t.names.items t.cells.items) (first_of t.cells.items 0 stage.root there_t) ∙ forest_is t.names.items t.cells.items stage.root.first Nil first_none (λ m. omega arith)

pub of_ok : {A E : Type 0} (r : Rattle.std.proofs.Common.Result A E) (P Q : Type 0) → (P → Q) → Rattle.std.proofs.Common.OnOk r P → Rattle.std.proofs.Common.OnOk r Q
of_ok (Rattle.std.proofs.Common.Ok x) P Q f h = f h
of_ok (Rattle.std.proofs.Common.Err x) P Q f h = tt

pub of_err : {A E : Type 0} (r : Rattle.std.proofs.Common.Result A E) (P Q : Type 0) → (P → Q) → Rattle.std.proofs.Common.OnErr r P → Rattle.std.proofs.Common.OnErr r Q
of_err (Rattle.std.proofs.Common.Ok x) P Q f h = tt
of_err (Rattle.std.proofs.Common.Err x) P Q f h = f h
