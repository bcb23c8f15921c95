-- The places where directories are entered, and those where all is stored.
use Rattle.std.proofs.Common.{◌≡◌, ℕ, ◌<◌, true, List, [], ◌∷◌, ◌++◌, get_or, Option, Some, None, refl, sym, ap, subst, ◌∙◌, arith}
use Rattle.git_objects.specs.Paths.{Bytes}
use Rattle.object_store.specs.Objects.{Object}
use Rattle.path_trees.specs.declared.found.Found.{Found}
use Rattle.stage_nodes.specs.declared.nodes.Node.{Node}
use Rattle.stage_nodes.specs.declared.nodes.Nodes.{Nodes}
use Rattle.stage_nodes.specs.declared.nodes.Content.{Content}
use Rattle.stage_nodes.specs.declared.nodes.Content.TheVariants.{Held, Open}
use Rattle.stage_nodes.specs.declared.nodes.Link.{Link}
use Rattle.stage_nodes.specs.declared.nodes.Link.TheVariants.{First, Next}
use Rattle.stage_nodes.specs.Forests.{Forest, Nil, Bin, size, Sound, forest, is_link, node_component, target}
use Rattle.stage_nodes.specs.Frames.{Frame, Below, Behind, plug}
use Rattle.stage_nodes.specs.Pools.{Walks, hanging}
use Rattle.stage_nodes.specs.Leaves.{is_held}
use Rattle.stage_nodes.specs.Ways.{IsHere, IsOpen, kids_of}
use Rattle.stage_nodes.specs.Closing.{IsTurn}
use Rattle.stage_nodes.proofs.Framing.{ReadsAll}
use Rattle.stage_nodes.proofs.OnWay.{place_hangs, place_link, place_walk}
use Rattle.stage_nodes.proofs.Seeking.{IsPassed, passed}
use Rattle.stage_nodes.proofs.Unplugging.{here_at}

-- all nodes, read from the root
pub all_read : (S : List Object) (s : Nodes) → IsOpen S s → ReadsAll s.names.items s.cells.items 0 (kids_of s)
all_read S s o = record { node = o.directory.node; there = o.directory.there; opened = o.directory.opened; children = o.directory.children }

-- what is read at any place
pub here_in : (S : List Object) (s : Nodes) → IsOpen S s → (up : List Frame) (X : Forest) → plug up X ≡ kids_of s → (j : Option ℕ) × IsHere (is_held S) s.names.items s.cells.items 0 up j X
here_in S s o up X w = here_at (is_held S) s.names.items s.cells.items 0 up X (subst (ReadsAll s.names.items s.cells.items 0) (sym w) (all_read S s o)) (subst (Sound (is_held S)) (sym w) o.sound)

pub turn_first : (s : Nodes) → IsTurn s [] (First 0)
turn_first s = record { frames = []; rest = kids_of s; whole = refl; link_is = refl; entered_are = refl; tips = tt }

module _ (S : List Object) (s : Nodes) (o : IsOpen S s) (entered : List ℕ) (link : Link) (t : IsTurn s entered link) where
  here : (j : Option ℕ) × IsHere (is_held S) s.names.items s.cells.items 0 t.frames j t.rest
  here = here_in S s o t.frames t.rest t.whole

  pub turn_link : is_link s.cells.items link ≡ true
  turn_link = ap (is_link s.cells.items) t.link_is ∙ place_link S s o.directory t.frames here.0 t.rest here.1.reads_up here.1.reads t.whole

  pub turn_walk : Walks s (target s.cells.items link)
  turn_walk = subst (λ (l : Link). Walks s (target s.cells.items l)) (sym t.link_is) (place_walk S s o.directory t.frames here.0 t.rest here.1.reads_up here.1.reads t.whole)

  turn_hangs : hanging s link ≡ t.rest
  turn_hangs = ap (hanging s) t.link_is ∙ place_hangs S s o.directory t.frames here.0 t.rest here.1.reads_up here.1.reads t.whole

  pub turn_end : target s.cells.items link ≡ None → t.rest ≡ Nil
  turn_end e = sym turn_hangs ∙ Rattle.stage_nodes.proofs.Seeking.ended s.names.items s.cells.items link e

  module _ (k : ℕ) (e : Some k ≡ target s.cells.items link) (n : Node) (read : n ≡ get_or s.cells.items k n) where
    pub turn_passed : IsPassed s.names.items s.cells.items link k n
    turn_passed = passed s.names.items s.cells.items link k n e turn_walk read

    abbrev c : Bytes
    c = node_component s.names.items n

    abbrev l : Forest
    l = forest s.names.items s.cells.items n.first

    abbrev r : Forest
    r = hanging s (Next k)

    whole_here : (x : Content) → n.content ≡ x → plug t.frames (Bin k c x l r) ≡ kids_of s
    whole_here x h = (λ i. plug t.frames ((ap (λ (y : Content). Bin k c y l r) (sym h) ∙ sym turn_passed.opened ∙ turn_hangs) i)) ∙ t.whole

    pub turn_next : (f : Found) → n.content ≡ Held f → IsTurn s entered (Next k)
    turn_next f h = record { frames = Behind k c (Held f) l ∷ t.frames; rest = r; whole = whole_here (Held f) h; link_is = refl; entered_are = t.entered_are; tips = t.tips }

    pub turn_below : n.content ≡ Open → IsTurn s (entered ++ k ∷ []) (First k)
    turn_below h = record { frames = Below k c r ∷ t.frames; rest = l; whole = whole_here Open h; link_is = refl; entered_are = ap (λ (v : List ℕ). v ++ k ∷ []) t.entered_are; tips = t.tips }

    pub next_smaller : size (hanging s (Next k)) < size (hanging s link)
    next_smaller = omega (arith, ap size turn_passed.opened)

    pub below_smaller : size (hanging s (First k)) < size (hanging s link)
    below_smaller = omega (arith, ap size turn_passed.opened, ap size turn_passed.below)
