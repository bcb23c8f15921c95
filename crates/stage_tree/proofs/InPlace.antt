-- What a leaf or a stored directory is set to another one, under its number.
use Rattle.std.proofs.Common.{◌≡◌, ℕ, ◌+◌, ◌≢◌, Bool, true, false, cond, ◌==◌, List, [], ◌∷◌, ◌++◌, length, Some, None, refl, sym, ap, subst, ◌∙◌, arith}
use Rattle.std.specs.Prelude.{slice_get, slice_set, nat_lt}
use Rattle.git_objects.specs.Paths.{Bytes, Path}
use Rattle.git_objects.proofs.Basics.{same_bytes-self}
use Rattle.object_store.specs.Objects.{Object}
use Rattle.path_trees.specs.declared.found.Found.{Found}
use Rattle.stage_nodes.specs.declared.nodes.Node.{Node}
use Rattle.stage_nodes.specs.declared.nodes.Nodes.{Nodes}
use Rattle.stage_nodes.specs.declared.nodes.Content.{Content}
use Rattle.stage_nodes.specs.declared.nodes.Content.TheVariants.{Held}
use Rattle.stage_nodes.specs.declared.ways.Way.{Way}
use Rattle.stage_nodes.specs.Forests.{Forest, Nil, Bin, one, count, IsCell, IsFilled, Reads, Sound}
use Rattle.stage_nodes.specs.Frames.{Frame, plug, count_up, ReadsUp}
use Rattle.stage_nodes.specs.Pools.{IsPool, inside, spare}
use Rattle.stage_nodes.specs.Leaves.{is_held}
use Rattle.stage_nodes.specs.Ways.{IsAlone, IsOpen, IsWay, kids_of}
use Rattle.stage_nodes.specs.Branches.{after_named, reached, stem, stem_content}
use Rattle.stage_tree.specs.Sets.{IsPutAt}
use Rattle.stage_nodes.proofs.Framing.{up_kept, same_names, count_plug}
use Rattle.stage_nodes.proofs.Pools.{own_count, one_most}
use Rattle.stage_nodes.proofs.Pointing.{IsBeside, set_there, set_stay, set_beside, set_reads}
use Rattle.stage_nodes.proofs.OnWay.{IsNamed, named_of, alone_stay, stage_whole, stage_open}

module _ (S : List Object) (s t : Nodes) (o : IsOpen S s) (q : Path) (c : Bytes) (up : List Frame) (k : ℕ) (n : IsNamed S s q c up k) (g : Found) (e : n.content ≡ Held g) (f : Found) (held : is_held S (Held f) ≡ true)
    (cells : t.cells.items ≡ slice_set s.cells.items k (record n.node { content = Held f })) (names : t.names.items ≡ s.names.items) (free : t.free ≡ s.free) where
  abbrev new_node : Node
  new_node = record n.node { content = Held f }

  abbrev new : Forest
  new = Bin k c (Held f) Nil n.siblings

  leafless : n.children ≡ Nil
  leafless = subst (λ (x : Content). IsFilled x n.children) e n.sound.0.filled

  counts_at : (m : ℕ) → count_up m up + (one (m == k) + count m n.children + count m n.siblings) ≡ count m (kids_of s)
  counts_at m = sym (count_plug m up (Bin k c n.content n.children n.siblings)) ∙ ap (count m) n.whole

  pool : IsPool s
  pool = o.directory.pool

  lone : one (k == 0) + count_up k up + count k n.siblings + count k (spare s) ≡ 0
  lone = omega (arith, counts_at k, o.covers k, own_count k, one_most (nat_lt k (length s.cells.items)))

  side : IsBeside s t
  side = set_beside s t k n.node new_node n.there pool (omega (arith, lone)) cells names free

  stay_t : (m : ℕ) (v : Node) → m ≢ k → slice_get s.cells.items m ≡ Some v → slice_get t.cells.items m ≡ Some v
  stay_t m v a h = set_stay s t k n.node new_node n.there pool (omega (arith, lone)) cells names free m v a h

  around_t : ReadsUp t.names.items t.cells.items 0 up (Some k)
  around_t = subst (λ (b : Bytes). ReadsUp b t.cells.items 0 up (Some k)) (sym names)
      (up_kept s.names.items s.names.items (same_names s.names.items) s.cells.items t.cells.items 0 up (Some k) (λ m v p h. stay_t m v (λ w. absurd (omega (arith, p, lone, ap (λ (x : ℕ). one (x == 0) + count_up x up) w))) h) n.around)

  siblings_t : Reads t.names.items t.cells.items n.node.next n.siblings
  siblings_t = set_reads s t k n.node new_node n.there pool (omega (arith, lone)) cells names free n.siblings n.node.next (omega (arith, lone)) n.reads_siblings

  reads_t : Reads t.names.items t.cells.items (Some k) new
  reads_t = record {
    number = refl;
    node = new_node;
    there = set_there s t k n.node new_node n.there pool (omega (arith, lone)) cells names free;
    cell = subst (λ (b : Bytes). IsCell b new_node c (Held f)) (sym names) (record { within = n.cell.within; component = n.cell.component; content = refl });
    children = subst (Reads s.names.items s.cells.items n.node.first) leafless n.reads_children;
    siblings = siblings_t;
  }

  sound_t : Sound (is_held S) new
  sound_t = (record { component = n.sound.0.component; filled = refl; content = held }, n.sound.1, tt, n.sound.3)

  covers_t : (m : ℕ) → one (m == 0) + count_up m up + count m new + count m (spare t) ≡ inside t m
  covers_t m = omega (arith, counts_at m, o.covers m, ap (count m) leafless, ap (count m) side.spare, side.inside m)

  alone_t : IsAlone t
  alone_t = alone_stay s t o.alone o.directory.node o.directory.there (stay_t 0 o.directory.node (λ w. absurd (omega (arith, lone, own_count 0, ap (λ (x : ℕ). one (x == 0)) w))) o.directory.there)

  pub content_whole : plug up new ≡ kids_of t
  content_whole = stage_whole S t up (Some k) new side.pool around_t reads_t n.sound_up n.fits tt sound_t covers_t alone_t

  pub content_open : IsOpen S t
  content_open = stage_open S t up (Some k) new side.pool around_t reads_t n.sound_up n.fits tt sound_t covers_t alone_t

-- ---- at the end of a way

pub last_level : (n : ℕ) (w : Way) (k : ℕ) → Some k ≡ reached n w → (w.level + 1 ≡ n) × (w.spot.child ≡ Some k)
last_level n w k h = by (w.level + 1 == n) refl h
  where
    by : (b : Bool) → (w.level + 1 == n) ≡ b → Some k ≡ cond b w.spot.child None → (w.level + 1 ≡ n) × (w.spot.child ≡ Some k)
    by true e g = (grind (arith, Rattle.std.proofs.lemmas.Bool.Decides.nat_tests), sym g)
    by false e g = absurd cc

nothing_behind : (a : Path) (c : Bytes) (b p : Path) → a ++ c ∷ b ≡ p → length a + 1 ≡ length p → [] ≡ b
nothing_behind a c [] p e n = refl
nothing_behind a c (d ∷ b) p e n = absurd (omega (arith, n, ap length (sym e), Rattle.std.proofs.Common.length-append a (c ∷ d ∷ b)))

module _ (S : List Object) (s t : Nodes) (p : Path) (way : Way) (w : IsWay S s s p way.level way.spot.link way.spot.child) (k : ℕ) (last : Some k ≡ reached (length p) way) (f : Found) (held : is_held S (Held f) ≡ true) where
  abbrev at_last : (way.level + 1 ≡ length p) × (way.spot.child ≡ Some k)
  at_last = last_level (length p) way k last

  abbrev here : Rattle.stage_nodes.specs.Ways.IsPlaceOf S s w.before w.component way.spot.link (Some k)
  here = record {
    frames = w.place.frames;
    number = w.place.number;
    rest = w.place.rest;
    here = w.place.here;
    whole = w.place.whole;
    path = w.place.path;
    link_is = w.place.link_is;
    fits = w.place.fits;
    next = w.place.next;
    child_is = sym at_last.1 ∙ w.place.child_is;
  }

  pub last_node : (n : IsNamed S s w.before w.component here.frames k) × (here.rest ≡ Bin k w.component n.content n.children n.siblings)
  last_node = named_of S s w.before w.component way.spot.link k here

  pub last_none : [] ≡ w.behind
  last_none = nothing_behind w.before w.component w.behind p w.path (omega (arith, at_last.0, w.level_is))

  behind_named : after_named w.component here.rest ≡ last_node.0.siblings
  behind_named = ap (after_named w.component) last_node.1 ∙ ap (λ b. cond b last_node.0.siblings (Bin k w.component last_node.0.content last_node.0.children last_node.0.siblings)) (same_bytes-self w.component)

  module _ (g : Found) (v : Node) (read : v ≡ last_node.0.node) (e : v.content ≡ Held g)
      (cells : t.cells.items ≡ slice_set s.cells.items k (record v { content = Held f })) (names : t.names.items ≡ s.names.items) (free : t.free ≡ s.free) where
    content_is : last_node.0.content ≡ Held g
    content_is = sym last_node.0.cell.content ∙ ap (λ (x : Node). x.content) (sym read) ∙ e

    cells_is : t.cells.items ≡ slice_set s.cells.items k (record last_node.0.node { content = Held f })
    cells_is = cells ∙ ap (λ (x : Node). slice_set s.cells.items k (record x { content = Held f })) read

    pub put_in_place : IsPutAt S s t p way.level way.spot.link way.spot.child f k w
    put_in_place = record {
      opened = content_open S s t w.still.opened w.before w.component here.frames k last_node.0 g content_is f held cells_is names free;
      below = [];
      long = ap length last_none;
      whole = sym (content_whole S s t w.still.opened w.before w.component here.frames k last_node.0 g content_is f held cells_is names free)
          ∙ (λ i. plug w.place.frames (Bin k w.component (stem_content (last_none i) f) (stem [] (last_none i) f) (sym behind_named i)));
    }
