-- The way to a path, from the root down.
use Rattle.std.proofs.Common.{◌≡◌, ℕ, ◌+◌, ◌<◌, ◌≤◌, ◌≢◌, ◌⊎◌, inl, inr, Bool, true, false, cond, ◌==◌, List, [], ◌∷◌, ◌++◌, length, Option, Some, None, refl, sym, ap, subst, ◌∙◌, arith, true≢false, append_assoc}
use Rattle.std.specs.Prelude.{slice_get, nat_lt}
use Rattle.std.specs.Cmp.{first_so}
use Rattle.std.specs.Cmp.Lexicographic.{bytes_decides}
use Rattle.std.proofs.lemmas.Option.{slice_get_within}
use Rattle.git_objects.specs.Paths.{Bytes, Path, same_bytes}
use Rattle.git_objects.specs.Trees.{at}
use Rattle.git_objects.specs.Entries.{is_dir}
use Rattle.git_objects.specs.Bodies.{is_name}
use Rattle.git_objects.specs.declared.kind.Kind.TheVariants.{Tree}
use Rattle.git_objects.specs.declared.mode.Mode.TheVariants.{Dir}
use Rattle.git_objects.specs.declared.name.Name.{Name}
use Rattle.object_store.specs.Objects.{Object, IsStore, has, has_child}
use Rattle.object_store.specs.Unfolding.{flat}
use Rattle.path_trees.specs.declared.found.Found.{Found}
use Rattle.stage_nodes.specs.declared.nodes.Node.{Node}
use Rattle.stage_nodes.specs.declared.nodes.Nodes.{Nodes}
use Rattle.stage_nodes.specs.declared.nodes.Content.{Content}
use Rattle.stage_nodes.specs.declared.nodes.Content.TheVariants.{Held, Open}
use Rattle.stage_nodes.specs.declared.nodes.Link.{Link}
use Rattle.stage_nodes.specs.declared.nodes.Link.TheVariants.{First}
use Rattle.stage_nodes.specs.Forests.{Forest, Nil, Bin, one, count, IsCell, Reads, forest, target, is_link, sought, Sound}
use Rattle.stage_nodes.specs.Frames.{Frame, Below, Behind, dirs_of, plug, link_of, path_of, count_up, ReadsUp, Fits, FitsTop, Fills, SoundUp}
use Rattle.stage_nodes.specs.Pools.{IsPool, hanging, inside, spare, Walks}
use Rattle.stage_nodes.specs.Directories.{any, IsDirectory}
use Rattle.stage_nodes.specs.Leaves.{leaf_in, leaf_below, is_held}
use Rattle.stage_nodes.specs.Expanding.{IsClosed, IsExpanded, IsWaste}
use Rattle.stage_nodes.specs.Ways.{IsAlone, named_first, kids_of, IsOpen, IsStill, IsBlocked, IsPlaceOf, IsDirOf, IsInside, IsWay}
use Rattle.stage_nodes.proofs.Seeking.{inside_link}
use Rattle.stage_nodes.proofs.Framing.{reads_kept, up_kept, target_up, count_plug, ReadsAll, reads_plug}
use Rattle.stage_nodes.proofs.Pools.{own_count, one_most, forest_is, walk_is}
use Rattle.stage_nodes.proofs.Freeing.{first_of}
use Rattle.stage_nodes.proofs.Places.{IsFound, found_here, sound_plug}
use Rattle.stage_nodes.proofs.Opening.{same_node}

-- ---- what hangs at a place

module _ (S : List Object) (s : Nodes) (base : IsDirectory s 0 (kids_of s)) (up : List Frame) (j : Option ℕ) (X : Forest) (around : ReadsUp s.names.items s.cells.items 0 up j) (reads : Reads s.names.items s.cells.items j X) (whole : plug up X ≡ kids_of s) where
  pub place_counts : (m : ℕ) → count_up m up + count m X ≡ count m (kids_of s)
  place_counts m = sym (count_plug m up X) ∙ ap (count m) whole

  place_few : (m : ℕ) → count m X ≤ inside s m
  place_few m = omega (arith, place_counts m, base.apart m)

  pub place_hangs : hanging s (link_of 0 up) ≡ X
  place_hangs = ap (forest s.names.items s.cells.items) (target_up s.names.items s.cells.items 0 up j around) ∙ forest_is s.names.items s.cells.items j X reads place_few

  pub place_walk : Walks s (target s.cells.items (link_of 0 up))
  place_walk = subst (λ (o : Option ℕ). Walks s o) (sym (target_up s.names.items s.cells.items 0 up j around)) (walk_is s.names.items s.cells.items j X reads place_few)

  pub place_link : is_link s.cells.items (link_of 0 up) ≡ true
  place_link = by up j around
    where
      by : (up : List Frame) (j : Option ℕ) → ReadsUp s.names.items s.cells.items 0 up j → is_link s.cells.items (link_of 0 up) ≡ true
      by [] j h = inside_link s.names.items s.cells.items 0 (slice_get_within s.cells.items 0 h.node h.there)
      by (Below i d r ∷ up) j h = inside_link s.names.items s.cells.items i (slice_get_within s.cells.items i h.node h.there)
      by (Behind i d x l ∷ up) j h = inside_link s.names.items s.cells.items i (slice_get_within s.cells.items i h.node h.there)

-- ---- the root

unfoldable pub at_root : (S : List Object) (s : Nodes) → IsDirectory s 0 (kids_of s) → Sound (is_held S) (kids_of s) → IsDirOf S s [] 0
at_root S s o sound = record {
  frames = [];
  number = o.node.first;
  kids = kids_of s;
  here = record { reads_up = record { node = o.node; there = o.there; opened = o.opened; first = refl }; reads = o.children; sound_up = tt; sound = sound; fits = top (kids_of s) };
  whole = refl;
  path = refl;
  link_is = refl;
  fits = λ c. tt;
}
  where
    top : (F : Forest) → FitsTop [] F
    top Nil = tt
    top (Bin i d x l r) = tt

pub dir_link : (S : List Object) (s : Nodes) (q : Path) (d : ℕ) → IsDirectory s 0 (kids_of s) → IsDirOf S s q d → is_link s.cells.items (First d) ≡ true
dir_link S s q d o h = ap (is_link s.cells.items) h.link_is ∙ place_link S s o h.frames h.number h.kids h.here.reads_up h.here.reads h.whole

pub dir_walk : (S : List Object) (s : Nodes) (q : Path) (d : ℕ) → IsDirectory s 0 (kids_of s) → IsDirOf S s q d → Walks s (target s.cells.items (First d))
dir_walk S s q d o h = subst (λ (l : Link). Walks s (target s.cells.items l)) (sym h.link_is) (place_walk S s o h.frames h.number h.kids h.here.reads_up h.here.reads h.whole)

-- where a search ends is a place
unfoldable pub place_found : (S : List Object) (s : Nodes) (q : Path) (c : Bytes) (link : Link) (child : Option ℕ) (up : List Frame) (X : Forest) → IsDirectory s 0 (kids_of s) → (found : IsFound (is_held S) s.names.items s.cells.items 0 c up X) → plug up X ≡ kids_of s → path_of up ≡ q → link ≡ link_of 0 found.frames → child ≡ named_first c (hanging s link) → IsPlaceOf S s q c link child
place_found S s q c link child up X o found whole path at_link f = record {
  frames = found.frames;
  number = found.number;
  rest = found.rest;
  here = found.here;
  whole = found.whole ∙ whole;
  path = found.path ∙ path;
  link_is = at_link;
  fits = found.fits;
  next = found.next;
  child_is = f ∙ ap (named_first c) (ap (hanging s) at_link ∙ place_hangs S s o found.frames found.number found.rest found.here.reads_up found.here.reads (found.whole ∙ whole));
}

-- a component's place in a directory
pub place_in : (S : List Object) (s : Nodes) (q : Path) (d : ℕ) (c : Bytes) (link : Link) (child : Option ℕ) → IsDirectory s 0 (kids_of s) → IsDirOf S s q d → link ≡ sought c (First d) (hanging s (First d)) → child ≡ named_first c (hanging s link) → IsPlaceOf S s q c link child
place_in S s q d c link child o h e f =
    let found : IsFound (is_held S) s.names.items s.cells.items 0 c h.frames h.kids = found_here (is_held S) s.names.items s.cells.items 0 c h.kids h.frames h.number h.here (h.fits c) in
    let at_link : link ≡ link_of 0 found.frames =
    e ∙ (λ i. sought c (h.link_is i) (hanging s (h.link_is i))) ∙ ap (sought c (link_of 0 h.frames)) (place_hangs S s o h.frames h.number h.kids h.here.reads_up h.here.reads h.whole) ∙ sym found.link in
    place_found S s q c link child h.frames h.kids o found h.whole h.path at_link f

-- ---- a node that has the component

pub record IsNamed (S : List Object) (s : Nodes) (q : Path) (c : Bytes) (frames : List Frame) (k : ℕ) : Type 0 where
  pub content : Content
  pub children : Forest
  pub siblings : Forest
  pub node : Node
  pub there : slice_get s.cells.items k ≡ Some node
  pub cell : IsCell s.names.items node c content
  pub reads_children : Reads s.names.items s.cells.items node.first children
  pub reads_siblings : Reads s.names.items s.cells.items node.next siblings
  pub around : ReadsUp s.names.items s.cells.items 0 frames (Some k)
  pub sound_up : SoundUp (is_held S) frames
  pub sound : Sound (is_held S) (Bin k c content children siblings)
  pub fits : Fits frames c
  pub whole : plug frames (Bin k c content children siblings) ≡ kids_of s
  pub path : path_of frames ≡ q

some_named : (b : Bool) (i k : ℕ) → Some k ≡ cond b (Some i) None → (b ≡ true) × (k ≡ i)
some_named true i k h = (refl, cc)
some_named false i k h = absurd cc

pub named_of : (S : List Object) (s : Nodes) (q : Path) (c : Bytes) (link : Link) (k : ℕ) (h : IsPlaceOf S s q c link (Some k)) → (n : IsNamed S s q c h.frames k) × (h.rest ≡ Bin k c n.content n.children n.siblings)
named_of S s q c link k h = by h.rest h.here.reads h.here.sound h.whole h.child_is h.here.fits
  where
    by : (X : Forest) → Reads s.names.items s.cells.items h.number X → Sound (is_held S) X → plug h.frames X ≡ kids_of s → Some k ≡ named_first c X → FitsTop h.frames X → (n : IsNamed S s q c h.frames k) × (X ≡ Bin k c n.content n.children n.siblings)
    by Nil r o w e f = absurd cc
    by (Bin i d x l m) r o w e f =
        let t = some_named (same_bytes c d) i k e in
        let cd : c ≡ d = (bytes_decides c d).0 t.0 in (
          record {
            content = x;
            children = l;
            siblings = m;
            node = r.node;
            there = ap (slice_get s.cells.items) t.1 ∙ r.there;
            cell = subst (λ (b : Bytes). IsCell s.names.items r.node b x) (sym cd) r.cell;
            reads_children = r.children;
            reads_siblings = r.siblings;
            around = subst (λ (v : Option ℕ). ReadsUp s.names.items s.cells.items 0 h.frames v) (r.number ∙ ap Some (sym t.1)) h.here.reads_up;
            sound_up = h.here.sound_up;
            sound = subst (λ (b : Bytes). Sound (is_held S) (Bin k b x l m)) (sym cd) o;
            fits = h.fits;
            whole = (λ v. plug h.frames (Bin (t.1 v) (cd v) x l m)) ∙ w;
            path = h.path;
          },
          λ v. Bin (sym t.1 v) (sym cd v) x l m,
        )

-- ---- a directory entered

pub leaf_same : (S : List Object) (up : List Frame) (X Y : Forest) → ((p : Path) → leaf_in S X p ≡ leaf_in S Y p) → (p : Path) → leaf_in S (plug up X) p ≡ leaf_in S (plug up Y) p
leaf_same S [] X Y h p = h p
leaf_same S (Below k c r ∷ up) X Y h p = leaf_same S up (Bin k c Open X r) (Bin k c Open Y r) by p
  where
    by : (p : Path) → leaf_in S (Bin k c Open X r) p ≡ leaf_in S (Bin k c Open Y r) p
    by [] = refl
    by (d ∷ p) = ap (λ o. cond (same_bytes d c) o (leaf_in S r (d ∷ p))) (h p)
leaf_same S (Behind k c x l ∷ up) X Y h p = leaf_same S up (Bin k c x l X) (Bin k c x l Y) by p
  where
    by : (p : Path) → leaf_in S (Bin k c x l X) p ≡ leaf_in S (Bin k c x l Y) p
    by [] = refl
    by (d ∷ p) = ap (cond (same_bytes d c) (leaf_below S x (leaf_in S l) p)) (h (d ∷ p))

beneath_top : (k : ℕ) (c : Bytes) (r : Forest) (up : List Frame) (F : Forest) → FitsTop (Below k c r ∷ up) F
beneath_top k c r up Nil = tt
beneath_top k c r up (Bin i d x l m) = tt

-- an open directory
pub dir_in : (S : List Object) (s : Nodes) (q : Path) (c : Bytes) (up : List Frame) (k : ℕ) (n : IsNamed S s q c up k) → n.content ≡ Open → IsDirOf S s (q ++ c ∷ []) k
dir_in S s q c up k n e = record {
  frames = Below k c n.siblings ∷ up;
  number = n.node.first;
  kids = n.children;
  here = record {
    reads_up = record { node = n.node; there = n.there; cell = subst (IsCell s.names.items n.node c) e n.cell; first = refl; siblings = n.reads_siblings; up = n.around };
    reads = n.reads_children;
    sound_up = (n.sound.0.component, refl, n.sound.1, n.sound.3, n.fits, n.sound_up);
    sound = n.sound.2;
    fits = beneath_top k c n.siblings up n.children;
  };
  whole = ap (λ (x : Content). plug up (Bin k c x n.children n.siblings)) (sym e) ∙ n.whole;
  path = ap (λ (p : Path). p ++ c ∷ []) n.path;
  link_is = refl;
  fits = λ d. tt;
}

-- the same, with the numbers of the directories on the way
pub inside_in : (S : List Object) (s : Nodes) (q : Path) (c : Bytes) (up : List Frame) (k : ℕ) (n : IsNamed S s q c up k) → n.content ≡ Open → IsInside S s (q ++ c ∷ []) (dirs_of up ++ k ∷ []) k
unfolding dir_in
inside_in S s q c up k n e = record { directory = dir_in S s q c up k n e; numbers = refl }

pub still_same : (S : List Object) (s : Nodes) → IsOpen S s → IsStill S s s
still_same S s o = record { opened = o; leaves = λ p. refl }

-- ---- the root has no sibling

pub alone_stay : (s t : Nodes) → IsAlone s → (r : Node) → slice_get s.cells.items 0 ≡ Some r → slice_get t.cells.items 0 ≡ Some r → IsAlone t
alone_stay s t h r e g n f = ap (λ (m : Node). m.next) (same_node f g) ∙ h r e

pub base_there : (names : Bytes) (ns : List Node) (up : List Frame) (j : Option ℕ) → ReadsUp names ns 0 up j → (r : Node) × (slice_get ns 0 ≡ Some r)
base_there names ns [] j h = (h.node, h.there)
base_there names ns (Below k c r ∷ up) j h = base_there names ns up (Some k) h.up
base_there names ns (Behind k c x l ∷ up) j h = base_there names ns up (Some k) h.up

pub alone_pointed : (s t : Nodes) (up : List Frame) (i : Option ℕ) → IsAlone s → (r : Node) → slice_get s.cells.items 0 ≡ Some r → one (Rattle.stage_nodes.proofs.Framing.holder 0 up == 0) + count_up (Rattle.stage_nodes.proofs.Framing.holder 0 up) up ≤ 1 → t.cells.items ≡ Rattle.stage_nodes.specs.Frames.pointed s.cells.items (link_of 0 up) i → IsAlone t
alone_pointed s t up i h r e single cells n f =
    ap (λ (m : Node). m.next) (Rattle.stage_nodes.proofs.Pointing.base_written s.cells.items 0 up i r n single e (ap (λ (v : List Node). slice_get v 0) (sym cells) ∙ f)) ∙ h r e

-- ---- a whole stage, seen from a place

pub sound_any : (p : Content → Bool) (F : Forest) → Sound p F → Sound any F
sound_any p Nil h = tt
sound_any p (Bin k c x l r) h = (record { component = h.0.component; filled = h.0.filled; content = refl }, h.1, sound_any p l h.2, sound_any p r h.3)

module _ (S : List Object) (s : Nodes) (up : List Frame) (j : Option ℕ) (X : Forest) (pool : IsPool s) (around : ReadsUp s.names.items s.cells.items 0 up j) (reads : Reads s.names.items s.cells.items j X) (sound_up : SoundUp (is_held S) up) (fits : FitsTop up X) (fills : Fills up X) (sound : Sound (is_held S) X) (covers : (m : ℕ) → one (m == 0) + count_up m up + count m X + count m (spare s) ≡ inside s m) (alone : IsAlone s) where
  abbrev all : ReadsAll s.names.items s.cells.items 0 (plug up X)
  all = reads_plug s.names.items s.cells.items 0 up j X around reads

  all_few : (m : ℕ) → count m (plug up X) ≤ inside s m
  all_few m = omega (arith, covers m, count_plug m up X)

  pub stage_whole : plug up X ≡ kids_of s
  stage_whole = sym (ap (forest s.names.items s.cells.items) (first_of s.cells.items 0 all.node all.there) ∙ forest_is s.names.items s.cells.items all.node.first (plug up X) all.children all_few)

  pub stage_open : IsOpen S s
  stage_open = subst (λ (K : Forest). IsDirectory s 0 K × Sound (is_held S) K × ((m : ℕ) → one (m == 0) + count m K + count m (spare s) ≡ inside s m) → IsOpen S s) refl made given
    where
      given : IsDirectory s 0 (kids_of s) × Sound (is_held S) (kids_of s) × ((m : ℕ) → one (m == 0) + count m (kids_of s) + count m (spare s) ≡ inside s m)
      given = subst (λ (K : Forest). IsDirectory s 0 K × Sound (is_held S) K × ((m : ℕ) → one (m == 0) + count m K + count m (spare s) ≡ inside s m)) stage_whole (
        record {
          pool = pool;
          node = all.node;
          there = all.there;
          opened = all.opened;
          children = all.children;
          sound = sound_any (is_held S) (plug up X) (sound_plug (is_held S) up X sound_up fits fills sound);
          apart = λ m. omega (arith, covers m, count_plug m up X);
        },
        sound_plug (is_held S) up X sound_up fits fills sound,
        λ m. omega (arith, covers m, count_plug m up X),
      )

      made : IsDirectory s 0 (kids_of s) × Sound (is_held S) (kids_of s) × ((m : ℕ) → one (m == 0) + count m (kids_of s) + count m (spare s) ≡ inside s m) → IsOpen S s
      made g = record { alone = alone; directory = g.0; sound = g.1; covers = g.2 }

-- one that no path has gone through
module _ (S : List Object) (s : Nodes) (opened : IsOpen S s) (q : Path) (c : Bytes) (up : List Frame) (k : ℕ) (n : IsNamed S s q c up k) (name : Name) (e : n.content ≡ Held (record { mode = Dir; name = name })) where
  leafless : n.children ≡ Nil
  leafless = subst (λ (x : Content). Rattle.stage_nodes.specs.Forests.IsFilled x n.children) e n.sound.0.filled

  counts_k : (m : ℕ) → count_up m up + (one (m == k) + count m n.children + count m n.siblings) ≡ count m (kids_of s)
  counts_k m = sym (count_plug m up (Bin k c n.content n.children n.siblings)) ∙ ap (count m) n.whole

  pub is_closed : IsClosed s k name
  is_closed = record {
    pool = opened.directory.pool;
    node = n.node;
    there = n.there;
    held = n.cell.content ∙ e;
    first = subst (Reads s.names.items s.cells.items n.node.first) leafless n.reads_children;
    apart = omega (arith, counts_k k, opened.covers k, own_count k, one_most (nat_lt k (length s.cells.items)));
  }

  pub is_stored : has Tree S name.0 ≡ true
  is_stored =
      let held : is_held S (Held (record { mode = Dir; name = name })) ≡ true = ap (is_held S) (sym e) ∙ n.sound.0.content in
      first_so (has Tree S name.0) _ (first_so (has_child S Dir name.0) (is_name name.0) held)

  -- the stored tree isn't empty
  no_leaf : (t : Rattle.git_objects.specs.Trees.Flat) → Rattle.object_store.proofs.Unfolding.IsFull t → ((p : Path) → None ≡ at t p) → ⊥
  no_leaf [] f h = f
  no_leaf (d ∷ t) f h = absurd (let g : None ≡ Some d.1 = h d.0 ∙ ap (λ b. cond b (Some d.1) (at t d.0)) ((Rattle.git_objects.proofs.Order.path_decides d.0 d.0).1 refl) in cc)

  module _ (s' : Nodes) (x : IsExpanded S s s' k name) (st : IsStore S) where
    held_child : has_child S Dir name.0 ≡ true
    held_child =
        let held : is_held S (Held (record { mode = Dir; name = name })) ≡ true = ap (is_held S) (sym e) ∙ n.sound.0.content in
        first_so (has_child S Dir name.0) (is_name name.0) held

    filled : (F : Forest) → ((p : Path) → leaf_in S F p ≡ at (flat S name.0) p) → Rattle.stage_nodes.specs.Forests.IsFilled Open F
    filled Nil h = no_leaf (flat S name.0) (Rattle.path_trees.proofs.Apart.rests_full S st Dir name.0 held_child) h
    filled (Bin i d y l r) h = tt

    same : record x.directory.node { first = n.node.first; content = n.node.content } ≡ n.node
    same = x.node n.node n.there

    cell : IsCell s'.names.items x.directory.node c Open
    cell =
        let was = Rattle.stage_nodes.proofs.Framing.cell_kept s.names.items s'.names.items x.names n.node c n.content n.cell in
        let a : x.directory.node.at ≡ n.node.at = ap (λ (v : Node). v.at) same in
        let b : x.directory.node.len ≡ n.node.len = ap (λ (v : Node). v.len) same in
        record {
          within = omega (arith, was.within);
          component = (λ i. Rattle.std.specs.Prelude.slice_range s'.names.items (a i) (a i + b i)) ∙ was.component;
          content = x.directory.opened;
        }

    free_of : (m : ℕ) → 0 < one (m == 0) + count_up m up + count m n.siblings → one (m == k) + count m (spare s) ≡ 0
    free_of m h = omega (arith, counts_k m, opened.covers m, one_most (nat_lt m (length s.cells.items)))

    reads_siblings : Reads s'.names.items s'.cells.items x.directory.node.next n.siblings
    reads_siblings =
        subst (λ (o : Option ℕ). Reads s'.names.items s'.cells.items o n.siblings) (ap (λ (v : Node). v.next) (sym same))
        (reads_kept s.names.items s'.names.items x.names s.cells.items s'.cells.items n.siblings n.node.next (λ m v g h. x.stay m v (free_of m (omega arith)) h) n.reads_siblings)

    around : ReadsUp s'.names.items s'.cells.items 0 up (Some k)
    around = up_kept s.names.items s'.names.items x.names s.cells.items s'.cells.items 0 up (Some k) (λ m v g h. x.stay m v (free_of m (omega arith)) h) n.around

    abbrev new : Forest
    new = Bin k c Open x.kids n.siblings

    reads_new : Reads s'.names.items s'.cells.items (Some k) new
    reads_new = record { number = refl; node = x.directory.node; there = x.directory.there; cell = cell; children = x.directory.children; siblings = reads_siblings }

    sound_new : Sound (is_held S) new
    sound_new = (record { component = n.sound.0.component; filled = filled x.kids x.leaves; content = refl }, n.sound.1, x.sound, n.sound.3)

    covers : (m : ℕ) → one (m == 0) + count_up m up + count m new + count m (spare s') ≡ inside s' m
    covers m = omega (arith, counts_k m, opened.covers m, x.counts m, ap (count m) leafless)

    alone_new : IsAlone s'
    alone_new = alone_stay s s' opened.alone opened.directory.node opened.directory.there (x.stay 0 opened.directory.node (free_of 0 (omega (arith, own_count 0))) opened.directory.there)

    pub whole_new : plug up new ≡ kids_of s'
    whole_new = stage_whole S s' up (Some k) new x.directory.pool around reads_new n.sound_up n.fits tt sound_new covers alone_new

    pub open_new : IsOpen S s'
    open_new = stage_open S s' up (Some k) new x.directory.pool around reads_new n.sound_up n.fits tt sound_new covers alone_new

    pub still_new : IsStill S s s'
    still_new = record {
      opened = open_new;
      leaves = λ p. ap (λ (F : Forest). leaf_in S F p) (sym whole_new) ∙ leaf_same S up new (Bin k c n.content n.children n.siblings) alike p ∙ ap (λ (F : Forest). leaf_in S F p) n.whole;
    }
      where
        alike : (p : Path) → leaf_in S new p ≡ leaf_in S (Bin k c n.content n.children n.siblings) p
        alike [] = refl
        alike (d ∷ p) = ap (λ o. cond (same_bytes d c) o (leaf_in S n.siblings (d ∷ p))) (x.leaves p ∙ ap (λ (y : Content). leaf_below S y (leaf_in S n.children) p) (sym e))

    pub named_new : IsNamed S s' q c up k
    named_new = record {
      content = Open;
      children = x.kids;
      siblings = n.siblings;
      node = x.directory.node;
      there = x.directory.there;
      cell = cell;
      reads_children = x.directory.children;
      reads_siblings = reads_siblings;
      around = around;
      sound_up = n.sound_up;
      sound = sound_new;
      fits = n.fits;
      whole = whole_new;
      path = n.path;
    }

    pub inside_new : IsInside S s' (q ++ c ∷ []) (dirs_of up ++ k ∷ []) k
    unfolding named_new
    inside_new = inside_in S s' q c up k named_new refl

-- nothing but free nodes has changed
module _ (S : List Object) (s s' : Nodes) (opened : IsOpen S s) (w : IsWaste s s') where
  waste_stay : (m : ℕ) (v : Node) → 0 < one (m == 0) + count m (kids_of s) → slice_get s.cells.items m ≡ Some v → slice_get s'.cells.items m ≡ Some v
  waste_stay m v g h = w.stay m v (omega (arith, opened.covers m, one_most (nat_lt m (length s.cells.items)))) h

  abbrev waste_node : Node
  waste_node = opened.directory.node

  waste_up : ReadsUp s'.names.items s'.cells.items 0 [] waste_node.first
  waste_up = record { node = waste_node; there = waste_stay 0 waste_node (omega (arith, own_count 0)) opened.directory.there; opened = opened.directory.opened; first = refl }

  waste_reads : Reads s'.names.items s'.cells.items waste_node.first (kids_of s)
  waste_reads = reads_kept s.names.items s'.names.items w.names s.cells.items s'.cells.items (kids_of s) waste_node.first (λ m v g h. waste_stay m v (omega arith) h) opened.directory.children

  waste_covers : (m : ℕ) → one (m == 0) + 0 + count m (kids_of s) + count m (spare s') ≡ inside s' m
  waste_covers m = omega (arith, opened.covers m, w.counts m)

  waste_top : (F : Forest) → FitsTop [] F
  waste_top Nil = tt
  waste_top (Bin i d x l r) = tt

  waste_fill : (F : Forest) → Fills [] F
  waste_fill Nil = tt
  waste_fill (Bin i d x l r) = tt

  waste_alone : IsAlone s'
  waste_alone = alone_stay s s' opened.alone opened.directory.node opened.directory.there (waste_stay 0 opened.directory.node (omega (arith, own_count 0)) opened.directory.there)

  pub waste_still : IsStill S s s'
  waste_still = record {
    opened = stage_open S s' [] waste_node.first (kids_of s) w.pool waste_up waste_reads tt (waste_top (kids_of s)) (waste_fill (kids_of s)) opened.sound waste_covers waste_alone;
    leaves = λ p. ap (λ (F : Forest). leaf_in S F p) (sym (stage_whole S s' [] waste_node.first (kids_of s) w.pool waste_up waste_reads tt (waste_top (kids_of s)) (waste_fill (kids_of s)) opened.sound waste_covers waste_alone));
  }

-- ---- the node that was read

pub dir_mode : (f : Found) → is_dir f.mode ≡ true → f ≡ record { mode = Dir; name = f.name }
dir_mode f h = λ i. record { mode = is_it f.mode h i; name = f.name }
  where
    is_it : (m : Rattle.git_objects.specs.declared.mode.Mode.Mode) → is_dir m ≡ true → m ≡ Dir
    is_it Rattle.git_objects.specs.declared.mode.Mode.TheVariants.File h = absurd (true≢false (sym h))
    is_it Rattle.git_objects.specs.declared.mode.Mode.TheVariants.Exec h = absurd (true≢false (sym h))
    is_it Rattle.git_objects.specs.declared.mode.Mode.TheVariants.Link h = absurd (true≢false (sym h))
    is_it Rattle.git_objects.specs.declared.mode.Mode.TheVariants.Module h = absurd (true≢false (sym h))
    is_it Dir h = refl

module _ (S : List Object) (s : Nodes) (q : Path) (c : Bytes) (link : Link) (child : Option ℕ) (k : ℕ) (here : IsPlaceOf S s q c link child) (e : child ≡ Some k) (v : Node) (read : v ≡ Rattle.std.proofs.Common.get_or s.cells.items k v) where
  abbrev at_k : IsPlaceOf S s q c link (Some k)
  at_k = subst (IsPlaceOf S s q c link) e here

  pub child_inside : k < length s.cells.items
  child_inside = let n = (named_of S s q c link k at_k).0 in slice_get_within s.cells.items k n.node n.there

  read_is : (n : Node) → slice_get s.cells.items k ≡ Some n → v ≡ n
  read_is n h = read ∙ Rattle.std.proofs.lemmas.Option.get_or_from_slice_get s.cells.items k n v h

  -- an open directory
  pub open_dir : v.content ≡ Open → IsInside S s (q ++ c ∷ []) (dirs_of here.frames ++ k ∷ []) k
  open_dir h =
      subst (λ (o : Option ℕ). (w : IsPlaceOf S s q c link o) → IsInside S s (q ++ c ∷ []) (dirs_of w.frames ++ k ∷ []) k) (sym e)
      (λ w. let n = (named_of S s q c link k w).0 in inside_in S s q c w.frames k n (sym n.cell.content ∙ ap (λ (x : Node). x.content) (sym (read_is n.node n.there)) ∙ h)) here

  -- a leaf
  pub leaf_blocks : (f : Found) → v.content ≡ Held f → is_dir f.mode ≡ false → IsBlocked c here.rest
  leaf_blocks f h d = by here.rest here.here.reads (sym here.child_is ∙ e)
    where
      on_false : (x : Content) (i : ℕ) (b : Bytes) (l m : Forest) → same_bytes c b ≡ false → IsBlocked c (Bin i b x l m)
      on_false Open i b l m g = g
      on_false (Held y) i b l m g = inl g

      by : (X : Forest) → Reads s.names.items s.cells.items here.number X → named_first c X ≡ Some k → IsBlocked c X
      by Nil r g = tt
      by (Bin i b x l m) r g =
          elim (same_bytes c b) as (λ t. same_bytes c b ≡ t → cond t (Some i) None ≡ Some k → IsBlocked c (Bin i b x l m)) [
            | true ↦ λ p w.
                let same : i ≡ k = cc in
                let is : x ≡ Held f = sym r.cell.content ∙ ap (λ (y : Node). y.content) (sym (read_is r.node (ap (slice_get s.cells.items) (sym same) ∙ r.there))) ∙ h in
                subst (λ (y : Content). IsBlocked c (Bin i b y l m)) (sym is) (inr d)
            | false ↦ λ p w. on_false x i b l m p
          ] refl g

  module _ (opened : IsOpen S s) (f : Found) (h : v.content ≡ Held f) (d : is_dir f.mode ≡ true) where
    held_dir : (n : Node) → slice_get s.cells.items k ≡ Some n → (x : Content) → n.content ≡ x → x ≡ Held (record { mode = Dir; name = f.name })
    held_dir n there x e = sym e ∙ ap (λ (y : Node). y.content) (sym (read_is n there)) ∙ h ∙ ap Held (dir_mode f d)

    pub content_is : (n : IsNamed S s q c at_k.frames k) → n.content ≡ Held (record { mode = Dir; name = f.name })
    content_is n = held_dir n.node n.there n.content n.cell.content

    pub child_closed : IsClosed s k f.name
    child_closed = let n = (named_of S s q c link k at_k).0 in is_closed S s opened q c at_k.frames k n f.name (content_is n)

    pub child_stored : has Tree S f.name.0 ≡ true
    child_stored = let n = (named_of S s q c link k at_k).0 in is_stored S s opened q c at_k.frames k n f.name (content_is n)

    pub child_still : (s' : Nodes) → IsExpanded S s s' k f.name → IsStore S → IsStill S s s'
    child_still s' x st = let n = (named_of S s q c link k at_k).0 in still_new S s opened q c at_k.frames k n f.name (content_is n) s' x st

    pub child_dir : (s' : Nodes) → IsExpanded S s s' k f.name → IsStore S → IsInside S s' (q ++ c ∷ []) (dirs_of here.frames ++ k ∷ []) k
    child_dir s' x st =
        subst (λ (o : Option ℕ). (w : IsPlaceOf S s q c link o) → IsInside S s' (q ++ c ∷ []) (dirs_of w.frames ++ k ∷ []) k) (sym e)
        (λ w. let n = (named_of S s q c link k w).0 in inside_new S s opened q c w.frames k n f.name (held_dir n.node n.there n.content n.cell.content) s' x st) here

pub nothing_blocks : (S : List Object) (s : Nodes) (q : Path) (c : Bytes) (link : Link) (child : Option ℕ) (here : IsPlaceOf S s q c link child) → child ≡ None → IsBlocked c here.rest
nothing_blocks S s q c link child here e = by here.rest (sym here.child_is ∙ e)
  where
    on_false : (x : Content) (i : ℕ) (b : Bytes) (l m : Forest) → same_bytes c b ≡ false → IsBlocked c (Bin i b x l m)
    on_false Open i b l m g = g
    on_false (Held y) i b l m g = inl g

    by : (X : Forest) → named_first c X ≡ None → IsBlocked c X
    by Nil g = tt
    by (Bin i b x l m) g = elim (same_bytes c b) as (λ t. same_bytes c b ≡ t → cond t (Some i) None ≡ None → IsBlocked c (Bin i b x l m)) [
      | true ↦ λ p w. absurd cc
      | false ↦ λ p w. on_false x i b l m p
    ] refl g

-- ---- one component more

pub split_at : (p : Path) (k : ℕ) (c : Bytes) → k < length p → c ≡ Rattle.std.proofs.Common.get_or p k c → Rattle.std.proofs.Common.take k p ++ c ∷ Rattle.std.proofs.Common.drop (k + 1) p ≡ p
split_at p k c h e =
    sym (append_assoc (Rattle.std.proofs.Common.take k p) (c ∷ []) (Rattle.std.proofs.Common.drop (k + 1) p))
    ∙ ap (λ (q : Path). q ++ Rattle.std.proofs.Common.drop (k + 1) p) (sym (more p k c h e))
    ∙ Rattle.std.proofs.lemmas.List.take-append-drop (k + 1) p
  where
    more : (p : Path) (k : ℕ) (c : Bytes) → k < length p → c ≡ Rattle.std.proofs.Common.get_or p k c → Rattle.std.proofs.Common.take (k + 1) p ≡ Rattle.std.proofs.Common.take k p ++ c ∷ []
    more p k c h e = Rattle.std.proofs.lemmas.List.take_more p k c h ∙ (λ i. Rattle.std.proofs.Common.take k p ++ sym e i ∷ [])

pub one_longer : (p : Path) (k : ℕ) (c : Bytes) → k < length p → c ≡ Rattle.std.proofs.Common.get_or p k c → Rattle.std.proofs.Common.take k p ++ c ∷ [] ≡ Rattle.std.proofs.Common.take (k + 1) p
one_longer p k c h e = sym (Rattle.std.proofs.lemmas.List.take_more p k c h ∙ (λ i. Rattle.std.proofs.Common.take k p ++ sym e i ∷ []))

module _ (S : List Object) (s0 s : Nodes) (p : Path) (k d : ℕ) (dir : IsDirOf S s (Rattle.std.proofs.Common.take k p) d) (still : IsStill S s0 s) (c : Bytes) (within : k < length p) (own : c ≡ Rattle.std.proofs.Common.get_or p k c) (link : Link) (child : Option ℕ) (e : link ≡ sought c (First d) (hanging s (First d))) (f : child ≡ named_first c (hanging s link)) where
  pub here_now : IsPlaceOf S s (Rattle.std.proofs.Common.take k p) c link child
  here_now = place_in S s (Rattle.std.proofs.Common.take k p) d c link child still.opened.directory dir e f

  ends : (Rattle.std.proofs.Common.drop (k + 1) p ≡ []) ⊎ IsBlocked c here_now.rest → IsWay S s0 s p k link child
  ends h = record {
    still = still;
    component = c;
    before = Rattle.std.proofs.Common.take k p;
    behind = Rattle.std.proofs.Common.drop (k + 1) p;
    path = split_at p k c within own;
    level_is = Rattle.std.proofs.Common.length-take k p ∙ omega arith;
    place = here_now;
    ended = h;
  }

  pub way_last : k + 1 ≡ length p → IsWay S s0 s p k link child
  way_last h = ends (inl (Rattle.std.proofs.lemmas.List.drop_all (k + 1) p (omega arith)))

  pub way_blocked : (s' : Nodes) → s' ≡ s → ((q : Path) (b : Bytes) (l : Link) → (at : IsPlaceOf S s q b l child) → IsBlocked b at.rest) → IsWay S s0 s' p k link child
  way_blocked s' g h = subst (λ (v : Nodes). IsWay S s0 v p k link child) (sym g) (ends (inr (h (Rattle.std.proofs.Common.take k p) c link here_now)))

pub still_on : (S : List Object) (s t u : Nodes) → IsStill S s t → IsStill S t u → IsStill S s u
still_on S s t u h g = record { opened = g.opened; leaves = λ p. g.leaves p ∙ h.leaves p }
