-- A copy put at a path.
use Rattle.std.proofs.Common.{◌≡◌, ℕ, ◌+◌, ◌<◌, ◌≤◌, Bool, true, cond, ◌==◌, List, [], ◌∷◌, ◌++◌, length, drop, Option, Some, refl, sym, ap, subst, ◌∙◌, arith}
use Rattle.std.specs.Prelude.{slice_get, nat_lt}
use Rattle.std.specs.List.{list_all}
use Rattle.std.proofs.lemmas.List.{drop_at}
use Rattle.std.proofs.lemmas.Option.{slice_get_within}
use Rattle.git_objects.specs.Paths.{Bytes, Path, is_component, same_bytes}
use Rattle.git_objects.specs.Trees.{Flat, at, put}
use Rattle.git_objects.proofs.Basics.{same_bytes-self}
use Rattle.object_store.specs.Objects.{Object}
use Rattle.stage_nodes.specs.declared.nodes.Node.{Node}
use Rattle.stage_nodes.specs.declared.nodes.Nodes.{Nodes}
use Rattle.stage_nodes.specs.declared.nodes.Content.{Content}
use Rattle.stage_nodes.specs.declared.nodes.Content.TheVariants.{Held, Open}
use Rattle.stage_nodes.specs.declared.nodes.Link.{Link}
use Rattle.stage_tree.specs.Copies.{CanCopy, IsAlike, IsCopied, IsDuplicated}
use Rattle.std.specs.declared.cmp.Ordering.TheVariants.{Less}
use Rattle.stage_nodes.proofs.Branching.{kept_on}
use Rattle.stage_nodes.specs.Forests.{Forest, Nil, Bin, Beyond, IsFilled, bytes_cmp, one, count, Reads, forest, Sound}
use Rattle.stage_nodes.specs.Frames.{Frame, count_up}
use Rattle.stage_nodes.specs.Pools.{CanFree, IsFreed, IsKept, IsPool, inside, spare}
use Rattle.stage_nodes.specs.Directories.{IsDirectory}
use Rattle.stage_nodes.specs.Leaves.{leaf_below, leaf_in, is_held}
use Rattle.stage_nodes.specs.Expanding.{IsWaste}
use Rattle.stage_nodes.specs.Ways.{IsPlaceOf, IsStill, kids_of}
use Rattle.stage_nodes.specs.Branches.{HasSpot, IsReplaced, Stands}
use Rattle.stage_tree.specs.Renames.{CanMove, IsGraft, trunk, trunk_content}
use Rattle.stage_nodes.specs.Walks.{IsStop, IsWalkable}
use Rattle.stage_nodes.proofs.Framing.{count_plug, reads_kept, up_kept}
use Rattle.stage_nodes.proofs.Pools.{forest_is, inside_one, one_most, own_count, walk_is}
use Rattle.stage_nodes.proofs.Freeing.{first_of}
use Rattle.stage_nodes.proofs.Leaves.{leaf_plug}
use Rattle.stage_nodes.proofs.PutLeaves.{put_there}
use Rattle.stage_nodes.proofs.OnWay.{IsNamed, alone_stay, named_of, waste_still}
use Rattle.stage_tree.proofs.Putting.{all_behind}
use Rattle.stage_tree.proofs.Grafting.{count_trunk}
use Rattle.stage_tree.proofs.TrunkLeaves.{sound_trunk, trunk_new}

-- ---- nodes that differ in their numbers

alike_beyond : (c : Bytes) (F G : Forest) → IsAlike F G → Beyond c F → Beyond c G
alike_beyond c Nil Nil a b = tt
alike_beyond c Nil (Bin j d y m w) a b = absurd a
alike_beyond c (Bin i e x l r) Nil a b = absurd a
alike_beyond c (Bin i e x l r) (Bin j d y m w) a b = (subst (λ (v : Bytes). bytes_cmp c v ≡ Less) a.0 b.0, alike_beyond c r w a.3 b.1)

alike_filled : (x : Content) (F G : Forest) → IsAlike F G → IsFilled x F → IsFilled x G
alike_filled (Held f) Nil Nil a h = refl
alike_filled (Held f) Nil (Bin j d y m w) a h = absurd a
alike_filled (Held f) (Bin i e x l r) G a h = absurd (no_nil h)
  where
    no_nil : Bin i e x l r ≡ Nil → ⊥
    no_nil g = cc
alike_filled Open Nil G a h = absurd h
alike_filled Open (Bin i e x l r) Nil a h = absurd a
alike_filled Open (Bin i e x l r) (Bin j d y m w) a h = tt

alike_sound : (P : Content → Bool) (F G : Forest) → IsAlike F G → Sound P F → Sound P G
alike_sound P Nil Nil a s = tt
alike_sound P Nil (Bin j d y m w) a s = absurd a
alike_sound P (Bin i e x l r) Nil a s = absurd a
alike_sound P (Bin i e x l r) (Bin j d y m w) a s = (
  record {
    component = ap is_component (sym a.0) ∙ s.0.component;
    filled = subst (λ (v : Content). IsFilled v m) a.1 (alike_filled x l m a.2 s.0.filled);
    content = ap P (sym a.1) ∙ s.0.content;
  },
  subst (λ (v : Bytes). Beyond v w) a.0 (alike_beyond e r w a.3 s.1),
  alike_sound P l m a.2 s.2,
  alike_sound P r w a.3 s.3,
)

alike_leaf : (S : List Object) (F G : Forest) → IsAlike F G → (q : Path) → leaf_in S F q ≡ leaf_in S G q
alike_leaf S Nil Nil a q = refl
alike_leaf S Nil (Bin j d y m w) a q = absurd a
alike_leaf S (Bin i e x l r) Nil a q = absurd a
alike_leaf S (Bin i e x l r) (Bin j d y m w) a [] = refl
alike_leaf S (Bin i e x l r) (Bin j d y m w) a (c ∷ q) =
    let below = alike_leaf S l m a.2 in
    let here : leaf_below S x (leaf_in S l) q ≡ leaf_below S y (leaf_in S m) q = (λ v. leaf_below S (a.1 v) (leaf_in S l) q) ∙ under y q below in
    λ v. cond (same_bytes c (a.0 v)) (here v) (alike_leaf S r w a.3 (c ∷ q) v)
  where
    under : (y : Content) (q : Path) → ((q : Path) → leaf_in S l q ≡ leaf_in S m q) → leaf_below S y (leaf_in S l) q ≡ leaf_below S y (leaf_in S m) q
    under Open q h = h q
    under (Held f) q h = refl

-- ---- the copy

-- of the nodes from the same number on
pub copied_as : (s t : Nodes) (i i' j : Option ℕ) → i ≡ i' → ((h : CanCopy s i) → IsCopied s t i j h) → (h : CanCopy s i') → IsCopied s t i' j h
copied_as s t i i' j e f = subst (λ (x : Option ℕ). (h : CanCopy s x) → IsCopied s t x j h) e f

module _ (s : Nodes) (k : ℕ) (p : Path) (h : CanMove s k p) where
  abbrev S : List Object
  S = h.objects

  abbrev c : Bytes
  c = h.component

  abbrev up : List Frame
  up = h.place.frames

  pub n : IsNamed S s h.path c up k
  n = (named_of S s h.path c h.link k h.place).0

  abbrev old : Node
  old = n.node

  pub counts_at : (m : ℕ) → count_up m up + (one (m == k) + count m n.children + count m n.siblings) ≡ count m (kids_of s)
  counts_at m = sym (count_plug m up (Bin k c n.content n.children n.siblings)) ∙ ap (count m) n.whole

  pub node_inside : k < length s.cells.items
  node_inside = slice_get_within s.cells.items k old n.there

  own_leaf : (t : Flat) → Stands S s t → (r : Path) → leaf_below S n.content (leaf_in S n.children) r ≡ at t (h.path ++ c ∷ r)
  own_leaf t st r =
      sym (ap (λ b. cond b (leaf_below S n.content (leaf_in S n.children) r) (leaf_in S n.siblings (c ∷ r))) (same_bytes-self c))
      ∙ sym (leaf_plug S (is_held S) up (Bin k c n.content n.children n.siblings) c r n.sound_up n.fits)
      ∙ (λ i. leaf_in S (n.whole i) (n.path i ++ c ∷ r))
      ∙ st (h.path ++ c ∷ r)

  pool : IsPool s
  pool = h.opened.directory.pool

  abbrev pub can_copy : CanCopy s old.first
  can_copy = record { pool = h.opened.directory.pool; source = n.children; reads = n.reads_children; apart = λ m. omega (arith, h.opened.covers m, counts_at m) }

  abbrev pub walkable : IsWalkable s
  walkable = record { objects = h.objects; directory = h.opened.directory; sound = h.opened.sound }

  module _ (t : Nodes) (first : Option ℕ) (cp : IsCopied s t old.first first can_copy) where
    few_t : (m : ℕ) → count m cp.copy + count m (spare t) ≤ inside t m
    few_t m = omega (arith, cp.counts m, pool.apart m)

    stay_t : (m : ℕ) (v : Node) → 0 < one (m == 0) + count m (kids_of s) → slice_get s.cells.items m ≡ Some v → slice_get t.cells.items m ≡ Some v
    stay_t m v g e = cp.stay m v (omega (arith, g, h.opened.covers m, one_most (nat_lt m (length s.cells.items)))) e

    not_spare : (m : ℕ) → count m (spare s) ≡ 0 → (v : Node) → slice_get s.cells.items m ≡ Some v → count m (spare t) ≡ 0
    not_spare m z v e = omega (arith, z, cp.counts m, inside_one m (length s.cells.items) (slice_get_within s.cells.items m v e), one_most (nat_lt m (length t.cells.items)))

    -- ---- there is no memory for the branch

    module _ (u : Nodes) (w : IsWaste t u) where
      copy_u : Reads u.names.items u.cells.items first cp.copy
      copy_u = reads_kept t.names.items u.names.items w.names t.cells.items u.cells.items cp.copy first (λ m v g e. w.stay m v (omega (arith, g, few_t m, one_most (nat_lt m (length t.cells.items)))) e) cp.reads

      few_u : (m : ℕ) → count m cp.copy + count m (spare u) ≤ inside u m
      few_u m = omega (arith, w.counts m, few_t m)

      copy_is : forest u.names.items u.cells.items first ≡ cp.copy
      copy_is = forest_is u.names.items u.cells.items first cp.copy copy_u (λ m. omega (arith, few_u m))

      pub copy_can_free : CanFree u first
      copy_can_free = record { pool = w.pool; walk = walk_is u.names.items u.cells.items first cp.copy copy_u (λ m. omega (arith, few_u m)); apart = λ m. omega (arith, few_u m, ap (count m) copy_is) }

      pub copy_failed : (v : Nodes) → IsFreed u v first → IsStill S s v
      copy_failed v f = waste_still S s v h.opened (record {
        pool = f.pool;
        names = kept_on s.names.items t.names.items v.names.items cp.names (record { more = w.names.more; front = w.names.front ∙ sym f.names });
        counts = λ m. omega (arith, cp.counts m, w.counts m, f.counts m, ap (count m) copy_is, ap (λ (z : ℕ). one (nat_lt m z)) f.long);
        stay = λ m x z e. f.stay m x (omega (arith, ap (count m) copy_is, z, cp.counts m, w.counts m, inside_one m (length s.cells.items) (slice_get_within s.cells.items m x e), one_most (nat_lt m (length t.cells.items)), one_most (nat_lt m (length u.cells.items)), inside_one m (length t.cells.items) (slice_get_within t.cells.items m x (cp.stay m x z e))))
            (w.stay m x (not_spare m z x e) (cp.stay m x z e));
      })

    -- ---- the branch is there

    module _ (level : ℕ) (link : Link) (child : Option ℕ) (stop : IsStop S s p level link child) (u : Nodes) (top : ℕ) (br : IsGraft t u (drop level p) n.content first top) (valid : list_all is_component p ≡ true) where
      abbrev d : Bytes
      d = stop.component

      abbrev b : Path
      b = stop.behind

      behind : drop level p ≡ d ∷ b
      behind = ap (drop level) (sym stop.path) ∙ drop_at stop.before (d ∷ b) level stop.level_is

      long : length br.below ≡ length b
      long = omega (arith, br.long, ap length behind)

      reads_trunk : Reads u.names.items u.cells.items (Some top) (trunk (top ∷ br.below) (d ∷ b) n.content cp.copy)
      reads_trunk = subst (λ (q : Path). Reads u.names.items u.cells.items (Some top) (trunk (top ∷ br.below) q n.content cp.copy)) behind (br.reads cp.copy cp.reads few_t)

      stay_u : (m : ℕ) (v : Node) → 0 < one (m == 0) + count m (kids_of s) → slice_get s.cells.items m ≡ Some v → slice_get u.cells.items m ≡ Some v
      stay_u m v g e = br.stay m v (not_spare m (omega (arith, g, h.opened.covers m, one_most (nat_lt m (length s.cells.items)))) v e) (stay_t m v g e)

      names_u : IsKept s.names.items u.names.items
      names_u = kept_on s.names.items t.names.items u.names.items cp.names br.names

      abbrev base : IsDirectory s 0 (kids_of s)
      base = h.opened.directory

      counts_trunk : (m : ℕ) → count m (trunk (top ∷ br.below) (d ∷ b) n.content cp.copy) + count m (spare u) + inside t m ≡ count m (spare t) + inside u m + count m cp.copy
      counts_trunk m = omega (arith, br.counts m, count_trunk m top br.below (d ∷ b) n.content cp.copy (omega (arith, long)), ap (λ (q : Path). count m (trunk (top ∷ br.below) q n.content Nil)) behind)

      covers_u : (m : ℕ) → one (m == 0) + count m (kids_of s) + count m (trunk (top ∷ br.below) (d ∷ b) n.content cp.copy) + count m (spare u) ≡ inside u m
      covers_u m = omega (arith, counts_trunk m, cp.counts m, h.opened.covers m)

      kids_u : kids_of u ≡ kids_of s
      kids_u =
          ap (forest u.names.items u.cells.items) (first_of u.cells.items 0 base.node (stay_u 0 base.node (omega (arith, own_count 0)) base.there))
          ∙ forest_is u.names.items u.cells.items base.node.first (kids_of s)
          (reads_kept s.names.items u.names.items names_u s.cells.items u.cells.items (kids_of s) base.node.first (λ m v g e. stay_u m v (omega arith) e) base.children)
          (λ m. omega (arith, covers_u m))

      counts_place : (m : ℕ) → count_up m stop.place.frames + count m stop.place.rest ≡ count m (kids_of s)
      counts_place m = sym (count_plug m stop.place.frames stop.place.rest) ∙ ap (count m) stop.place.whole

      place_u : IsPlaceOf S u stop.before d link child
      place_u = record {
        frames = stop.place.frames;
        number = stop.place.number;
        rest = stop.place.rest;
        here = record {
          reads_up = up_kept s.names.items u.names.items names_u s.cells.items u.cells.items 0 stop.place.frames stop.place.number (λ m v g e. stay_u m v (omega (arith, counts_place m)) e) stop.place.here.reads_up;
          reads = reads_kept s.names.items u.names.items names_u s.cells.items u.cells.items stop.place.rest stop.place.number (λ m v g e. stay_u m v (omega (arith, counts_place m)) e) stop.place.here.reads;
          sound_up = stop.place.here.sound_up;
          sound = stop.place.here.sound;
          fits = stop.place.here.fits;
        };
        whole = stop.place.whole ∙ sym kids_u;
        path = stop.place.path;
        link_is = stop.place.link_is;
        fits = stop.place.fits;
        next = stop.place.next;
        child_is = stop.place.child_is;
      }

      sound_all : Rattle.stage_nodes.specs.Forests.IsSound (is_held S) d (trunk_content b n.content) (trunk br.below b n.content cp.copy) × Sound (is_held S) (trunk br.below b n.content cp.copy)
      sound_all = sound_trunk S br.below d b n.content cp.copy long (all_behind stop.before d b (ap (list_all is_component) stop.path ∙ valid)) (alike_filled n.content n.children cp.copy cp.alike n.sound.0.filled) n.sound.0.content (alike_sound (is_held S) n.children cp.copy cp.alike n.sound.2)

      pub has_spot : HasSpot u link child top
      has_spot = record {
        rooted = alone_stay s u h.opened.alone base.node base.there (stay_u 0 base.node (omega (arith, own_count 0)) base.there);
        objects = S;
        path = stop.before;
        component = d;
        place = place_u;
        content = trunk_content b n.content;
        children = trunk br.below b n.content cp.copy;
        node = reads_trunk.node;
        there = reads_trunk.there;
        cell = reads_trunk.cell;
        alone = reads_trunk.siblings;
        reads = reads_trunk.children;
        sound = sound_all.0;
        sound_below = sound_all.1;
        pool = br.pool;
        covers = λ m. omega (arith, covers_u m, ap (count m) kids_u);
      }

      copy_leaf : (r : Path) → leaf_below S n.content (leaf_in S cp.copy) r ≡ leaf_below S n.content (leaf_in S n.children) r
      copy_leaf r = by n.content
        where
          by : (x : Content) → leaf_below S x (leaf_in S cp.copy) r ≡ leaf_below S x (leaf_in S n.children) r
          by Open = sym (alike_leaf S n.children cp.copy cp.alike r)
          by (Held f) = refl

      pub is_duplicated : (v : Nodes) → ((g : HasSpot u link child top) → IsReplaced u v link child top g) → IsDuplicated s v k p h
      unfolding has_spot place_u
      is_duplicated v made =
          let r = made has_spot in
          record {
            opened = r.opened;
            puts = λ f st x rests_are y.
                ap (λ (F : Forest). leaf_in S F y) r.whole
                ∙ put_there S (is_held S) stop.place.frames stop.place.rest d b top (trunk_content b n.content) (trunk br.below b n.content cp.copy) x
                (trunk_new S br.below b n.content cp.copy x long (λ q. copy_leaf q ∙ own_leaf f st q ∙ sym (rests_are q)))
                stop.place.here.sound_up stop.place.fits stop.place.here.sound stop.place.next stop.ended f
                (λ z. ap (λ (F : Forest). leaf_in S F z) stop.place.whole ∙ st z) y
                ∙ ap (λ (q : Path). at (put f q x) y) (ap (λ (q : Path). q ++ d ∷ b) stop.place.path ∙ stop.path);
          }
