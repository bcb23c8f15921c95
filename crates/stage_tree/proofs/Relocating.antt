-- A node taken to another path.
use Rattle.std.proofs.Common.{◌≡◌, ℕ, ◌+◌, ◌<◌, ◌≤◌, ◌≢◌, ◌⊎◌, inl, inr, true, false, cond, ◌==◌, List, [], ◌∷◌, ◌++◌, length, drop, Option, Some, None, refl, sym, ap, subst, ◌∙◌, arith}
use Rattle.std.specs.Prelude.{slice_get, slice_set, nat_lt}
use Rattle.std.specs.List.{list_all}
use Rattle.std.proofs.lemmas.Bool.Decides.{eqb_tells}
use Rattle.std.proofs.lemmas.List.{drop_at}
use Rattle.std.proofs.lemmas.Option.{slice_get_within}
use Rattle.git_objects.specs.Paths.{Bytes, Path, comparable, is_component, same_bytes}
use Rattle.git_objects.specs.Trees.{Flat, at, put}
use Rattle.git_objects.proofs.Basics.{same_bytes-self}
use Rattle.object_store.specs.Objects.{Object}
use Rattle.path_trees.specs.Standing.{node}
use Rattle.stage_nodes.specs.declared.nodes.Node.{Node}
use Rattle.stage_nodes.specs.declared.nodes.Nodes.{Nodes}
use Rattle.stage_nodes.specs.declared.nodes.Content.TheVariants.{Held}
use Rattle.stage_nodes.specs.declared.nodes.Link.{Link}
use Rattle.stage_nodes.specs.declared.nodes.Link.TheVariants.{Next}
use Rattle.stage_nodes.specs.Forests.{Forest, Nil, Bin, one, count, IsCell, Reads, forest, is_link, Sound}
use Rattle.stage_nodes.specs.Frames.{Frame, plug, count_up, ReadsUp}
use Rattle.stage_nodes.specs.Pools.{inside, spare}
use Rattle.stage_nodes.specs.Directories.{IsDirectory}
use Rattle.stage_nodes.specs.Leaves.{leaf_below, leaf_in, is_held}
use Rattle.stage_nodes.specs.Expanding.{IsWaste}
use Rattle.stage_nodes.specs.Ways.{IsAlone, IsPlaceOf, IsStill, NotBefore, kids_of}
use Rattle.stage_nodes.specs.Branches.{HasSpot, IsReplaced, Stands}
use Rattle.stage_tree.specs.Renames.{CanMove, IsGraft, IsMoved, stand_in, trunk, trunk_content}
use Rattle.stage_nodes.specs.Walks.{IsStop, IsWalkable, StaysClear, clear_below, is_clear}
use Rattle.stage_nodes.proofs.Seeking.{inside_link}
use Rattle.stage_nodes.proofs.Framing.{ReadsAll, count_plug, reads_kept, reads_plug, same_names, up_kept}
use Rattle.stage_nodes.proofs.Pools.{forest_is, inside_one, one_most, own_count}
use Rattle.stage_nodes.proofs.Places.{sound_plug}
use Rattle.stage_nodes.proofs.Freeing.{first_of}
use Rattle.stage_nodes.proofs.Pointing.{IsBeside, set_beside, set_reads, set_stay, set_there}
use Rattle.stage_nodes.proofs.Leaves.{leaf_plug}
use Rattle.stage_nodes.proofs.PutLeaves.{put_there}
use Rattle.stage_nodes.proofs.OnWay.{IsNamed, alone_stay, named_of, sound_any, waste_still}
use Rattle.stage_nodes.proofs.Opening.{same_node}
use Rattle.stage_tree.proofs.Putting.{all_behind}
use Rattle.stage_nodes.proofs.Clearing.{clear_more}
use Rattle.stage_tree.proofs.Grafting.{count_trunk}
use Rattle.stage_tree.proofs.TrunkLeaves.{put_clear, sound_trunk, trunk_new}

module _ (s : Nodes) (k : ℕ) (p : Path) (h : CanMove s k p) where
  abbrev S : List Object
  S = h.objects

  abbrev c : Bytes
  c = h.component

  abbrev up : List Frame
  up = h.place.frames

  pub n : IsNamed S s h.path c up k
  n = (named_of S s h.path c h.link k h.place).0

  rest_is : h.place.rest ≡ Bin k c n.content n.children n.siblings
  unfolding n
  rest_is = (named_of S s h.path c h.link k h.place).1

  abbrev old : Node
  old = n.node

  counts_at : (m : ℕ) → count_up m up + (one (m == k) + count m n.children + count m n.siblings) ≡ count m (kids_of s)
  counts_at m = sym (count_plug m up (Bin k c n.content n.children n.siblings)) ∙ ap (count m) n.whole

  all : (m : ℕ) → one (m == 0) + count_up m up + one (m == k) + count m n.children + count m n.siblings + count m (spare s) ≡ inside s m
  all m = omega (arith, h.opened.covers m, counts_at m)

  lone : one (k == 0) + count_up k up + count k n.children + count k n.siblings + count k (spare s) ≡ 0
  lone = omega (arith, all k, own_count k, one_most (nat_lt k (length s.cells.items)))

  pub move_inside : is_link s.cells.items (Next k) ≡ true
  move_inside = inside_link s.names.items s.cells.items k (slice_get_within s.cells.items k old n.there)

  -- what stands at the node
  own_leaf : (t : Flat) → Stands S s t → (r : Path) → leaf_below S n.content (leaf_in S n.children) r ≡ at t (h.path ++ c ∷ r)
  own_leaf t st r =
      sym (ap (λ b. cond b (leaf_below S n.content (leaf_in S n.children) r) (leaf_in S n.siblings (c ∷ r))) (same_bytes-self c))
      ∙ sym (leaf_plug S (is_held S) up (Bin k c n.content n.children n.siblings) c r n.sound_up n.fits)
      ∙ (λ i. leaf_in S (n.whole i) (n.path i ++ c ∷ r))
      ∙ st (h.path ++ c ∷ r)

  abbrev emptied : Node
  emptied = record old { content = Held stand_in; first = None }

  abbrev left : Forest
  left = Bin k c (Held stand_in) Nil n.siblings

  module _ (t : Nodes) (cells : t.cells.items ≡ slice_set s.cells.items k emptied) (names : t.names.items ≡ s.names.items) (free : t.free ≡ s.free) where
    side : IsBeside s t
    side = set_beside s t k old emptied n.there h.opened.directory.pool (omega (arith, lone)) cells names free

    stay_t : (m : ℕ) (v : Node) → m ≢ k → slice_get s.cells.items m ≡ Some v → slice_get t.cells.items m ≡ Some v
    stay_t = set_stay s t k old emptied n.there h.opened.directory.pool (omega (arith, lone)) cells names free

    there_t : slice_get t.cells.items k ≡ Some emptied
    there_t = set_there s t k old emptied n.there h.opened.directory.pool (omega (arith, lone)) cells names free

    kept : (F : Forest) (o : Option ℕ) → count k F ≡ 0 → Reads s.names.items s.cells.items o F → Reads t.names.items t.cells.items o F
    kept = set_reads s t k old emptied n.there h.opened.directory.pool (omega (arith, lone)) cells names free

    children_t : Reads t.names.items t.cells.items old.first n.children
    children_t = kept n.children old.first (omega (arith, lone)) n.reads_children

    around_t : ReadsUp t.names.items t.cells.items 0 up (Some k)
    around_t = subst (λ (b : Bytes). ReadsUp b t.cells.items 0 up (Some k)) (sym names)
        (up_kept s.names.items s.names.items (same_names s.names.items) s.cells.items t.cells.items 0 up (Some k)
        (λ m v g e. stay_t m v (λ w. absurd (omega (arith, lone, g, ap (λ (z : ℕ). one (z == 0) + count_up z up) w))) e) n.around)

    reads_t : Reads t.names.items t.cells.items (Some k) left
    reads_t = record {
      number = refl;
      node = emptied;
      there = there_t;
      cell = subst (λ (b : Bytes). IsCell b emptied c (Held stand_in)) (sym names) (record { within = n.cell.within; component = n.cell.component; content = refl });
      children = refl;
      siblings = kept n.siblings old.next (omega (arith, lone)) n.reads_siblings;
    }

    sound_left : Sound (is_held S) left
    sound_left = (record { component = n.sound.0.component; filled = refl; content = refl }, n.sound.1, tt, n.sound.3)

    all_t : (m : ℕ) → one (m == 0) + count m (plug up left) + count m n.children + count m (spare t) ≡ inside t m
    all_t m = omega (arith, all m, count_plug m up left, ap (count m) side.spare, side.inside m)

    read_all : ReadsAll t.names.items t.cells.items 0 (plug up left)
    read_all = reads_plug t.names.items t.cells.items 0 up (Some k) left around_t reads_t

    pub whole_t : kids_of t ≡ plug up left
    whole_t = ap (forest t.names.items t.cells.items) (first_of t.cells.items 0 read_all.node read_all.there) ∙ forest_is t.names.items t.cells.items read_all.node.first (plug up left) read_all.children (λ m. omega (arith, all_t m))

    pub sound_t : Sound (is_held S) (plug up left)
    sound_t = sound_plug (is_held S) up left n.sound_up n.fits tt sound_left

    pub base_t : IsDirectory t 0 (kids_of t)
    base_t = subst (IsDirectory t 0) (sym whole_t) (record {
      pool = side.pool;
      node = read_all.node;
      there = read_all.there;
      opened = read_all.opened;
      children = read_all.children;
      sound = sound_any (is_held S) (plug up left) sound_t;
      apart = λ m. omega (arith, all_t m);
    })

    abbrev pub walk_t : IsWalkable t
    walk_t = record { objects = S; directory = base_t; sound = subst (Sound (is_held S)) (sym whole_t) sound_t }

    alone_t : IsAlone t
    alone_t = alone_stay s t h.opened.alone h.opened.directory.node h.opened.directory.there (stay_t 0 h.opened.directory.node (λ w. absurd (omega (arith, lone, own_count 0, ap (λ (z : ℕ). one (z == 0)) w))) h.opened.directory.there)

    pub clear_t : StaysClear s t
    clear_t q g =
        ap (λ (F : Forest). is_clear F q) whole_t
        ∙ clear_more up (Bin k c n.content n.children n.siblings) left by q (ap (λ (F : Forest). is_clear F q) n.whole ∙ g)
      where
        by : (q : Path) → is_clear (Bin k c n.content n.children n.siblings) q ≡ true → is_clear left q ≡ true
        by [] u = refl
        by (e ∷ []) u = refl
        by (e ∷ b ∷ q) u =
            elim (same_bytes e c) as (λ v. cond v (clear_below n.content (is_clear n.children (b ∷ q))) (is_clear n.siblings (e ∷ b ∷ q)) ≡ true → cond v true (is_clear n.siblings (e ∷ b ∷ q)) ≡ true) [
              | true ↦ λ w. refl
              | false ↦ λ w. w
            ] u

    -- a leaf stands there
    stands_t : (f : Flat) → Stands S s f → Stands S t (put f (h.path ++ c ∷ []) (node S stand_in))
    stands_t f st y =
        ap (λ (F : Forest). leaf_in S F y) (whole_t ∙ ap (λ (F : Forest). plug up (Bin k c (Held stand_in) Nil F)) (sym (ap (λ b. cond b n.siblings (Bin k c n.content n.children n.siblings)) (same_bytes-self c))))
        ∙ put_there S (is_held S) up (Bin k c n.content n.children n.siblings) c [] k (Held stand_in) Nil (node S stand_in) (λ r. refl) n.sound_up n.fits n.sound (subst (NotBefore c) rest_is h.place.next) (inl refl) f
        (λ z. ap (λ (F : Forest). leaf_in S F z) n.whole ∙ st z) y
        ∙ ap (λ (q : Path). at (put f (q ++ c ∷ []) (node S stand_in)) y) n.path

    -- ---- there is no memory for the branch

    module _ (u : Nodes) (w : IsWaste t u) where
      there_u : slice_get u.cells.items k ≡ Some emptied
      there_u = w.stay k emptied (omega (arith, lone, ap (count k) side.spare)) there_t

      out_u : count k (spare u) ≡ 0
      out_u = omega (arith, lone, w.counts k, ap (count k) side.spare, inside_one k (length t.cells.items) (slice_get_within t.cells.items k emptied there_t), one_most (nat_lt k (length u.cells.items)))

      pub back_inside : is_link u.cells.items (Next k) ≡ true
      back_inside = inside_link u.names.items u.cells.items k (slice_get_within u.cells.items k emptied there_u)

      module _ (v : Nodes) (cells_v : v.cells.items ≡ slice_set u.cells.items k old) (names_v : v.names.items ≡ u.names.items) (free_v : v.free ≡ u.free) where
        side_v : IsBeside u v
        side_v = set_beside u v k emptied old there_u w.pool out_u cells_v names_v free_v

        back : IsWaste s v
        back = record {
          pool = side_v.pool;
          names = record { more = w.names.more; front = ap (λ (b : Bytes). b ++ w.names.more) (sym names) ∙ w.names.front ∙ sym names_v };
          counts = λ m. omega (arith, w.counts m, ap (count m) side.spare, side.inside m, ap (count m) side_v.spare, side_v.inside m);
          stay = stay;
        }
          where
            stay : (m : ℕ) (x : Node) → count m (spare s) ≡ 0 → slice_get s.cells.items m ≡ Some x → slice_get v.cells.items m ≡ Some x
            stay m x z e = by (eqb_tells m k)
              where
                by : (((m == k) ≡ true) × (m ≡ k)) ⊎ (((m == k) ≡ false) × (m ≢ k)) → slice_get v.cells.items m ≡ Some x
                by (inl g) =
                    ap (slice_get v.cells.items) g.1 ∙ set_there u v k emptied old there_u w.pool out_u cells_v names_v free_v
                    ∙ ap Some (same_node n.there (ap (slice_get s.cells.items) (sym g.1) ∙ e))
                by (inr g) = set_stay u v k emptied old there_u w.pool out_u cells_v names_v free_v m x g.1 (w.stay m x (omega (arith, z, ap (count m) side.spare)) (stay_t m x g.1 e))

        pub move_failed : IsStill S s v
        move_failed = waste_still S s v h.opened back

    -- ---- the branch is there

    module _ (level : ℕ) (link : Link) (child : Option ℕ) (stop : IsStop S t p level link child) (u : Nodes) (top : ℕ) (br : IsGraft t u (drop level p) n.content old.first top) (valid : list_all is_component p ≡ true) where
      abbrev d : Bytes
      d = stop.component

      abbrev b : Path
      b = stop.behind

      behind : drop level p ≡ d ∷ b
      behind = ap (drop level) (sym stop.path) ∙ drop_at stop.before (d ∷ b) level stop.level_is

      long : length br.below ≡ length b
      long = omega (arith, br.long, ap length behind)

      few_t : (m : ℕ) → count m n.children + count m (spare t) ≤ inside t m
      few_t m = omega (arith, all_t m)

      reads_trunk : Reads u.names.items u.cells.items (Some top) (trunk (top ∷ br.below) (d ∷ b) n.content n.children)
      reads_trunk = subst (λ (q : Path). Reads u.names.items u.cells.items (Some top) (trunk (top ∷ br.below) q n.content n.children)) behind (br.reads n.children children_t few_t)

      count_kids : (m : ℕ) → count m (kids_of t) ≡ count m (plug up left)
      count_kids m = ap (count m) whole_t

      stay_u : (m : ℕ) (v : Node) → 0 < one (m == 0) + count m (kids_of t) → slice_get t.cells.items m ≡ Some v → slice_get u.cells.items m ≡ Some v
      stay_u m v g e = br.stay m v (omega (arith, g, all_t m, count_kids m, one_most (nat_lt m (length t.cells.items)))) e

      counts_trunk : (m : ℕ) → count m (trunk (top ∷ br.below) (d ∷ b) n.content n.children) + count m (spare u) + inside t m ≡ count m (spare t) + inside u m + count m n.children
      counts_trunk m = omega (arith, br.counts m, count_trunk m top br.below (d ∷ b) n.content n.children (omega (arith, long)), ap (λ (q : Path). count m (trunk (top ∷ br.below) q n.content Nil)) behind)

      covers_u : (m : ℕ) → one (m == 0) + count m (kids_of t) + count m (trunk (top ∷ br.below) (d ∷ b) n.content n.children) + count m (spare u) ≡ inside u m
      covers_u m = omega (arith, counts_trunk m, all_t m, count_kids m)

      kids_u : kids_of u ≡ kids_of t
      kids_u =
          ap (forest u.names.items u.cells.items) (first_of u.cells.items 0 base_t.node (stay_u 0 base_t.node (omega (arith, own_count 0)) base_t.there))
          ∙ forest_is u.names.items u.cells.items base_t.node.first (kids_of t)
          (reads_kept t.names.items u.names.items br.names t.cells.items u.cells.items (kids_of t) base_t.node.first (λ m v g e. stay_u m v (omega arith) e) base_t.children)
          (λ m. omega (arith, covers_u m))

      counts_place : (m : ℕ) → count_up m stop.place.frames + count m stop.place.rest ≡ count m (kids_of t)
      counts_place m = sym (count_plug m stop.place.frames stop.place.rest) ∙ ap (count m) stop.place.whole

      place_u : IsPlaceOf S u stop.before d link child
      place_u = record {
        frames = stop.place.frames;
        number = stop.place.number;
        rest = stop.place.rest;
        here = record {
          reads_up = up_kept t.names.items u.names.items br.names t.cells.items u.cells.items 0 stop.place.frames stop.place.number (λ m v g e. stay_u m v (omega (arith, counts_place m)) e) stop.place.here.reads_up;
          reads = reads_kept t.names.items u.names.items br.names t.cells.items u.cells.items stop.place.rest stop.place.number (λ m v g e. stay_u m v (omega (arith, counts_place m)) e) stop.place.here.reads;
          sound_up = stop.place.here.sound_up;
          sound = stop.place.here.sound;
          fits = stop.place.here.fits;
        };
        whole = stop.place.whole ∙ sym kids_u;
        path = stop.place.path;
        link_is = stop.place.link_is;
        fits = stop.place.fits;
        next = stop.place.next;
        child_is = stop.place.child_is;
      }

      sound_all : Rattle.stage_nodes.specs.Forests.IsSound (is_held S) d (trunk_content b n.content) (trunk br.below b n.content n.children) × Sound (is_held S) (trunk br.below b n.content n.children)
      sound_all = sound_trunk S br.below d b n.content n.children long (all_behind stop.before d b (ap (list_all is_component) stop.path ∙ valid)) n.sound.0.filled n.sound.0.content n.sound.2

      pub has_spot : HasSpot u link child top
      has_spot = record {
        rooted = alone_stay t u alone_t base_t.node base_t.there (stay_u 0 base_t.node (omega (arith, own_count 0)) base_t.there);
        objects = S;
        path = stop.before;
        component = d;
        place = place_u;
        content = trunk_content b n.content;
        children = trunk br.below b n.content n.children;
        node = reads_trunk.node;
        there = reads_trunk.there;
        cell = reads_trunk.cell;
        alone = reads_trunk.siblings;
        reads = reads_trunk.children;
        sound = sound_all.0;
        sound_below = sound_all.1;
        pool = br.pool;
        covers = λ m. omega (arith, covers_u m, ap (count m) kids_u);
      }

      pub is_moved : (v : Nodes) → ((g : HasSpot u link child top) → IsReplaced u v link child top g) → IsMoved s v k p h
      unfolding has_spot place_u
      is_moved v made =
          let r = made has_spot in
          record {
            opened = r.opened;
            puts = λ f st x rests_are y.
                ap (λ (F : Forest). leaf_in S F y) r.whole
                ∙ put_there S (is_held S) stop.place.frames stop.place.rest d b top (trunk_content b n.content) (trunk br.below b n.content n.children) x
                (trunk_new S br.below b n.content n.children x long (λ q. own_leaf f st q ∙ sym (rests_are q)))
                stop.place.here.sound_up stop.place.fits stop.place.here.sound stop.place.next stop.ended (put f (h.path ++ c ∷ []) (node S stand_in))
                (λ z. ap (λ (F : Forest). leaf_in S F z) stop.place.whole ∙ stands_t f st z) y
                ∙ ap (λ (q : Path). at (put (put f (h.path ++ c ∷ []) (node S stand_in)) q x) y) (ap (λ (q : Path). q ++ d ∷ b) stop.place.path ∙ stop.path);
            clear = λ q apart g.
                ap (λ (F : Forest). is_clear F q) r.whole
                ∙ put_clear stop.place.frames stop.place.rest d b top br.below n.content n.children long q (ap (λ (z : Path). comparable z q) (ap (λ (z : Path). z ++ d ∷ b) stop.place.path ∙ stop.path) ∙ apart)
                (ap (λ (F : Forest). is_clear F q) stop.place.whole ∙ clear_t q g);
          }
