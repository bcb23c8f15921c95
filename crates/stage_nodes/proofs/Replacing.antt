-- A node put in the place of another.
use Rattle.std.proofs.Common.{◌≡◌, ℕ, ◌+◌, ◌<◌, ◌≤◌, ◌≢◌, Bool, true, false, cond, ◌==◌, List, [], ◌∷◌, length, Option, Some, None, refl, sym, ap, subst, ◌∙◌, arith}
use Rattle.std.specs.Prelude.{slice_get, nat_lt}
use Rattle.std.specs.declared.cmp.Ordering.TheVariants.{Less}
use Rattle.std.specs.Cmp.Lexicographic.{bytes_decides}
use Rattle.std.proofs.lemmas.Option.{slice_get_within}
use Rattle.git_objects.specs.Paths.{Bytes, same_bytes}
use Rattle.stage_nodes.specs.declared.nodes.Node.{Node}
use Rattle.stage_nodes.specs.declared.nodes.Nodes.{Nodes}
use Rattle.stage_nodes.specs.declared.nodes.Content.{Content}
use Rattle.stage_nodes.specs.declared.nodes.Link.{Link}
use Rattle.stage_nodes.specs.declared.nodes.Link.TheVariants.{Next}
use Rattle.stage_nodes.specs.Forests.{Forest, Nil, Bin, one, count, IsCell, IsSound, Reads, forest, target, is_link, Beyond, Sound, bytes_cmp}
use Rattle.stage_nodes.specs.Frames.{Frame, Below, Behind, link_of, count_up, ReadsUp, pointed}
use Rattle.stage_nodes.specs.Pools.{IsPutBefore, CanFree, IsFreed, inside, spare}
use Rattle.stage_nodes.specs.Leaves.{is_held}
use Rattle.stage_nodes.specs.Ways.{IsAlone, NotBefore, named_first, kids_of}
use Rattle.stage_nodes.specs.Branches.{HasSpot, IsReplaced, after_named}
use Rattle.stage_nodes.proofs.Order.{less_back}
use Rattle.stage_nodes.proofs.Seeking.{inside_link}
use Rattle.stage_nodes.proofs.Framing.{reads_kept, same_names, holder, owner_there, target_up, count_plug}
use Rattle.stage_nodes.proofs.Pools.{own_count, one_most, forest_is, walk_is}
use Rattle.stage_nodes.proofs.Freeing.{next_of}
use Rattle.stage_nodes.proofs.Pointing.{IsBeside, pointed_beside, pointed_stay, pointed_up, pointed_reads, next_stay, next_beside, next_before, next_up, next_reads}
use Rattle.stage_nodes.proofs.OnWay.{base_there, alone_stay, alone_pointed, stage_whole, stage_open}

-- where the siblings that stay begin
abbrev pub behind_of : List Node → Link → Option ℕ → Option ℕ
behind_of ns link None = target ns link
behind_of ns link (Some old) = target ns (Next old)

-- the node that has the component
pub record IsOld (s : Nodes) (c : Bytes) (old : ℕ) (X : Forest) : Type 0 where
  pub content : Content
  pub children : Forest
  pub siblings : Forest
  pub node : Node
  pub there : slice_get s.cells.items old ≡ Some node
  pub cell : IsCell s.names.items node c content
  pub reads : Reads s.names.items s.cells.items node.first children
  pub reads_siblings : Reads s.names.items s.cells.items node.next siblings
  pub is : X ≡ Bin old c content children siblings
  pub behind : after_named c X ≡ siblings

pub old_of : (s : Nodes) (c : Bytes) (old : ℕ) (i : Option ℕ) (X : Forest) → Reads s.names.items s.cells.items i X → Some old ≡ named_first c X → IsOld s c old X
old_of s c old i Nil r e = absurd cc
old_of s c old i (Bin j d y l m) r e = by (same_bytes c d) refl e
  where
    by : (t : Bool) → same_bytes c d ≡ t → Some old ≡ cond t (Some j) None → IsOld s c old (Bin j d y l m)
    by true g q =
        let same : old ≡ j = cc in
        let cd : c ≡ d = (bytes_decides c d).0 g in
        record {
          content = y;
          children = l;
          siblings = m;
          node = r.node;
          there = ap (slice_get s.cells.items) same ∙ r.there;
          cell = subst (λ (b : Bytes). IsCell s.names.items r.node b y) (sym cd) r.cell;
          reads = r.children;
          reads_siblings = r.siblings;
          is = λ v. Bin (sym same v) (sym cd v) y l m;
          behind = ap (λ t. cond t m (Bin j d y l m)) g;
        }
    by false g q = absurd cc

beyond_far : (c d : Bytes) (F : Forest) → bytes_cmp c d ≡ Less → Beyond d F → Beyond c F
beyond_far c d Nil g b = tt
beyond_far c d (Bin i e x l r) g b = (Rattle.stage_nodes.proofs.Order.less_trans c d e g b.0, beyond_far c d r g b.1)

-- a node before the siblings that follow its component
pub sound_named : (p : Content → Bool) (k : ℕ) (c : Bytes) (x : Content) (l X : Forest) → Sound p X → NotBefore c X → IsSound p c x l → Sound p l → Sound p (Bin k c x l (after_named c X))
sound_named p k c x l Nil o n h g = (h, tt, g, tt)
sound_named p k c x l (Bin i d y m r) o n h g =
    elim (same_bytes c d) as (λ t. same_bytes c d ≡ t → Sound p (Bin k c x l (cond t r (Bin i d y m r)))) [
      | true ↦ λ e. (h, subst (λ (b : Bytes). Beyond b r) (sym ((bytes_decides c d).0 e)) o.1, g, o.3)
      | false ↦ λ e. let less = less_back c d n e in (h, (less, beyond_far c d r less o.1), g, o)
    ] refl

module _ (s : Nodes) (link : Link) (child : Option ℕ) (k : ℕ) (h : HasSpot s link child k) where
  abbrev up : List Frame
  up = h.place.frames

  abbrev X : Forest
  X = h.place.rest

  abbrev Y : Forest
  Y = after_named h.component X

  counts_at : (m : ℕ) → count_up m up + count m X ≡ count m (kids_of s)
  counts_at m = sym (count_plug m up X) ∙ ap (count m) h.place.whole

  -- what stands behind is read there
  rest_reads : Reads s.names.items s.cells.items (behind_of s.cells.items link child) Y
  rest_reads = by X h.place.here.reads h.place.child_is
    where
      at_link : target s.cells.items link ≡ h.place.number
      at_link = ap (target s.cells.items) h.place.link_is ∙ target_up s.names.items s.cells.items 0 up h.place.number h.place.here.reads_up

      by : (X : Forest) → Reads s.names.items s.cells.items h.place.number X → child ≡ named_first h.component X → Reads s.names.items s.cells.items (behind_of s.cells.items link child) (after_named h.component X)
      by Nil r e = subst (λ (o : Option ℕ). Reads s.names.items s.cells.items (behind_of s.cells.items link o) Nil) (sym e) (at_link ∙ r)
      by (Bin i d x l m) r e =
          elim (same_bytes h.component d) as (λ t. child ≡ cond t (Some i) None → Reads s.names.items s.cells.items (behind_of s.cells.items link child) (cond t m (Bin i d x l m))) [
            | true ↦ λ g. subst (λ (o : Option ℕ). Reads s.names.items s.cells.items (behind_of s.cells.items link o) m) (sym g) (subst (λ (o : Option ℕ). Reads s.names.items s.cells.items o m) (sym (next_of s.cells.items i r.node r.there)) r.siblings)
            | false ↦ λ g. subst (λ (o : Option ℕ). Reads s.names.items s.cells.items (behind_of s.cells.items link o) (Bin i d x l m)) (sym g) (subst (λ (o : Option ℕ). Reads s.names.items s.cells.items o (Bin i d x l m)) (sym at_link) r)
          ] e

  rest_few : (m : ℕ) → count m Y ≤ count m X
  rest_few m = by X
    where
      by : (X : Forest) → count m (after_named h.component X) ≤ count m X
      by Nil = omega arith
      by (Bin i d x l r) = elim (same_bytes h.component d) as (λ t. count m (cond t r (Bin i d x l r)) ≤ count m (Bin i d x l r)) [ true ↦ omega arith | false ↦ omega arith ]

  abbrev new : Forest
  new = Bin k h.component h.content h.children Y

  new_sound : Sound (is_held h.objects) new
  new_sound = sound_named (is_held h.objects) k h.component h.content h.children X h.place.here.sound h.place.next h.sound h.sound_below

  fresh_k : one (k == 0) + count_up k up + count k X + count k h.children + count k (spare s) ≡ 0
  fresh_k = omega (arith, h.covers k, counts_at k, own_count k, one_most (nat_lt k (length s.cells.items)))

  pub spot_link : is_link s.cells.items link ≡ true
  spot_link = ap (is_link s.cells.items) h.place.link_is ∙ by up h.place.number h.place.here.reads_up
    where
      by : (above : List Frame) (j : Option ℕ) → ReadsUp s.names.items s.cells.items 0 above j → is_link s.cells.items (link_of 0 above) ≡ true
      by [] j g = inside_link s.names.items s.cells.items 0 (slice_get_within s.cells.items 0 g.node g.there)
      by (Below i d r ∷ above) j g = inside_link s.names.items s.cells.items i (slice_get_within s.cells.items i g.node g.there)
      by (Behind i d x l ∷ above) j g = inside_link s.names.items s.cells.items i (slice_get_within s.cells.items i g.node g.there)

  pub spot_number : is_link s.cells.items (Next k) ≡ true
  spot_number = inside_link s.names.items s.cells.items k (slice_get_within s.cells.items k h.node h.there)

  pub old_inside : (old : ℕ) → child ≡ Some old → is_link s.cells.items (Next old) ≡ true
  old_inside old e = let o = old_of s h.component old h.place.number X h.place.here.reads (sym e ∙ h.place.child_is) in inside_link s.names.items s.cells.items old (slice_get_within s.cells.items old o.node o.there)

  -- ---- the two writes

  module _ (t : Nodes) (put : IsPutBefore s t link (behind_of s.cells.items link child) k) where
    next : IsBeside s put.middle
    next = next_beside s put.middle k (behind_of s.cells.items link child) h.node h.there h.pool (omega (arith, fresh_k)) put.next_cells put.next_names put.next_free

    reads_mid : Reads put.middle.names.items put.middle.cells.items (Some k) new
    reads_mid =
        next_before s put.middle k (behind_of s.cells.items link child) h.node h.there h.pool (omega (arith, fresh_k)) put.next_cells put.next_names put.next_free
        h.component h.content h.children Y h.cell h.reads rest_reads (omega (arith, fresh_k, rest_few k))

    around_mid : ReadsUp put.middle.names.items put.middle.cells.items 0 up h.place.number
    around_mid =
        next_up s put.middle k (behind_of s.cells.items link child) h.node h.there h.pool (omega (arith, fresh_k)) put.next_cells put.next_names put.next_free
        0 up h.place.number (omega (arith, fresh_k)) h.place.here.reads_up

    apart_mid : (m : ℕ) → one (m == 0) + count_up m up + count m new + count m (spare put.middle) ≤ inside put.middle m
    apart_mid m = omega (arith, h.covers m, counts_at m, rest_few m, ap (count m) next.spare, next.inside m)

    cells_t : t.cells.items ≡ pointed put.middle.cells.items (link_of 0 up) (Some k)
    cells_t = put.link_cells ∙ ap (λ (l : Link). pointed put.middle.cells.items l (Some k)) h.place.link_is

    last : IsBeside put.middle t
    last = pointed_beside put.middle t 0 up h.place.number (Some k) new next.pool around_mid reads_mid apart_mid cells_t put.link_names put.link_free

    around_t : ReadsUp t.names.items t.cells.items 0 up (Some k)
    around_t = pointed_up put.middle t 0 up h.place.number (Some k) new next.pool around_mid reads_mid apart_mid cells_t put.link_names put.link_free

    reads_t : Reads t.names.items t.cells.items (Some k) new
    reads_t = pointed_reads put.middle t 0 up h.place.number (Some k) new next.pool around_mid reads_mid apart_mid cells_t put.link_names put.link_free

    spare_t : (m : ℕ) → count m (spare t) ≡ count m (spare s)
    spare_t m = ap (count m) last.spare ∙ ap (count m) next.spare

    inside_t : (m : ℕ) → inside t m ≡ inside s m
    inside_t m = last.inside m ∙ next.inside m

    -- all else stays
    stays : (m : ℕ) (n : Node) → m ≢ k → m ≢ holder 0 up → slice_get s.cells.items m ≡ Some n → slice_get t.cells.items m ≡ Some n
    stays m n a b e =
        pointed_stay put.middle t 0 up h.place.number (Some k) new next.pool around_mid reads_mid apart_mid cells_t put.link_names put.link_free m n b
        (next_stay s put.middle k (behind_of s.cells.items link child) h.node h.there h.pool (omega (arith, fresh_k)) put.next_cells put.next_names put.next_free m n a e)

    single_mid : one (holder 0 up == 0) + count_up (holder 0 up) up ≤ 1
    single_mid = omega (arith, apart_mid (holder 0 up), one_most (nat_lt (holder 0 up) (length put.middle.cells.items)))

    root : (r : Node) × (slice_get s.cells.items 0 ≡ Some r)
    root = base_there s.names.items s.cells.items up h.place.number h.place.here.reads_up

    root_mid : slice_get put.middle.cells.items 0 ≡ Some root.0
    root_mid = next_stay s put.middle k (behind_of s.cells.items link child) h.node h.there h.pool (omega (arith, fresh_k)) put.next_cells put.next_names put.next_free 0 root.0
        (λ q. absurd (omega (arith, fresh_k, own_count 0, ap (λ (x : ℕ). one (x == 0)) q))) root.1

    alone_t : IsAlone t
    alone_t = alone_pointed put.middle t up (Some k) (alone_stay s put.middle h.rooted root.0 root.1 root_mid) root.0 root_mid single_mid cells_t

    -- nothing was there
    pub put_only : child ≡ None → IsReplaced s t link child k h
    put_only e = record {
      opened = stage_open h.objects t up (Some k) new last.pool around_t reads_t h.place.here.sound_up h.place.fits tt new_sound all_t alone_t;
      whole = sym (stage_whole h.objects t up (Some k) new last.pool around_t reads_t h.place.here.sound_up h.place.fits tt new_sound all_t alone_t);
    }
      where
        none_there : (X : Forest) → child ≡ named_first h.component X → after_named h.component X ≡ X
        none_there Nil g = refl
        none_there (Bin i d x l r) g = elim (same_bytes h.component d) as (λ t. child ≡ cond t (Some i) None → cond t r (Bin i d x l r) ≡ Bin i d x l r) [ true ↦ λ q. absurd cc | false ↦ λ q. refl ] g

        all_t : (m : ℕ) → one (m == 0) + count_up m up + count m new + count m (spare t) ≡ inside t m
        all_t m = omega (arith, h.covers m, counts_at m, ap (count m) (none_there X h.place.child_is), spare_t m, inside_t m)

    -- the node that was there is given back
    module _ (old : ℕ) (e : child ≡ Some old) where
      there : IsOld s h.component old X
      there = old_of s h.component old h.place.number X h.place.here.reads (sym e ∙ h.place.child_is)

      counts_x : (m : ℕ) → count m X ≡ one (m == old) + count m there.children + count m there.siblings
      counts_x m = ap (count m) there.is

      counts_y : (m : ℕ) → count m Y ≡ count m there.siblings
      counts_y m = ap (count m) there.behind

      few : (m : ℕ) → one (m == 0) + count_up m up + one (m == old) + count m there.children + count m there.siblings + one (m == k) + count m h.children + count m (spare s) ≡ inside s m
      few m = omega (arith, h.covers m, counts_at m, counts_x m)

      lone : one (old == 0) + count_up old up + count old there.children + count old there.siblings + one (old == k) + count old h.children + count old (spare s) ≡ 0
      lone = omega (arith, few old, own_count old, one_most (nat_lt old (length s.cells.items)))

      -- what lies below it has no part in the writes
      below_stays : (m : ℕ) (n : Node) → 0 < one (m == old) + count m there.children → slice_get s.cells.items m ≡ Some n → slice_get t.cells.items m ≡ Some n
      below_stays m n g w = stays m n
          (λ q. absurd (omega (arith, few m, ap (λ (x : ℕ). one (m == x)) q, own_count m, one_most (nat_lt m (length s.cells.items)))))
          (λ q. absurd (omega (arith, few m, owner_there 0 up, ap (λ (x : ℕ). one (x == 0)) q, ap (λ (x : ℕ). count_up x up) q, one_most (nat_lt m (length s.cells.items))))) w

      old_there : slice_get t.cells.items old ≡ Some there.node
      old_there = below_stays old there.node (omega (arith, own_count old)) there.there

      names_t : t.names.items ≡ s.names.items
      names_t = put.link_names ∙ put.next_names

      old_cell : IsCell t.names.items there.node h.component there.content
      old_cell = subst (λ (b : Bytes). IsCell b there.node h.component there.content) (sym names_t) there.cell

      old_reads : Reads t.names.items t.cells.items there.node.first there.children
      old_reads = subst (λ (b : Bytes). Reads b t.cells.items there.node.first there.children) (sym names_t)
          (reads_kept s.names.items s.names.items (same_names s.names.items) s.cells.items t.cells.items there.children there.node.first (λ m n g w. below_stays m n (omega arith) w) there.reads)

      out : count old (spare t) ≡ 0
      out = omega (arith, lone, spare_t old)

      pub old_link : is_link t.cells.items (Next old) ≡ true
      old_link = inside_link t.names.items t.cells.items old (slice_get_within t.cells.items old there.node old_there)

      module _ (u v : Nodes) (cells_u : u.cells.items ≡ pointed t.cells.items (Next old) None) (names_u : u.names.items ≡ t.names.items) (free_u : u.free ≡ t.free) where
        side : IsBeside t u
        side = next_beside t u old None there.node old_there last.pool out cells_u names_u free_u

        abbrev gone : Forest
        gone = Bin old h.component there.content there.children Nil

        reads_gone : Reads u.names.items u.cells.items (Some old) gone
        reads_gone = next_before t u old None there.node old_there last.pool out cells_u names_u free_u h.component there.content there.children Nil old_cell old_reads refl (omega (arith, lone))

        around_u : ReadsUp u.names.items u.cells.items 0 up (Some k)
        around_u = next_up t u old None there.node old_there last.pool out cells_u names_u free_u 0 up (Some k) (omega (arith, lone)) around_t

        reads_u : Reads u.names.items u.cells.items (Some k) new
        reads_u = next_reads t u old None there.node old_there last.pool out cells_u names_u free_u new (Some k) (omega (arith, lone, counts_y old)) reads_t

        few_u : (m : ℕ) → count m gone + count m (spare u) ≤ inside u m
        few_u m = omega (arith, few m, ap (count m) side.spare, side.inside m, spare_t m, inside_t m)

        gone_is : forest u.names.items u.cells.items (Some old) ≡ gone
        gone_is = forest_is u.names.items u.cells.items (Some old) gone reads_gone (λ m. omega (arith, few_u m))

        pub can_free_old : CanFree u (Some old)
        can_free_old = record {
          pool = side.pool;
          walk = walk_is u.names.items u.cells.items (Some old) gone reads_gone (λ m. omega (arith, few_u m));
          apart = λ m. omega (arith, few_u m, ap (count m) gone_is);
        }

        pub put_over : IsFreed u v (Some old) → IsReplaced s v link child k h
        put_over f = record {
          opened = stage_open h.objects v up (Some k) new f.pool around_v reads_v h.place.here.sound_up h.place.fits tt new_sound all_v alone_v;
          whole = sym (stage_whole h.objects v up (Some k) new f.pool around_v reads_v h.place.here.sound_up h.place.fits tt new_sound all_v alone_v);
        }
          where
            stay_v : (m : ℕ) (n : Node) → 0 < one (m == 0) + count_up m up + count m new → slice_get u.cells.items m ≡ Some n → slice_get v.cells.items m ≡ Some n
            stay_v m n g w = f.stay m n (omega (arith, g, few m, counts_y m, ap (count m) gone_is, ap (count m) side.spare, spare_t m, one_most (nat_lt m (length s.cells.items)))) w

            around_v : ReadsUp v.names.items v.cells.items 0 up (Some k)
            around_v = subst (λ (b : Bytes). ReadsUp b v.cells.items 0 up (Some k)) (sym f.names)
                (Rattle.stage_nodes.proofs.Framing.up_kept u.names.items u.names.items (same_names u.names.items) u.cells.items v.cells.items 0 up (Some k) (λ m n g w. stay_v m n (omega arith) w) around_u)

            reads_v : Reads v.names.items v.cells.items (Some k) new
            reads_v = subst (λ (b : Bytes). Reads b v.cells.items (Some k) new) (sym f.names)
                (reads_kept u.names.items u.names.items (same_names u.names.items) u.cells.items v.cells.items new (Some k) (λ m n g w. stay_v m n (omega arith) w) reads_u)

            root_t : (r : Node) × (slice_get t.cells.items 0 ≡ Some r)
            root_t = base_there t.names.items t.cells.items up (Some k) around_t

            root_u : slice_get u.cells.items 0 ≡ Some root_t.0
            root_u = next_stay t u old None there.node old_there last.pool out cells_u names_u free_u 0 root_t.0 (λ q. absurd (omega (arith, lone, own_count 0, ap (λ (x : ℕ). one (x == 0)) q))) root_t.1

            alone_v : IsAlone v
            alone_v = alone_stay t v alone_t root_t.0 root_t.1 (stay_v 0 root_t.0 (omega (arith, own_count 0)) root_u)

            all_v : (m : ℕ) → one (m == 0) + count_up m up + count m new + count m (spare v) ≡ inside v m
            all_v m = omega (arith, few m, counts_y m, f.counts m, ap (count m) gone_is, ap (count m) side.spare, spare_t m, side.inside m, inside_t m, ap (λ (x : ℕ). one (nat_lt m x)) f.long)
