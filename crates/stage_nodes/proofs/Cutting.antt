-- A node taken out.
use Rattle.std.proofs.Common.{◌≡◌, ℕ, ◌+◌, ◌<◌, ◌≤◌, true, ◌==◌, List, [], ◌∷◌, length, Option, Some, None, refl, sym, ap, subst, ◌∙◌, arith}
use Rattle.std.specs.Prelude.{slice_get, nat_lt}
use Rattle.std.proofs.lemmas.Option.{slice_get_within}
use Rattle.git_objects.specs.Paths.{Bytes}
use Rattle.stage_nodes.specs.declared.nodes.Node.{Node}
use Rattle.stage_nodes.specs.declared.nodes.Nodes.{Nodes}
use Rattle.stage_nodes.specs.declared.nodes.Link.{Link}
use Rattle.stage_nodes.specs.declared.nodes.Link.TheVariants.{Next}
use Rattle.stage_nodes.specs.Forests.{Forest, Nil, Bin, one, count, IsCell, Reads, forest, target, is_link, Sound}
use Rattle.stage_nodes.specs.Frames.{Frame, Below, Behind, link_of, count_up, ReadsUp, Fits, FitsTop, pointed}
use Rattle.stage_nodes.specs.Pools.{CanFree, IsFreed, inside, spare}
use Rattle.stage_nodes.specs.Leaves.{is_held}
use Rattle.stage_nodes.specs.Ways.{IsAlone, kids_of}
use Rattle.stage_nodes.specs.Branches.{CanCut, IsCut, after_named}
use Rattle.stage_nodes.proofs.Order.{less_trans}
use Rattle.stage_nodes.proofs.Seeking.{inside_link}
use Rattle.stage_nodes.proofs.Framing.{holder, reads_kept, up_kept, same_names, owner_there, count_plug}
use Rattle.stage_nodes.proofs.Pools.{own_count, one_most, forest_is, walk_is}
use Rattle.stage_nodes.proofs.Freeing.{next_of}
use Rattle.stage_nodes.proofs.Pointing.{IsBeside, pointed_beside, pointed_stay, pointed_up, pointed_reads, next_stay, next_beside, next_before, next_up, next_reads}
use Rattle.stage_nodes.proofs.OnWay.{base_there, alone_stay, alone_pointed, stage_whole, stage_open, place_link}
use Rattle.stage_nodes.proofs.Replacing.{IsOld, old_of}

module _ (s : Nodes) (link : Link) (old : ℕ) (h : CanCut s link old) where
  abbrev c : Bytes
  c = h.component

  abbrev up : List Frame
  up = h.place.frames

  abbrev X : Forest
  X = h.place.rest

  abbrev Y : Forest
  Y = after_named c X

  pub there : IsOld s c old X
  there = old_of s c old h.place.number X h.place.here.reads h.place.child_is

  counts_at : (m : ℕ) → count_up m up + (one (m == old) + count m there.children + count m there.siblings) ≡ count m (kids_of s)
  counts_at m = ap (λ (n : ℕ). count_up m up + n) (sym (ap (count m) there.is)) ∙ sym (count_plug m up X) ∙ ap (count m) h.place.whole

  counts_y : (m : ℕ) → count m Y ≡ count m there.siblings
  counts_y m = ap (count m) there.behind

  few : (m : ℕ) → one (m == 0) + count_up m up + one (m == old) + count m there.children + count m there.siblings + count m (spare s) ≡ inside s m
  few m = omega (arith, h.opened.covers m, counts_at m)

  lone : one (old == 0) + count_up old up + count old there.children + count old there.siblings + count old (spare s) ≡ 0
  lone = omega (arith, few old, own_count old, one_most (nat_lt old (length s.cells.items)))

  pub cut_inside : is_link s.cells.items (Next old) ≡ true
  cut_inside = inside_link s.names.items s.cells.items old (slice_get_within s.cells.items old there.node there.there)

  pub cut_link : is_link s.cells.items link ≡ true
  cut_link = ap (is_link s.cells.items) h.place.link_is ∙ place_link h.objects s h.opened.directory up h.place.number X h.place.here.reads_up h.place.here.reads h.place.whole

  Y_reads : Reads s.names.items s.cells.items (target s.cells.items (Next old)) Y
  Y_reads = subst (λ (F : Forest). Reads s.names.items s.cells.items (target s.cells.items (Next old)) F) (sym there.behind)
      (subst (λ (o : Option ℕ). Reads s.names.items s.cells.items o there.siblings) (sym (next_of s.cells.items old there.node there.there)) there.reads_siblings)

  pub Y_sound : Sound (is_held h.objects) Y
  Y_sound = subst (Sound (is_held h.objects)) (sym there.behind) (subst (Sound (is_held h.objects)) there.is h.place.here.sound).3

  Y_fits : FitsTop up Y
  Y_fits = subst (FitsTop up) (sym there.behind) (by there.siblings (subst (Sound (is_held h.objects)) there.is h.place.here.sound).1)
    where
      far : (above : List Frame) (d : Bytes) → Fits above c → Rattle.stage_nodes.specs.Forests.bytes_cmp c d ≡ Rattle.std.specs.declared.cmp.Ordering.TheVariants.Less → Fits above d
      far [] d f g = tt
      far (Below k e r ∷ above) d f g = tt
      far (Behind k e x l ∷ above) d f g = less_trans e c d f g

      by : (F : Forest) → Rattle.stage_nodes.specs.Forests.Beyond c F → FitsTop up F
      by Nil b = tt
      by (Bin i d x l r) b = far up d h.place.fits b.0

  module _ (t : Nodes) (i : Option ℕ) (behind : i ≡ target s.cells.items (Next old)) (cells_0 : t.cells.items ≡ pointed s.cells.items link i) (names_t : t.names.items ≡ s.names.items) (free_t : t.free ≡ s.free) where
    cells_t : t.cells.items ≡ pointed s.cells.items (link_of 0 up) (target s.cells.items (Next old))
    cells_t = cells_0 ∙ (λ v. pointed s.cells.items (h.place.link_is v) (behind v))

    apart_s : (m : ℕ) → one (m == 0) + count_up m up + count m Y + count m (spare s) ≤ inside s m
    apart_s m = omega (arith, few m, counts_y m)

    last : IsBeside s t
    last = pointed_beside s t 0 up h.place.number (target s.cells.items (Next old)) Y h.opened.directory.pool h.place.here.reads_up Y_reads apart_s cells_t names_t free_t

    around_t : ReadsUp t.names.items t.cells.items 0 up (target s.cells.items (Next old))
    around_t = pointed_up s t 0 up h.place.number (target s.cells.items (Next old)) Y h.opened.directory.pool h.place.here.reads_up Y_reads apart_s cells_t names_t free_t

    reads_t : Reads t.names.items t.cells.items (target s.cells.items (Next old)) Y
    reads_t = pointed_reads s t 0 up h.place.number (target s.cells.items (Next old)) Y h.opened.directory.pool h.place.here.reads_up Y_reads apart_s cells_t names_t free_t

    below_stays : (m : ℕ) (n : Node) → 0 < one (m == old) + count m there.children → slice_get s.cells.items m ≡ Some n → slice_get t.cells.items m ≡ Some n
    below_stays m n g w = pointed_stay s t 0 up h.place.number (target s.cells.items (Next old)) Y h.opened.directory.pool h.place.here.reads_up Y_reads apart_s cells_t names_t free_t m n
        (λ q. absurd (omega (arith, few m, owner_there 0 up, ap (λ (x : ℕ). one (x == 0)) q, ap (λ (x : ℕ). count_up x up) q, one_most (nat_lt m (length s.cells.items))))) w

    old_there : slice_get t.cells.items old ≡ Some there.node
    old_there = below_stays old there.node (omega (arith, own_count old)) there.there

    pub cut_inside_2 : is_link t.cells.items (Next old) ≡ true
    cut_inside_2 = inside_link t.names.items t.cells.items old (slice_get_within t.cells.items old there.node old_there)

    module _ (u v : Nodes) (cells_u : u.cells.items ≡ pointed t.cells.items (Next old) None) (names_u : u.names.items ≡ t.names.items) (free_u : u.free ≡ t.free) where
      out : count old (spare t) ≡ 0
      out = omega (arith, lone, ap (count old) last.spare)

      side : IsBeside t u
      side = next_beside t u old None there.node old_there last.pool out cells_u names_u free_u

      abbrev gone : Forest
      gone = Bin old c there.content there.children Nil

      reads_gone : Reads u.names.items u.cells.items (Some old) gone
      reads_gone = next_before t u old None there.node old_there last.pool out cells_u names_u free_u c there.content there.children Nil
          (subst (λ (b : Bytes). IsCell b there.node c there.content) (sym names_t) there.cell)
          (subst (λ (b : Bytes). Reads b t.cells.items there.node.first there.children) (sym names_t)
          (reads_kept s.names.items s.names.items (same_names s.names.items) s.cells.items t.cells.items there.children there.node.first (λ m n g w. below_stays m n (omega arith) w) there.reads)) refl (omega (arith, lone))

      around_u : ReadsUp u.names.items u.cells.items 0 up (target s.cells.items (Next old))
      around_u = next_up t u old None there.node old_there last.pool out cells_u names_u free_u 0 up (target s.cells.items (Next old)) (omega (arith, lone)) around_t

      reads_u : Reads u.names.items u.cells.items (target s.cells.items (Next old)) Y
      reads_u = next_reads t u old None there.node old_there last.pool out cells_u names_u free_u Y (target s.cells.items (Next old)) (omega (arith, lone, counts_y old)) reads_t

      few_u : (m : ℕ) → count m gone + count m (spare u) ≤ inside u m
      few_u m = omega (arith, few m, ap (count m) side.spare, side.inside m, ap (count m) last.spare, last.inside m)

      gone_is : forest u.names.items u.cells.items (Some old) ≡ gone
      gone_is = forest_is u.names.items u.cells.items (Some old) gone reads_gone (λ m. omega (arith, few_u m))

      pub cut_can_free : CanFree u (Some old)
      cut_can_free = record {
        pool = side.pool;
        walk = walk_is u.names.items u.cells.items (Some old) gone reads_gone (λ m. omega (arith, few_u m));
        apart = λ m. omega (arith, few_u m, ap (count m) gone_is);
      }

      pub is_cut : IsFreed u v (Some old) → IsCut s v link old h
      is_cut f = record {
        opened = stage_open h.objects v up (target s.cells.items (Next old)) Y f.pool around_v reads_v h.place.here.sound_up Y_fits h.fills Y_sound all_v alone_v;
        whole = sym (stage_whole h.objects v up (target s.cells.items (Next old)) Y f.pool around_v reads_v h.place.here.sound_up Y_fits h.fills Y_sound all_v alone_v);
      }
        where
          stay_v : (m : ℕ) (n : Node) → 0 < one (m == 0) + count_up m up + count m Y → slice_get u.cells.items m ≡ Some n → slice_get v.cells.items m ≡ Some n
          stay_v m n g w = f.stay m n (omega (arith, g, few m, counts_y m, ap (count m) gone_is, ap (count m) side.spare, ap (count m) last.spare, one_most (nat_lt m (length s.cells.items)))) w

          around_v : ReadsUp v.names.items v.cells.items 0 up (target s.cells.items (Next old))
          around_v = subst (λ (b : Bytes). ReadsUp b v.cells.items 0 up (target s.cells.items (Next old))) (sym f.names)
              (up_kept u.names.items u.names.items (same_names u.names.items) u.cells.items v.cells.items 0 up (target s.cells.items (Next old)) (λ m n g w. stay_v m n (omega arith) w) around_u)

          reads_v : Reads v.names.items v.cells.items (target s.cells.items (Next old)) Y
          reads_v = subst (λ (b : Bytes). Reads b v.cells.items (target s.cells.items (Next old)) Y) (sym f.names)
              (reads_kept u.names.items u.names.items (same_names u.names.items) u.cells.items v.cells.items Y (target s.cells.items (Next old)) (λ m n g w. stay_v m n (omega arith) w) reads_u)

          root : (r : Node) × (slice_get s.cells.items 0 ≡ Some r)
          root = (h.opened.directory.node, h.opened.directory.there)

          root_t : (r : Node) × (slice_get t.cells.items 0 ≡ Some r)
          root_t = base_there t.names.items t.cells.items up (target s.cells.items (Next old)) around_t

          single : one (holder 0 up == 0) + count_up (holder 0 up) up ≤ 1
          single = omega (arith, apart_s (holder 0 up), one_most (nat_lt (holder 0 up) (length s.cells.items)))

          alone_t : IsAlone t
          alone_t = alone_pointed s t up (target s.cells.items (Next old)) h.opened.alone root.0 root.1 single cells_t

          root_u : slice_get u.cells.items 0 ≡ Some root_t.0
          root_u = next_stay t u old None there.node old_there last.pool out cells_u names_u free_u 0 root_t.0 (λ q. absurd (omega (arith, lone, own_count 0, ap (λ (x : ℕ). one (x == 0)) q))) root_t.1

          alone_v : IsAlone v
          alone_v = alone_stay t v alone_t root_t.0 root_t.1 (stay_v 0 root_t.0 (omega (arith, own_count 0)) root_u)

          all_v : (m : ℕ) → one (m == 0) + count_up m up + count m Y + count m (spare v) ≡ inside v m
          all_v m = omega (arith, few m, counts_y m, f.counts m, ap (count m) gone_is, ap (count m) side.spare, ap (count m) last.spare, side.inside m, last.inside m, ap (λ (x : ℕ). one (nat_lt m x)) f.long)
