-- A directory closed, and what its tree lists.
use Rattle.std.proofs.Common.{◌≡◌, ℕ, ◌+◌, ◌<◌, ◌≤◌, ◌≢◌, true, false, cond, ◌==◌, List, [], ◌∷◌, ◌++◌, length, Some, None, refl, sym, ap, subst, ◌∙◌, arith}
use Rattle.std.specs.Prelude.{slice_get, slice_set, nat_lt}
use Rattle.std.specs.Cmp.{first_so, second_so}
use Rattle.std.specs.Cmp.Lexicographic.{bytes_decides}
use Rattle.std.proofs.lemmas.Option.{slice_get_within}
use Rattle.git_objects.specs.Paths.{Bytes, Path, same_bytes}
use Rattle.git_objects.specs.Trees.{at, rests}
use Rattle.git_objects.specs.Bodies.{is_name}
use Rattle.git_objects.specs.declared.entry.Entry.{Entry}
use Rattle.git_objects.specs.declared.mode.Mode.TheVariants.{Dir}
use Rattle.git_objects.specs.declared.name.Name.{Name}
use Rattle.object_store.specs.Objects.{Object, IsStore, has_child}
use Rattle.object_store.proofs.Unfolding.{IsHeld}
use Rattle.path_trees.specs.Listed.{changed, named}
use Rattle.path_trees.specs.Standing.{node}
use Rattle.path_trees.specs.declared.found.Found.{Found}
use Rattle.path_trees.proofs.Grown.{joined_in, child-above, node-above}
use Rattle.path_trees.proofs.Levels.{at-changed}
use Rattle.path_trees.proofs.Trees.{AreGood, good-changed}
use Rattle.git_objects.proofs.Basics.{and_both}
use Rattle.stage_nodes.specs.declared.nodes.Node.{Node}
use Rattle.stage_nodes.specs.declared.nodes.Nodes.{Nodes}
use Rattle.stage_nodes.specs.declared.nodes.Content.{Content}
use Rattle.stage_nodes.specs.declared.nodes.Content.TheVariants.{Held, Open}
use Rattle.stage_nodes.specs.declared.nodes.Link.TheVariants.{Next}
use Rattle.stage_nodes.specs.Forests.{Forest, Nil, Bin, one, count, IsCell, Reads, forest, is_link, Beyond, Sound}
use Rattle.stage_nodes.specs.Frames.{plug, count_up, ReadsUp}
use Rattle.stage_nodes.specs.Pools.{IsPool, CanFree, IsFreed, inside, spare}
use Rattle.stage_nodes.specs.Leaves.{leaf_in, is_held}
use Rattle.stage_nodes.specs.Ways.{IsAlone, kids_of}
use Rattle.stage_nodes.specs.Closing.{AreTips, gathered, CanClose, IsClosedAt}
use Rattle.stage_nodes.proofs.Seeking.{inside_link}
use Rattle.stage_nodes.proofs.Framing.{reads_kept, up_kept, same_names, count_plug}
use Rattle.stage_nodes.proofs.Pools.{own_count, one_most, forest_is, walk_is}
use Rattle.stage_nodes.proofs.Pointing.{IsBeside, set_there, set_stay, set_beside, set_reads}
use Rattle.stage_nodes.proofs.OnWay.{alone_stay, stage_whole, stage_open, leaf_same}

-- ---- what a directory's children list

module _ (S : List Object) where
  pub gathered_good : (K : Forest) (es : List Entry) → AreTips K → Sound (is_held S) K → AreGood S es → AreGood S (gathered es K)
  gathered_good Nil es t s g = g
  gathered_good (Bin k c (Held f) l r) es t s g =
      gathered_good r (changed c (Some f) es) t s.3
      (good-changed S c (Some f) es s.0.component (record { child = first_so (has_child S f.mode f.name.0) (is_name f.name.0) s.0.content; name = second_so (has_child S f.mode f.name.0) (is_name f.name.0) s.0.content }) g)
  gathered_good (Bin k c Open l r) es t s g = absurd t

  -- each component has what its sibling stands for, or what it had
  pub gathered_leaf : (K : Forest) (es : List Entry) → AreTips K → Sound (is_held S) K → AreGood S es → (d : Bytes) (p : Path) → at (joined_in S es) (d ∷ p) ≡ None → at (joined_in S (gathered es K)) (d ∷ p) ≡ leaf_in S K (d ∷ p)
  gathered_leaf Nil es t s g d p h = h
  gathered_leaf (Bin k c Open l r) es t s g d p h = absurd t
  gathered_leaf (Bin k c (Held f) l r) es t s g d p h =
      let held : IsHeld S (named c f) = record { child = first_so (has_child S f.mode f.name.0) (is_name f.name.0) s.0.content; name = second_so (has_child S f.mode f.name.0) (is_name f.name.0) s.0.content } in
      let good : AreGood S (changed c (Some f) es) = good-changed S c (Some f) es s.0.component held g in
      let now : at (joined_in S (changed c (Some f) es)) (d ∷ p) ≡ cond (same_bytes d c) (at (rests (node S f)) p) (at (joined_in S es) (d ∷ p)) = at-changed S c (Some f) es g.entries good.entries d p in
      elim (same_bytes d c) as (λ b. same_bytes d c ≡ b → at (joined_in S (gathered (changed c (Some f) es) r)) (d ∷ p) ≡ cond b (at (rests (node S f)) p) (leaf_in S r (d ∷ p))) [
        | true ↦ λ e. kept r (changed c (Some f) es) t s.3 good d p (subst (λ (b : Bytes). Beyond b r) (sym ((bytes_decides d c).0 e)) s.1) ∙ now ∙ ap (λ b. cond b (at (rests (node S f)) p) (at (joined_in S es) (d ∷ p))) e
        | false ↦ λ e. gathered_leaf r (changed c (Some f) es) t s.3 good d p (now ∙ ap (λ b. cond b (at (rests (node S f)) p) (at (joined_in S es) (d ∷ p))) e ∙ h)
      ] refl
    where
      kept : (K : Forest) (es : List Entry) → AreTips K → Sound (is_held S) K → AreGood S es → (d : Bytes) (p : Path) → Beyond d K → at (joined_in S (gathered es K)) (d ∷ p) ≡ at (joined_in S es) (d ∷ p)
      kept Nil es t s g d p b = refl
      kept (Bin k c Open l r) es t s g d p b = absurd t
      kept (Bin k c (Held f) l r) es t s g d p b =
          let held : IsHeld S (named c f) = record { child = first_so (has_child S f.mode f.name.0) (is_name f.name.0) s.0.content; name = second_so (has_child S f.mode f.name.0) (is_name f.name.0) s.0.content } in
          let good : AreGood S (changed c (Some f) es) = good-changed S c (Some f) es s.0.component held g in
          kept r (changed c (Some f) es) t s.3 good d p b.1
          ∙ at-changed S c (Some f) es g.entries good.entries d p
          ∙ ap (λ v. cond v (at (rests (node S f)) p) (at (joined_in S es) (d ∷ p))) (Rattle.stage_nodes.proofs.Order.less_apart d c b.0)

-- ---- the store grows

module _ (newer S : List Object) (s : IsStore (newer ++ S)) where
  pub held-above : (x : Content) → is_held S x ≡ true → is_held (newer ++ S) x ≡ true
  held-above Open h = refl
  held-above (Held f) h = and_both (child-above newer S f.mode f.name.0 s (first_so (has_child S f.mode f.name.0) (is_name f.name.0) h)) (second_so (has_child S f.mode f.name.0) (is_name f.name.0) h)

  pub sound-above : (F : Forest) → Sound (is_held S) F → Sound (is_held (newer ++ S)) F
  sound-above Nil h = tt
  sound-above (Bin k c x l r) h = (record { component = h.0.component; filled = h.0.filled; content = held-above x h.0.content }, h.1, sound-above l h.2, sound-above r h.3)

  pub leaf-above : (F : Forest) (p : Path) → Sound (is_held S) F → leaf_in (newer ++ S) F p ≡ leaf_in S F p
  leaf-above Nil p h = refl
  leaf-above (Bin k c x l r) [] h = refl
  leaf-above (Bin k c Open l r) (d ∷ p) h = λ i. cond (same_bytes d c) (leaf-above l p h.2 i) (leaf-above r (d ∷ p) h.3 i)
  leaf-above (Bin k c (Held f) l r) (d ∷ p) h = λ i. cond (same_bytes d c) (at (rests (node-above newer S f.mode f.name.0 s (first_so (has_child S f.mode f.name.0) (is_name f.name.0) h.0.content) i)) p) (leaf-above r (d ∷ p) h.3 i)

-- ---- the node closed

module _ (s t u : Nodes) (k : ℕ) (n : Name) (h : CanClose s k n) where
  abbrev old : Node
  old = h.reads.node

  abbrev K : Forest
  K = h.children

  abbrev f : Found
  f = record { mode = Dir; name = n }

  abbrev new_node : Node
  new_node = record old { content = Held f; first = None }

  counts_at : (m : ℕ) → count_up m h.frames + (one (m == k) + count m K + count m h.siblings) ≡ count m (kids_of s)
  counts_at m = sym (count_plug m h.frames (Bin k h.component Open K h.siblings)) ∙ ap (count m) h.whole

  all : (m : ℕ) → one (m == 0) + count_up m h.frames + one (m == k) + count m K + count m h.siblings + count m (spare s) ≡ inside s m
  all m = omega (arith, h.opened.covers m, counts_at m)

  lone : one (k == 0) + count_up k h.frames + count k K + count k h.siblings + count k (spare s) ≡ 0
  lone = omega (arith, all k, own_count k, one_most (nat_lt k (length s.cells.items)))

  pub close_inside : is_link s.cells.items (Next k) ≡ true
  close_inside = inside_link s.names.items s.cells.items k (slice_get_within s.cells.items k old h.reads.there)

  module _ (cells : t.cells.items ≡ slice_set s.cells.items k new_node) (names : t.names.items ≡ s.names.items) (free : t.free ≡ s.free) where
    pool : IsPool s
    pool = h.opened.directory.pool

    side : IsBeside s t
    side = set_beside s t k old new_node h.reads.there pool (omega (arith, lone)) cells names free

    kids_t : Reads t.names.items t.cells.items old.first K
    kids_t = set_reads s t k old new_node h.reads.there pool (omega (arith, lone)) cells names free K old.first (omega (arith, lone)) h.reads.children

    few : (m : ℕ) → count m K + count m (spare t) ≤ inside t m
    few m = omega (arith, all m, ap (count m) side.spare, side.inside m)

    kids_are : forest t.names.items t.cells.items old.first ≡ K
    kids_are = forest_is t.names.items t.cells.items old.first K kids_t (λ m. omega (arith, few m))

    pub close_can_free : CanFree t old.first
    close_can_free = record { pool = side.pool; walk = walk_is t.names.items t.cells.items old.first K kids_t (λ m. omega (arith, few m)); apart = λ m. omega (arith, few m, ap (count m) kids_are) }

    module _ (g : IsFreed t u old.first) where
      -- what isn't below the node stays
      stays : (m : ℕ) (v : Node) → m ≢ k → count m K + count m (spare s) ≡ 0 → slice_get s.cells.items m ≡ Some v → slice_get u.cells.items m ≡ Some v
      stays m v a z e = g.stay m v (omega (arith, z, ap (count m) kids_are, ap (count m) side.spare)) (set_stay s t k old new_node h.reads.there pool (omega (arith, lone)) cells names free m v a e)

      names_u : u.names.items ≡ s.names.items
      names_u = g.names ∙ names

      there_u : slice_get u.cells.items k ≡ Some new_node
      there_u = g.stay k new_node (omega (arith, lone, ap (count k) kids_are, ap (count k) side.spare)) (set_there s t k old new_node h.reads.there pool (omega (arith, lone)) cells names free)

      stay_of : (m : ℕ) (v : Node) → 0 < one (m == 0) + count_up m h.frames + count m h.siblings → slice_get s.cells.items m ≡ Some v → slice_get u.cells.items m ≡ Some v
      stay_of m v q e = stays m v (λ w. absurd (omega (arith, lone, ap (λ (x : ℕ). one (x == 0) + count_up x h.frames + count x h.siblings) w))) (omega (arith, q, all m, one_most (nat_lt m (length s.cells.items)))) e

      around_u : ReadsUp u.names.items u.cells.items 0 h.frames (Some k)
      around_u = subst (λ (b : Bytes). ReadsUp b u.cells.items 0 h.frames (Some k)) (sym names_u) (up_kept s.names.items s.names.items (same_names s.names.items) s.cells.items u.cells.items 0 h.frames (Some k) (λ m v q e. stay_of m v (omega arith) e) h.around)

      siblings_u : Reads u.names.items u.cells.items old.next h.siblings
      siblings_u = subst (λ (b : Bytes). Reads b u.cells.items old.next h.siblings) (sym names_u) (reads_kept s.names.items s.names.items (same_names s.names.items) s.cells.items u.cells.items h.siblings old.next (λ m v q e. stay_of m v (omega arith) e) h.reads.siblings)

      abbrev new : Forest
      new = Bin k h.component (Held f) Nil h.siblings

      reads_u : Reads u.names.items u.cells.items (Some k) new
      reads_u = record {
        number = refl;
        node = new_node;
        there = there_u;
        cell = subst (λ (b : Bytes). IsCell b new_node h.component (Held f)) (sym names_u) (record { within = h.reads.cell.within; component = h.reads.cell.component; content = refl });
        children = refl;
        siblings = siblings_u;
      }

      sound_new : Sound (is_held h.objects) new
      sound_new = (record { component = h.sound.0.component; filled = refl; content = h.held }, h.sound.1, tt, h.sound.3)

      covers_u : (m : ℕ) → one (m == 0) + count_up m h.frames + count m new + count m (spare u) ≡ inside u m
      covers_u m = omega (arith, all m, g.counts m, ap (count m) kids_are, ap (count m) side.spare, side.inside m, ap (λ (x : ℕ). one (nat_lt m x)) g.long)

      alone_u : IsAlone u
      alone_u = alone_stay s u h.opened.alone h.opened.directory.node h.opened.directory.there (stay_of 0 h.opened.directory.node (omega (arith, own_count 0)) h.opened.directory.there)

      whole_u : plug h.frames new ≡ kids_of u
      whole_u = stage_whole h.objects u h.frames (Some k) new g.pool around_u reads_u h.sound_up h.fits tt sound_new covers_u alone_u

      pub is_closed_at : IsClosedAt s u k n h
      is_closed_at = record {
        opened = stage_open h.objects u h.frames (Some k) new g.pool around_u reads_u h.sound_up h.fits tt sound_new covers_u alone_u;
        whole = sym whole_u;
        leaves = λ p. ap (λ (F : Forest). leaf_in h.objects F p) (sym whole_u) ∙ leaf_same h.objects h.frames new (Bin k h.component Open K h.siblings) alike p ∙ ap (λ (F : Forest). leaf_in h.objects F p) h.whole;
      }
        where
          alike : (p : Path) → leaf_in h.objects new p ≡ leaf_in h.objects (Bin k h.component Open K h.siblings) p
          alike [] = refl
          alike (d ∷ p) = ap (λ o. cond (same_bytes d h.component) o (leaf_in h.objects h.siblings (d ∷ p))) (sym (h.leaves p))
