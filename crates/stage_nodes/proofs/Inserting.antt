-- A child added to a directory.
use Rattle.std.proofs.Common.{◌≡◌, inl, inr, ℕ, ◌+◌, ◌<◌, ◌≤◌, ◌≢◌, Bool, true, false, cond, ◌||◌, ◌==◌, List, [], ◌∷◌, length, Option, Some, None, refl, sym, ap, subst, ◌∙◌, arith, true≢false}
use Rattle.std.specs.Prelude.{slice_get, nat_lt}
use Rattle.std.specs.declared.cmp.Ordering.TheVariants.{Less}
use Rattle.std.specs.Ordering.{is_lt}
use Rattle.std.proofs.lemmas.Bool.{or_right}
use Rattle.std.proofs.lemmas.Bool.Decides.{eqb_tells}
use Rattle.std.proofs.lemmas.Option.{slice_get_within}
use Rattle.git_objects.specs.Paths.{Bytes, Path, same_bytes, is_component}
use Rattle.object_store.specs.Objects.{Object}
use Rattle.path_trees.specs.declared.found.Found.{Found}
use Rattle.stage_nodes.specs.declared.nodes.Node.{Node}
use Rattle.stage_nodes.specs.declared.nodes.Nodes.{Nodes}
use Rattle.stage_nodes.specs.declared.nodes.Content.{Content}
use Rattle.stage_nodes.specs.declared.nodes.Content.TheVariants.{Held}
use Rattle.stage_nodes.specs.declared.nodes.Link.TheVariants.{First, Next}
use Rattle.stage_nodes.specs.Forests.{Forest, Nil, Bin, one, count, Reads, target, is_link, sought, inserted, bytes_cmp, Beyond, IsSound, Sound}
use Rattle.stage_nodes.specs.Frames.{Frame, plug, link_of, count_up, ReadsUp}
use Rattle.stage_nodes.specs.Pools.{inside, spare, hanging, IsAdded, IsPutBefore}
use Rattle.stage_nodes.specs.Directories.{any, has_component, has_number, IsDirectory, IsAddedTo}
use Rattle.stage_nodes.specs.Leaves.{leaf_in, leaf_below}
use Rattle.path_trees.proofs.Gathering.{is_less}
use Rattle.stage_nodes.proofs.Order.{less_trans, less_back}
use Rattle.stage_nodes.proofs.Seeking.{inside_link}
use Rattle.stage_nodes.proofs.Framing.{reads_kept, holder, target_up, count_plug, ReadsAll}
use Rattle.stage_nodes.proofs.Pools.{own_count, one_most}
use Rattle.stage_nodes.proofs.Places.{IsFound, found_here}
use Rattle.stage_nodes.proofs.Pointing.{IsBeside, pointed_all, pointed_beside, pointed_stay, next_stay, next_beside, next_before, next_up, base_written}

-- ---- a sibling more

pub count_inserted : (m : ℕ) (c : Bytes) (k : ℕ) (x : Content) (l F : Forest) → count m (inserted c k x l F) ≡ one (m == k) + count m l + count m F
count_inserted m c k x l Nil = refl
count_inserted m c k x l (Bin j d y n r) =
    elim (is_lt (bytes_cmp d c)) as (λ t. count m (cond t (Bin j d y n (inserted c k x l r)) (Bin k c x l (Bin j d y n r))) ≡ one (m == k) + count m l + (one (m == j) + count m n + count m r)) [
      | true ↦ omega (arith, count_inserted m c k x l r)
      | false ↦ omega arith
    ]

or_false : (a b : Bool) → (a || b) ≡ false → (a ≡ false) × (b ≡ false)
or_false true b h = absurd (true≢false h)
or_false false b h = (refl, h)

beyond_far : (c e : Bytes) (r : Forest) → bytes_cmp c e ≡ Less → Beyond e r → Beyond c r
beyond_far c e Nil h b = tt
beyond_far c e (Bin i g z u v) h b = (less_trans c e g h b.0, beyond_far c e v h b.1)

beyond_inserted : (d c : Bytes) (k : ℕ) (x : Content) (l F : Forest) → bytes_cmp d c ≡ Less → Beyond d F → Beyond d (inserted c k x l F)
beyond_inserted d c k x l Nil h b = (h, tt)
beyond_inserted d c k x l (Bin j e y n r) h b =
    elim (is_lt (bytes_cmp e c)) as (λ t. Beyond d (cond t (Bin j e y n (inserted c k x l r)) (Bin k c x l (Bin j e y n r)))) [
      | true ↦ (b.0, beyond_inserted d c k x l r h b.1)
      | false ↦ (h, b)
    ]

module _ (p : Content → Bool) (c : Bytes) (k : ℕ) (x : Content) (l : Forest) where
  pub sound_inserted : (F : Forest) → IsSound p c x l → Sound p l → has_component c F ≡ false → Sound p F → Sound p (inserted c k x l F)
  sound_inserted Nil h g n s = (h, tt, g, tt)
  sound_inserted (Bin j d y m r) h g n s =
      let apart = or_false (same_bytes c d) (has_component c r) n in
      elim (is_lt (bytes_cmp d c)) as (λ t. is_lt (bytes_cmp d c) ≡ t → Sound p (cond t (Bin j d y m (inserted c k x l r)) (Bin k c x l (Bin j d y m r)))) [
        | true ↦ λ e. (s.0, beyond_inserted d c k x l r (is_less (bytes_cmp d c) e) s.1, s.2, sound_inserted r h g apart.1 s.3)
        | false ↦ λ e. let less = less_back c d e apart.0 in (h, (less, beyond_far c d r less s.1), g, s)
      ] refl

own_number : (k : ℕ) (F : Forest) → (k == k || has_number k F) ≡ true
own_number k F = elim (eqb_tells k k) [ inl e ↦ ap (λ b. b || has_number k F) e.0 | inr e ↦ absurd (e.1 refl) ]

has_more : (a b e : Bool) → (a || (b || e)) ≡ (b || (a || e))
has_more true true e = refl
has_more true false e = refl
has_more false true e = refl
has_more false false e = refl

pub has_inserted : (d c : Bytes) (k : ℕ) (x : Content) (l F : Forest) → has_component d (inserted c k x l F) ≡ (same_bytes d c || has_component d F)
has_inserted d c k x l Nil = refl
has_inserted d c k x l (Bin j e y n r) =
    elim (is_lt (bytes_cmp e c)) as (λ t. has_component d (cond t (Bin j e y n (inserted c k x l r)) (Bin k c x l (Bin j e y n r))) ≡ (same_bytes d c || (same_bytes d e || has_component d r))) [
      | true ↦ ap (λ b. same_bytes d e || b) (has_inserted d c k x l r) ∙ has_more (same_bytes d e) (same_bytes d c) (has_component d r)
      | false ↦ refl
    ]

pub number_inserted : (c : Bytes) (k : ℕ) (x : Content) (l F : Forest) → has_number k (inserted c k x l F) ≡ true
number_inserted c k x l Nil = own_number k Nil
number_inserted c k x l (Bin j e y n r) =
    elim (is_lt (bytes_cmp e c)) as (λ t. has_number k (cond t (Bin j e y n (inserted c k x l r)) (Bin k c x l (Bin j e y n r))) ≡ true) [
      | true ↦ (λ i. k == j || number_inserted c k x l r i) ∙ or_right (k == j) true refl
      | false ↦ own_number k (Bin j e y n r)
    ]

kept_behind : (v : Bool) (m : ℕ) (r s : Forest) → (v || has_number m r) ≡ true → (has_number m r ≡ true → has_number m s ≡ true) → (v || has_number m s) ≡ true
kept_behind true m r s h f = refl
kept_behind false m r s h f = f h

pub number_kept : (c : Bytes) (m k : ℕ) (x : Content) (l F : Forest) → has_number m F ≡ true → has_number m (inserted c k x l F) ≡ true
number_kept c m k x l Nil h = absurd (true≢false (sym h))
number_kept c m k x l (Bin j e y n r) h =
    elim (is_lt (bytes_cmp e c)) as (λ t. has_number m (cond t (Bin j e y n (inserted c k x l r)) (Bin k c x l (Bin j e y n r))) ≡ true) [
      | true ↦ kept_behind (m == j) m r (inserted c k x l r) h (number_kept c m k x l r)
      | false ↦ (λ i. m == k || h i) ∙ or_right (m == k) true refl
    ]

-- what it adds
pub leaf_inserted : (S : List Object) (d c : Bytes) (p : Path) (k : ℕ) (x : Content) (l F : Forest) → has_component c F ≡ false → leaf_in S (inserted c k x l F) (d ∷ p) ≡ cond (same_bytes d c) (leaf_below S x (leaf_in S l) p) (leaf_in S F (d ∷ p))
leaf_inserted S d c p k x l Nil n = refl
leaf_inserted S d c p k x l (Bin j e y m r) n =
    let apart = or_false (same_bytes c e) (has_component c r) n in
    elim (is_lt (bytes_cmp e c)) as (λ t. leaf_in S (cond t (Bin j e y m (inserted c k x l r)) (Bin k c x l (Bin j e y m r))) (d ∷ p) ≡ cond (same_bytes d c) (leaf_below S x (leaf_in S l) p) (cond (same_bytes d e) (leaf_below S y (leaf_in S m) p) (leaf_in S r (d ∷ p)))) [
      | true ↦ ap (cond (same_bytes d e) (leaf_below S y (leaf_in S m) p)) (leaf_inserted S d c p k x l r apart.1)
          ∙ elim (same_bytes d c) as (λ b. same_bytes d c ≡ b → cond (same_bytes d e) (leaf_below S y (leaf_in S m) p) (cond b (leaf_below S x (leaf_in S l) p) (leaf_in S r (d ∷ p))) ≡ cond b (leaf_below S x (leaf_in S l) p) (cond (same_bytes d e) (leaf_below S y (leaf_in S m) p) (leaf_in S r (d ∷ p)))) [
            | true ↦ λ q. ap (λ b. cond b (leaf_below S y (leaf_in S m) p) (leaf_below S x (leaf_in S l) p)) (ap (λ z. same_bytes z e) ((Rattle.std.specs.Cmp.Lexicographic.bytes_decides d c).0 q) ∙ apart.0)
            | false ↦ λ q. refl
          ] refl
      | false ↦ refl
    ]

-- ---- in the vector

module _ (s t : Nodes) (b : ℕ) (c : Bytes) (f : Found) (K : Forest) (same : hanging s (First b) ≡ K) (dir : IsDirectory s b K) (k : ℕ) (ad : IsAdded s t c (Held f) None k) where
  -- the number is new
  fresh : one (k == b) + count k K + count k (spare t) ≡ 0
  fresh = omega (arith, ad.counts k, dir.apart k, own_count k, one_most (nat_lt k (length t.cells.items)))

  there_t : slice_get t.cells.items b ≡ Some dir.node
  there_t = ad.stay b dir.node (omega (arith, dir.apart b, own_count b, one_most (nat_lt b (length s.cells.items)))) dir.there

  kids_t : Reads t.names.items t.cells.items dir.node.first K
  kids_t = reads_kept s.names.items t.names.items ad.names s.cells.items t.cells.items K dir.node.first (λ m n g h. ad.stay m n (omega (arith, dir.apart m, one_most (nat_lt m (length s.cells.items)))) h) dir.children

  apart_t : (m : ℕ) → one (m == b) + count m K + one (m == k) + count m (spare t) ≤ inside t m
  apart_t m = omega (arith, ad.counts m, dir.apart m)

  link_t : is_link t.cells.items (First b) ≡ true
  link_t = inside_link t.names.items t.cells.items b (slice_get_within t.cells.items b dir.node there_t)

  pub number_t : is_link t.cells.items (Next k) ≡ true
  number_t = inside_link t.names.items t.cells.items k (slice_get_within t.cells.items k ad.node ad.there)

  pub found : IsFound any t.names.items t.cells.items b c [] K
  found = found_here any t.names.items t.cells.items b c K [] dir.node.first (record {
    reads_up = record { node = dir.node; there = there_t; opened = dir.opened; first = refl };
    reads = kids_t;
    sound_up = tt;
    sound = dir.sound;
    fits = top K;
  }) tt
    where
      top : (F : Forest) → Rattle.stage_nodes.specs.Frames.FitsTop [] F
      top Nil = tt
      top (Bin i d x l r) = tt

  pub link_is : sought c (First b) K ≡ link_of b found.frames
  link_is = sym found.link

  pub link_there : is_link t.cells.items (link_of b found.frames) ≡ true
  link_there = by found.frames found.number found.here.reads_up
    where
      by : (up : List Frame) (j : Option ℕ) → ReadsUp t.names.items t.cells.items b up j → is_link t.cells.items (link_of b up) ≡ true
      by [] j h = link_t
      by (Rattle.stage_nodes.specs.Frames.Below i d r ∷ up) j h = inside_link t.names.items t.cells.items i (slice_get_within t.cells.items i h.node h.there)
      by (Rattle.stage_nodes.specs.Frames.Behind i d x l ∷ up) j h = inside_link t.names.items t.cells.items i (slice_get_within t.cells.items i h.node h.there)

  module _ (s' : Nodes) (absent : has_component c K ≡ false) (valid : is_component c ≡ true) (put : IsPutBefore t s' (link_of b found.frames) (target t.cells.items (link_of b found.frames)) k) where
    abbrev up : List Frame
    up = found.frames

    abbrev rest : Forest
    rest = found.rest

    abbrev new : Forest
    new = Bin k c (Held f) Nil rest

    counts_up : (m : ℕ) → count_up m up + count m rest ≡ count m K
    counts_up m = sym (count_plug m up rest) ∙ ap (count m) found.whole

    fresh_up : one (k == b) + count_up k up + count k rest ≡ 0
    fresh_up = omega (arith, fresh, counts_up k)

    reads_rest : Reads t.names.items t.cells.items (target t.cells.items (link_of b up)) rest
    reads_rest = subst (λ (o : Option ℕ). Reads t.names.items t.cells.items o rest) (sym (target_up t.names.items t.cells.items b up found.number found.here.reads_up)) found.here.reads

    next : IsBeside t put.middle
    next = next_beside t put.middle k (target t.cells.items (link_of b up)) ad.node ad.there ad.pool (omega (arith, fresh)) put.next_cells put.next_names put.next_free

    reads_new : Reads put.middle.names.items put.middle.cells.items (Some k) new
    reads_new =
        next_before t put.middle k (target t.cells.items (link_of b up)) ad.node ad.there ad.pool (omega (arith, fresh)) put.next_cells put.next_names put.next_free
        c (Held f) Nil rest ad.cell ad.first reads_rest (omega (arith, fresh_up))

    around : ReadsUp put.middle.names.items put.middle.cells.items b up found.number
    around =
        next_up t put.middle k (target t.cells.items (link_of b up)) ad.node ad.there ad.pool (omega (arith, fresh)) put.next_cells put.next_names put.next_free
        b up found.number (omega (arith, fresh_up)) found.here.reads_up

    apart_u : (m : ℕ) → one (m == b) + count_up m up + count m new + count m (spare put.middle) ≤ inside put.middle m
    apart_u m = omega (arith, apart_t m, counts_up m, ap (count m) next.spare, next.inside m)

    all : ReadsAll s'.names.items s'.cells.items b (plug up new)
    all = pointed_all put.middle s' b up found.number (Some k) new next.pool around reads_new apart_u put.link_cells put.link_names put.link_free

    last : IsBeside put.middle s'
    last = pointed_beside put.middle s' b up found.number (Some k) new next.pool around reads_new apart_u put.link_cells put.link_names put.link_free

    made : plug up new ≡ inserted c k (Held f) Nil K
    made = found.put k (Held f) Nil

    directory : IsDirectory s' b (inserted c k (Held f) Nil K)
    directory = record {
      pool = last.pool;
      node = all.node;
      there = all.there;
      opened = all.opened;
      children = subst (Reads s'.names.items s'.cells.items all.node.first) made all.children;
      sound = sound_inserted any c k (Held f) Nil K (record { component = valid; filled = refl; content = refl }) tt absent dir.sound;
      apart = λ m. omega (arith, count_inserted m c k (Held f) Nil K, apart_t m, last.inside m, next.inside m, ap (count m) last.spare, ap (count m) next.spare);
    }

    others : (m : ℕ) (n : Node) → m ≢ k → m ≢ holder b up → slice_get t.cells.items m ≡ Some n → slice_get s'.cells.items m ≡ Some n
    others m n a h e =
        pointed_stay put.middle s' b up found.number (Some k) new next.pool around reads_new apart_u put.link_cells put.link_names put.link_free m n h
        (next_stay t put.middle k (target t.cells.items (link_of b up)) ad.node ad.there ad.pool (omega (arith, fresh)) put.next_cells put.next_names put.next_free m n a e)

    pub is_added : IsAddedTo s s' b c f k
    is_added =
        let dd = subst (λ (F : Forest). IsDirectory s' b (inserted c k (Held f) Nil F)) (sym same) directory in
        record {
          directory = dd;
          names = record { more = ad.names.more; front = ad.names.front ∙ sym (put.link_names ∙ put.next_names) };
          node = λ n h. kept_node dd.node dd.there n h;
          counts = λ m. omega (arith, ap (λ (F : Forest). count m (inserted c k (Held f) Nil F)) same, ap (count m) same, count_inserted m c k (Held f) Nil K, ad.counts m, last.inside m, next.inside m, ap (count m) last.spare, ap (count m) next.spare);
          stay = λ m n z e. others m n (λ q. absurd (omega (arith, z, kept_apart m, ap (count m) same, ap (λ (v : ℕ). one (m == v)) q, own_count m, inside_there m n e))) (λ q. absurd (omega (arith, z, ap (count m) same, holder_in m q))) (ad.stay m n (omega arith) e);
        }
      where
        single : one (holder b up == b) + count_up (holder b up) up ≤ 1
        single = omega (arith, apart_u (holder b up), one_most (nat_lt (holder b up) (length put.middle.cells.items)))

        there_u : slice_get put.middle.cells.items b ≡ Some dir.node
        there_u = next_stay t put.middle k (target t.cells.items (link_of b up)) ad.node ad.there ad.pool (omega (arith, fresh)) put.next_cells put.next_names put.next_free b dir.node (λ q. absurd (omega (arith, fresh, ap (λ (v : ℕ). one (v == b)) q, own_count b))) there_t

        kept_node : (n' : Node) → slice_get s'.cells.items b ≡ Some n' → (n : Node) → slice_get s.cells.items b ≡ Some n → record n' { first = n.first } ≡ n
        kept_node n' h' n h =
            let e : dir.node ≡ n = cc' dir.there h in
            base_written put.middle.cells.items b up (Some k) n n' single (there_u ∙ ap Some e) (ap (λ (v : List Node). slice_get v b) (sym put.link_cells) ∙ h')
          where
            cc' : {o : Option Node} {a d : Node} → o ≡ Some a → o ≡ Some d → a ≡ d
            cc' h g = cc

        inside_there : (m : ℕ) (n : Node) → slice_get s.cells.items m ≡ Some n → inside s m ≡ 1
        inside_there m n e = Rattle.stage_nodes.proofs.Pools.inside_one m (length s.cells.items) (slice_get_within s.cells.items m n e)

        kept_apart : (m : ℕ) → count m (spare t) + one (m == k) + inside s m ≤ count m (spare s) + 1
        kept_apart m = omega (arith, ad.counts m, one_most (nat_lt m (length t.cells.items)))

        holder_in : (m : ℕ) → m ≡ holder b up → 0 < one (m == b) + count m K
        holder_in m q = omega (arith, Rattle.stage_nodes.proofs.Framing.owner_there b up, ap (λ (v : ℕ). one (v == b)) q, ap (λ (v : ℕ). count_up v up) q, counts_up m)
