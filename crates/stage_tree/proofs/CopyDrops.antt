-- Copies given back.
use Rattle.std.proofs.Common.{◌≡◌, ℕ, ◌+◌, ◌<◌, ◌≤◌, ◌==◌, List, [], ◌∷◌, ◌++◌, length, Option, Some, refl, sym, ap, subst, ◌∙◌, arith, true, false, true≢false}
use Rattle.std.specs.Prelude.{slice_get, nat_lt}
use Rattle.std.proofs.lemmas.Bool.Decides.{nat_tests}
use Rattle.std.proofs.lemmas.Option.{slice_get_within}
use Rattle.stage_nodes.specs.declared.nodes.Node.{Node}
use Rattle.stage_nodes.specs.declared.nodes.Nodes.{Nodes}
use Rattle.stage_tree.specs.declared.copies.Work.{Work}
use Rattle.stage_tree.specs.declared.copies.Work.TheVariants.{Siblings, Children}
use Rattle.stage_tree.specs.declared.copies.Turn.{Turn}
use Rattle.stage_tree.specs.declared.copies.Turn.TheVariants.{Copy, Copied}
use Rattle.stage_nodes.specs.Forests.{Forest, Nil, Bin, one, count, forest, Reads}
use Rattle.stage_nodes.specs.Pools.{CanFree, IsFreed, IsKept, IsSame, inside, spare}
use Rattle.stage_nodes.proofs.Branching.{kept_on}
use Rattle.stage_nodes.proofs.Expanding.{same_inside, same_pool, same_spare}
use Rattle.stage_nodes.specs.Expanding.{IsWaste}
use Rattle.stage_tree.specs.Copies.{CanCopy, IsAlike, IsCopied, IsCopying, IsDropping, IsGrowing, IsNext, IsStep}
use Rattle.stage_nodes.proofs.Framing.{reads_kept, same_names}
use Rattle.stage_nodes.proofs.Pools.{forest_is, inside_one, one_most, walk_is}
use Rattle.stage_tree.proofs.CopyTurns.{IsLast, pending_last, pending_stays}

-- a forest that nothing reaches is given back
module _ (s0 s : Nodes) (D : ℕ → ℕ) (A : Forest) (a : Option ℕ) (g : IsGrowing s0 s (λ m. D m + count m A)) (r : Reads s.names.items s.cells.items a A) where
  few : (m : ℕ) → D m + count m A + count m (spare s) ≤ inside s m
  few m = omega (arith, g.counts m, g.old_pool.apart m)

  is : forest s.names.items s.cells.items a ≡ A
  is = forest_is s.names.items s.cells.items a A r (λ m. omega (arith, few m))

  pub drop_can_free : CanFree s a
  drop_can_free = record { pool = g.pool; walk = walk_is s.names.items s.cells.items a A r (λ m. omega (arith, few m)); apart = λ m. omega (arith, few m, ap (count m) is) }

  module _ (t : Nodes) (f : IsFreed s t a) where
    pub drop_names : IsKept s.names.items t.names.items
    drop_names = subst (IsKept s.names.items) (sym f.names) (same_names s.names.items)

    pub drop_stays : (m : ℕ) (v : Node) → 0 < D m → slice_get s.cells.items m ≡ Some v → slice_get t.cells.items m ≡ Some v
    drop_stays m v z e = f.stay m v (omega (arith, z, few m, ap (count m) is, one_most (nat_lt m (length s.cells.items)))) e

    pub dropped : IsGrowing s0 t D
    dropped = record {
      pool = f.pool;
      old_pool = g.old_pool;
      names = subst (IsKept s0.names.items) (sym f.names) g.names;
      counts = λ m. omega (arith, g.counts m, f.counts m, ap (count m) is, ap (λ (x : ℕ). one (nat_lt m x)) f.long);
      stay = λ m v z e. f.stay m v (omega (arith, z, g.counts m, inside_one m (length s0.cells.items) (slice_get_within s0.cells.items m v e), ap (count m) is, one_most (nat_lt m (length s.cells.items)))) (g.stay m v z e);
    }

grow_as : (s0 s : Nodes) (D E : ℕ → ℕ) → ((m : ℕ) → D m ≡ E m) → IsGrowing s0 s D → IsGrowing s0 s E
grow_as s0 s D E e g = record { pool = g.pool; old_pool = g.old_pool; names = g.names; counts = λ m. omega (arith, g.counts m, e m); stay = g.stay }

-- ---- one that waits

pub drop_siblings : (s0 s : Nodes) (source : Forest) (ws : List Work) (k : ℕ) → IsDropping s0 s source (ws ++ Siblings k ∷ []) → IsDropping s0 s source ws
drop_siblings s0 s source ws k h =
    let l = pending_last s ws (Siblings k) source h.now h.waiting h.pending in
    record { now = l.top; waiting = l.others; pending = l.pending; growing = grow_as s0 s h.waiting l.others (λ m. omega (arith, l.both m, own l.top h.now l.own l.step m)) h.growing }
  where
    own : (F G : Forest) (D : ℕ → ℕ) → IsStep s (Siblings k) F G D → (m : ℕ) → D m ≡ 0
    own Nil G D st m = absurd st
    own (Bin j c x l r) G D st m = st.2 m

-- one that isn't Children is Siblings
pub drop_other : (s0 s : Nodes) (source : Forest) (ws : List Work) (w : Work) → ((k : ℕ) (a : Option ℕ) → w ≡ Children k a → ⊥) → IsDropping s0 s source (ws ++ w ∷ []) → IsDropping s0 s source ws
drop_other s0 s source ws (Siblings k) n h = drop_siblings s0 s source ws k h
drop_other s0 s source ws (Children k a) n h = absurd (n k a refl)

-- nothing was popped
pub works_popped : (xs : List Work) (n : ℕ) → n ≡ length xs → (0 < n → false ≡ true) → xs ≡ []
works_popped [] n e h = refl
works_popped (x ∷ xs) n e h = absurd (true≢false (sym (h (omega (arith, e)))))

module _ (s0 s : Nodes) (source : Forest) (ws : List Work) (k : ℕ) (a : Option ℕ) (h : IsDropping s0 s source (ws ++ Children k a ∷ [])) where
  l : IsLast s ws (Children k a) source h.now h.waiting
  l = pending_last s ws (Children k a) source h.now h.waiting h.pending

  held : (F : Forest) → IsStep s (Children k a) F h.now l.own → (A : Forest) × Reads s.names.items s.cells.items a A × ((m : ℕ) → l.own m ≡ count m A)
  held Nil st = absurd st
  held (Bin j c x l' r) st = (st.2, st.3, st.5)

  A : (A : Forest) × Reads s.names.items s.cells.items a A × ((m : ℕ) → l.own m ≡ count m A)
  A = held l.top l.step

  grown : IsGrowing s0 s (λ m. l.others m + count m A.0)
  grown = grow_as s0 s h.waiting (λ m. l.others m + count m A.0) (λ m. omega (arith, l.both m, A.2 m)) h.growing

  pub children_can_free : CanFree s a
  children_can_free = drop_can_free s0 s l.others A.0 a grown A.1

  pub drop_children : (t : Nodes) → IsFreed s t a → IsDropping s0 t source ws
  drop_children t f = record {
    now = l.top;
    waiting = l.others;
    pending = pending_stays s t (drop_names s0 s l.others A.0 a grown A.1 t f) ws source l.top l.others (drop_stays s0 s l.others A.0 a grown A.1 t f) l.pending;
    growing = dropped s0 s l.others A.0 a grown A.1 t f;
  }

pub none_waits : (s0 s : Nodes) (source : Forest) → IsDropping s0 s source [] → IsWaste s0 s
none_waits s0 s source h = record { pool = h.growing.pool; names = h.growing.names; counts = λ m. omega (arith, h.growing.counts m, h.pending.1 m); stay = h.growing.stay }

-- ---- what comes next

pub drop_source : (s0 s : Nodes) (source : Forest) (ws : List Work) (i : Option ℕ) → IsCopying s0 s source ws (Copy i) → IsDropping s0 s source ws
drop_source s0 s source ws i h = record { now = h.now; waiting = h.waiting; pending = h.pending; growing = grow_as s0 s (λ m. h.waiting m + h.coming m) h.waiting (λ m. omega (arith, h.next.1 m)) h.growing }

module _ (s0 s : Nodes) (source : Forest) (ws : List Work) (a : Option ℕ) (h : IsCopying s0 s source ws (Copied a)) where
  coming : IsGrowing s0 s (λ m. h.waiting m + count m h.next.0)
  coming = grow_as s0 s (λ m. h.waiting m + h.coming m) (λ m. h.waiting m + count m h.next.0) (λ m. omega (arith, h.next.3 m)) h.growing

  pub copied_can_free : CanFree s a
  copied_can_free = drop_can_free s0 s h.waiting h.next.0 a coming h.next.1

  pub drop_copied : (t : Nodes) → IsFreed s t a → IsDropping s0 t source ws
  drop_copied t f = record {
    now = h.now;
    waiting = h.waiting;
    pending = pending_stays s t (drop_names s0 s h.waiting h.next.0 a coming h.next.1 t f) ws source h.now h.waiting (drop_stays s0 s h.waiting h.next.0 a coming h.next.1 t f) h.pending;
    growing = dropped s0 s h.waiting h.next.0 a coming h.next.1 t f;
  }

-- ---- the whole copy

pub copy_begun : (s : Nodes) (i : Option ℕ) (h : CanCopy s i) → IsCopying s s h.source [] (Copy i)
copy_begun s i h = record {
  from = i;
  now = h.source;
  waiting = λ m. 0;
  coming = λ m. 0;
  pending = (refl, λ m. refl);
  next = (h.reads, λ m. refl);
  reads = h.reads;
  apart = h.apart;
  growing = record { pool = h.pool; old_pool = h.pool; names = same_names s.names.items; counts = λ m. omega arith; stay = λ m v z e. e };
}

pub copy_ended : (s t : Nodes) (i j : Option ℕ) (h : CanCopy s i) → IsCopying s t h.source [] (Copied j) → IsCopied s t i j h
copy_ended s t i j h c = record {
  copy = c.next.0;
  reads = c.next.1;
  alike = subst (λ (F : Forest). IsAlike F c.next.0) (sym c.pending.0) c.next.2;
  pool = c.growing.pool;
  names = c.growing.names;
  counts = λ m. omega (arith, c.growing.counts m, c.pending.1 m, c.next.3 m);
  stay = c.growing.stay;
}

-- ---- nothing has changed

pub empty_works : (xs : List Work) (n : ℕ) → n ≡ length xs → true ≡ (n == 0) → xs ≡ []
empty_works [] n e h = refl
empty_works (x ∷ xs) n e h = absurd (omega (arith, e, zero_test n h))
  where
    zero_test : (n : ℕ) → true ≡ (n == 0) → n ≡ 0
    zero_test n h = grind (arith, nat_tests)

module _ (s0 s t : Nodes) (source : Forest) (ws : List Work) (turn : Turn) (same : IsSame s t) (h : IsCopying s0 s source ws turn) where
  kept_cell : (m : ℕ) (v : Node) → slice_get s.cells.items m ≡ Some v → slice_get t.cells.items m ≡ Some v
  kept_cell m v e = ap (λ (c : List Node). slice_get c m) same.cells ∙ e

  next_same : (turn : Turn) → IsNext s0 s turn h.now h.coming → IsNext s0 t turn h.now h.coming
  next_same (Copy i) n = n
  next_same (Copied a) n = (n.0, reads_kept s.names.items t.names.items same.names s.cells.items t.cells.items n.0 a (λ m v g e. kept_cell m v e) n.1, n.2, n.3)

  all_same : IsCopying s0 t source ws turn
  all_same = record {
    from = h.from;
    now = h.now;
    waiting = h.waiting;
    coming = h.coming;
    pending = pending_stays s t same.names ws source h.now h.waiting (λ m v g e. kept_cell m v e) h.pending;
    next = next_same turn h.next;
    reads = h.reads;
    apart = h.apart;
    growing = record {
      pool = same_pool s t same h.growing.pool;
      old_pool = h.growing.old_pool;
      names = kept_on s0.names.items s.names.items t.names.items h.growing.names same.names;
      counts = λ m. omega (arith, h.growing.counts m, ap (count m) (same_spare s t same h.growing.pool), same_inside s t same m);
      stay = λ m v z e. kept_cell m v (h.growing.stay m v z e);
    };
  }

pub same_copying : (s0 s t : Nodes) (source : Forest) (ws vs : List Work) (turn : Turn) → IsSame s t → vs ≡ ws → IsCopying s0 s source ws turn → IsCopying s0 t source vs turn
same_copying s0 s t source ws vs turn same e h = subst (λ (v : List Work). IsCopying s0 t source v turn) (sym e) (all_same s0 s t source ws turn same h)
