-- Turns of a copy.
use Rattle.std.proofs.Common.{◌≡◌, ℕ, zero, suc, take, get_or, ◌+◌, ◌*◌, ◌<◌, ◌≤◌, true, List, [], ◌∷◌, ◌++◌, length, Option, Some, None, refl, sym, ap, subst, ◌∙◌, arith, true≢false}
use Rattle.std.specs.Prelude.{slice_get, slice_set, nat_lt}
use Rattle.std.proofs.lemmas.Option.{slice_get_within}
use Rattle.git_objects.specs.Paths.{Bytes}
use Rattle.stage_nodes.specs.declared.nodes.Node.{Node}
use Rattle.stage_nodes.specs.declared.nodes.Nodes.{Nodes}
use Rattle.stage_nodes.specs.declared.nodes.Content.{Content}
use Rattle.stage_nodes.specs.declared.nodes.Link.TheVariants.{First, Next}
use Rattle.stage_tree.specs.declared.copies.Work.{Work}
use Rattle.stage_tree.specs.declared.copies.Work.TheVariants.{Siblings, Children}
use Rattle.stage_tree.specs.declared.copies.Turn.{Turn}
use Rattle.stage_tree.specs.declared.copies.Turn.TheVariants.{Copy, Copied}
use Rattle.stage_nodes.specs.Forests.{Forest, Nil, Bin, IsCell, count, forest, size, is_link, target, Reads}
use Rattle.stage_nodes.specs.Pools.{IsKept, inside, spare}
use Rattle.stage_tree.specs.Copies.{ArePending, CanCopyOne, IsAlike, IsCopying, IsGrowing, IsOneCopied, IsStep, is_turn, works_of}
use Rattle.stage_nodes.proofs.Seeking.{inside_link}
use Rattle.stage_nodes.proofs.Framing.{cell_kept, reads_kept}
use Rattle.stage_nodes.proofs.Freeing.{first_of, next_of}
use Rattle.stage_nodes.proofs.Pools.{forest_is, inside_one, one_most, own_count}
use Rattle.stage_nodes.proofs.Branching.{kept_on}

-- ---- nodes that wait

pub pending_more : (s : Nodes) (ws : List Work) (w : Work) (G H F : Forest) (before now : ℕ → ℕ) → ArePending s ws G H before → IsStep s w H F now → ArePending s (ws ++ w ∷ []) G F (λ m. before m + now m)
pending_more s [] w G H F before now p st = (F, now, (λ m. 0), subst (λ (X : Forest). IsStep s w X F now) (sym p.0) st, (refl, λ m. refl), λ m. omega (arith, p.1 m))
pending_more s (v ∷ ws) w G H F before now p st = (p.0, p.1, (λ m. p.2 m + now m), p.3, pending_more s ws w p.0 H F p.2 now p.4 st, λ m. omega (arith, p.5 m))

pub record IsLast (s : Nodes) (ws : List Work) (w : Work) (G F : Forest) (D : ℕ → ℕ) : Type 0 where
  pub top : Forest
  pub others : ℕ → ℕ
  pub own : ℕ → ℕ
  pub pending : ArePending s ws G top others
  pub step : IsStep s w top F own
  pub both : (m : ℕ) → D m ≡ others m + own m

pub pending_last : (s : Nodes) (ws : List Work) (w : Work) (G F : Forest) (D : ℕ → ℕ) → ArePending s (ws ++ w ∷ []) G F D → IsLast s ws w G F D
pending_last s [] w G F D p = record { top = G; others = λ m. 0; own = p.1; pending = (refl, λ m. refl); step = subst (λ (X : Forest). IsStep s w G X p.1) p.4.0 p.3; both = λ m. omega (arith, p.5 m, p.4.1 m) }
pending_last s (v ∷ ws) w G F D p =
    let r = pending_last s ws w p.0 F p.2 p.4 in
    record { top = r.top; others = λ m. p.1 m + r.others m; own = r.own; pending = (p.0, p.1, r.others, p.3, r.pending, λ m. refl); step = r.step; both = λ m. omega (arith, p.5 m, r.both m) }

step_reads : (s0 s : Nodes) (w : Work) (G F : Forest) (D : ℕ → ℕ) (i : Option ℕ) → IsStep s w G F D → Reads s0.names.items s0.cells.items i G → (j : Option ℕ) × Reads s0.names.items s0.cells.items j F
step_reads s0 s (Siblings k) Nil F D i st r = absurd st
step_reads s0 s (Siblings k) (Bin j c x l w) F D i st r = (r.node.next, subst (λ (X : Forest). Reads s0.names.items s0.cells.items r.node.next X) st.1 r.siblings)
step_reads s0 s (Children k a) Nil F D i st r = absurd st
step_reads s0 s (Children k a) (Bin j c x l w) F D i st r = (r.node.first, subst (λ (X : Forest). Reads s0.names.items s0.cells.items r.node.first X) st.1 r.children)

pub pending_reads : (s0 s : Nodes) (ws : List Work) (G F : Forest) (D : ℕ → ℕ) (i : Option ℕ) → ArePending s ws G F D → Reads s0.names.items s0.cells.items i G → (j : Option ℕ) × Reads s0.names.items s0.cells.items j F
pending_reads s0 s [] G F D i p r = (i, subst (λ (X : Forest). Reads s0.names.items s0.cells.items i X) p.0 r)
pending_reads s0 s (w ∷ ws) G F D i p r = let q = step_reads s0 s w G p.0 p.1 i p.3 r in pending_reads s0 s ws p.0 F p.2 q.0 p.4 q.1

step_count : (s : Nodes) (w : Work) (G F : Forest) (D : ℕ → ℕ) (m : ℕ) → IsStep s w G F D → count m F ≤ count m G
step_count s (Siblings k) Nil F D m st = absurd st
step_count s (Siblings k) (Bin j c x l w) F D m st = omega (arith, ap (count m) st.1)
step_count s (Children k a) Nil F D m st = absurd st
step_count s (Children k a) (Bin j c x l w) F D m st = omega (arith, ap (count m) st.1)

pub pending_count : (s : Nodes) (ws : List Work) (G F : Forest) (D : ℕ → ℕ) (m : ℕ) → ArePending s ws G F D → count m F ≤ count m G
pending_count s [] G F D m p = omega (arith, ap (count m) p.0)
pending_count s (w ∷ ws) G F D m p = omega (arith, step_count s w G p.0 p.1 m p.3, pending_count s ws p.0 F p.2 m p.4)

-- they wait with copies that stay
module _ (s t : Nodes) (kept : IsKept s.names.items t.names.items) where
  step_stays : (w : Work) (G F : Forest) (D : ℕ → ℕ) → ((m : ℕ) (v : Node) → 0 < D m → slice_get s.cells.items m ≡ Some v → slice_get t.cells.items m ≡ Some v) → IsStep s w G F D → IsStep t w G F D
  step_stays (Siblings k) Nil F D h st = st
  step_stays (Siblings k) (Bin j c x l w) F D h st = st
  step_stays (Children k a) Nil F D h st = st
  step_stays (Children k a) (Bin j c x l w) F D h st =
      (st.0, st.1, st.2, reads_kept s.names.items t.names.items kept s.cells.items t.cells.items st.2 a (λ m v g e. h m v (omega (arith, g, st.5 m)) e) st.3, st.4, st.5)

  pub pending_stays : (ws : List Work) (G F : Forest) (D : ℕ → ℕ) → ((m : ℕ) (v : Node) → 0 < D m → slice_get s.cells.items m ≡ Some v → slice_get t.cells.items m ≡ Some v) → ArePending s ws G F D → ArePending t ws G F D
  pending_stays [] G F D h p = p
  pending_stays (w ∷ ws) G F D h p =
      (p.0, p.1, p.2, step_stays w G p.0 p.1 (λ m v g e. h m v (omega (arith, g, p.5 m)) e) p.3, pending_stays ws p.0 F p.2 (λ m v g e. h m v (omega (arith, g, p.5 m)) e) p.4, p.5)

-- ---- the source

module _ (s0 s : Nodes) (source : Forest) (ws : List Work) (turn : Turn) (h : IsCopying s0 s source ws turn) where
  -- a node of it is as it was
  pub source_node : (m : ℕ) (v : Node) → 0 < count m source → slice_get s0.cells.items m ≡ Some v → slice_get s.cells.items m ≡ Some v
  source_node m v g e = h.growing.stay m v (omega (arith, g, h.apart m, one_most (nat_lt m (length s0.cells.items)))) e

  few : (m : ℕ) → count m source ≤ inside s0 m
  few m = omega (arith, h.apart m)

  pub forest_read : (F : Forest) (i : Option ℕ) → ((m : ℕ) → count m F ≤ count m source) → Reads s0.names.items s0.cells.items i F → forest s0.names.items s0.cells.items i ≡ F
  forest_read F i low r = forest_is s0.names.items s0.cells.items i F r (λ m. omega (arith, low m, few m))

  -- it is a source of a copy, wherever in it
  pub source_top : (G : Forest) (k : ℕ) (c : Bytes) (x : Content) (l r : Forest) (j : Option ℕ) → ((m : ℕ) → count m (Bin k c x l r) ≤ count m source) → Reads s0.names.items s0.cells.items j (Bin k c x l r) → CanCopyOne s k
  source_top G k c x l r j low q = record {
    pool = h.growing.pool;
    component = c;
    content = x;
    node = q.node;
    there = source_node k q.node (omega (arith, low k, own_count k)) q.there;
    cell = cell_kept s0.names.items s.names.items h.growing.names q.node c x q.cell;
  }

-- ---- turns

nil_of : (names : Bytes) (ns : List Node) (F : Forest) → Reads names ns None F → F ≡ Nil
nil_of names ns Nil r = refl
nil_of names ns (Bin k c x l r') r = absurd (let e : None ≡ Some k = r.number in cc)

pub none_copied : (s0 s : Nodes) (source : Forest) (ws : List Work) → IsCopying s0 s source ws (Copy None) → IsCopying s0 s source ws (Copied None)
none_copied s0 s source ws h = record {
  from = h.from;
  now = h.now;
  waiting = h.waiting;
  coming = h.coming;
  pending = h.pending;
  next = (Nil, refl, subst (λ (F : Forest). IsAlike F Nil) (sym (nil_of s0.names.items s0.cells.items h.now h.next.0)) tt, h.next.1);
  reads = h.reads;
  apart = h.apart;
  growing = h.growing;
}

works_more : (s : Nodes) (ws : List Work) (w : Work) → works_of s (ws ++ w ∷ []) ≡ works_of s ws + works_of s (w ∷ [])
works_more s [] w = omega arith
works_more s (Siblings k ∷ ws) w = omega (arith, works_more s ws w)
works_more s (Children k a ∷ ws) w = omega (arith, works_more s ws w)

grow_same : (s0 s : Nodes) (D E : ℕ → ℕ) → ((m : ℕ) → D m ≡ E m) → IsGrowing s0 s D → IsGrowing s0 s E
grow_same s0 s D E e g = record { pool = g.pool; old_pool = g.old_pool; names = g.names; counts = λ m. omega (arith, g.counts m, e m); stay = g.stay }

-- a node's siblings are copied before it
module _ (s0 s : Nodes) (source : Forest) (ws : List Work) (n : ℕ) (h : IsCopying s0 s source ws (Copy (Some n))) where
  pub record IsHead : Type 0 where
    pub component : Bytes
    pub content : Content
    pub children : Forest
    pub siblings : Forest
    pub node : Node
    pub there : slice_get s0.cells.items n ≡ Some node
    pub now_there : slice_get s.cells.items n ≡ Some node
    pub is : h.now ≡ Bin n component content children siblings
    pub reads : Reads s0.names.items s0.cells.items (Some n) (Bin n component content children siblings)
    pub reads_children : Reads s0.names.items s0.cells.items node.first children
    pub reads_siblings : Reads s0.names.items s0.cells.items node.next siblings

  low : (m : ℕ) → count m h.now ≤ count m source
  low m = pending_count s ws source h.now h.waiting m h.pending

  pub head_of : IsHead
  head_of = by h.now refl h.next.0
    where
      by : (F : Forest) → h.now ≡ F → Reads s0.names.items s0.cells.items (Some n) F → IsHead
      by Nil e r = absurd (let q : Some n ≡ None = r in cc)
      by (Bin k c x l w) e r =
          let same : n ≡ k = cc in
          record {
            component = c;
            content = x;
            children = l;
            siblings = w;
            node = r.node;
            there = ap (slice_get s0.cells.items) same ∙ r.there;
            now_there = ap (slice_get s.cells.items) same ∙ source_node s0 s source ws (Copy (Some n)) h k r.node (omega (arith, low k, ap (count k) e, own_count k)) r.there;
            is = e ∙ (λ i. Bin (sym same i) c x l w);
            reads = subst (λ (q : ℕ). Reads s0.names.items s0.cells.items (Some n) (Bin q c x l w)) (sym same) r;
            reads_children = r.children;
            reads_siblings = r.siblings;
          }

  pub head_link : is_link s.cells.items (Next n) ≡ true
  head_link = inside_link s.names.items s.cells.items n (slice_get_within s.cells.items n head_of.node head_of.now_there)

  module _ (j : Option ℕ) (e : j ≡ target s.cells.items (Next n)) where
    next_is : j ≡ head_of.node.next
    next_is = e ∙ next_of s.cells.items n head_of.node head_of.now_there

    pub head_waits : IsCopying s0 s source (ws ++ Siblings n ∷ []) (Copy j)
    head_waits = record {
      from = h.from;
      now = head_of.siblings;
      waiting = λ m. h.waiting m + 0;
      coming = λ m. 0;
      pending = pending_more s ws (Siblings n) source h.now head_of.siblings h.waiting (λ m. 0) h.pending
          (subst (λ (F : Forest). IsStep s (Siblings n) F head_of.siblings (λ m. 0)) (sym head_of.is) (refl, refl, λ m. refl));
      next = (subst (λ (o : Option ℕ). Reads s0.names.items s0.cells.items o head_of.siblings) (sym next_is) head_of.reads_siblings, λ m. refl);
      reads = h.reads;
      apart = h.apart;
      growing = grow_same s0 s (λ m. h.waiting m + h.coming m) (λ m. h.waiting m + 0 + 0) (λ m. omega (arith, h.next.1 m)) h.growing;
    }

    pub head_less : 4 * size (forest s0.names.items s0.cells.items j) + 1 + works_of s0 (ws ++ Siblings n ∷ []) < 4 * size (forest s0.names.items s0.cells.items (Some n)) + 1 + works_of s0 ws
    head_less =
        let all = forest_read s0 s source ws (Copy (Some n)) h (Bin n head_of.component head_of.content head_of.children head_of.siblings) (Some n) (λ m. omega (arith, low m, ap (count m) head_of.is)) head_of.reads in
        let rest = forest_read s0 s source ws (Copy (Some n)) h head_of.siblings head_of.node.next (λ m. omega (arith, low m, ap (count m) head_of.is)) head_of.reads_siblings in
        let below = forest_read s0 s source ws (Copy (Some n)) h head_of.children head_of.node.first (λ m. omega (arith, low m, ap (count m) head_of.is)) head_of.reads_children in
        omega (
          arith,
          ap size all,
          ap size rest,
          ap (λ (o : Option ℕ). size (forest s0.names.items s0.cells.items o)) next_is,
          ap size below,
          ap (λ (o : Option ℕ). size (forest s0.names.items s0.cells.items o)) (first_of s0.cells.items n head_of.node head_of.there),
          works_more s0 ws (Siblings n),
        )

-- what the last of those that wait is
module _ (s0 s : Nodes) (source : Forest) (ws : List Work) (w : Work) (copy : Option ℕ) (h : IsCopying s0 s source (ws ++ w ∷ []) (Copied copy)) where
  abbrev pub last : IsLast s ws w source h.now h.waiting
  last = pending_last s ws w source h.now h.waiting h.pending

  pub low_top : (m : ℕ) → count m last.top ≤ count m source
  low_top m = pending_count s ws source last.top last.others m last.pending

  pub top_reads : (j : Option ℕ) × Reads s0.names.items s0.cells.items j last.top
  top_reads = pending_reads s0 s ws source last.top last.others h.from last.pending h.reads

  -- the copies that wait or come stay, where free nodes change
  free_of : (m : ℕ) → 0 < h.waiting m + h.coming m → count m (spare s) ≡ 0
  free_of m g = omega (arith, g, h.growing.counts m, h.growing.old_pool.apart m, one_most (nat_lt m (length s.cells.items)))

  pub record IsWaiting (n : ℕ) : Type 0 where
    pub component : Bytes
    pub content : Content
    pub children : Forest
    pub siblings : Forest
    pub node : Node
    pub there : slice_get s0.cells.items n ≡ Some node
    pub now_there : slice_get s.cells.items n ≡ Some node
    pub cell : IsCell s0.names.items node component content
    pub is : last.top ≡ Bin n component content children siblings
    pub reads_children : Reads s0.names.items s0.cells.items node.first children

  abbrev pub waiting_of : (n k : ℕ) (c : Bytes) (x : Content) (l r : Forest) → n ≡ k → last.top ≡ Bin k c x l r → IsWaiting n
  waiting_of n k c x l r same e =
      let t : Reads s0.names.items s0.cells.items top_reads.0 (Bin k c x l r) = subst (λ (F : Forest). Reads s0.names.items s0.cells.items top_reads.0 F) e top_reads.1 in
      record {
        component = c;
        content = x;
        children = l;
        siblings = r;
        node = t.node;
        there = ap (slice_get s0.cells.items) same ∙ t.there;
        now_there = ap (slice_get s.cells.items) same ∙ source_node s0 s source (ws ++ w ∷ []) (Copied copy) h k t.node (omega (arith, low_top k, ap (count k) e, own_count k)) t.there;
        cell = t.cell;
        is = e ∙ (λ i. Bin (sym same i) c x l r);
        reads_children = t.children;
      }

-- its siblings are copied, and then its children are
module _ (s0 s : Nodes) (source : Forest) (ws : List Work) (n : ℕ) (copy : Option ℕ) (h : IsCopying s0 s source (ws ++ Siblings n ∷ []) (Copied copy)) where
  abbrev end : IsLast s ws (Siblings n) source h.now h.waiting
  end = last s0 s source ws (Siblings n) copy h

  own_step : (F : Forest) → end.top ≡ F → IsStep s (Siblings n) F h.now end.own → (v : IsWaiting s0 s source ws (Siblings n) copy h n) × (v.siblings ≡ h.now) × ((m : ℕ) → end.own m ≡ 0)
  own_step Nil e st = absurd st
  own_step (Bin k c x l r) e st = (waiting_of s0 s source ws (Siblings n) copy h n k c x l r st.0 e, st.1, st.2)

  v : (v : IsWaiting s0 s source ws (Siblings n) copy h n) × (v.siblings ≡ h.now) × ((m : ℕ) → end.own m ≡ 0)
  v = own_step end.top refl end.step

  pub siblings_link : is_link s.cells.items (First n) ≡ true
  siblings_link = inside_link s.names.items s.cells.items n (slice_get_within s.cells.items n v.0.node v.0.now_there)

  module _ (j : Option ℕ) (e : j ≡ target s.cells.items (First n)) where
    first_is : j ≡ v.0.node.first
    first_is = e ∙ first_of s.cells.items n v.0.node v.0.now_there

    pub children_next : IsCopying s0 s source (ws ++ Children n copy ∷ []) (Copy j)
    children_next = record {
      from = h.from;
      now = v.0.children;
      waiting = λ m. end.others m + h.coming m;
      coming = λ m. 0;
      pending = pending_more s ws (Children n copy) source end.top v.0.children end.others h.coming end.pending
          (subst (λ (F : Forest). IsStep s (Children n copy) F v.0.children h.coming) (sym v.0.is) (refl, refl, h.next.0, h.next.1, subst (λ (F : Forest). IsAlike F h.next.0) (sym v.1) h.next.2, h.next.3));
      next = (subst (λ (o : Option ℕ). Reads s0.names.items s0.cells.items o v.0.children) (sym first_is) v.0.reads_children, λ m. refl);
      reads = h.reads;
      apart = h.apart;
      growing = grow_same s0 s (λ m. h.waiting m + h.coming m) (λ m. end.others m + h.coming m + 0) (λ m. omega (arith, end.both m, v.2 m)) h.growing;
    }

    pub children_less : 4 * size (forest s0.names.items s0.cells.items j) + 1 + works_of s0 (ws ++ Children n copy ∷ []) < works_of s0 (ws ++ Siblings n ∷ [])
    children_less =
        omega (
          arith,
          ap (λ (o : Option ℕ). size (forest s0.names.items s0.cells.items o)) first_is,
          ap (λ (o : Option ℕ). size (forest s0.names.items s0.cells.items o)) (first_of s0.cells.items n v.0.node v.0.there),
          works_more s0 ws (Siblings n),
          works_more s0 ws (Children n copy),
        )

-- its children are copied, and then it is
module _ (s0 s : Nodes) (source : Forest) (ws : List Work) (n : ℕ) (copy a : Option ℕ) (h : IsCopying s0 s source (ws ++ Children n a ∷ []) (Copied copy)) where
  abbrev pub end2 : IsLast s ws (Children n a) source h.now h.waiting
  end2 = last s0 s source ws (Children n a) copy h

  pub record IsReady : Type 0 where
    pub v : IsWaiting s0 s source ws (Children n a) copy h n
    pub children : v.children ≡ h.now
    pub others : Forest
    pub reads : Reads s.names.items s.cells.items a others
    pub alike : IsAlike v.siblings others
    pub own : (m : ℕ) → end2.own m ≡ count m others

  ready_by : (F : Forest) → end2.top ≡ F → IsStep s (Children n a) F h.now end2.own → IsReady
  ready_by Nil e st = absurd st
  ready_by (Bin k c x l r) e st = record { v = waiting_of s0 s source ws (Children n a) copy h n k c x l r st.0 e; children = st.1; others = st.2; reads = st.3; alike = st.4; own = st.5 }

  pub ready : IsReady
  ready = ready_by end2.top refl end2.step

  abbrev pub can_copy_one : CanCopyOne s n
  can_copy_one = record {
    pool = h.growing.pool;
    component = ready.v.component;
    content = ready.v.content;
    node = ready.v.node;
    there = ready.v.now_there;
    cell = cell_kept s0.names.items s.names.items h.growing.names ready.v.node ready.v.component ready.v.content ready.v.cell;
  }

  module _ (t : Nodes) (k : ℕ) (one_ : IsOneCopied s t copy a k can_copy_one.component can_copy_one.content) where
    few_here : (m : ℕ) → h.waiting m + h.coming m + count m (spare s) ≤ inside s m
    few_here m = omega (arith, h.growing.counts m, h.growing.old_pool.apart m)

    pub node_copied : IsCopying s0 t source ws (Copied (Some k))
    node_copied = record {
      from = h.from;
      now = end2.top;
      waiting = end2.others;
      coming = λ m. count m (Bin k can_copy_one.component can_copy_one.content h.next.0 ready.others);
      pending = pending_stays s t one_.growing.names ws source end2.top end2.others (λ m x g e. one_.growing.stay m x (omega (arith, g, end2.both m, few_here m, one_most (nat_lt m (length s.cells.items)))) e) end2.pending;
      next = (
        Bin k can_copy_one.component can_copy_one.content h.next.0 ready.others,
        one_.reads h.next.0 ready.others h.next.1 ready.reads (λ m. omega (arith, few_here m, end2.both m, ready.own m, h.next.3 m)),
        subst (λ (F : Forest). IsAlike F (Bin k can_copy_one.component can_copy_one.content h.next.0 ready.others)) (sym ready.v.is) (refl, refl, subst (λ (F : Forest). IsAlike F h.next.0) (sym ready.children) h.next.2, ready.alike),
        λ m. refl,
      );
      reads = h.reads;
      apart = h.apart;
      growing = record {
        pool = one_.growing.pool;
        old_pool = h.growing.old_pool;
        names = kept_on s0.names.items s.names.items t.names.items h.growing.names one_.growing.names;
        counts = λ m. omega (arith, h.growing.counts m, one_.growing.counts m, end2.both m, ready.own m, h.next.3 m);
        stay = λ m x z e. one_.growing.stay m x (omega (arith, z, h.growing.counts m, inside_one m (length s0.cells.items) (slice_get_within s0.cells.items m x e), one_most (nat_lt m (length s.cells.items)))) (h.growing.stay m x z e);
      };
    }

  pub node_less : works_of s0 ws < works_of s0 (ws ++ Children n a ∷ [])
  node_less = omega (arith, works_more s0 ws (Children n a))

-- ---- the last of a list

pub record IsSplit (ws : List Work) (i : ℕ) (w w' : Work) : Type 0 where
  pub front : List Work
  pub whole : ws ≡ front ++ w ∷ []
  pub changed : slice_set ws i w' ≡ front ++ w' ∷ []
  pub less : take i ws ≡ front

pub split_last : (ws : List Work) (i : ℕ) (w w' : Work) → i + 1 ≡ length ws → w ≡ get_or ws i w → IsSplit ws i w w'
split_last [] i w w' h e = absurd (omega arith)
split_last (x ∷ []) zero w w' h e = record { front = []; whole = λ v. sym e v ∷ []; changed = refl; less = refl }
split_last (x ∷ []) (suc i) w w' h e = absurd (omega arith)
split_last (x ∷ y ∷ ws) zero w w' h e = absurd (omega arith)
split_last (x ∷ y ∷ ws) (suc i) w w' h e =
    let r = split_last (y ∷ ws) i w w' (omega arith) e in
    record { front = x ∷ r.front; whole = ap (λ (v : List Work). x ∷ v) r.whole; changed = ap (λ (v : List Work). x ∷ v) r.changed; less = ap (λ (v : List Work). x ∷ v) r.less }

full_turn : (ws : List Work) (a : Option ℕ) → is_turn ws (Copied a) ≡ true → 0 < length ws
full_turn [] a h = absurd (true≢false (sym h))
full_turn (w ∷ ws) a h = omega arith

pub works_full : (ws : List Work) (turn : Turn) (a : Option ℕ) → turn ≡ Copied a → is_turn ws turn ≡ true → 0 < length ws
works_full ws turn a e h = full_turn ws a (ap (is_turn ws) (sym e) ∙ h)
