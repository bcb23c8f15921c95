-- A branch made from its end, and children given to its end.
use Rattle.std.proofs.Common.{◌≡◌, ℕ, ◌+◌, ◌<◌, ◌≤◌, ◌≢◌, ◌==◌, true, List, [], ◌∷◌, length, drop, get_or, Option, Some, None, refl, sym, ap, subst, ◌∙◌, arith}
use Rattle.std.specs.Prelude.{slice_get, slice_set, nat_lt}
use Rattle.std.proofs.lemmas.Option.{slice_get_within}
use Rattle.git_objects.specs.Paths.{Bytes, Path}
use Rattle.stage_nodes.specs.declared.nodes.Node.{Node}
use Rattle.stage_nodes.specs.declared.nodes.Nodes.{Nodes}
use Rattle.stage_nodes.specs.declared.nodes.Content.{Content}
use Rattle.stage_nodes.specs.declared.nodes.Content.TheVariants.{Open}
use Rattle.stage_nodes.specs.declared.nodes.Link.TheVariants.{First}
use Rattle.stage_nodes.specs.Forests.{Forest, Nil, one, count, Reads, forest, is_link}
use Rattle.stage_nodes.specs.Frames.{pointed}
use Rattle.stage_nodes.specs.Pools.{IsKept, IsPool, IsSame, IsAdded, CanFree, IsFreed, inside, spare}
use Rattle.stage_nodes.specs.Expanding.{IsWaste}
use Rattle.stage_tree.specs.Renames.{IsGraft, IsTrunk, last_of, trunk}
use Rattle.stage_nodes.proofs.Lists.{got_set, got_other}
use Rattle.stage_nodes.proofs.Seeking.{inside_link}
use Rattle.stage_nodes.proofs.Framing.{reads_kept}
use Rattle.stage_nodes.proofs.Pools.{one_most, inside_one, own_count, forest_is, walk_is}
use Rattle.stage_nodes.proofs.Freeing.{point_first, reads_names}
use Rattle.stage_nodes.proofs.Pointing.{IsBeside, set_beside, set_stay}
use Rattle.stage_nodes.proofs.Expanding.{same_reads, same_inside, same_spare, same_pool}
use Rattle.stage_nodes.proofs.Branching.{kept_on}

-- ---- the end

pub end_trunk : (s t : Nodes) (c : Bytes) (x : Content) (k : ℕ) → IsPool s → IsAdded s t c x None k → IsTrunk s t (c ∷ []) x k k
end_trunk s t c x k pool a = record {
  below = [];
  long = refl;
  last = refl;
  reads = record { number = refl; node = a.node; there = a.there; cell = a.cell; children = a.first; siblings = a.next };
  pool = a.pool;
  old_pool = pool;
  names = a.names;
  counts = λ m. omega (arith, a.counts m);
  stay = a.stay;
}

-- ---- one directory more

trunk_few : (s t : Nodes) (p : Path) (x : Content) (e k : ℕ) (h : IsTrunk s t p x e k) (m : ℕ) → count m (trunk (k ∷ h.below) p x Nil) + count m (spare t) ≤ inside t m
trunk_few s t p x e k h m = omega (arith, h.counts m, h.old_pool.apart m)

more_trunk : (s t u : Nodes) (c d : Bytes) (p : Path) (x : Content) (e k j : ℕ) → IsTrunk s t (d ∷ p) x e k → IsAdded t u c Open (Some k) j → IsTrunk s u (c ∷ d ∷ p) x e j
more_trunk s t u c d p x e k j h a = record {
  below = k ∷ h.below;
  long = omega (arith, h.long);
  last = h.last;
  reads = record {
    number = refl;
    node = a.node;
    there = a.there;
    cell = a.cell;
    children = subst (λ (o : Option ℕ). Reads u.names.items u.cells.items o (trunk (k ∷ h.below) (d ∷ p) x Nil)) (sym a.first)
        (reads_kept t.names.items u.names.items a.names t.cells.items u.cells.items (trunk (k ∷ h.below) (d ∷ p) x Nil) (Some k) (λ m n g e'. a.stay m n (omega (arith, g, trunk_few s t (d ∷ p) x e k h m, one_most (nat_lt m (length t.cells.items)))) e') h.reads);
    siblings = a.next;
  };
  pool = a.pool;
  old_pool = h.old_pool;
  names = kept_on s.names.items t.names.items u.names.items h.names a.names;
  counts = λ m. omega (arith, h.counts m, a.counts m);
  stay = λ m n z q. a.stay m n (omega (arith, z, h.counts m, inside_one m (length s.cells.items) (slice_get_within s.cells.items m n q), one_most (nat_lt m (length t.cells.items)))) (h.stay m n z q);
}

-- the branch of what is left of a path
pub longer_trunk : (s t u : Nodes) (p : Path) (i e : ℕ) (c : Bytes) (x : Content) (end_ k j : ℕ) → e ≡ i + 1 → e < length p → c ≡ get_or p i c → IsTrunk s t (drop e p) x end_ k → IsAdded t u c Open (Some k) j → IsTrunk s u (drop i p) x end_ j
longer_trunk s t u p i e c x end_ k j same within own h a =
    subst (λ (q : Path). IsTrunk s u q x end_ j) (sym at_i)
    (more_trunk s t u c (get_or p e c) (drop (e + 1) p) x end_ k j (subst (λ (q : Path). IsTrunk s t q x end_ k) at_e h) a)
  where
    at_e : drop e p ≡ get_or p e c ∷ drop (e + 1) p
    at_e = Rattle.std.proofs.lemmas.List.drop_more p e c within

    at_i : drop i p ≡ c ∷ get_or p e c ∷ drop (e + 1) p
    at_i = Rattle.std.proofs.lemmas.List.drop_more p i c (omega arith) ∙ (λ v. sym own v ∷ drop (sym same v) p) ∙ ap (λ (q : Path). c ∷ q) at_e

pub last_trunk : (s t : Nodes) (p : Path) (e : ℕ) (c : Bytes) (x : Content) (k : ℕ) → e + 1 ≡ length p → c ≡ get_or p e c → IsPool s → IsAdded s t c x None k → IsTrunk s t (drop e p) x k k
last_trunk s t p e c x k long own pool a =
    subst (λ (q : Path). IsTrunk s t q x k k) (sym (Rattle.std.proofs.lemmas.List.drop_more p e c (omega arith) ∙ (λ v. sym own v ∷ Rattle.std.proofs.lemmas.List.drop_all (e + 1) p (omega arith) v))) (end_trunk s t c x k pool a)

-- ---- given back

module _ (s t u v : Nodes) (p : Path) (x : Content) (e k : ℕ) (h : IsTrunk s t p x e k) (same : IsSame t u) where
  kept_reads : Reads u.names.items u.cells.items (Some k) (trunk (k ∷ h.below) p x Nil)
  kept_reads = same_reads t u same (trunk (k ∷ h.below) p x Nil) (Some k) h.reads

  kept_few : (m : ℕ) → count m (trunk (k ∷ h.below) p x Nil) + count m (spare u) ≤ inside u m
  kept_few m = omega (arith, trunk_few s t p x e k h m, ap (count m) (same_spare t u same h.pool), same_inside t u same m)

  kept_is : forest u.names.items u.cells.items (Some k) ≡ trunk (k ∷ h.below) p x Nil
  kept_is = forest_is u.names.items u.cells.items (Some k) (trunk (k ∷ h.below) p x Nil) kept_reads (λ m. omega (arith, kept_few m))

  pub can_free_trunk : CanFree u (Some k)
  can_free_trunk = record {
    pool = same_pool t u same h.pool;
    walk = walk_is u.names.items u.cells.items (Some k) (trunk (k ∷ h.below) p x Nil) kept_reads (λ m. omega (arith, kept_few m));
    apart = λ m. omega (arith, kept_few m, ap (count m) kept_is);
  }

  pub trunk_wasted : IsFreed u v (Some k) → IsWaste s v
  trunk_wasted g = record {
    pool = g.pool;
    names = kept_on s.names.items t.names.items v.names.items h.names (record { more = same.names.more; front = same.names.front ∙ sym g.names });
    counts = λ m. omega (arith, h.counts m, g.counts m, ap (count m) kept_is, ap (count m) (same_spare t u same h.pool), same_inside t u same m, ap (λ (z : ℕ). one (nat_lt m z)) g.long);
    stay = λ m n z q. g.stay m n (omega (arith, z, h.counts m, ap (count m) kept_is, ap (count m) (same_spare t u same h.pool), inside_one m (length s.cells.items) (slice_get_within s.cells.items m n q), one_most (nat_lt m (length t.cells.items))))
        (ap (λ (w : List Node). slice_get w m) same.cells ∙ h.stay m n z q);
  }

-- ---- children given to the end

last_in : (k : ℕ) (ks : List ℕ) (c : Bytes) (p : Path) (x : Content) → length ks ≡ length p → 0 < count (last_of k ks) (trunk (k ∷ ks) (c ∷ p) x Nil)
last_in k [] c [] x n = omega (arith, own_count k)
last_in k [] c (d ∷ p) x n = absurd (omega arith)
last_in k (i ∷ ks) c [] x n = absurd (omega arith)
last_in k (i ∷ ks) c (d ∷ p) x n = omega (arith, last_in i ks d p x (omega arith))

-- where the end is
pub record IsEnd (ns : List Node) (e : ℕ) : Type 0 where
  pub node : Node
  pub there : slice_get ns e ≡ Some node
  pub first : node.first ≡ None

end_of : (names : Bytes) (ns : List Node) (k : ℕ) (ks : List ℕ) (c : Bytes) (p : Path) (x : Content) (i : Option ℕ) → length ks ≡ length p → Reads names ns i (trunk (k ∷ ks) (c ∷ p) x Nil) → IsEnd ns (last_of k ks)
end_of names ns k [] c [] x i n r = record { node = r.node; there = r.there; first = r.children }
end_of names ns k [] c (d ∷ p) x i n r = absurd (omega arith)
end_of names ns k (j ∷ ks) c [] x i n r = absurd (omega arith)
end_of names ns k (j ∷ ks) c (d ∷ p) x i n r = end_of names ns j ks d p x r.node.first (omega arith) r.children

attach : (names : Bytes) (ns : List Node) (o : Option ℕ) (l : Forest) (k : ℕ) (ks : List ℕ) (c : Bytes) (p : Path) (x : Content) (i : Option ℕ) (node : Node) → length ks ≡ length p → slice_get ns (last_of k ks) ≡ Some node →
    ((m : ℕ) → count m (trunk (k ∷ ks) (c ∷ p) x Nil) ≤ 1) → Reads names (slice_set ns (last_of k ks) (record node { first = o })) o l → Reads names ns i (trunk (k ∷ ks) (c ∷ p) x Nil) → Reads names (slice_set ns (last_of k ks) (record node { first = o })) i (trunk (k ∷ ks) (c ∷ p) x l)
attach names ns o l k [] c (d ∷ p) x i node n there few below r = absurd (omega arith)
attach names ns o l k (j ∷ ks) c [] x i node n there few below r = absurd (omega arith)
attach names ns o l k [] c [] x i node n there few below r =
    let same : node ≡ r.node = cc in record {
      number = r.number;
      node = record node { first = o };
      there = got_set ns k node (record node { first = o }) there;
      cell = record {
        within = omega (arith, r.cell.within, ap (λ (v : Node). v.at + v.len) same);
        component = ap (λ (v : Node). Rattle.stage_nodes.specs.Forests.node_component names v) same ∙ r.cell.component;
        content = ap (λ (v : Node). v.content) same ∙ r.cell.content;
      };
      children = below;
      siblings = ap (λ (v : Node). v.next) same ∙ r.siblings;
    }
attach names ns o l k (j ∷ ks) c (d ∷ p) x i node n there few below r =
    let apart : k ≢ last_of j ks = λ e. absurd (omega (arith, few (last_of j ks), last_in j ks d p x (omega arith), own_count (last_of j ks), ap (λ (v : ℕ). one (last_of j ks == v)) e)) in
    record {
      number = r.number;
      node = r.node;
      there = got_other ns (last_of j ks) k (record node { first = o }) apart ∙ r.there;
      cell = r.cell;
      children = attach names ns o l j ks d p x r.node.first node (omega arith) there (λ m. omega (arith, few m)) below r.children;
      siblings = r.siblings;
    }

-- a number counted below the path's length is one of the branch's
count_split : (m k : ℕ) (ks : List ℕ) (c : Bytes) (p : Path) (x : Content) (l : Forest) → length ks ≡ length p → count m (trunk (k ∷ ks) (c ∷ p) x l) ≡ count m (trunk (k ∷ ks) (c ∷ p) x Nil) + count m l
count_split m k [] c [] x l n = omega arith
count_split m k [] c (d ∷ p) x l n = absurd (omega arith)
count_split m k (i ∷ ks) c [] x l n = absurd (omega arith)
count_split m k (i ∷ ks) c (d ∷ p) x l n = omega (arith, count_split m i ks d p x l (omega arith))

pub count_trunk : (m k : ℕ) (ks : List ℕ) (p : Path) (x : Content) (l : Forest) → length ks + 1 ≡ length p → count m (trunk (k ∷ ks) p x l) ≡ count m (trunk (k ∷ ks) p x Nil) + count m l
count_trunk m k ks [] x l n = absurd (omega arith)
count_trunk m k ks (c ∷ p) x l n = count_split m k ks c p x l (omega arith)

module _ (s t u : Nodes) (p : Path) (x : Content) (e k : ℕ) (h : IsTrunk s t p x e k) where
  trunk_one : (m : ℕ) → count m (trunk (k ∷ h.below) p x Nil) ≤ 1
  trunk_one m = omega (arith, trunk_few s t p x e k h m, one_most (nat_lt m (length t.cells.items)))

  the_end : (q : Path) → q ≡ p → IsEnd t.cells.items e
  the_end [] g = absurd (omega (arith, h.long, ap length g))
  the_end (c ∷ q) g = subst (IsEnd t.cells.items) h.last
      (end_of t.names.items t.cells.items k h.below c q x (Some k) (omega (arith, h.long, ap length g)) (subst (λ (v : Path). Reads t.names.items t.cells.items (Some k) (trunk (k ∷ h.below) v x Nil)) (sym g) h.reads))

  last_count : (q : Path) → q ≡ p → 0 < count e (trunk (k ∷ h.below) p x Nil)
  last_count [] g = absurd (omega (arith, h.long, ap length g))
  last_count (c ∷ q) g = subst (λ (v : Path). 0 < count e (trunk (k ∷ h.below) v x Nil)) g
      (subst (λ (v : ℕ). 0 < count v (trunk (k ∷ h.below) (c ∷ q) x Nil)) h.last (last_in k h.below c q x (omega (arith, h.long, ap length g))))

  pub end_link : is_link t.cells.items (First e) ≡ true
  end_link = let v = the_end p refl in inside_link t.names.items t.cells.items e (slice_get_within t.cells.items e v.node v.there)

  module _ (j : Option ℕ) (cells : u.cells.items ≡ pointed t.cells.items (First e) j) (names : u.names.items ≡ t.names.items) (free : u.free ≡ t.free) where
    abbrev old : Node
    old = (the_end p refl).node

    there : slice_get t.cells.items e ≡ Some old
    there = (the_end p refl).there

    cells_set : u.cells.items ≡ slice_set t.cells.items e (record old { first = j })
    cells_set = cells ∙ point_first t.cells.items e old j there

    out : count e (spare t) ≡ 0
    out = omega (arith, trunk_few s t p x e k h e, last_count p refl, one_most (nat_lt e (length t.cells.items)))

    side : IsBeside t u
    side = set_beside t u e old (record old { first = j }) there h.pool out cells_set names free

    -- what was there before stays
    stays : (m : ℕ) (n : Node) → count m (spare s) ≡ 0 → slice_get s.cells.items m ≡ Some n → slice_get u.cells.items m ≡ Some n
    stays m n z q =
        set_stay t u e old (record old { first = j }) there h.pool out cells_set names free m n
        (λ w. absurd (omega (arith, last_count p refl, h.counts m, z, inside_one m (length s.cells.items) (slice_get_within s.cells.items m n q), one_most (nat_lt m (length t.cells.items)), ap (λ (v : ℕ). count v (trunk (k ∷ h.below) p x Nil)) w)))
        (h.stay m n z q)

    names_u : IsKept s.names.items u.names.items
    names_u = record { more = h.names.more; front = h.names.front ∙ sym names }

    reads_u : (l : Forest) → Reads s.names.items s.cells.items j l → ((m : ℕ) → count m l + count m (spare s) ≤ inside s m) → Reads u.names.items u.cells.items (Some k) (trunk (k ∷ h.below) p x l)
    reads_u l r few = by p refl
      where
        below : Reads u.names.items u.cells.items j l
        below = reads_kept s.names.items u.names.items names_u s.cells.items u.cells.items l j (λ m n g q. stays m n (omega (arith, g, few m, one_most (nat_lt m (length s.cells.items)))) q) r

        by : (q : Path) → q ≡ p → Reads u.names.items u.cells.items (Some k) (trunk (k ∷ h.below) p x l)
        by [] g = absurd (omega (arith, h.long, ap length g))
        by (c ∷ q) g =
            let at_last : slice_get t.cells.items (last_of k h.below) ≡ Some old = ap (slice_get t.cells.items) h.last ∙ there in
            let cells_last : slice_set t.cells.items (last_of k h.below) (record old { first = j }) ≡ u.cells.items = ap (λ (v : ℕ). slice_set t.cells.items v (record old { first = j })) h.last ∙ sym cells_set in
            subst (λ (v : Path). Reads u.names.items u.cells.items (Some k) (trunk (k ∷ h.below) v x l)) g
            (reads_names t.names.items u.names.items u.cells.items (Some k) (trunk (k ∷ h.below) (c ∷ q) x l) names
            (subst (λ (v : List Node). Reads t.names.items v (Some k) (trunk (k ∷ h.below) (c ∷ q) x l)) cells_last
            (attach t.names.items t.cells.items j l k h.below c q x (Some k) old (omega (arith, h.long, ap length g)) at_last
            (λ m. omega (arith, trunk_one m, ap (λ (v : Path). count m (trunk (k ∷ h.below) v x Nil)) g))
            (subst (λ (v : List Node). Reads t.names.items v j l) (sym cells_last) (reads_names u.names.items t.names.items u.cells.items j l (sym names) below))
            (subst (λ (v : Path). Reads t.names.items t.cells.items (Some k) (trunk (k ∷ h.below) v x Nil)) (sym g) h.reads))))

    pub grafted : IsGraft s u p x j k
    grafted = record {
      below = h.below;
      long = h.long;
      reads = reads_u;
      pool = side.pool;
      names = names_u;
      counts = λ m. omega (arith, h.counts m, ap (count m) side.spare, side.inside m);
      stay = stays;
    }
