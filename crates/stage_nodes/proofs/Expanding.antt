-- A directory's entries made into nodes, one by one.
use Rattle.std.proofs.Common.{◌≡◌, ℕ, Bool, true, false, cond, ◌||◌, List, [], ◌∷◌, ◌++◌, length, Option, Some, None, refl, sym, ap, subst, ◌∙◌, arith, append_assoc}
use Rattle.std.specs.Prelude.{slice_get, nat_lt}
use Rattle.std.specs.Cmp.Lexicographic.{bytes_decides}
use Rattle.std.proofs.lemmas.List.Elements.{All-push, All-weaker}
use Rattle.std.proofs.lemmas.Option.{slice_get_within}
use Rattle.git_objects.specs.Paths.{Bytes, Path, same_bytes, is_component}
use Rattle.git_objects.specs.Trees.{Leaf, at, rests}
use Rattle.git_objects.specs.Entries.{AreEntries, Before, entry_component, entry_dir}
use Rattle.git_objects.specs.declared.entry.Entry.{Entry}
use Rattle.git_objects.proofs.Basics.{same_bytes-back}
use Rattle.git_objects.proofs.Maps.{first_some}
use Rattle.object_store.specs.Objects.{Object}
use Rattle.object_store.proofs.Unfolding.{node}
use Rattle.path_trees.specs.Listed.{entry_at, found}
use Rattle.path_trees.proofs.Listings.{Away, away_before}
use Rattle.path_trees.proofs.Grown.{joined_in}
use Rattle.path_trees.proofs.Levels.{at-block, at-away}
use Rattle.stage_nodes.specs.declared.nodes.Node.{Node}
use Rattle.stage_nodes.specs.declared.nodes.Nodes.{Nodes}
use Rattle.stage_nodes.specs.declared.nodes.Content.{Content}
use Rattle.stage_nodes.specs.declared.nodes.Content.TheVariants.{Held}
use Rattle.stage_nodes.specs.declared.nodes.Link.TheVariants.{First}
use Rattle.stage_nodes.specs.Forests.{Forest, Nil, one, count, IsCell, Reads, forest, inserted, Sound}
use Rattle.stage_nodes.specs.Pools.{IsAdded, IsPool, IsSame, inside, spare, hanging}
use Rattle.stage_nodes.specs.Directories.{has_component, has_number, IsDirectory, IsAddedTo}
use Rattle.stage_nodes.specs.Leaves.{leaf_in}
use Rattle.stage_nodes.specs.Expanding.{AllPass, AreChildren, IsFilling, IsPartly}
use Rattle.stage_nodes.proofs.Framing.{reads_kept, same_names}
use Rattle.stage_nodes.proofs.Pools.{one_most, forest_is, spare_is, pool_is}
use Rattle.stage_nodes.proofs.Freeing.{first_of}
use Rattle.stage_nodes.proofs.Inserting.{sound_inserted, has_inserted, number_inserted, number_kept, leaf_inserted}

-- what hangs at a directory is its children
pub children_hang : (s : Nodes) (b : ℕ) (K : Forest) → IsDirectory s b K → hanging s (First b) ≡ K
children_hang s b K d = ap (forest s.names.items s.cells.items) (first_of s.cells.items b d.node d.there) ∙ forest_is s.names.items s.cells.items d.node.first K d.children (λ m. omega (arith, d.apart m))

pub nothing_filled : (s : Nodes) (b : ℕ) → IsDirectory s b Nil → IsFilling s s b []
nothing_filled s b d = record {
  kids = Nil;
  directory = d;
  absent = λ c h. refl;
  leaves = λ S c p. refl;
  sound = λ p h. tt;
  names = same_names s.names.items;
  node = λ n h. ap (λ (m : Node). record m { first = n.first }) (both d.there h);
  counts = λ m. omega arith;
  stay = λ m n z h. h;
}
  where
    both : {o : Option Node} {a d : Node} → o ≡ Some a → o ≡ Some d → a ≡ d
    both h g = cc

-- ---- one entry more

none_more : (b : Bool) (e : Entry) (o : Option Entry) → cond b (Some e) o ≡ None → (b ≡ false) × (o ≡ None)
none_more true e o h = absurd cc
none_more false e o h = (refl, h)

at_behind : (c : Bytes) (es : List Entry) (e : Entry) → entry_at c (es ++ e ∷ []) ≡ None → (entry_at c es ≡ None) × (same_bytes c e.component ≡ false)
at_behind c [] e h = (refl, (none_more (same_bytes c e.component) e None h).0)
at_behind c (d ∷ es) e h =
    let q = none_more (same_bytes c d.component) d (entry_at c (es ++ e ∷ [])) h in
    let r = at_behind c es e q.1 in
    (ap (λ b. cond b (Some d) (entry_at c es)) q.0 ∙ r.0, r.1)

pass_behind : (p : Content → Bool) (es : List Entry) (e : Entry) → AllPass p (es ++ e ∷ []) → AllPass p es × (p (Held (found e)) ≡ true)
pass_behind p [] e h = (tt, h.0)
pass_behind p (d ∷ es) e h = let q = pass_behind p es e h.1 in ((h.0, q.0), q.1)

before_front : (a : Entry) (xs ys : List Entry) → Before entry_component entry_dir a (xs ++ ys) → Before entry_component entry_dir a xs
before_front a [] ys h = tt
before_front a (x ∷ xs) ys h = (h.0, h.1, before_front a xs ys h.2)

front_entries : (xs ys : List Entry) → AreEntries (xs ++ ys) → AreEntries xs
front_entries [] ys h = tt
front_entries (x ∷ xs) ys h = (h.0, before_front x xs ys h.1, front_entries xs ys h.2)

before_one : (a : Entry) (xs ys : List Entry) (y : Entry) → Before entry_component entry_dir a (xs ++ y ∷ ys) → same_bytes a.component y.component ≡ false
before_one a [] ys y h = h.1
before_one a (x ∷ xs) ys y h = before_one a xs ys y h.2

-- no entry in front of one has its component
front_none : (xs ys : List Entry) (e : Entry) → AreEntries (xs ++ e ∷ ys) → entry_at e.component xs ≡ None
front_none [] ys e h = refl
front_none (x ∷ xs) ys e h = ap (λ b. cond b (Some x) (entry_at e.component xs)) (same_bytes-back e.component x.component ∙ before_one x xs ys e h.1) ∙ front_none xs ys e h.2

later_component : (xs ys : List Entry) (e : Entry) → AreEntries (xs ++ e ∷ ys) → is_component e.component ≡ true
later_component [] ys e h = h.0
later_component (x ∷ xs) ys e h = later_component xs ys e h.2

-- of two entries, either may be looked at first
swapped : {A : Type 0} (c d e : Bytes) → same_bytes d e ≡ false → (x y z : A) → cond (same_bytes c d) x (cond (same_bytes c e) y z) ≡ cond (same_bytes c e) y (cond (same_bytes c d) x z)
swapped c d e h x y z =
    elim (same_bytes c d) as (λ b. same_bytes c d ≡ b → cond b x (cond (same_bytes c e) y z) ≡ cond (same_bytes c e) y (cond b x z)) [
      | true ↦ λ q. sym (ap (λ b. cond b y x) (ap (λ (w : Bytes). same_bytes w e) ((bytes_decides c d).0 q) ∙ h))
      | false ↦ λ q. refl
    ] refl

module _ (S : List Object) where
  abbrev below : Entry → Path → Option Leaf
  below e p = at (rests (node S e.mode e.name.0)) p

  leaf_entry : (e : Entry) (es : List Entry) → Away e.component es → (c : Bytes) (p : Path) → at (joined_in S (e ∷ es)) (c ∷ p) ≡ cond (same_bytes c e.component) (below e p) (at (joined_in S es) (c ∷ p))
  leaf_entry e es w c p =
      at-block c e.component (rests (node S e.mode e.name.0)) (joined_in S es) p
      ∙ elim (same_bytes c e.component) as (λ b. same_bytes c e.component ≡ b → cond b (first_some (below e p) (at (joined_in S es) (c ∷ p))) (at (joined_in S es) (c ∷ p)) ≡ cond b (below e p) (at (joined_in S es) (c ∷ p))) [
        | true ↦ λ q. ap (first_some (below e p)) (ap (λ (d : Bytes). at (joined_in S es) (d ∷ p)) ((bytes_decides c e.component).0 q) ∙ at-away S e.component p es w) ∙ some_none (below e p)
        | false ↦ λ q. refl
      ] refl
    where
      some_none : (o : Option Leaf) → first_some o None ≡ o
      some_none None = refl
      some_none (Some x) = refl

  leaf_behind : (es : List Entry) (e : Entry) → AreEntries (es ++ e ∷ []) → (c : Bytes) (p : Path) → at (joined_in S (es ++ e ∷ [])) (c ∷ p) ≡ cond (same_bytes c e.component) (below e p) (at (joined_in S es) (c ∷ p))
  leaf_behind [] e v c p = leaf_entry e [] tt c p
  leaf_behind (d ∷ es) e v c p =
      leaf_entry d (es ++ e ∷ []) (away_before d (es ++ e ∷ []) v.1) c p
      ∙ ap (cond (same_bytes c d.component) (below d p)) (leaf_behind es e v.2 c p)
      ∙ swapped c d.component e.component (before_one d es [] e v.1) (below d p) (below e p) (at (joined_in S es) (c ∷ p))
      ∙ sym (ap (cond (same_bytes c e.component) (below e p)) (leaf_entry d es (away_before d es (before_front d es (e ∷ []) v.1)) c p))

module _ (s t u : Nodes) (b : ℕ) (e : Entry) (es rest : List Entry) (sofar : IsFilling s t b es) (valid : AreEntries (es ++ e ∷ rest)) where
  lone : has_component e.component sofar.kids ≡ false
  lone = sofar.absent e.component (front_none es rest e valid)

  same : hanging t (First b) ≡ sofar.kids
  same = children_hang t b sofar.kids sofar.directory

  pub entry_absent : has_component e.component (hanging t (First b)) ≡ false
  entry_absent = ap (has_component e.component) same ∙ lone

  pub entry_directory : IsDirectory t b (hanging t (First b))
  entry_directory = subst (IsDirectory t b) (sym same) sofar.directory

  pub entry_valid : is_component e.component ≡ true
  entry_valid = later_component es rest e valid

  module _ (k : ℕ) (a : IsAddedTo t u b e.component (found e) k) where
    entry_child : has_number k (hanging u (First b)) ≡ true
    entry_child = ap (has_number k) (children_hang u b _ a.directory) ∙ number_inserted e.component k (Held (found e)) Nil (hanging t (First b))

    -- the children that were there are there still, and the one that was added is
    pub children_more : (ks : List ℕ) → AreChildren t b ks → AreChildren u b (ks ++ k ∷ [])
    children_more ks h =
        let was : ℕ → Type 0 = λ m. has_number m (hanging t (First b)) ≡ true in
        let is : ℕ → Type 0 = λ m. has_number m (hanging u (First b)) ≡ true in
        All-push is ks k (All-weaker was is (λ m g. ap (has_number m) (children_hang u b _ a.directory) ∙ number_kept e.component m k (Held (found e)) Nil (hanging t (First b)) g) ks h) entry_child

    pub one_filled : IsFilling s u b (es ++ e ∷ [])
    one_filled =
        let K : Forest = sofar.kids in
        let new : Forest = inserted e.component k (Held (found e)) Nil (hanging t (First b)) in
        let new_is : new ≡ inserted e.component k (Held (found e)) Nil K = ap (inserted e.component k (Held (found e)) Nil) same in
        let front : AreEntries (es ++ e ∷ []) = front_entries (es ++ e ∷ []) rest (subst AreEntries (sym (append_assoc es (e ∷ []) rest)) valid) in
        record {
          kids = new;
          directory = a.directory;
          absent = λ c h. let q = at_behind c es e h in
              ap (has_component c) new_is ∙ has_inserted c e.component k (Held (found e)) Nil K ∙ (λ i. q.1 i || sofar.absent c q.0 i);
          leaves = λ S c p.
              ap (λ (F : Forest). leaf_in S F (c ∷ p)) new_is
              ∙ leaf_inserted S c e.component p k (Held (found e)) Nil K lone
              ∙ ap (cond (same_bytes c e.component) (at (rests (node S e.mode e.name.0)) p)) (sofar.leaves S c p)
              ∙ sym (leaf_behind S es e front c p);
          sound = λ p h. let q = pass_behind p es e h in
              subst (Sound p) (sym new_is) (sound_inserted p e.component k (Held (found e)) Nil K (record { component = entry_valid; filled = refl; content = q.1 }) tt lone (sofar.sound p q.0));
          names = record { more = sofar.names.more ++ a.names.more; front = sym (append_assoc s.names.items sofar.names.more a.names.more) ∙ ap (λ (x : Bytes). x ++ a.names.more) sofar.names.front ∙ a.names.front };
          node = λ n h. ap (λ (m : Node). record m { first = n.first }) (a.node sofar.directory.node sofar.directory.there) ∙ sofar.node n h;
          counts = λ m. omega (arith, a.counts m, ap (count m) same, sofar.counts m);
          stay = λ m n z h. a.stay m n (omega (arith, z, ap (count m) same, sofar.counts m, Rattle.stage_nodes.proofs.Pools.inside_one m (length s.cells.items) (slice_get_within s.cells.items m n h), one_most (nat_lt m (length t.cells.items)))) (sofar.stay m n z h);
        }

-- ---- nothing more for want of memory

module _ (t u : Nodes) (h : IsSame t u) where
  pub same_reads : (F : Forest) (i : Option ℕ) → Reads t.names.items t.cells.items i F → Reads u.names.items u.cells.items i F
  same_reads F i r = reads_kept t.names.items u.names.items h.names t.cells.items u.cells.items F i (λ m n g e. ap (λ (v : List Node). slice_get v m) h.cells ∙ e) r

  pub same_inside : (m : ℕ) → inside u m ≡ inside t m
  same_inside m = ap (λ (v : List Node). one (nat_lt m (length v))) h.cells

  pub same_pool : IsPool t → IsPool u
  same_pool p = pool_is u (spare t) (subst (λ (o : Option ℕ). Reads u.names.items u.cells.items o (spare t)) (sym h.free) (same_reads (spare t) t.free p.walk)) p.chain (λ m. omega (arith, p.apart m, same_inside m))

  pub same_spare : IsPool t → spare u ≡ spare t
  same_spare p = spare_is u (spare t) (subst (λ (o : Option ℕ). Reads u.names.items u.cells.items o (spare t)) (sym h.free) (same_reads (spare t) t.free p.walk)) p.chain (λ m. omega (arith, p.apart m, same_inside m))

  pub same_directory : (b : ℕ) (K : Forest) → IsDirectory t b K → IsDirectory u b K
  same_directory b K d = record {
    pool = same_pool d.pool;
    node = d.node;
    there = ap (λ (v : List Node). slice_get v b) h.cells ∙ d.there;
    opened = d.opened;
    children = same_reads K d.node.first d.children;
    sound = d.sound;
    apart = λ m. omega (arith, d.apart m, same_inside m, ap (count m) (same_spare d.pool));
  }

pub same_filled : (s t u : Nodes) (b : ℕ) (es : List Entry) → IsFilling s t b es → IsSame t u → IsFilling s u b es
unfolding same_directory
same_filled s t u b es f h = record {
  kids = f.kids;
  directory = same_directory t u h b f.kids f.directory;
  absent = f.absent;
  leaves = f.leaves;
  sound = f.sound;
  names = record { more = f.names.more ++ h.names.more; front = sym (append_assoc s.names.items f.names.more h.names.more) ∙ ap (λ (x : Bytes). x ++ h.names.more) f.names.front ∙ h.names.front };
  node = f.node;
  counts = λ m. omega (arith, f.counts m, ap (count m) (same_spare t u h f.directory.pool), same_inside t u h m);
  stay = λ m n z g. ap (λ (v : List Node). slice_get v m) h.cells ∙ f.stay m n z g;
}

-- the components' bytes have grown before the first entry was added
pub past_filled : (s t u : Nodes) (b : ℕ) (es : List Entry) → IsPool s → IsSame s t → IsFilling t u b es → IsFilling s u b es
past_filled s t u b es pool h f = record {
  kids = f.kids;
  directory = f.directory;
  absent = f.absent;
  leaves = f.leaves;
  sound = f.sound;
  names = record { more = h.names.more ++ f.names.more; front = sym (append_assoc s.names.items h.names.more f.names.more) ∙ ap (λ (x : Bytes). x ++ f.names.more) h.names.front ∙ f.names.front };
  node = λ n g. f.node n (ap (λ (v : List Node). slice_get v b) h.cells ∙ g);
  counts = λ m. omega (arith, f.counts m, ap (count m) (same_spare s t h pool), same_inside s t h m);
  stay = λ m n z g. f.stay m n (omega (arith, z, ap (count m) (same_spare s t h pool))) (ap (λ (v : List Node). slice_get v m) h.cells ∙ g);
}

pub past_ok : {A E : Type 0} (s t u : Nodes) (b : ℕ) (es : List Entry) (r : Rattle.std.proofs.Common.Result A E) → IsPool s → IsSame s t → Rattle.std.proofs.Common.OnOk r (IsFilling t u b es) → Rattle.std.proofs.Common.OnOk r (IsFilling s u b es)
past_ok s t u b es (Rattle.std.proofs.Common.Ok x) pool h f = past_filled s t u b es pool h f
past_ok s t u b es (Rattle.std.proofs.Common.Err x) pool h f = tt

pub past_err : {A E : Type 0} (s t u : Nodes) (b : ℕ) (r : Rattle.std.proofs.Common.Result A E) → IsPool s → IsSame s t → Rattle.std.proofs.Common.OnErr r (IsPartly t u b) → Rattle.std.proofs.Common.OnErr r (IsPartly s u b)
past_err s t u b (Rattle.std.proofs.Common.Ok x) pool h f = tt
past_err s t u b (Rattle.std.proofs.Common.Err x) pool h f = record { done = f.done; filling = past_filled s t u b f.done pool h f.filling }

-- a node that was taken when the bytes had grown
module _ (s t u : Nodes) (pool : IsPool s) (h : IsSame s t) (c d : Bytes) (same : d ≡ c) (x : Content) (j : Option ℕ) where
  past_node : (k : ℕ) → IsAdded t u d x j k → IsAdded s u c x j k
  past_node k a = record {
    pool = a.pool;
    counts = λ m. omega (arith, a.counts m, ap (count m) (same_spare s t h pool), same_inside s t h m);
    names = record { more = h.names.more ++ a.names.more; front = sym (append_assoc s.names.items h.names.more a.names.more) ∙ ap (λ (b : Bytes). b ++ a.names.more) h.names.front ∙ a.names.front };
    stay = λ m n z g. a.stay m n (omega (arith, z, ap (count m) (same_spare s t h pool))) (ap (λ (v : List Node). slice_get v m) h.cells ∙ g);
    node = a.node;
    there = a.there;
    cell = subst (λ (b : Bytes). IsCell u.names.items a.node b x) same a.cell;
    first = a.first;
    next = a.next;
  }

  pub past_added : {E : Type 0} (r : Rattle.std.proofs.Common.Result ℕ E) → Rattle.std.proofs.Common.IfOk r (IsAdded t u d x j) → Rattle.std.proofs.Common.IfOk r (IsAdded s u c x j)
  past_added (Rattle.std.proofs.Common.Ok k) a = past_node k a
  past_added (Rattle.std.proofs.Common.Err e) a = tt

pub past_same : {A E : Type 0} (s t u : Nodes) (r : Rattle.std.proofs.Common.Result A E) → IsSame s t → Rattle.std.proofs.Common.OnErr r (IsSame t u) → Rattle.std.proofs.Common.OnErr r (IsSame s u)
past_same s t u (Rattle.std.proofs.Common.Ok x) h g = tt
past_same s t u (Rattle.std.proofs.Common.Err x) h g = record {
  cells = g.cells ∙ h.cells;
  free = g.free ∙ h.free;
  names = record { more = h.names.more ++ g.names.more; front = sym (append_assoc s.names.items h.names.more g.names.more) ∙ ap (λ (b : Bytes). b ++ g.names.more) h.names.front ∙ g.names.front };
}
