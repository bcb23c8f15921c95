-- Nodes given back, one turn after another.
use Rattle.std.proofs.Common.{◌≡◌, ℕ, ◌+◌, ◌<◌, ◌≤◌, ◌≢◌, ◌==◌, List, true, length, length-set, Option, Some, None, refl, sym, ap, subst, ◌∙◌, arith}
use Rattle.std.specs.Prelude.{slice_get, slice_set, nat_lt}
use Rattle.std.specs.Option.{option_and_then}
use Rattle.git_objects.specs.Paths.{Bytes}
use Rattle.stage_nodes.specs.declared.nodes.Node.{Node}
use Rattle.stage_nodes.specs.declared.nodes.Nodes.{Nodes}
use Rattle.stage_nodes.specs.declared.nodes.Link.{Link}
use Rattle.stage_nodes.specs.declared.nodes.Link.TheVariants.{First, Next}
use Rattle.stage_nodes.specs.Forests.{Forest, Nil, Bin, one, weight, count, IsCell, Reads, forest, IsWalk, node_component, target}
use Rattle.stage_nodes.specs.Frames.{written, pointed}
use Rattle.stage_nodes.specs.Pools.{inside, spare, Walks, CanFree, IsFreed, IsFreeing}
use Rattle.stage_nodes.proofs.Reading.{IsStep, step, forest_none}
use Rattle.std.proofs.lemmas.Option.{slice_get_within}
use Rattle.stage_nodes.proofs.Seeking.{inside_link}
use Rattle.stage_nodes.proofs.Lists.{got_set, got_other}
use Rattle.stage_nodes.proofs.Framing.{same_names, reads_kept}
use Rattle.stage_nodes.proofs.Pools.{own_count, one_most, forest_is, walk_is, spare_is, pool_is}

-- nodes were written, all of which are taken from here
pub record IsMoved (s s' : Nodes) : Type 0 where
  pub names : s'.names.items ≡ s.names.items
  pub long : length s'.cells.items ≡ length s.cells.items

pub first_of : (ns : List Node) (k : ℕ) (n : Node) → slice_get ns k ≡ Some n → target ns (First k) ≡ n.first
first_of ns k n h = ap (option_and_then (λ (n : Node). n.first)) h

pub next_of : (ns : List Node) (k : ℕ) (n : Node) → slice_get ns k ≡ Some n → target ns (Next k) ≡ n.next
next_of ns k n h = ap (option_and_then (λ (n : Node). n.next)) h

pub point_first : (ns : List Node) (k : ℕ) (n : Node) (j : Option ℕ) → slice_get ns k ≡ Some n → pointed ns (First k) j ≡ slice_set ns k (record n { first = j })
point_first ns k n j h = ap (written ns k (λ n. record n { first = j })) h

pub point_next : (ns : List Node) (k : ℕ) (n : Node) (j : Option ℕ) → slice_get ns k ≡ Some n → pointed ns (Next k) j ≡ slice_set ns k (record n { next = j })
point_next ns k n j h = ap (written ns k (λ n. record n { next = j })) h

whole_of : (names : Bytes) (ns : List Node) (k : ℕ) (st : IsStep names ns k) → IsCell names st.node (node_component names st.node) st.node.content
whole_of names ns k st = record { within = st.within; component = refl; content = refl }

pub reads_names : (a b : Bytes) (ns : List Node) (i : Option ℕ) (F : Forest) → b ≡ a → Reads a ns i F → Reads b ns i F
reads_names a b ns i F e h = subst (λ (n : Bytes). Reads n ns i F) (sym e) h

-- ---- a child taken out

module _ (s s' : Nodes) (k i : ℕ) (can : CanFree s (Some k)) (child : target s.cells.items (First k) ≡ Some i) (names : s'.names.items ≡ s.names.items) (free : s'.free ≡ s.free) (cells : s'.cells.items ≡ pointed (pointed s.cells.items (First k) (target s.cells.items (Next i))) (Next i) (Some k)) where
  abbrev sk : IsStep s.names.items s.cells.items k
  sk = step s.names.items s.cells.items k can.walk

  first : sk.node.first ≡ Some i
  first = sym (first_of s.cells.items k sk.node sk.there) ∙ child

  abbrev si : IsStep s.names.items s.cells.items i
  si = step s.names.items s.cells.items i (subst (λ (o : Option ℕ). IsWalk s.names.items s.cells.items o) first sk.children)

  abbrev left : Forest
  left = forest s.names.items s.cells.items si.node.first

  abbrev middle : Forest
  middle = forest s.names.items s.cells.items si.node.next

  abbrev right : Forest
  right = forest s.names.items s.cells.items sk.node.next

  abbrev ck : Bytes
  ck = node_component s.names.items sk.node

  abbrev ci : Bytes
  ci = node_component s.names.items si.node

  abbrev before : Forest
  before = Bin k ck sk.node.content (Bin i ci si.node.content left middle) right

  abbrev later : Forest
  later = Bin i ci si.node.content left (Bin k ck sk.node.content middle right)

  was : forest s.names.items s.cells.items (Some k) ≡ before
  was = sk.opened ∙ ap (λ (l : Forest). Bin k ck sk.node.content l right) (ap (forest s.names.items s.cells.items) first ∙ si.opened)

  few : (m : ℕ) → count m before + count m (spare s) ≤ inside s m
  few m = omega (arith, can.apart m, ap (count m) was)

  abbrev nk : Node
  nk = record sk.node { first = si.node.next }

  abbrev ni : Node
  ni = record si.node { next = Some k }

  apart_numbers : i ≢ k
  apart_numbers e = absurd (omega (arith, few k, own_count k, ap (λ (v : ℕ). one (k == v)) e, one_most (nat_lt k (length s.cells.items))))

  now : s'.cells.items ≡ slice_set (slice_set s.cells.items k nk) i ni
  now =
      cells
      ∙ ap (λ (v : List Node). pointed v (Next i) (Some k)) (ap (pointed s.cells.items (First k)) (next_of s.cells.items i si.node si.there) ∙ point_first s.cells.items k sk.node si.node.next sk.there)
      ∙ point_next (slice_set s.cells.items k nk) i si.node (Some k) (got_other s.cells.items k i nk apart_numbers ∙ si.there)

  long : length s'.cells.items ≡ length s.cells.items
  long = ap length now ∙ length-set (slice_set s.cells.items k nk) i ni ∙ length-set s.cells.items k nk

  others : (m : ℕ) (n : Node) → m ≢ k → m ≢ i → slice_get s.cells.items m ≡ Some n → slice_get s'.cells.items m ≡ Some n
  others m n a b h = ap (λ (v : List Node). slice_get v m) now ∙ got_other (slice_set s.cells.items k nk) i m ni b ∙ got_other s.cells.items k m nk a ∙ h

  there_i : slice_get s'.cells.items i ≡ Some ni
  there_i = ap (λ (v : List Node). slice_get v i) now ∙ got_set (slice_set s.cells.items k nk) i si.node ni (got_other s.cells.items k i nk apart_numbers ∙ si.there)

  there_k : slice_get s'.cells.items k ≡ Some nk
  there_k = ap (λ (v : List Node). slice_get v k) now ∙ got_other (slice_set s.cells.items k nk) i k ni (λ e. apart_numbers (sym e)) ∙ got_set s.cells.items k sk.node nk sk.there

  -- a forest that has neither of the two stays
  kept : (F : Forest) (o : Option ℕ) → count k F ≡ 0 → count i F ≡ 0 → Reads s.names.items s.cells.items o F → Reads s.names.items s'.cells.items o F
  kept F o zk zi h =
      reads_kept s.names.items s.names.items (same_names s.names.items) s.cells.items s'.cells.items F o
      (λ m n g u. others m n (λ e. absurd (omega (arith, ap (λ (v : ℕ). count v F) e))) (λ e. absurd (omega (arith, ap (λ (v : ℕ). count v F) e))) u) h

  few_k : count k left + count k middle + count k right + count k (spare s) ≡ 0
  few_k = omega (arith, few k, own_count k, one_most (nat_lt k (length s.cells.items)))

  few_i : count i left + count i middle + count i right + count i (spare s) ≡ 0
  few_i = omega (arith, few i, own_count i, one_most (nat_lt i (length s.cells.items)))

  reads_old : Reads s.names.items s'.cells.items (Some i) later
  reads_old = record {
    number = refl;
    node = ni;
    there = there_i;
    cell = record { within = si.within; component = refl; content = refl };
    children = kept left si.node.first (omega (arith, few_k)) (omega (arith, few_i)) si.children;
    siblings = record {
      number = refl;
      node = nk;
      there = there_k;
      cell = record { within = sk.within; component = refl; content = refl };
      children = kept middle si.node.next (omega (arith, few_k)) (omega (arith, few_i)) si.siblings;
      siblings = kept right sk.node.next (omega (arith, few_k)) (omega (arith, few_i)) sk.siblings;
    };
  }

  reads_now : Reads s'.names.items s'.cells.items (Some i) later
  reads_now = reads_names s.names.items s'.names.items s'.cells.items (Some i) later names reads_old

  free_now : Reads s'.names.items s'.cells.items s'.free (spare s)
  free_now =
      reads_names s.names.items s'.names.items s'.cells.items s'.free (spare s) names
      (subst (λ (o : Option ℕ). Reads s.names.items s'.cells.items o (spare s)) (sym free) (kept (spare s) s.free (omega (arith, few_k)) (omega (arith, few_i)) can.pool.walk))

  inside_now : (m : ℕ) → inside s' m ≡ inside s m
  inside_now m = ap (λ (n : ℕ). one (nat_lt m n)) long

  later_few : (m : ℕ) → count m later ≤ inside s' m
  later_few m = omega (arith, few m, inside_now m)

  spare_few : (m : ℕ) → count m (spare s) ≤ inside s' m
  spare_few m = omega (arith, few m, inside_now m)

  is_later : forest s'.names.items s'.cells.items (Some i) ≡ later
  is_later = forest_is s'.names.items s'.cells.items (Some i) later reads_now later_few

  same_spare : spare s' ≡ spare s
  same_spare = spare_is s' (spare s) free_now can.pool.chain spare_few

  pub handed_on : IsFreeing s s' (Some k) (Some i)
  handed_on = record {
    can = record {
      pool = pool_is s' (spare s) free_now can.pool.chain spare_few;
      walk = walk_is s'.names.items s'.cells.items (Some i) later reads_now later_few;
      apart = λ m. omega (arith, few m, inside_now m, ap (count m) is_later, ap (count m) same_spare);
    };
    counts = λ m. omega (arith, ap (count m) was, ap (count m) is_later, ap (count m) same_spare);
    names = names;
    long = long;
    stay = λ m n z h. others m n
        (λ e. absurd (omega (arith, z, ap (count m) was, ap (λ (v : ℕ). one (m == v)) e, own_count m)))
        (λ e. absurd (omega (arith, z, ap (count m) was, ap (λ (v : ℕ). one (m == v)) e, own_count m))) h;
  }

  pub handed_less : weight (forest s'.names.items s'.cells.items (Some i)) < weight (forest s.names.items s.cells.items (Some k))
  handed_less = omega (arith, ap weight was, ap weight is_later)

-- ---- a node without children given back

module _ (s s' : Nodes) (k : ℕ) (j : Option ℕ) (can : CanFree s (Some k)) (childless : target s.cells.items (First k) ≡ None) (names : s'.names.items ≡ s.names.items) (rest : j ≡ target s.cells.items (Next k)) (free : s'.free ≡ Some k) (cells : s'.cells.items ≡ pointed s.cells.items (Next k) s.free) where
  abbrev gk : IsStep s.names.items s.cells.items k
  gk = step s.names.items s.cells.items k can.walk

  abbrev behind : Forest
  behind = forest s.names.items s.cells.items gk.node.next

  abbrev gc : Bytes
  gc = node_component s.names.items gk.node

  given_was : forest s.names.items s.cells.items (Some k) ≡ Bin k gc gk.node.content Nil behind
  given_was = gk.opened ∙ ap (λ (l : Forest). Bin k gc gk.node.content l behind) (ap (forest s.names.items s.cells.items) (sym (first_of s.cells.items k gk.node gk.there) ∙ childless) ∙ forest_none s.names.items s.cells.items)

  abbrev gn : Node
  gn = record gk.node { next = s.free }

  given_now : s'.cells.items ≡ slice_set s.cells.items k gn
  given_now = cells ∙ point_next s.cells.items k gk.node s.free gk.there

  given_long : length s'.cells.items ≡ length s.cells.items
  given_long = ap length given_now ∙ length-set s.cells.items k gn

  given_few : (m : ℕ) → one (m == k) + count m behind + count m (spare s) ≤ inside s m
  given_few m = omega (arith, can.apart m, ap (count m) given_was)

  given_others : (m : ℕ) (n : Node) → m ≢ k → slice_get s.cells.items m ≡ Some n → slice_get s'.cells.items m ≡ Some n
  given_others m n a h = ap (λ (v : List Node). slice_get v m) given_now ∙ got_other s.cells.items k m gn a ∙ h

  given_kept : (F : Forest) (o : Option ℕ) → count k F ≡ 0 → Reads s.names.items s.cells.items o F → Reads s'.names.items s'.cells.items o F
  given_kept F o z h =
      reads_names s.names.items s'.names.items s'.cells.items o F names
      (reads_kept s.names.items s.names.items (same_names s.names.items) s.cells.items s'.cells.items F o
      (λ m n g u. given_others m n (λ e. absurd (omega (arith, ap (λ (v : ℕ). count v F) e))) u) h)

  given_none : count k behind + count k (spare s) ≡ 0
  given_none = omega (arith, given_few k, own_count k, one_most (nat_lt k (length s.cells.items)))

  abbrev new_spare : Forest
  new_spare = Bin k gc gk.node.content Nil (spare s)

  spare_reads : Reads s'.names.items s'.cells.items s'.free new_spare
  spare_reads = record {
    number = free;
    node = gn;
    there = ap (λ (v : List Node). slice_get v k) given_now ∙ got_set s.cells.items k gk.node gn gk.there;
    cell = record {
      within = omega (arith, gk.within, ap length names);
      component = ap (λ (b : Bytes). node_component b gk.node) names;
      content = refl;
    };
    children = sym (first_of s.cells.items k gk.node gk.there) ∙ childless;
    siblings = given_kept (spare s) s.free (omega (arith, given_none)) can.pool.walk;
  }

  behind_reads : Reads s'.names.items s'.cells.items j behind
  behind_reads = subst (λ (o : Option ℕ). Reads s'.names.items s'.cells.items o behind) (sym (rest ∙ next_of s.cells.items k gk.node gk.there)) (given_kept behind gk.node.next (omega (arith, given_none)) gk.siblings)

  given_inside : (m : ℕ) → inside s' m ≡ inside s m
  given_inside m = ap (λ (n : ℕ). one (nat_lt m n)) given_long

  new_few : (m : ℕ) → count m new_spare ≤ inside s' m
  new_few m = omega (arith, given_few m, given_inside m)

  behind_few : (m : ℕ) → count m behind ≤ inside s' m
  behind_few m = omega (arith, given_few m, given_inside m)

  is_behind : forest s'.names.items s'.cells.items j ≡ behind
  is_behind = forest_is s'.names.items s'.cells.items j behind behind_reads behind_few

  is_spare : spare s' ≡ new_spare
  is_spare = spare_is s' new_spare spare_reads (refl, can.pool.chain) new_few

  pub given : IsFreeing s s' (Some k) j
  given = record {
    can = record {
      pool = pool_is s' new_spare spare_reads (refl, can.pool.chain) new_few;
      walk = walk_is s'.names.items s'.cells.items j behind behind_reads behind_few;
      apart = λ m. omega (arith, given_few m, given_inside m, ap (count m) is_behind, ap (count m) is_spare);
    };
    counts = λ m. omega (arith, ap (count m) given_was, ap (count m) is_behind, ap (count m) is_spare);
    names = names;
    long = given_long;
    stay = λ m n z h. given_others m n (λ e. absurd (omega (arith, z, ap (count m) given_was, ap (λ (v : ℕ). one (m == v)) e, own_count m))) h;
  }

  pub given_less : weight (forest s'.names.items s'.cells.items j) < weight (forest s.names.items s.cells.items (Some k))
  given_less = omega (arith, ap weight given_was, ap weight is_behind)

-- ---- numbers in the vector

pub number_inside : (s : Nodes) (k : ℕ) → Walks s (Some k) → nat_lt k (length s.cells.items) ≡ true
number_inside s k h = inside_link s.names.items s.cells.items k (slice_get_within s.cells.items k (step s.names.items s.cells.items k h).node (step s.names.items s.cells.items k h).there)

pub child_inside : (s : Nodes) (k i : ℕ) → Walks s (Some k) → Some i ≡ target s.cells.items (First k) → nat_lt i (length s.cells.items) ≡ true
child_inside s k i h e =
    let sk = step s.names.items s.cells.items k h in
    number_inside s i (subst (λ (o : Option ℕ). IsWalk s.names.items s.cells.items o) (sym (first_of s.cells.items k sk.node sk.there) ∙ sym e) sk.children)

length_written : (ns : List Node) (k : ℕ) (f : Node → Node) (o : Option Node) → length (written ns k f o) ≡ length ns
length_written ns k f None = refl
length_written ns k f (Some n) = length-set ns k (f n)

pub length_pointed : (ns : List Node) (link : Link) (j : Option ℕ) → length (pointed ns link j) ≡ length ns
length_pointed ns (First k) j = length_written ns k (λ n. record n { first = j }) (slice_get ns k)
length_pointed ns (Next k) j = length_written ns k (λ n. record n { next = j }) (slice_get ns k)

pub all_freed : (s s' : Nodes) (i j : Option ℕ) → j ≡ None → IsFreeing s s' i j → IsFreed s s' i
all_freed s s' i j e h = record {
  pool = h.can.pool;
  counts = λ m. omega (arith, h.counts m, ap (count m) (ap (forest s'.names.items s'.cells.items) e ∙ forest_none s'.names.items s'.cells.items));
  names = h.names;
  long = h.long;
  stay = h.stay;
}

pub none_freed : (s : Nodes) (i : Option ℕ) → CanFree s i → IsFreeing s s i i
none_freed s i h = record { can = h; counts = λ m. refl; names = refl; long = refl; stay = λ m n z g. g }

pub more_freed : (s t u : Nodes) (i j k : Option ℕ) → IsFreeing s t i j → IsFreeing t u j k → IsFreeing s u i k
more_freed s t u i j k h g = record {
  can = g.can;
  counts = λ m. g.counts m ∙ h.counts m;
  names = g.names ∙ h.names;
  long = g.long ∙ h.long;
  stay = λ m n z e. g.stay m n (h.counts m ∙ z) (h.stay m n z e);
}
