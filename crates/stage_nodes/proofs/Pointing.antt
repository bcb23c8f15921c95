-- A forest put at a place by writing the link to it.
use Rattle.std.proofs.Common.{◌≡◌, ℕ, ◌+◌, ◌<◌, ◌≤◌, ◌≢◌, ◌==◌, List, [], ◌∷◌, length, length-set, Option, Some, refl, sym, ap, subst, ◌∙◌, arith}
use Rattle.std.specs.Prelude.{slice_get, slice_set, nat_lt}
use Rattle.git_objects.specs.Paths.{Bytes}
use Rattle.stage_nodes.specs.declared.nodes.Node.{Node}
use Rattle.stage_nodes.specs.declared.nodes.Nodes.{Nodes}
use Rattle.stage_nodes.specs.declared.nodes.Content.{Content}
use Rattle.stage_nodes.specs.declared.nodes.Link.TheVariants.{First, Next}
use Rattle.stage_nodes.specs.Forests.{Forest, Bin, one, count, IsCell, Reads}
use Rattle.stage_nodes.specs.Frames.{Frame, Below, Behind, plug, link_of, count_up, ReadsUp, pointed}
use Rattle.stage_nodes.specs.Pools.{inside, spare, IsPool}
use Rattle.stage_nodes.proofs.Lists.{got_set, got_other}
use Rattle.stage_nodes.proofs.Framing.{same_names, reads_kept, up_kept, up_pointed, stay_pointed, holder, owner_there, ReadsAll, reads_plug}
use Rattle.stage_nodes.proofs.Pools.{own_count, one_most, spare_is, pool_is}
use Rattle.stage_nodes.proofs.Freeing.{reads_names, length_pointed, point_next}

-- the free nodes, the bytes and the count of nodes are as they were
pub record IsBeside (s s' : Nodes) : Type 0 where
  pub pool : IsPool s'
  pub spare : spare s' ≡ spare s
  pub inside : (m : ℕ) → inside s' m ≡ inside s m

beside : (s s' : Nodes) → IsPool s → s'.names.items ≡ s.names.items → s'.free ≡ s.free → length s'.cells.items ≡ length s.cells.items → ((m : ℕ) (n : Node) → 0 < count m (spare s) → slice_get s.cells.items m ≡ Some n → slice_get s'.cells.items m ≡ Some n) → IsBeside s s'
beside s s' pool names free long stay =
    let few : (m : ℕ) → count m (spare s) ≤ inside s' m = λ m. omega (arith, pool.apart m, ap (λ (n : ℕ). one (nat_lt m n)) long) in
    let reads : Reads s'.names.items s'.cells.items s'.free (spare s) =
    reads_names s.names.items s'.names.items s'.cells.items s'.free (spare s) names
    (subst (λ (o : Option ℕ). Reads s.names.items s'.cells.items o (spare s)) (sym free)
    (reads_kept s.names.items s.names.items (same_names s.names.items) s.cells.items s'.cells.items (spare s) s.free stay pool.walk)) in
    record {
      pool = pool_is s' (spare s) reads pool.chain few;
      spare = spare_is s' (spare s) reads pool.chain few;
      inside = λ m. ap (λ (n : ℕ). one (nat_lt m n)) long;
    }

-- ---- the link to a place

module _ (s s' : Nodes) (b : ℕ) (up : List Frame) (j i : Option ℕ) (Y : Forest) (pool : IsPool s) (around : ReadsUp s.names.items s.cells.items b up j) (reads : Reads s.names.items s.cells.items i Y) (apart : (m : ℕ) → one (m == b) + count_up m up + count m Y + count m (spare s) ≤ inside s m) (cells : s'.cells.items ≡ pointed s.cells.items (link_of b up) i) (names : s'.names.items ≡ s.names.items) (free : s'.free ≡ s.free) where
  abbrev owner : ℕ
  owner = holder b up

  alone : count owner Y + count owner (spare s) ≡ 0
  alone = omega (arith, apart owner, owner_there b up, one_most (nat_lt owner (length s.cells.items)))

  single : one (owner == b) + count_up owner up ≤ 1
  single = omega (arith, apart owner, one_most (nat_lt owner (length s.cells.items)))

  pub pointed_stay : (m : ℕ) (n : Node) → m ≢ holder b up → slice_get s.cells.items m ≡ Some n → slice_get s'.cells.items m ≡ Some n
  pointed_stay m n a h =
      ap (λ (v : List Node). slice_get v m) cells
      ∙ stay_pointed s.cells.items b up i (λ v. one (v == m)) (Rattle.stage_nodes.proofs.Framing.one_other owner m (λ e. a (sym e))) m n (omega (arith, own_count m)) h

  pub pointed_long : length s'.cells.items ≡ length s.cells.items
  pointed_long = ap length cells ∙ length_pointed s.cells.items (link_of b up) i

  pub pointed_beside : IsBeside s s'
  pointed_beside = beside s s' pool names free pointed_long (λ m n g h. pointed_stay m n (λ e. absurd (omega (arith, alone, ap (λ (v : ℕ). count v (spare s)) e))) h)

  pub pointed_up : ReadsUp s'.names.items s'.cells.items b up i
  pointed_up =
      subst (λ (nm : Bytes). ReadsUp nm s'.cells.items b up i) (sym names)
      (subst (λ (v : List Node). ReadsUp s.names.items v b up i) (sym cells) (up_pointed s.names.items s.cells.items b up j i single around))

  pub pointed_reads : Reads s'.names.items s'.cells.items i Y
  pointed_reads =
      reads_names s.names.items s'.names.items s'.cells.items i Y names
      (reads_kept s.names.items s.names.items (same_names s.names.items) s.cells.items s'.cells.items Y i
      (λ m n g h. pointed_stay m n (λ e. absurd (omega (arith, alone, ap (λ (v : ℕ). count v Y) e))) h) reads)

  pub pointed_all : ReadsAll s'.names.items s'.cells.items b (plug up Y)
  pointed_all =
      reads_plug s'.names.items s'.cells.items b up i Y
      (subst (λ (nm : Bytes). ReadsUp nm s'.cells.items b up i) (sym names)
      (subst (λ (v : List Node). ReadsUp s.names.items v b up i) (sym cells) (up_pointed s.names.items s.cells.items b up j i single around)))
      (reads_names s.names.items s'.names.items s'.cells.items i Y names
      (reads_kept s.names.items s.names.items (same_names s.names.items) s.cells.items s'.cells.items Y i
      (λ m n g h. pointed_stay m n (λ e. absurd (omega (arith, alone, ap (λ (v : ℕ). count v Y) e))) h) reads))

-- ---- the next sibling of a node that stands alone

module _ (s s' : Nodes) (k : ℕ) (i : Option ℕ) (node : Node) (there : slice_get s.cells.items k ≡ Some node) (pool : IsPool s) (apart : count k (spare s) ≡ 0) (cells : s'.cells.items ≡ pointed s.cells.items (Next k) i) (names : s'.names.items ≡ s.names.items) (free : s'.free ≡ s.free) where
  next_cells : s'.cells.items ≡ slice_set s.cells.items k (record node { next = i })
  next_cells = cells ∙ point_next s.cells.items k node i there

  pub next_stay : (m : ℕ) (n : Node) → m ≢ k → slice_get s.cells.items m ≡ Some n → slice_get s'.cells.items m ≡ Some n
  next_stay m n a h = ap (λ (v : List Node). slice_get v m) next_cells ∙ got_other s.cells.items k m (record node { next = i }) a ∙ h

  pub next_there : slice_get s'.cells.items k ≡ Some (record node { next = i })
  next_there = ap (λ (v : List Node). slice_get v k) next_cells ∙ got_set s.cells.items k node (record node { next = i }) there

  pub next_long : length s'.cells.items ≡ length s.cells.items
  next_long = ap length cells ∙ length_pointed s.cells.items (Next k) i

  pub next_beside : IsBeside s s'
  next_beside = beside s s' pool names free next_long (λ m n g h. next_stay m n (λ e. absurd (omega (arith, ap (λ (v : ℕ). count v (spare s)) e))) h)

  -- what doesn't have it stays
  pub next_reads : (F : Forest) (o : Option ℕ) → count k F ≡ 0 → Reads s.names.items s.cells.items o F → Reads s'.names.items s'.cells.items o F
  next_reads F o z h =
      reads_names s.names.items s'.names.items s'.cells.items o F names
      (reads_kept s.names.items s.names.items (same_names s.names.items) s.cells.items s'.cells.items F o (λ m n g u. next_stay m n (λ e. absurd (omega (arith, ap (λ (v : ℕ). count v F) e))) u) h)

  pub next_up : (b : ℕ) (up : List Frame) (o : Option ℕ) → one (k == b) + count_up k up ≡ 0 → ReadsUp s.names.items s.cells.items b up o → ReadsUp s'.names.items s'.cells.items b up o
  next_up b up o z h =
      subst (λ (nm : Bytes). ReadsUp nm s'.cells.items b up o) (sym names)
      (up_kept s.names.items s.names.items (same_names s.names.items) s.cells.items s'.cells.items b up o (λ m n g u. next_stay m n (λ e. absurd (omega (arith, ap (λ (v : ℕ). one (v == b) + count_up v up) e))) u) h)

  -- it stands before these siblings then
  pub next_before : (c : Bytes) (x : Content) (l X : Forest) → IsCell s.names.items node c x → Reads s.names.items s.cells.items node.first l → Reads s.names.items s.cells.items i X → count k l + count k X ≡ 0 → Reads s'.names.items s'.cells.items (Some k) (Bin k c x l X)
  next_before c x l X cell children siblings z = record {
    number = refl;
    node = record node { next = i };
    there = next_there;
    cell = subst (λ (nm : Bytes). IsCell nm (record node { next = i }) c x) (sym names) (record { within = cell.within; component = cell.component; content = cell.content });
    children = next_reads l node.first (omega arith) children;
    siblings = next_reads X i (omega arith) siblings;
  }

-- ---- the directory where the way began keeps all but its first child

same_first : (ns : List Node) (b : ℕ) (n n' : Node) → slice_get ns b ≡ Some n → slice_get ns b ≡ Some n' → n ≡ n'
same_first ns b n n' h g = cc

pub base_written : (ns : List Node) (b : ℕ) (up : List Frame) (i : Option ℕ) (n n' : Node) → one (holder b up == b) + count_up (holder b up) up ≤ 1 → slice_get ns b ≡ Some n → slice_get (pointed ns (link_of b up) i) b ≡ Some n' → record n' { first = n.first } ≡ n
base_written ns b [] i n n' d h g =
    let e : record n { first = i } ≡ n' = same_first (pointed ns (First b) i) b (record n { first = i }) n' (ap (λ (v : List Node). slice_get v b) (Rattle.stage_nodes.proofs.Freeing.point_first ns b n i h) ∙ got_set ns b n (record n { first = i }) h) g in
    ap (λ (m : Node). record m { first = n.first }) (sym e)
base_written ns b (Below k c r ∷ up) i n n' d h g =
    let apart : b ≢ k = λ e. absurd (omega (arith, own_count k, ap (λ (v : ℕ). one (k == v)) e)) in
    let e : n ≡ n' = same_first (pointed ns (First k) i) b n n' (stay_pointed ns b (Below k c r ∷ up) i (λ v. one (v == b)) (Rattle.stage_nodes.proofs.Framing.one_other k b (λ e. apart (sym e))) b n (omega (arith, own_count b)) h) g in
    ap (λ (m : Node). record m { first = n.first }) (sym e)
base_written ns b (Behind k c x l ∷ up) i n n' d h g =
    let apart : b ≢ k = λ e. absurd (omega (arith, own_count k, ap (λ (v : ℕ). one (k == v)) e)) in
    let e : n ≡ n' = same_first (pointed ns (Next k) i) b n n' (stay_pointed ns b (Behind k c x l ∷ up) i (λ v. one (v == b)) (Rattle.stage_nodes.proofs.Framing.one_other k b (λ e. apart (sym e))) b n (omega (arith, own_count b)) h) g in
    ap (λ (m : Node). record m { first = n.first }) (sym e)

-- ---- a node replaced

module _ (s s' : Nodes) (k : ℕ) (old new : Node) (there : slice_get s.cells.items k ≡ Some old) (pool : IsPool s) (apart : count k (spare s) ≡ 0) (cells : s'.cells.items ≡ slice_set s.cells.items k new) (names : s'.names.items ≡ s.names.items) (free : s'.free ≡ s.free) where
  pub set_stay : (m : ℕ) (n : Node) → m ≢ k → slice_get s.cells.items m ≡ Some n → slice_get s'.cells.items m ≡ Some n
  set_stay m n a h = ap (λ (v : List Node). slice_get v m) cells ∙ got_other s.cells.items k m new a ∙ h

  pub set_there : slice_get s'.cells.items k ≡ Some new
  set_there = ap (λ (v : List Node). slice_get v k) cells ∙ got_set s.cells.items k old new there

  pub set_beside : IsBeside s s'
  set_beside = beside s s' pool names free (ap length cells ∙ length-set s.cells.items k new) (λ m n g h. set_stay m n (λ e. absurd (omega (arith, ap (λ (v : ℕ). count v (spare s)) e))) h)

  pub set_reads : (F : Forest) (o : Option ℕ) → count k F ≡ 0 → Reads s.names.items s.cells.items o F → Reads s'.names.items s'.cells.items o F
  set_reads F o z h =
      reads_names s.names.items s'.names.items s'.cells.items o F names
      (reads_kept s.names.items s.names.items (same_names s.names.items) s.cells.items s'.cells.items F o (λ m n g u. set_stay m n (λ e. absurd (omega (arith, ap (λ (v : ℕ). count v F) e))) u) h)
