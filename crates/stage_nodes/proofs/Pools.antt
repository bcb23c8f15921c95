-- Numbers are counted: a forest of distinct numbers of the vector has no more nodes than the vector.
use Rattle.std.proofs.Common.{◌≡◌, ℕ, zero, suc, ◌+◌, ◌<◌, ◌≤◌, inl, inr, Bool, true, false, ◌==◌, List, [], ◌∷◌, ◌++◌, length, Option, Some, None, refl, sym, ap, subst, ◌∙◌, arith, length-append}
use Rattle.std.specs.Prelude.{slice_get, slice_set, nat_lt}
use Rattle.std.proofs.lemmas.Bool.Decides.{nat_tests, eqb_tells}
use Rattle.git_objects.specs.Paths.{Bytes}
use Rattle.stage_nodes.specs.declared.nodes.Node.{Node}
use Rattle.stage_nodes.specs.Forests.{Forest, Nil, Bin, one, size, count, Reads, forest, IsWalk, IsCell}
use Rattle.stage_nodes.proofs.Reading.{height, forest_read}
use Rattle.stage_nodes.specs.declared.nodes.Nodes.{Nodes}
use Rattle.stage_nodes.specs.declared.nodes.Content.{Content}
use Rattle.stage_nodes.specs.Pools.{IsChain, IsKept, inside, spare, IsPool, place_number, placed, free_after, IsAdded}
use Rattle.std.specs.Option.{option_and_then}
use Rattle.std.proofs.lemmas.Option.{slice_get_within}
use Rattle.stage_nodes.proofs.Lists.{got_set, got_other, got_front, got_pushed}
use Rattle.stage_nodes.proofs.Framing.{reads_kept}

abbrev pub counted : ℕ → Forest → ℕ
counted zero F = 0
counted (suc n) F = count n F + counted n F

one_more : (n m k : ℕ) → m ≡ n + 1 → one (nat_lt k n) + one (n == k) ≡ one (nat_lt k m)
one_more n m k e = grind (arith, nat_tests)

one_less : (n k : ℕ) → one (nat_lt k n) + one (n == k) ≡ one (nat_lt k (suc n))
one_less n k = one_more n (suc n) k (omega arith)

none_less : (k : ℕ) → one (nat_lt k 0) ≡ 0
none_less k = grind (arith, nat_tests)

counted_nil : (n : ℕ) → counted n Nil ≡ 0
counted_nil zero = refl
counted_nil (suc n) = omega (arith, counted_nil n)

counted_bin : (n k : ℕ) (c : Bytes) (x : Rattle.stage_nodes.specs.declared.nodes.Content.Content) (l r : Forest) → counted n (Bin k c x l r) ≡ one (nat_lt k n) + counted n l + counted n r
counted_bin zero k c x l r = omega (arith, none_less k)
counted_bin (suc n) k c x l r = omega (arith, counted_bin n k c x l r, one_less n k)

one_inside : (k n : ℕ) → one (nat_lt k n) ≡ 1 → k < n
one_inside k n h = grind (arith, nat_tests)

pub inside_one : (k n : ℕ) → k < n → one (nat_lt k n) ≡ 1
inside_one k n h = grind (arith, nat_tests)

pub one_most : (b : Bool) → one b ≤ 1
one_most true = omega arith
one_most false = omega arith

pub own_count : (k : ℕ) → one (k == k) ≡ 1
own_count k = elim (eqb_tells k k) [ inl e ↦ ap one e.0 | inr e ↦ absurd (e.1 refl) ]

pub size_counted : (n : ℕ) (F : Forest) → ((m : ℕ) → count m F ≤ one (nat_lt m n)) → size F ≡ counted n F
size_counted n Nil h = sym (counted_nil n)
size_counted n (Bin k c x l r) h =
    omega (arith, counted_bin n k c x l r, h k, own_count k, one_most (nat_lt k n), size_counted n l (λ m. omega (arith, h m)), size_counted n r (λ m. omega (arith, h m)))

counted_few : (n : ℕ) (F : Forest) → ((m : ℕ) → count m F ≤ 1) → counted n F ≤ n
counted_few zero F h = omega arith
counted_few (suc n) F h = omega (arith, counted_few n F h, h n)

pub size_few : (n : ℕ) (F : Forest) → ((m : ℕ) → count m F ≤ one (nat_lt m n)) → size F ≤ n
size_few n F h = omega (arith, size_counted n F h, counted_few n F (λ m. omega (arith, h m, one_most (nat_lt m n))))

pub height_size : (F : Forest) → height F ≤ size F
height_size Nil = omega arith
height_size (Bin k c x l r) = omega (arith, height_size l, height_size r)

-- so it is what the vector's walk is computed to be
pub forest_is : (names : Bytes) (ns : List Node) (i : Option ℕ) (F : Forest) → Reads names ns i F → ((m : ℕ) → count m F ≤ one (nat_lt m (length ns))) → forest names ns i ≡ F
forest_is names ns i F h g = forest_read names ns F i h (omega (arith, height_size F, size_few (length ns) F g))

pub walk_is : (names : Bytes) (ns : List Node) (i : Option ℕ) (F : Forest) → Reads names ns i F → ((m : ℕ) → count m F ≤ one (nat_lt m (length ns))) → IsWalk names ns i
walk_is names ns i F h g = subst (λ (G : Forest). Reads names ns i G) (sym (forest_is names ns i F h g)) h

-- ---- one node taken

pub free_inside : (s : Nodes) (F : Forest) → Reads s.names.items s.cells.items s.free F → Rattle.std.specs.Option.IfSome s.free (λ k. k < length s.cells.items)
free_inside s F h = by s.free F h
  where
    by : (o : Option ℕ) (F : Forest) → Reads s.names.items s.cells.items o F → Rattle.std.specs.Option.IfSome o (λ k. k < length s.cells.items)
    by None F h = tt
    by (Some k) Nil h = absurd cc
    by (Some k) (Bin j c x l r) h = let same : k ≡ j = cc in omega (arith, slice_get_within s.cells.items j h.node h.there)

-- the walk is what is read, where the numbers are apart
module _ (s : Nodes) (F : Forest) (reads : Reads s.names.items s.cells.items s.free F) (chain : IsChain F) (apart : (m : ℕ) → count m F ≤ inside s m) where
  pub spare_is : spare s ≡ F
  spare_is = forest_is s.names.items s.cells.items s.free F reads apart

  pub pool_is : IsPool s
  pool_is = record {
    walk = walk_is s.names.items s.cells.items s.free F reads apart;
    chain = subst IsChain (sym spare_is) chain;
    apart = λ m. omega (arith, apart m, ap (count m) spare_is);
  }

module _ (s s' : Nodes) (c : Bytes) (x : Content) (j : Option ℕ) (node : Node) (pool : IsPool s) (kept : IsKept s.names.items s'.names.items) (cell : IsCell s'.names.items node c x) (first : node.first ≡ j) (next : node.next ≡ None) (cells : s'.cells.items ≡ placed s.cells.items s.free node) (free : s'.free ≡ free_after s.cells.items s.free) where
  -- none was free
  added_new : s.free ≡ None → IsAdded s s' c x j (length s.cells.items)
  added_new e =
      let here : s'.cells.items ≡ s.cells.items ++ node ∷ [] = cells ∙ ap (λ o. placed s.cells.items o node) e in
      let none : s'.free ≡ None = free ∙ ap (free_after s.cells.items) e in
      let old : spare s ≡ Nil = ap (Rattle.stage_nodes.specs.Forests.forest s.names.items s.cells.items) e ∙ forest_is s.names.items s.cells.items None Nil refl (λ m. omega arith) in
      let new : spare s' ≡ Nil = spare_is s' Nil none tt (λ m. omega arith) in
      let long : length s'.cells.items ≡ length s.cells.items + 1 = ap length here ∙ length-append s.cells.items (node ∷ []) in
      record {
        pool = pool_is s' Nil none tt (λ m. omega arith);
        counts = λ m. omega (arith, ap (count m) old, ap (count m) new, one_more (length s.cells.items) (length s'.cells.items) m long, same_test m (length s.cells.items));
        names = kept;
        stay = λ m n z g. ap (λ (ns : List Node). slice_get ns m) here ∙ got_front s.cells.items (node ∷ []) m n g;
        node = node;
        there = ap (λ (ns : List Node). slice_get ns (length s.cells.items)) here ∙ got_pushed s.cells.items node;
        cell = cell;
        first = first;
        next = next;
      }
    where
      same_test : (m n : ℕ) → one (m == n) ≡ one (n == m)
      same_test m n = grind (arith, nat_tests)

  -- the first free one
  added_free : (k : ℕ) (F : Forest) → s.free ≡ Some k → F ≡ spare s → Reads s.names.items s.cells.items s.free F → IsChain F → ((m : ℕ) → count m F ≤ inside s m) → IsAdded s s' c x j k
  added_free k Nil e same h ch ap' = absurd cc
  added_free k (Bin i d y l r) e same h ch few =
      let at_i : k ≡ i = cc in
      let here : s'.cells.items ≡ slice_set s.cells.items k node = cells ∙ ap (λ o. placed s.cells.items o node) e in
      let there : slice_get s.cells.items k ≡ Some h.node = ap (slice_get s.cells.items) at_i ∙ h.there in
      let next_free : s'.free ≡ h.node.next = free ∙ ap (free_after s.cells.items) e ∙ ap (option_and_then (λ (n : Node). n.next)) there in
      let long : length s'.cells.items ≡ length s.cells.items = ap length here ∙ Rattle.std.proofs.Common.length-set s.cells.items k node in
      let alone : count k r ≡ 0 = omega (arith, few k, own_count k, ap (λ (n : ℕ). one (k == n)) at_i, one_most (nat_lt k (length s.cells.items))) in
      let rest : Reads s'.names.items s'.cells.items s'.free r =
      subst (λ (o : Option ℕ). Reads s'.names.items s'.cells.items o r) (sym next_free)
      (reads_kept s.names.items s'.names.items kept s.cells.items s'.cells.items r h.node.next
      (λ m n g u. ap (λ (ns : List Node). slice_get ns m) here ∙ got_other s.cells.items k m node (λ q. absurd (omega (arith, ap (λ (v : ℕ). count v r) q))) ∙ u) h.siblings) in
      let few' : (m : ℕ) → count m r ≤ inside s' m = λ m. omega (arith, few m, ap (λ (n : ℕ). one (nat_lt m n)) long) in
      let new : spare s' ≡ r = spare_is s' r rest ch.1 few' in
      let none : l ≡ Nil = ch.0 in
      record {
        pool = pool_is s' r rest ch.1 few';
        counts = λ m. omega (arith, ap (count m) (sym same), ap (count m) new, ap (count m) none, ap (λ (n : ℕ). one (nat_lt m n)) long, ap (λ (n : ℕ). one (m == n)) at_i);
        names = kept;
        stay = λ m n z u. ap (λ (ns : List Node). slice_get ns m) here ∙ got_other s.cells.items k m node (λ q. absurd (omega (arith, z, ap (count m) (sym same), own_count m, ap (λ (v : ℕ). one (m == v)) (q ∙ at_i)))) ∙ u;
        node = node;
        there = ap (λ (ns : List Node). slice_get ns k) here ∙ got_set s.cells.items k h.node node there;
        cell = cell;
        first = first;
        next = next;
      }

  pub added : (k : ℕ) → k ≡ place_number s.cells.items s.free → IsAdded s s' c x j k
  added k e = elim s.free as (λ o. s.free ≡ o → k ≡ place_number s.cells.items o → IsAdded s s' c x j k) [
    | None ↦ λ f g. subst (IsAdded s s' c x j) (sym g) (added_new f)
    | Some i ↦ λ f g. subst (IsAdded s s' c x j) (sym g) (added_free i (spare s) f refl pool.walk pool.chain pool.apart)
  ] refl e

-- ---- a component as a part of the bytes

pub range_pushed : (xs ys : Bytes) (i n : ℕ) → i ≡ length xs → n ≡ length ys → Rattle.std.specs.Prelude.slice_range (xs ++ ys) i (i + n) ≡ ys
range_pushed xs ys i n e f =
    (λ j. Rattle.std.proofs.Common.take (count_back i n j) (Rattle.std.proofs.Common.drop (e j) (xs ++ ys)))
    ∙ ap (Rattle.std.proofs.Common.take n) (Rattle.std.proofs.Math.Seq.drop-append_seam xs ys)
    ∙ Rattle.std.proofs.Common.take_all n ys (omega arith)
  where
    count_back : (i n : ℕ) → Rattle.std.proofs.Common.◌-◌ (i + n) i ≡ n
    count_back i n = omega arith

pub part_result : {E : Type 0} (s s' : Nodes) (x : Content) (j : Option ℕ) (at_ len_ : ℕ) (r : Rattle.std.proofs.Common.Result ℕ E) → IsPool s → at_ + len_ ≤ length s.names.items → s'.names.items ≡ s.names.items →
    Rattle.std.proofs.Common.IfOk r (λ k. k ≡ place_number s.cells.items s.free) →
    Rattle.std.proofs.Common.OnOk r (s'.cells.items ≡ placed s.cells.items s.free (record { at = at_; len = len_; content = x; first = j; next = None })) →
    Rattle.std.proofs.Common.OnOk r (s'.free ≡ free_after s.cells.items s.free) → Rattle.std.proofs.Common.IfOk r (IsAdded s s' (Rattle.std.specs.Prelude.slice_range s.names.items at_ (at_ + len_)) x j)
part_result s s' x j at_ len_ (Rattle.std.proofs.Common.Ok k) pool w f number cells free =
    let node : Node = record { at = at_; len = len_; content = x; first = j; next = None } in
    added s s' (Rattle.std.specs.Prelude.slice_range s.names.items at_ (at_ + len_)) x j node pool
    (record { more = []; front = Rattle.std.proofs.Common.append-nil s.names.items ∙ sym f })
    (record { within = omega (arith, w, ap length f); component = ap (λ (b : Bytes). Rattle.std.specs.Prelude.slice_range b at_ (at_ + len_)) f; content = refl })
    refl refl cells free k number
part_result s s' x j at_ len_ (Rattle.std.proofs.Common.Err e) pool w f number cells free = tt
