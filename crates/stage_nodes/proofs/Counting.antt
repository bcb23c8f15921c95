-- How many nodes there are, and how few are left.
use Rattle.std.proofs.Common.{◌≡◌, ℕ, zero, suc, ◌+◌, ◌<◌, ◌≤◌, [], length, Option, Some, None, refl, sym, ap, subst, ◌∙◌, arith}
use Rattle.std.specs.Prelude.{slice_get, slice_set, nat_lt}
use Rattle.stage_nodes.specs.declared.nodes.Node.{Node}
use Rattle.stage_nodes.specs.declared.nodes.Nodes.{Nodes}
use Rattle.stage_nodes.specs.declared.nodes.Content.{Content}
use Rattle.stage_nodes.specs.declared.nodes.Content.TheVariants.{Open}
use Rattle.stage_nodes.specs.declared.nodes.Link.TheVariants.{Next}
use Rattle.stage_nodes.specs.Forests.{Forest, Nil, Bin, one, size, count, Reads, forest, target, Sound}
use Rattle.stage_nodes.specs.Pools.{IsChain, CanFree, IsFreed, Walks, inside, spare}
use Rattle.stage_nodes.specs.Directories.{any}
use Rattle.stage_nodes.specs.Ways.{kids_of}
use Rattle.stage_nodes.specs.Items.{items, items_at}
use Rattle.stage_nodes.specs.Roots.{IsStage, IsRootOf, items_of, root_items}
use Rattle.stage_nodes.proofs.Reading.{IsStep, step}
use Rattle.stage_nodes.proofs.Pools.{counted, size_counted, own_count, one_most, inside_one, forest_is, walk_is}
use Rattle.stage_nodes.proofs.Freeing.{first_of, next_of}
use Rattle.stage_nodes.proofs.Pointing.{IsBeside, set_there, set_beside, set_reads}

counted_full : (n : ℕ) (F : Forest) → ((m : ℕ) → m < n → count m F ≡ 1) → counted n F ≡ n
counted_full zero F h = refl
counted_full (suc n) F h = omega (arith, h n (omega arith), counted_full n F (λ m g. h m (omega arith)))

-- all nodes are reached, from the root or from the first free one
pub all_counted : (s : Nodes) (st : IsStage s) → size (kids_of s) + size (spare s) + 1 ≡ length s.cells.items
all_counted s st =
    let n = length s.cells.items in
    let F : Forest = Bin 0 [] Open (kids_of s) (spare s) in
    omega (arith, size_counted n F (λ m. omega (arith, st.covers m)), counted_full n F (λ m g. omega (arith, st.covers m, inside_one m n g)))

-- one free node passed
pub record IsPassedFree (s : Nodes) (k : ℕ) : Type 0 where
  pub walk : Walks s (target s.cells.items (Next k))
  pub chain : IsChain (forest s.names.items s.cells.items (target s.cells.items (Next k)))
  pub less : size (forest s.names.items s.cells.items (Some k)) ≡ size (forest s.names.items s.cells.items (target s.cells.items (Next k))) + 1

pub passed_free : (s : Nodes) (k : ℕ) → Walks s (Some k) → IsChain (forest s.names.items s.cells.items (Some k)) → IsPassedFree s k
passed_free s k w c =
    let sk : IsStep s.names.items s.cells.items k = step s.names.items s.cells.items k w in
    let at_next : target s.cells.items (Next k) ≡ sk.node.next = next_of s.cells.items k sk.node sk.there in
    let ch = subst IsChain sk.opened c in
    record {
      walk = subst (λ (o : Option ℕ). Walks s o) (sym at_next) sk.siblings;
      chain = subst (λ (o : Option ℕ). IsChain (forest s.names.items s.cells.items o)) (sym at_next) ch.1;
      less = ap size sk.opened ∙ omega (arith, ap size ch.0, ap (λ (o : Option ℕ). size (forest s.names.items s.cells.items o)) at_next);
    }

pub none_left : (s : Nodes) → size (forest s.names.items s.cells.items None) ≡ 0
none_left s = ap size (Rattle.stage_nodes.proofs.Reading.forest_none s.names.items s.cells.items)

pub spare_few : (s : Nodes) (st : IsStage s) → size (spare s) < length s.cells.items
spare_few s st = omega (arith, all_counted s st)

-- ---- cleared

module _ (s t u : Nodes) (st : IsStage s) (new : Node) (open_ : new.content ≡ Open) (first : new.first ≡ None) (last : new.next ≡ None) (cells : t.cells.items ≡ slice_set s.cells.items 0 new) (names : t.names.items ≡ s.names.items) (free : t.free ≡ s.free) where
  alone : count 0 (kids_of s) + count 0 (spare s) ≡ 0
  alone = omega (arith, st.covers 0, own_count 0, one_most (nat_lt 0 (length s.cells.items)))

  side : IsBeside s t
  side = set_beside s t 0 st.root new st.there st.pool (omega (arith, alone)) cells names free

  there_t : slice_get t.cells.items 0 ≡ Some new
  there_t = set_there s t 0 st.root new st.there st.pool (omega (arith, alone)) cells names free

  kids_t : Reads t.names.items t.cells.items st.root.first (kids_of s)
  kids_t = set_reads s t 0 st.root new st.there st.pool (omega (arith, alone)) cells names free (kids_of s) st.root.first (omega (arith, alone)) st.children

  few : (m : ℕ) → count m (kids_of s) + count m (spare t) ≤ inside t m
  few m = omega (arith, st.covers m, ap (count m) side.spare, side.inside m)

  are : forest t.names.items t.cells.items st.root.first ≡ kids_of s
  are = forest_is t.names.items t.cells.items st.root.first (kids_of s) kids_t (λ m. omega (arith, few m))

  pub can_clear : CanFree t st.root.first
  can_clear = record { pool = side.pool; walk = walk_is t.names.items t.cells.items st.root.first (kids_of s) kids_t (λ m. omega (arith, few m)); apart = λ m. omega (arith, few m, ap (count m) are) }

  module _ (f : IsFreed t u st.root.first) where
    there_u : slice_get u.cells.items 0 ≡ Some new
    there_u = f.stay 0 new (omega (arith, alone, ap (count 0) are, ap (count 0) side.spare)) there_t

    none_u : kids_of u ≡ Nil
    none_u = ap (forest u.names.items u.cells.items) (first_of u.cells.items 0 new there_u) ∙ forest_is u.names.items u.cells.items new.first Nil first (λ m. omega arith)

    pub cleared : IsStage u
    cleared = record {
      alone = λ m g. ap (λ (v : Node). v.next) (Rattle.stage_nodes.proofs.Opening.same_node g there_u) ∙ last;
      root = new;
      there = there_u;
      children = subst (Reads u.names.items u.cells.items new.first) (sym none_u) first;
      pool = f.pool;
      sound = subst (Sound any) (sym none_u) tt;
      leafless = subst (λ (x : Content). IsRootOf x (kids_of u)) (sym open_) tt;
      covers = λ m. omega (arith, st.covers m, f.counts m, ap (count m) are, ap (count m) none_u, ap (count m) side.spare, side.inside m, ap (λ (x : ℕ). one (nat_lt m x)) f.long);
    }

    pub cleared_items : items_of u ≡ []
    cleared_items = ap (root_items u) there_u ∙ ap (λ (x : Content). items_at x (items (kids_of u))) open_ ∙ ap items none_u
