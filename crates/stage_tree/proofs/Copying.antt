-- Nodes copied one by one.
use Rattle.std.proofs.Common.{◌≡◌, ℕ, ◌+◌, ◌≤◌, ◌==◌, true, length, Option, Some, None, refl, sym, ap, subst, ◌∙◌, arith}
use Rattle.std.specs.Prelude.{slice_get, nat_lt}
use Rattle.std.proofs.lemmas.Option.{slice_get_within}
use Rattle.git_objects.specs.Paths.{Bytes}
use Rattle.stage_nodes.specs.declared.nodes.Node.{Node}
use Rattle.stage_nodes.specs.declared.nodes.Nodes.{Nodes}
use Rattle.stage_nodes.specs.declared.nodes.Link.TheVariants.{Next}
use Rattle.stage_nodes.specs.Forests.{Forest, IsCell, one, count, is_link, Reads}
use Rattle.stage_nodes.specs.Frames.{pointed}
use Rattle.stage_nodes.specs.Pools.{IsAdded, IsKept, StayBut, free_after, inside, place_number, placed, spare}
use Rattle.stage_tree.specs.Copies.{CanCopyOne, IsOneCopied}
use Rattle.stage_nodes.proofs.Seeking.{inside_link}
use Rattle.stage_nodes.proofs.Framing.{reads_kept, same_names}
use Rattle.stage_nodes.proofs.Pointing.{IsBeside, next_before, next_beside, next_stay}
use Rattle.stage_nodes.proofs.Pools.{added, inside_one, one_most, own_count}

-- ---- one node

module _ (s t u : Nodes) (n k : ℕ) (i j : Option ℕ) (h : CanCopyOne s n) (x : Node) (is : x ≡ h.node) (number : k ≡ place_number s.cells.items s.free) (cells : t.cells.items ≡ placed s.cells.items s.free (record x { first = i; next = None })) (free : t.free ≡ free_after s.cells.items s.free) (names : t.names.items ≡ s.names.items) where
  names_kept : IsKept s.names.items t.names.items
  names_kept = subst (IsKept s.names.items) (sym names) (same_names s.names.items)

  abbrev copy : Node
  copy = record h.node { first = i; next = None }

  one_added : IsAdded s t h.component h.content i k
  one_added =
      added s t h.component h.content i copy h.pool names_kept
      (subst (λ (b : Bytes). IsCell b copy h.component h.content) (sym names) (record { within = h.cell.within; component = h.cell.component; content = h.cell.content }))
      refl refl (cells ∙ ap (λ (v : Node). placed s.cells.items s.free (record v { first = i; next = None })) is) free k number

  pub copy_link : is_link t.cells.items (Next k) ≡ true
  copy_link = inside_link t.names.items t.cells.items k (slice_get_within t.cells.items k one_added.node one_added.there)

  module _ (cells_u : u.cells.items ≡ pointed t.cells.items (Next k) j) (names_u : u.names.items ≡ t.names.items) (free_u : u.free ≡ t.free) where
    out : count k (spare t) ≡ 0
    out = omega (arith, one_added.counts k, h.pool.apart k, own_count k, one_most (nat_lt k (length t.cells.items)))

    side : IsBeside t u
    side = next_beside t u k j one_added.node one_added.there one_added.pool out cells_u names_u free_u

    not_new : (m : ℕ) (v : Node) → count m (spare s) ≡ 0 → slice_get s.cells.items m ≡ Some v → one (m == k) ≡ 0
    not_new m v z e = omega (arith, one_added.counts m, z, inside_one m (length s.cells.items) (slice_get_within s.cells.items m v e), one_most (nat_lt m (length t.cells.items)))

    stay_u : StayBut s u (λ m. count m (spare s))
    stay_u m v z e = next_stay t u k j one_added.node one_added.there one_added.pool out cells_u names_u free_u m v (λ w. absurd (omega (arith, not_new m v z e, own_count m, ap (λ (q : ℕ). one (m == q)) w))) (one_added.stay m v z e)

    kept_u : IsKept s.names.items u.names.items
    kept_u = subst (IsKept s.names.items) (sym names_u) names_kept

    pub one_copied : IsOneCopied s u i j k h.component h.content
    one_copied = record {
      growing = record { pool = side.pool; old_pool = h.pool; names = kept_u; counts = λ m. omega (arith, one_added.counts m, ap (count m) side.spare, side.inside m); stay = stay_u };
      reads = λ l r rl rr few.
          next_before t u k j one_added.node one_added.there one_added.pool out cells_u names_u free_u h.component h.content l r one_added.cell
          (subst (λ (o : Option ℕ). Reads t.names.items t.cells.items o l) (sym one_added.first) (kept l i rl (λ m. omega (arith, few m))))
          (kept r j rr (λ m. omega (arith, few m)))
          (omega (arith, few k, one_added.counts k, own_count k, h.pool.apart k, one_most (nat_lt k (length s.cells.items)), one_most (nat_lt k (length t.cells.items))));
    }
      where
        kept : (F : Forest) (o : Option ℕ) → Reads s.names.items s.cells.items o F → ((m : ℕ) → count m F + count m (spare s) ≤ inside s m) → Reads t.names.items t.cells.items o F
        kept F o r few = reads_kept s.names.items t.names.items names_kept s.cells.items t.cells.items F o (λ m v g e. one_added.stay m v (omega (arith, g, few m, one_most (nat_lt m (length s.cells.items)))) e) r
