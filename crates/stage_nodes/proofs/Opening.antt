-- A directory opened, and closed again where there is no memory.
use Rattle.std.proofs.Common.{◌≡◌, ℕ, ◌+◌, ◌≤◌, ◌≢◌, ◌⊎◌, inl, inr, true, false, ◌==◌, List, [], ◌∷◌, ◌++◌, length, Option, Some, None, refl, sym, ap, subst, ◌∙◌, arith}
use Rattle.std.specs.Prelude.{slice_get, slice_set, nat_lt}
use Rattle.std.proofs.lemmas.Option.{slice_get_within}
use Rattle.std.proofs.lemmas.Bool.Decides.{eqb_tells}
use Rattle.git_objects.specs.Paths.{Bytes, Path}
use Rattle.git_objects.specs.Trees.{at}
use Rattle.git_objects.specs.declared.entry.Entry.{Entry}
use Rattle.git_objects.specs.declared.name.Name.{Name}
use Rattle.git_objects.proofs.Basics.{and_both}
use Rattle.object_store.specs.Objects.{Object}
use Rattle.object_store.specs.Unfolding.{flat}
use Rattle.object_store.proofs.Unfolding.{AreHeld}
use Rattle.path_trees.proofs.Grown.{joined_in}
use Rattle.path_trees.proofs.Levels.{at-joined_nil}
use Rattle.path_trees.proofs.Trees.{AreGood}
use Rattle.stage_nodes.specs.declared.nodes.Node.{Node}
use Rattle.stage_nodes.specs.declared.nodes.Nodes.{Nodes}
use Rattle.stage_nodes.specs.declared.nodes.Content.TheVariants.{Open}
use Rattle.stage_nodes.specs.declared.nodes.Link.TheVariants.{First}
use Rattle.stage_nodes.specs.Forests.{Forest, Nil, Bin, one, count, Reads, forest, target}
use Rattle.stage_nodes.specs.Pools.{IsKept, StayBut, inside, spare, CanFree, IsFreed}
use Rattle.stage_nodes.specs.Directories.{IsDirectory}
use Rattle.stage_nodes.specs.Leaves.{leaf_in, is_held}
use Rattle.stage_nodes.specs.Expanding.{AllPass, IsFilling, IsPartly, IsClosed, IsExpanded, IsWaste}
use Rattle.stage_nodes.proofs.Pools.{own_count, one_most, inside_one, forest_is, walk_is}
use Rattle.stage_nodes.proofs.Freeing.{first_of}
use Rattle.stage_nodes.proofs.Pointing.{IsBeside, set_stay, set_there, set_beside, set_reads}

pub same_node : {o : Option Node} {a d : Node} → o ≡ Some a → o ≡ Some d → a ≡ d
same_node h g = cc

-- ---- what a tree lists

all_held : (S : List Object) (es : List Entry) → AreHeld S es → AllPass (is_held S) es
all_held S [] h = tt
all_held S (e ∷ es) h = (and_both h.0.child h.0.name, all_held S es h.1)

-- ---- opened

module _ (s t : Nodes) (k : ℕ) (n : Name) (closed : IsClosed s k n) (cells : t.cells.items ≡ slice_set s.cells.items k (record closed.node { content = Open })) (names : t.names.items ≡ s.names.items) (free : t.free ≡ s.free) where
  abbrev opened : Node
  opened = record closed.node { content = Open }

  side : IsBeside s t
  side = set_beside s t k closed.node opened closed.there closed.pool closed.apart cells names free

  only : (m : ℕ) → one (m == k) + count m (spare s) ≤ inside s m
  only m = elim (eqb_tells m k) [
    | inl e ↦ omega (arith, ap one e.0, ap (λ (v : ℕ). count v (spare s)) e.1, closed.apart, ap (λ (v : ℕ). inside s v) e.1, inside_one k (length s.cells.items) (slice_get_within s.cells.items k closed.node closed.there))
    | inr e ↦ omega (arith, ap one e.0, closed.pool.apart m)
  ]

  pub open_directory : IsDirectory t k Nil
  open_directory = record {
    pool = side.pool;
    node = opened;
    there = set_there s t k closed.node opened closed.there closed.pool closed.apart cells names free;
    opened = refl;
    children = closed.first;
    sound = tt;
    apart = λ m. omega (arith, only m, ap (count m) side.spare, side.inside m);
  }

  kept_names : (u : Nodes) → IsKept t.names.items u.names.items → IsKept s.names.items u.names.items
  kept_names u h = record { more = h.more; front = ap (λ (b : Bytes). b ++ h.more) (sym names) ∙ h.front }

  -- all its entries are there
  pub expanded : (S : List Object) (u : Nodes) (es : List Entry) → AreGood S es → flat S n.0 ≡ joined_in S es → IsFilling t u k es → IsExpanded S s u k n
  expanded S u es good map_is f = record {
    kids = f.kids;
    directory = f.directory;
    leaves = leaves;
    sound = f.sound (is_held S) (all_held S es good.held);
    names = kept_names u f.names;
    node = λ m h. ap (λ (x : Node). record x { first = m.first; content = m.content }) (f.node opened (set_there s t k closed.node opened closed.there closed.pool closed.apart cells names free)) ∙ ap (λ (x : Node). record x { first = m.first; content = m.content }) (same_node closed.there h);
    counts = λ m. omega (arith, f.counts m, ap (count m) side.spare, side.inside m);
    stay = λ m x z h. f.stay m x (omega (arith, z, ap (count m) side.spare)) (set_stay s t k closed.node opened closed.there closed.pool closed.apart cells names free m x (λ e. absurd (omega (arith, z, ap (λ (v : ℕ). one (m == v)) e, own_count m))) h);
  }
    where
      none_at : (F : Forest) → leaf_in S F [] ≡ None
      none_at Nil = refl
      none_at (Bin i c x l r) = refl

      leaves : (p : Path) → leaf_in S f.kids p ≡ at (flat S n.0) p
      leaves [] = none_at f.kids ∙ sym (at-joined_nil S es) ∙ ap (λ t. at t []) (sym map_is)
      leaves (c ∷ p) = f.leaves S c p ∙ ap (λ t. at t (c ∷ p)) (sym map_is)

  -- ---- closed again

  module _ (u v w : Nodes) (part : IsPartly t u k) (back : v.cells.items ≡ slice_set u.cells.items k closed.node) (back_names : v.names.items ≡ u.names.items) (back_free : v.free ≡ u.free) (i : Option ℕ) (first : i ≡ target u.cells.items (First k)) where
    abbrev f : IsFilling t u k part.done
    f = part.filling

    abbrev d : IsDirectory u k f.kids
    d = f.directory

    lone : count k f.kids + count k (spare u) ≡ 0
    lone = omega (arith, d.apart k, own_count k, one_most (nat_lt k (length u.cells.items)))

    back_side : IsBeside u v
    back_side = set_beside u v k d.node closed.node d.there d.pool (omega (arith, lone)) back back_names back_free

    kids_now : Reads v.names.items v.cells.items i f.kids
    kids_now = subst (λ (o : Option ℕ). Reads v.names.items v.cells.items o f.kids) (sym (first ∙ first_of u.cells.items k d.node d.there))
        (set_reads u v k d.node closed.node d.there d.pool (omega (arith, lone)) back back_names back_free f.kids d.node.first (omega (arith, lone)) d.children)

    few : (m : ℕ) → one (m == k) + count m f.kids + count m (spare v) ≤ inside v m
    few m = omega (arith, d.apart m, ap (count m) back_side.spare, back_side.inside m)

    kids_few : (m : ℕ) → count m f.kids ≤ inside v m
    kids_few m = omega (arith, few m)

    kids_are : forest v.names.items v.cells.items i ≡ f.kids
    kids_are = forest_is v.names.items v.cells.items i f.kids kids_now kids_few

    pub can_free : CanFree v i
    can_free = record { pool = back_side.pool; walk = walk_is v.names.items v.cells.items i f.kids kids_now kids_few; apart = λ m. omega (arith, few m, ap (count m) kids_are) }

    pub wasted : IsFreed v w i → IsWaste s w
    wasted h = record {
      pool = h.pool;
      names = record { more = f.names.more; front = ap (λ (b : Bytes). b ++ f.names.more) (sym names) ∙ f.names.front ∙ sym (h.names ∙ back_names) };
      counts = λ m. omega (arith, h.counts m, ap (count m) kids_are, ap (count m) back_side.spare, f.counts m, ap (count m) side.spare, side.inside m, back_side.inside m, ap (λ (x : ℕ). one (nat_lt m x)) h.long);
      stay = stays;
    }
      where
        stays : StayBut s w (λ m. count m (spare s))
        stays m x z e = h.stay m x free_v (at_v (eqb_tells m k))
          where
            here : inside s m ≡ 1
            here = inside_one m (length s.cells.items) (slice_get_within s.cells.items m x e)

            free_v : count m (forest v.names.items v.cells.items i) + count m (spare v) ≡ 0
            free_v = omega (arith, z, ap (count m) kids_are, ap (count m) back_side.spare, f.counts m, ap (count m) side.spare, side.inside m, here, one_most (nat_lt m (length u.cells.items)))

            at_v : ((m == k ≡ true) × (m ≡ k)) ⊎ ((m == k ≡ false) × (m ≢ k)) → slice_get v.cells.items m ≡ Some x
            at_v (inl q) = ap (slice_get v.cells.items) q.1 ∙ set_there u v k d.node closed.node d.there d.pool (omega (arith, lone)) back back_names back_free ∙ ap Some (same_node closed.there (ap (slice_get s.cells.items) (sym q.1) ∙ e))
            at_v (inr q) = set_stay u v k d.node closed.node d.there d.pool (omega (arith, lone)) back back_names back_free m x q.1
                (f.stay m x (omega (arith, z, ap one q.0, ap (count m) side.spare)) (set_stay s t k closed.node opened closed.there closed.pool closed.apart cells names free m x q.1 e))

pub failed : {A E : Type 0} (r : Rattle.std.proofs.Common.Result A E) (P : Type 0) → Rattle.std.specs.Result.is_err r ≡ true → Rattle.std.proofs.Common.OnErr r P → P
failed (Rattle.std.proofs.Common.Ok x) P e h = absurd cc
failed (Rattle.std.proofs.Common.Err x) P e h = h

pub went : {A E : Type 0} (r : Rattle.std.proofs.Common.Result A E) (P : Type 0) → Rattle.std.specs.Result.is_err r ≡ false → Rattle.std.proofs.Common.OnOk r P → P
went (Rattle.std.proofs.Common.Ok x) P e h = h
went (Rattle.std.proofs.Common.Err x) P e h = absurd cc

pub read_node : (ns : List Node) (k : ℕ) (x n : Node) → x ≡ Rattle.std.proofs.Common.get_or ns k x → slice_get ns k ≡ Some n → x ≡ n
read_node ns k x n h g = h ∙ Rattle.std.proofs.lemmas.Option.get_or_from_slice_get ns k n x g
