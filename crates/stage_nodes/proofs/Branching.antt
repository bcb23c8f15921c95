-- A branch made from its end.
use Rattle.std.proofs.Common.{◌≡◌, ℕ, ◌+◌, ◌<◌, ◌≤◌, List, [], ◌∷◌, ◌++◌, length, drop, get_or, Option, Some, None, refl, sym, ap, subst, ◌∙◌, arith, append_assoc}
use Rattle.std.specs.Prelude.{slice_get, nat_lt}
use Rattle.std.proofs.lemmas.Option.{slice_get_within}
use Rattle.git_objects.specs.Paths.{Bytes, Path}
use Rattle.path_trees.specs.declared.found.Found.{Found}
use Rattle.stage_nodes.specs.declared.nodes.Node.{Node}
use Rattle.stage_nodes.specs.declared.nodes.Nodes.{Nodes}
use Rattle.stage_nodes.specs.declared.nodes.Content.TheVariants.{Held, Open}
use Rattle.stage_nodes.specs.Forests.{one, count, Reads, forest}
use Rattle.stage_nodes.specs.Pools.{IsKept, IsPool, IsSame, IsAdded, CanFree, IsFreed, inside, spare}
use Rattle.stage_nodes.specs.Expanding.{IsWaste}
use Rattle.stage_nodes.specs.Branches.{stem, IsBranch}
use Rattle.stage_nodes.proofs.Framing.{reads_kept}
use Rattle.stage_nodes.proofs.Pools.{one_most, inside_one, forest_is, walk_is}
use Rattle.stage_nodes.proofs.Expanding.{same_reads, same_inside, same_spare, same_pool}

pub kept_on : (a b c : Bytes) → IsKept a b → IsKept b c → IsKept a c
kept_on a b c h g = record { more = h.more ++ g.more; front = sym (append_assoc a h.more g.more) ∙ ap (λ (x : Bytes). x ++ g.more) h.front ∙ g.front }

pub waste_on : (s t u : Nodes) → IsPool s → IsWaste s t → IsWaste t u → IsWaste s u
waste_on s t u pool h g = record {
  pool = g.pool;
  names = kept_on s.names.items t.names.items u.names.items h.names g.names;
  counts = λ m. omega (arith, h.counts m, g.counts m);
  stay = λ m n z e. g.stay m n (omega (arith, z, h.counts m, inside_one m (length s.cells.items) (slice_get_within s.cells.items m n e), one_most (nat_lt m (length t.cells.items)))) (h.stay m n z e);
}

pub same_waste : (s t : Nodes) → IsPool s → IsSame s t → IsWaste s t
same_waste s t pool h = record {
  pool = same_pool s t h pool;
  names = h.names;
  counts = λ m. omega (arith, ap (count m) (same_spare s t h pool), same_inside s t h m);
  stay = λ m n z e. ap (λ (v : List Node). slice_get v m) h.cells ∙ e;
}

-- ---- the end

pub end_branch : (s t : Nodes) (c : Bytes) (f : Found) (k : ℕ) → IsPool s → IsAdded s t c (Held f) None k → IsBranch s t (c ∷ []) f k
end_branch s t c f k pool a = record {
  below = [];
  long = refl;
  reads = record { number = refl; node = a.node; there = a.there; cell = a.cell; children = a.first; siblings = a.next };
  pool = a.pool;
  old_pool = pool;
  names = a.names;
  counts = λ m. omega (arith, a.counts m);
  stay = a.stay;
}

-- ---- one directory more

branch_few : (s t : Nodes) (p : Path) (f : Found) (k : ℕ) (h : IsBranch s t p f k) (m : ℕ) → count m (stem (k ∷ h.below) p f) + count m (spare t) ≤ inside t m
branch_few s t p f k h m = omega (arith, h.counts m, h.old_pool.apart m)

pub more_branch : (s t u : Nodes) (c d : Bytes) (p : Path) (f : Found) (k j : ℕ) → IsBranch s t (d ∷ p) f k → IsAdded t u c Open (Some k) j → IsBranch s u (c ∷ d ∷ p) f j
more_branch s t u c d p f k j h a = record {
  below = k ∷ h.below;
  long = omega (arith, h.long);
  reads = record {
    number = refl;
    node = a.node;
    there = a.there;
    cell = a.cell;
    children = subst (λ (o : Option ℕ). Reads u.names.items u.cells.items o (stem (k ∷ h.below) (d ∷ p) f)) (sym a.first)
        (reads_kept t.names.items u.names.items a.names t.cells.items u.cells.items (stem (k ∷ h.below) (d ∷ p) f) (Some k) (λ m n g e. a.stay m n (omega (arith, g, branch_few s t (d ∷ p) f k h m, one_most (nat_lt m (length t.cells.items)))) e) h.reads);
    siblings = a.next;
  };
  pool = a.pool;
  old_pool = h.old_pool;
  names = kept_on s.names.items t.names.items u.names.items h.names a.names;
  counts = λ m. omega (arith, h.counts m, a.counts m);
  stay = λ m n z e. a.stay m n (omega (arith, z, h.counts m, inside_one m (length s.cells.items) (slice_get_within s.cells.items m n e), one_most (nat_lt m (length t.cells.items)))) (h.stay m n z e);
}

-- the branch of what is left of a path
pub longer_branch : (s t u : Nodes) (p : Path) (i e : ℕ) (c : Bytes) (f : Found) (k j : ℕ) → e ≡ i + 1 → e < length p → c ≡ get_or p i c → IsBranch s t (drop e p) f k → IsAdded t u c Open (Some k) j → IsBranch s u (drop i p) f j
longer_branch s t u p i e c f k j same within own h a =
    subst (λ (q : Path). IsBranch s u q f j) (sym at_i)
    (more_branch s t u c (get_or p e c) (drop (e + 1) p) f k j (subst (λ (q : Path). IsBranch s t q f k) at_e h) a)
  where
    at_e : drop e p ≡ get_or p e c ∷ drop (e + 1) p
    at_e = Rattle.std.proofs.lemmas.List.drop_more p e c within

    at_i : drop i p ≡ c ∷ get_or p e c ∷ drop (e + 1) p
    at_i = Rattle.std.proofs.lemmas.List.drop_more p i c (omega arith) ∙ (λ v. sym own v ∷ drop (sym same v) p) ∙ ap (λ (q : Path). c ∷ q) at_e

pub last_branch : (s t : Nodes) (p : Path) (e : ℕ) (c : Bytes) (f : Found) (k : ℕ) → e + 1 ≡ length p → c ≡ get_or p e c → IsPool s → IsAdded s t c (Held f) None k → IsBranch s t (drop e p) f k
last_branch s t p e c f k long own pool a =
    subst (λ (q : Path). IsBranch s t q f k) (sym (Rattle.std.proofs.lemmas.List.drop_more p e c (omega arith) ∙ (λ v. sym own v ∷ Rattle.std.proofs.lemmas.List.drop_all (e + 1) p (omega arith) v))) (end_branch s t c f k pool a)

-- ---- given back

module _ (s t u v : Nodes) (p : Path) (f : Found) (k : ℕ) (h : IsBranch s t p f k) (same : IsSame t u) where
  kept_reads : Reads u.names.items u.cells.items (Some k) (stem (k ∷ h.below) p f)
  kept_reads = same_reads t u same (stem (k ∷ h.below) p f) (Some k) h.reads

  kept_few : (m : ℕ) → count m (stem (k ∷ h.below) p f) + count m (spare u) ≤ inside u m
  kept_few m = omega (arith, branch_few s t p f k h m, ap (count m) (same_spare t u same h.pool), same_inside t u same m)

  kept_is : forest u.names.items u.cells.items (Some k) ≡ stem (k ∷ h.below) p f
  kept_is = forest_is u.names.items u.cells.items (Some k) (stem (k ∷ h.below) p f) kept_reads (λ m. omega (arith, kept_few m))

  pub can_free_branch : CanFree u (Some k)
  can_free_branch = record {
    pool = same_pool t u same h.pool;
    walk = walk_is u.names.items u.cells.items (Some k) (stem (k ∷ h.below) p f) kept_reads (λ m. omega (arith, kept_few m));
    apart = λ m. omega (arith, kept_few m, ap (count m) kept_is);
  }

  pub branch_wasted : IsFreed u v (Some k) → IsWaste s v
  branch_wasted g = record {
    pool = g.pool;
    names = kept_on s.names.items t.names.items v.names.items h.names (record { more = same.names.more; front = same.names.front ∙ sym g.names });
    counts = λ m. omega (arith, h.counts m, g.counts m, ap (count m) kept_is, ap (count m) (same_spare t u same h.pool), same_inside t u same m, ap (λ (x : ℕ). one (nat_lt m x)) g.long);
    stay = λ m n z e. g.stay m n (omega (arith, z, h.counts m, ap (count m) kept_is, ap (count m) (same_spare t u same h.pool), inside_one m (length s.cells.items) (slice_get_within s.cells.items m n e), one_most (nat_lt m (length t.cells.items))))
        (ap (λ (w : List Node). slice_get w m) same.cells ∙ h.stay m n z e);
  }
